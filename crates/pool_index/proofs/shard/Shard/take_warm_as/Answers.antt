use Rattle.std.proofs.Common.{◌∙◌, sym, ap, arith, subst, All, None, IsSome, slice_index_or}
use Rattle.pool_index.specs.Lists.{SlotLists, use_again}
use Rattle.std.proofs.lemmas.Grind.{common_steps}
use Rattle.pool_index.specs.Shard.{ShardState, NumbersFit, use_of, taken_slots}
use Rattle.pool_index.specs.ShardFields.{state_of}
use Rattle.pool_index.proofs.Shards.{warm_fit}
use Rattle.pool_index.proofs.ComingBack.{after_take_sound, take_keeps_used, taken_used}
use Rattle.pool_index.proofs.shard.Shard.take_warm_as.Goals as goal

pub take_all-requires-clause-fit : goal.take_all-requires-clause-fit
take_all-requires-clause-fit c = warm_fit (state_of c.self.inside) c.self.invariant c.args.first c.args.step (subst (λ (s : ShardState). NumbersFit c.args.first c.args.step s.capacity) (sym c.self.view_is) c.requires.fit)

pub invariant_of-self : goal.invariant_of-self
invariant_of-self c = after_take_sound (state_of c.self.inside) _ (grind (arith, common_steps)) c.self.invariant

pub returns-clause-stay : goal.returns-clause-stay
returns-clause-stay c k used =
    ap (λ (l : SlotLists). slice_index_or l.used k None) c.take_all.ensures.after
    ∙ take_keeps_used (state_of c.self.inside) c.self.invariant k (subst (λ (s : ShardState). IsSome (use_of s k)) (sym c.self.view_is) used)
    ∙ ap (λ (s : ShardState). use_of s k) c.self.view_is

pub returns-clause-sound : goal.returns-clause-sound
returns-clause-sound c = after_take_sound (state_of c.self.inside) _ (grind (arith, common_steps)) c.self.invariant

pub returns-clause-used : goal.returns-clause-used
returns-clause-used c =
    subst (λ (l : SlotLists). All (λ p. IsSome (slice_index_or l.used p.0.0 None)) (taken_slots c.args.self.now)) (sym c.take_all.ensures.after)
    (subst (λ (s : ShardState). All (λ p. IsSome (slice_index_or (use_again c.self.inside.lists.warm c.self.inside.lists.used) p.0.0 None)) (taken_slots s)) c.self.view_is (taken_used (state_of c.self.inside) c.self.invariant))
