use Rattle.std.proofs.Common.{rules, ◌≡◌, ◌+◌, List, [], ◌∷◌, ◌++◌, get_or, take, refl, sym, ap, ◌∙◌, subst}
use Rattle.std.proofs.lemmas.List.{take_more}
use Rattle.pool_run_shared.specs.Steps.{MakesOfAll}
use Rattle.pool_run_shared.specs.declared.input.SharedEvent.{SharedEvent}
use Rattle.pool_run_shared.specs.declared.reply.SharedReply.{SharedReply}
use Rattle.pool_run_shared.proofs.Counts.{none_made, one_more}
use Rattle.pool_run_shared.proofs.run.replies_of.Goals as goal

pub loop-at-init : goal.loop-at-init
loop-at-init g c =
    let P : List SharedReply → Type 0 = λ xs. MakesOfAll [] c.args.state.now c.args.state.now xs in
    record { makes = subst P (sym c.in_ok-replies.ensures.items) (none_made c.args.state.now c.requires); count = search rules; room = search rules; maker = refl; borrows = refl }

pub loop-at-preserved : goal.loop-at-preserved
loop-at-preserved g c =
    let event : SharedEvent = c.index-events-at.result in
    let there : get_or c.args.events.now c.loop-at.at event ≡ event = search rules in
    let more : take c.loop-at.at c.args.events.now ++ event ∷ [] ≡ take (c.loop-at.at + 1) c.args.events.now = sym (take_more c.args.events.now c.loop-at.at event c.loop-at-test.true ∙ ap (λ (e : SharedEvent). take c.loop-at.at c.args.events.now ++ e ∷ []) there) in
    let P : List SharedEvent → Type 0 = λ es. MakesOfAll es c.args.state.now c.happen.new.state c.push_reserved.new.self.items in
    let Q : List SharedReply → Type 0 = λ rs. MakesOfAll (take c.loop-at.at c.args.events.now ++ event ∷ []) c.args.state.now c.happen.new.state rs in
    record {
      makes = subst P more (subst Q (sym c.push_reserved.ensures.items) (one_more (take c.loop-at.at c.args.events.now) event c.loop-at.replies.items c.in_ok-reply.reply c.args.state.now c.loop-at.state c.happen.new.state c.loop-at.invariant.makes c.in_ok-reply.ensures.ok));
      count = search rules;
      room = search rules;
      maker = c.happen.ensures.maker ∙ c.loop-at.invariant.maker;
      borrows = c.happen.ensures.borrows ∙ c.loop-at.invariant.borrows;
    }
