use Rattle.std.proofs.Common.{rules, ◌≡◌, ℕ, ◌<◌, List, length, Some, sym, ap, ◌∙◌, subst, arith, slice_get, slice_index_or}
use Rattle.pool_run.proofs.Imports.{slice_get-get_or, ModuleAsked}
use Rattle.pool_run.specs.declared.slot_lists.SlotLists.{SlotLists}
use Rattle.pool_run.specs.Folds.{RunState, commands_of}
use Rattle.pool_run.specs.Progress.{IsRunOf}
use Rattle.pool_run.specs.Turns.{Turned, Turns}
use Rattle.pool_run.specs.Ties.{IsReserved}
use Rattle.pool_run.specs.Worlds.{AreFit, NameModules}
use Rattle.pool_run.specs.declared.command.Command.{Command}
use Rattle.pool_run.specs.declared.input.Party.{Party}
use Rattle.pool_run.specs.declared.running_party.RunningParty.{RunningParty}
use Rattle.pool_run.proofs.Following.{commands_read}
use Rattle.pool_run.proofs.Reserving.{turned_reserved}
use Rattle.pool_run.proofs.RunMade.{can_take, turn_after}
use Rattle.pool_run.proofs.run.Run.turn.Goals as goal

pub turn_of-requires : goal.turn_of-requires
turn_of-requires g c κs within =
    let P : Type 0 = g.row.P.Denot in
    let i : ℕ = c.args.party in
    let s : RunState P = record { core = c.self.inside.core; modules = c.self.inside.modules.items; parties = c.self.inside.parties.items; replies = g.before.told } in
    let given : List Party = c.args.input.now.parties in
    let run : IsRunOf g.before.of given s = rw (← c.self.view_is) at c.requires.1.0 in
    let below : i < length s.parties = omega (arith, run.parties, c.requires.1.1) in
    let p : RunningParty P = c.index_mut-running.result.now in
    let there : slice_get s.parties i ≡ Some p = slice_get-get_or s.parties i p below ∙ ap Some (sym c.index_mut-running.ensures.value) in
    let commands : List Command = c.as_slice-commands.result.now in
    let q : Party = c.index-parties-party.result in
    let same : commands ≡ commands_of g.before.of.inputs i = c.as_slice-commands.ensures ∙ commands_read g.before.of.inputs given c.as_slice-parties.result.now i q run.inputs c.as_slice-parties.ensures c.requires.1.1 in
    let take = can_take g.before.of given commands i p s run c.self.invariant.0 there same in
    let M : List ModuleAsked → Type 0 = λ modules. AreFit s.core.settings modules × NameModules (length modules) commands in
    let modules : M c.as_slice-modules.result.now = subst M (sym c.as_slice-modules.ensures.value) (take.calls, take.named) in
    let x : SlotLists = c.index_mut-slots.result.now in
    let R : RunningParty P → SlotLists → Type 0 = λ q slots. IsReserved q.frame slots in
    let reserved : R p x = subst (R p) (sym c.index_mut-slots.ensures.value) (subst (λ q. R q (slice_index_or c.self.inside.slots.items i x)) (sym c.index_mut-running.ensures.value) (c.self.invariant.1.each i p x below)) in
    (search rules, (take.can, (take.counts, (modules.0, (modules.1, (take.places, (take.small, (reserved, c.self.invariant.2))))))))

pub invariant_of-self : goal.invariant_of-self
invariant_of-self g c =
    let P : Type 0 = g.row.P.Denot in
    let i : ℕ = c.args.party in
    let s : RunState P = record { core = c.self.inside.core; modules = c.self.inside.modules.items; parties = c.self.inside.parties.items; replies = g.before.told } in
    let given : List Party = c.args.input.now.parties in
    let run : IsRunOf g.before.of given s = rw (← c.self.view_is) at c.requires.1.0 in
    let below : i < length s.parties = omega (arith, run.parties, c.requires.1.1) in
    let p : RunningParty P = c.index_mut-running.result.now in
    let there : slice_get s.parties i ≡ Some p = slice_get-get_or s.parties i p below ∙ ap Some (sym c.index_mut-running.ensures.value) in
    let commands : List Command = c.as_slice-commands.result.now in
    let q : Party = c.index-parties-party.result in
    let same : commands ≡ commands_of g.before.of.inputs i = c.as_slice-commands.ensures ∙ commands_read g.before.of.inputs given c.as_slice-parties.result.now i q run.inputs c.as_slice-parties.ensures c.requires.1.1 in
    let t : Turned P = record { core = c.turn_of.new.core; party = c.turn_of.new.party; reply = c.turn_of.result } in
    let T : List ModuleAsked → Type 0 = λ modules. Turns modules commands s.core p t in
    let after = turn_after g.before.of given commands i p s t run c.self.invariant.0 there same (subst T c.as_slice-modules.ensures.value c.turn_of.ensures.turn) in
    (after.kept, turned_reserved s.parties c.self.inside.slots.items i t.party c.turn_of.new.slots below c.self.invariant.1 c.turn_of.ensures.reserved, c.turn_of.ensures.unanswered)

pub returns : goal.returns
returns g c =
    let P : Type 0 = g.row.P.Denot in
    let i : ℕ = c.args.party in
    let s : RunState P = record { core = c.self.inside.core; modules = c.self.inside.modules.items; parties = c.self.inside.parties.items; replies = g.before.told } in
    let given : List Party = c.args.input.now.parties in
    let run : IsRunOf g.before.of given s = rw (← c.self.view_is) at c.requires.1.0 in
    let below : i < length s.parties = omega (arith, run.parties, c.requires.1.1) in
    let p : RunningParty P = c.index_mut-running.result.now in
    let there : slice_get s.parties i ≡ Some p = slice_get-get_or s.parties i p below ∙ ap Some (sym c.index_mut-running.ensures.value) in
    let commands : List Command = c.as_slice-commands.result.now in
    let q : Party = c.index-parties-party.result in
    let same : commands ≡ commands_of g.before.of.inputs i = c.as_slice-commands.ensures ∙ commands_read g.before.of.inputs given c.as_slice-parties.result.now i q run.inputs c.as_slice-parties.ensures c.requires.1.1 in
    let t : Turned P = record { core = c.turn_of.new.core; party = c.turn_of.new.party; reply = c.turn_of.result } in
    let T : List ModuleAsked → Type 0 = λ modules. Turns modules commands s.core p t in
    let after = turn_after g.before.of given commands i p s t run c.self.invariant.0 there same (subst T c.as_slice-modules.ensures.value c.turn_of.ensures.turn) in
    rw (← c.self.view_is) (record { turn = after.turn; run = after.run; advances = after.advances })
