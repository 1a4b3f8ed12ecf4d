use Rattle.std.proofs.Common.{◌≡◌, ℕ, ◌<◌, List, length, refl, sym, ap, ◌∙◌, subst, arith}
use Rattle.pool_alloc.specs.Reserved.{Reserved}
use Rattle.pool_run.specs.Folds.{RunParts, RunState, TurnsOf, commands_of, told_state, replies_after}
use Rattle.pool_run.specs.Progress.{Advances, IsRunOf}
use Rattle.pool_run.specs.RunsMade.{HaveRoom}
use Rattle.pool_run.specs.Watching.{TurnTold}
use Rattle.pool_run.specs.declared.reply.Reply.{Reply}
use Rattle.pool_run.proofs.Telling.{lists_of, told_more, room_there, still_room, inside_now}
use Rattle.pool_run.proofs.told_run.ToldRun.turn.Goals as goal

pub add_reply-requires-clause-room : goal.add_reply-requires-clause-room
add_reply-requires-clause-room g c =
    let P : Type 0 = g.row.P.Denot in
    let run : RunParts P = c.self.inside.run in
    let told : List (Reserved Reply) = c.self.inside.told.items in
    let same : g.before.told ≡ lists_of told = c.requires.1.1.1.0 ∙ ap (λ (s : RunState P). s.replies) (sym c.self.view_is) in
    let is : told_state run g.before.told ≡ c.args.self.now = ap (told_state run) same ∙ c.self.view_is in
    let Was : RunState P → Type 0 = λ s. IsRunOf g.before.of c.args.input.now.parties s in
    let was : Was (told_state run g.before.told) = subst Was (sym is) c.requires.1.1.1.1.0 in
    room_there g.before.of c.args.input.now.parties c.args.party c.turn-reply.result run c.turn-reply.new.self told g.before.told same c.self.invariant was c.turn-reply.ensures.run c.requires.1.1.1.1.1

pub look-note-requires : goal.look-note-requires
look-note-requires g c = inside_now c.self.inside.run _ c.args.self.now g.before.of c.args.input.now.parties c.args.party c.self.view_is c.requires.1.1.1.1.0 c.requires.1.1.1.1.1

pub learn-requires : goal.learn-requires
learn-requires g c = omega (arith, c.turn-reply.ensures.run.parties, c.requires.1.1.1.1.1)

pub invariant_of-self : goal.invariant_of-self
invariant_of-self g c =
    let P : Type 0 = g.row.P.Denot in
    let run : RunParts P = c.self.inside.run in
    let told : List (Reserved Reply) = c.self.inside.told.items in
    let same : g.before.told ≡ lists_of told = c.requires.1.1.1.0 ∙ ap (λ (s : RunState P). s.replies) (sym c.self.view_is) in
    let is : told_state run g.before.told ≡ c.args.self.now = ap (told_state run) same ∙ c.self.view_is in
    let Was : RunState P → Type 0 = λ s. IsRunOf g.before.of c.args.input.now.parties s in
    let was : Was (told_state run g.before.told) = subst Was (sym is) c.requires.1.1.1.1.0 in
    let Room : List (Reserved Reply) → Type 0 = λ ls. HaveRoom {P = P} c.turn-reply.new.self.parties ls in
    subst Room (sym c.add_reply.ensures)
    (still_room g.before.of c.args.input.now.parties c.args.party c.turn-reply.result run c.turn-reply.new.self told g.before.told same c.self.invariant was c.turn-reply.ensures.run c.requires.1.1.1.1.1)

pub returns : goal.returns
returns g c =
    let P : Type 0 = g.row.P.Denot in
    let run : RunParts P = c.self.inside.run in
    let told : List (Reserved Reply) = c.self.inside.told.items in
    let same : g.before.told ≡ lists_of told = c.requires.1.1.1.0 ∙ ap (λ (s : RunState P). s.replies) (sym c.self.view_is) in
    let is : told_state run g.before.told ≡ c.args.self.now = ap (told_state run) same ∙ c.self.view_is in
    let Was : RunState P → Type 0 = λ s. IsRunOf g.before.of c.args.input.now.parties s in
    let was : Was (told_state run g.before.told) = subst Was (sym is) c.requires.1.1.1.1.0 in
    let i : ℕ = c.args.party in
    let new : RunParts P = c.turn-reply.new.self in
    let below : i < length told = omega (arith, c.requires.1.1.1.1.1, c.self.invariant.count, was.parties) in
    let more : lists_of c.add_reply.new.told.items ≡ replies_after i c.turn-reply.result g.before.told = ap lists_of c.add_reply.ensures ∙ told_more i c.turn-reply.result told below ∙ ap (replies_after i c.turn-reply.result) (sym same) in
    let told_as : lists_of c.add_reply.new.told.items ≡ replies_after i c.turn-reply.result c.args.self.now.replies = more ∙ ap (replies_after i c.turn-reply.result) c.requires.1.1.1.0 in
    let All : RunState P → List (List Reply) → Type 0 = λ s rs.
    TurnsOf g.before.of.modules g.before.of.inputs i s (told_state new rs)
    × IsRunOf g.before.of c.args.input.now.parties (told_state new rs)
    × Advances g.before.of.modules (commands_of g.before.of.inputs i) i s (told_state new rs) in
    let all : All c.args.self.now (lists_of c.add_reply.new.told.items) = subst (λ s. All s (lists_of c.add_reply.new.told.items)) is (subst (All (told_state run g.before.told)) (sym more) (c.turn-reply.ensures.turn, c.turn-reply.ensures.run, c.turn-reply.ensures.advances)) in
    let seen : TurnTold P = record { party = i; run = new; reply = c.turn-reply.result } in
    record {
      told = (seen, record { turns = all.0; party = refl; run = refl; reply = told_as }, c.learn.ensures);
      run = all.1;
      advances = all.2;
    }
