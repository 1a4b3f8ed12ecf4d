use Rattle.std.proofs.Common.{◌≡◌, ℕ, [], length, refl, sym, ap, ◌∙◌, subst, inl, inr, arith}
use Rattle.pool_run.proofs.Imports.{begun_call, Frame, ModuleAsked, Reserved, memories_wanted, tables_wanted, module_asked, PlainHeap}
use Rattle.pool_slots.specs.declared.errors.AllocError.TheVariants.{Memory}
use Rattle.pool_alloc.specs.declared.frame.Call.TheVariants as call
use Rattle.pool_run.specs.Ties.{IsReserved}
use Rattle.pool_run.specs.Turns.{replies, makes_step}
use Rattle.pool_run.specs.declared.reply.Reply.TheVariants.{Refused}
use Rattle.pool_run.specs.declared.reply.Refusal.TheVariants.{Alloc}
use Rattle.pool_run.specs.declared.running_party.RunningParty.{RunningParty}
use Rattle.pool_run.specs.declared.slot_lists.SlotLists.{SlotLists}
use Rattle.pool_run.proofs.TurnsMade.{ok_there}
use Rattle.pool_run.proofs.begin.ask.Goals as goal

pub returns-in-Err-clause-begins : goal.returns-in-Err-clause-begins
returns-in-Err-clause-begins g c = (replies (Refused (Alloc Memory)) c.args.party.now.live c.args.party.now.store, inl refl, (c.end_at_once.ensures.party, c.end_at_once.ensures.replies))

pub returns-in-Ok-clause-begins : goal.returns-in-Ok-clause-begins
returns-in-Ok-clause-begins g c =
    let P : Type 0 = g.row.P.Denot in
    let p : RunningParty P = c.args.party.now in
    let kept : ModuleAsked = c.args.kept.now in
    let share : c.in-Ok.prepared.0 ≡ kept = ok_there (λ r. r.0 ≡ kept) _ c.in-Ok.prepared c.in-Ok.is c.prepare.ensures.share in
    let begun : c.begin.new.self ≡ begun_call (call.Module kept) p.frame = c.begin.ensures.value ∙ ap (λ (m : ModuleAsked). begun_call (call.Module m) p.frame) share in
    (makes_step (begun_call (call.Module kept) p.frame) p.live, inr refl, (ap (λ (f : Frame P PlainHeap). record p { frame = f }) begun, refl))

pub returns-in-Ok-clause-reserved : goal.returns-in-Ok-clause-reserved
returns-in-Ok-clause-reserved g c =
    let P : Type 0 = g.row.P.Denot in
    let p : RunningParty P = c.args.party.now in
    let kept : ModuleAsked = c.args.kept.now in
    let slots : SlotLists = c.in-Ok.prepared.1 in
    let share : c.in-Ok.prepared.0 ≡ kept = ok_there (λ r. r.0 ≡ kept) _ c.in-Ok.prepared c.in-Ok.is c.prepare.ensures.share in
    let memories : slots.memories ≡ record { items = []; room = length (memories_wanted (module_asked kept)) } = ok_there (λ r. r.1.memories ≡ record { items = []; room = length (memories_wanted (module_asked kept)) }) _ c.in-Ok.prepared c.in-Ok.is c.prepare.ensures.memories in
    let tables : slots.tables ≡ record { items = []; room = length (tables_wanted (module_asked kept)) } = ok_there (λ r. r.1.tables ≡ record { items = []; room = length (tables_wanted (module_asked kept)) }) _ c.in-Ok.prepared c.in-Ok.is c.prepare.ensures.tables in
    let memory_room : slots.memories.room ≡ length (memories_wanted (module_asked kept)) = ap (λ (x : Reserved ℕ). x.room) memories in
    let table_room : slots.tables.room ≡ length (tables_wanted (module_asked kept)) = ap (λ (x : Reserved ℕ). x.room) tables in
    let begun : c.begin.new.self ≡ begun_call (call.Module kept) p.frame = c.begin.ensures.value ∙ ap (λ (m : ModuleAsked). begun_call (call.Module m) p.frame) share in
    let R : Frame P PlainHeap → Type 0 = λ f. IsReserved f slots in
    subst R (sym begun) (record {
      memories = record { empty = ap (λ (x : Reserved ℕ). x.items) memories; room = λ is. omega (arith, memory_room) };
      tables = record { empty = ap (λ (x : Reserved ℕ). x.items) tables; room = λ is. omega (arith, table_room) };
    })
