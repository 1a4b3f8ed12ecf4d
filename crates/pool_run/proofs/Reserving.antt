-- The lists for the slots of what is asked for have room for them, until the reply takes them.
use Rattle.std.proofs.Common.{◌≡◌, ℕ, ◌<◌, ◌≤◌, Bool, Option, Some, None, List, [], length, refl, sym, ap, ◌∙◌, subst, inl, inr, arith, true, replicate, slice_set, slice_index_or}
use Rattle.pool_run.proofs.Imports.{cases_eq, length-map, length-replicate, length-set, get_or-map, get_or-replicate, get_or-set_same, get_or-set_other, not_both, MakerTold, PartyTold, objects_in, IsGrantOf, IfGranted, begun_call, frame_made, memories_wanted, tables_wanted, After, is_idle, PoolCore, Settings, Call, Frame, Grant, instance, component, one_memory, one_table, stack, heap, heap_over, Outcome, stage_of, Asked, Plan, PlainHeap}
use Rattle.pool_alloc.specs.declared.frame.Call.TheVariants as call
use Rattle.pool_alloc.specs.declared.frame.Outcome.TheVariants as answer
use Rattle.pool_run.specs.RunsMade.{AreReserved, party_made_for, parties_made}
use Rattle.pool_run.specs.Ties.{IsReserved, is_for_objects}
use Rattle.pool_run.specs.Turns.{Turned, IsPlain, leases_listed, tables_named, answered, slots_after, no_lists}
use Rattle.pool_run.specs.declared.input.Party.{Party}
use Rattle.pool_run.specs.declared.reply.Reply.{Reply}
use Rattle.pool_run.specs.declared.running_party.RunningParty.{RunningParty}
use Rattle.pool_run.specs.declared.slot_lists.SlotLists.{SlotLists}
use Rattle.pool_run.proofs.Parties.{plain_lists, returned_asks}
use Rattle.pool_run.proofs.StageSteps.{is_none, none_idle, settled_place, asking_some, IsStagedStep, instance_asks, IfInstance}
use Rattle.pool_run.proofs.Stepped.{IsStepped}

module _ {P : Type 0} where
  -- where nothing is asked for, no room is needed
  unasked_reserved : (f : Frame P PlainHeap) (slots : SlotLists) → slots.memories.items ≡ [] → slots.tables.items ≡ [] → (is_for_objects (stage_of f) ≡ true → ⊥) → IsReserved f slots
  unasked_reserved f slots memories tables none = record { memories = record { empty = memories; room = λ is. absurd (none is) }; tables = record { empty = tables; room = λ is. absurd (none is) } }

  pub back_reserved : (grant : Grant P PlainHeap) (f : Frame P PlainHeap) (slots : SlotLists) → IsReserved f slots → IsReserved (begun_call (call.GiveBack grant) f) slots
  back_reserved grant f slots reserved = unasked_reserved (begun_call (call.GiveBack grant) f) slots reserved.memories.empty reserved.tables.empty (λ asks. returned_asks grant f (instance_asks (stage_of (begun_call (call.GiveBack grant) f)) asks))

  pub plain_reserved : (asked : Call P PlainHeap) (f : Frame P PlainHeap) (slots : SlotLists) → IsPlain asked → IsReserved f slots → IsReserved (begun_call asked f) slots
  plain_reserved asked f slots plain reserved = unasked_reserved (begun_call asked f) slots reserved.memories.empty reserved.tables.empty (λ asks. not_both (is_for_objects (stage_of (begun_call asked f))) asks (plain_lists asked f plain))

  -- what else is granted has none
  room_granted : (maker : MakerTold) (s : Settings) (plan : Plan) (asked : Asked) (b : Bool) (slots : SlotLists) (o : Option (Outcome P PlainHeap)) → (b ≡ true → length (memories_wanted asked) ≤ slots.memories.room) → (b ≡ true → length (tables_wanted asked) ≤ slots.tables.room) → IfInstance (b ≡ true) o → IfGranted (IsGrantOf maker s plan asked) o
      → IfGranted (λ g. length (leases_listed g) ≤ slots.memories.room) o × IfGranted (λ g. length (tables_named g) ≤ slots.tables.room) o
  room_granted maker s plan asked b slots (Some (answer.Granted (instance lease))) memories tables for is = (omega (arith, is.1, memories for), omega (arith, is.3, tables for))
  room_granted maker s plan asked b slots (Some (answer.Granted component)) memories tables for is = (omega arith, omega arith)
  room_granted maker s plan asked b slots (Some (answer.Granted (one_memory lease))) memories tables for is = (omega arith, omega arith)
  room_granted maker s plan asked b slots (Some (answer.Granted (one_table lease))) memories tables for is = (omega arith, omega arith)
  room_granted maker s plan asked b slots (Some (answer.Granted (stack lease))) memories tables for is = (omega arith, omega arith)
  room_granted maker s plan asked b slots (Some (answer.Granted (heap lease memory))) memories tables for is = (omega arith, omega arith)
  room_granted maker s plan asked b slots (Some (answer.Granted (heap_over lease))) memories tables for is = (omega arith, omega arith)
  room_granted maker s plan asked b slots None memories tables for is = (tt, tt)
  room_granted maker s plan asked b slots (Some answer.Key) memories tables for is = (tt, tt)
  room_granted maker s plan asked b slots (Some answer.Returned) memories tables for is = (tt, tt)
  room_granted maker s plan asked b slots (Some (answer.Refused e)) memories tables for is = (tt, tt)
  room_granted maker s plan asked b slots (Some (answer.Purged n)) memories tables for is = (tt, tt)
  room_granted maker s plan asked b slots (Some (answer.Released n)) memories tables for is = (tt, tt)

  has_room : {old new : PartyTold} (maker : MakerTold) (c : PoolCore P PlainHeap) (f : Frame P PlainHeap) (a : After P PlainHeap) (slots : SlotLists) → IsReserved f slots → IsStepped maker old new c f a → IfGranted (λ g. length (leases_listed g) ≤ slots.memories.room) a.outcome × IfGranted (λ g. length (tables_named g) ≤ slots.tables.room) a.outcome
  has_room maker c f a slots reserved on = room_granted maker c.settings c.plan f.asked (is_for_objects (stage_of f)) slots a.outcome reserved.memories.room reserved.tables.room on.staged.instance_granted on.granted

  -- They have room for what is granted.
  pub memories_granted : {old new : PartyTold} (maker : MakerTold) (c : PoolCore P PlainHeap) (f : Frame P PlainHeap) (a : After P PlainHeap) (slots : SlotLists) → IsReserved f slots → IsStepped maker old new c f a → IfGranted (λ g. length (leases_listed g) ≤ slots.memories.room) a.outcome
  memories_granted maker c f a slots reserved on = (has_room maker c f a slots reserved on).0

  pub tables_granted : {old new : PartyTold} (maker : MakerTold) (c : PoolCore P PlainHeap) (f : Frame P PlainHeap) (a : After P PlainHeap) (slots : SlotLists) → IsReserved f slots → IsStepped maker old new c f a → IfGranted (λ g. length (tables_named g) ≤ slots.tables.room) a.outcome
  tables_granted maker c f a slots reserved on = (has_room maker c f a slots reserved on).1

  ends_reserved : (o : Outcome P PlainHeap) (f g : Frame P PlainHeap) (slots : SlotLists) → IsReserved f slots → IsStagedStep (stage_of f) (stage_of g) (Some o) → IsReserved g slots
  ends_reserved o f g slots r staged = unasked_reserved g slots r.memories.empty r.tables.empty (λ is. settled_place (stage_of g) (staged.settled refl) (instance_asks (stage_of g) is))

  after_reserved : (o : Option (Outcome P PlainHeap)) (f g : Frame P PlainHeap) (slots : SlotLists) → IsReserved f slots → IsStagedStep (stage_of f) (stage_of g) o → (is_for_objects (stage_of g) ≡ true → g.asked ≡ f.asked) → IsReserved g (slots_after o slots)
  after_reserved None f g slots r staged same = record {
    memories = record {
      empty = r.memories.empty;
      room = λ is. let R : Asked → Type 0 = λ o. length (memories_wanted o) ≤ slots.memories.room in subst R (sym (same is)) (r.memories.room (staged.for_it is));
    };
    tables = record {
      empty = r.tables.empty;
      room = λ is. let R : Asked → Type 0 = λ o. length (tables_wanted o) ≤ slots.tables.room in subst R (sym (same is)) (r.tables.room (staged.for_it is));
    };
  }
  after_reserved (Some (answer.Granted grant)) f g slots r staged same = unasked_reserved g no_lists refl refl (λ is. settled_place (stage_of g) (staged.settled refl) (instance_asks (stage_of g) is))
  after_reserved (Some answer.Key) f g slots r staged same = ends_reserved answer.Key f g slots r staged
  after_reserved (Some answer.Returned) f g slots r staged same = ends_reserved answer.Returned f g slots r staged
  after_reserved (Some (answer.Purged n)) f g slots r staged same = ends_reserved (answer.Purged n) f g slots r staged
  after_reserved (Some (answer.Released n)) f g slots r staged same = ends_reserved (answer.Released n) f g slots r staged
  after_reserved (Some (answer.Refused e)) f g slots r staged same = ends_reserved (answer.Refused e) f g slots r staged

  -- A step leaves them, or the reply takes them.
  pub step_reserved : {old new : PartyTold} (maker : MakerTold) (c : PoolCore P PlainHeap) (f : Frame P PlainHeap) (a : After P PlainHeap) (slots left : SlotLists) → IsReserved f slots → IsStepped maker old new c f a → left ≡ slots_after a.outcome slots → IsReserved a.frame left
  step_reserved maker c f a slots left reserved on is =
      let idle : is_none (stage_of a.frame) ≡ is_idle a.frame.phase = none_idle a.frame.phase a.frame.asked a.frame.ending (objects_in a.frame.objects) in
      subst (IsReserved a.frame) (sym is) (after_reserved a.outcome f a.frame slots reserved on.staged (λ asking. on.goes.asked (sym idle ∙ asking_some (stage_of a.frame) (instance_asks (stage_of a.frame) asking))))

  pub answered_frame : (o : Option (Outcome P PlainHeap)) (c : PoolCore P PlainHeap) (p : RunningParty P) → (answered o c p).party.frame ≡ p.frame
  answered_frame None c p = refl
  answered_frame (Some answer.Key) c p = refl
  answered_frame (Some (answer.Granted grant)) c p = refl
  answered_frame (Some answer.Returned) c p = refl
  answered_frame (Some (answer.Purged n)) c p = refl
  answered_frame (Some (answer.Released n)) c p = refl
  answered_frame (Some (answer.Refused e)) c p = refl

  -- The answer leaves the frame as it is.
  pub reserved_there : (o : Option (Outcome P PlainHeap)) (c : PoolCore P PlainHeap) (p q : RunningParty P) (reply : Option Reply) (slots : SlotLists) → record { core = c; party = q; reply = reply } ≡ answered o c p → IsReserved p.frame slots → IsReserved q.frame slots
  reserved_there o c p q reply slots is reserved =
      let R : Frame P PlainHeap → Type 0 = λ f. IsReserved f slots in
      subst R (sym (ap (λ (t : Turned P). t.party.frame) is ∙ answered_frame o c p)) reserved

  -- Each party has them at the start,
  pub made_reserved : (s : Settings) (parties : List Party) (slots : List SlotLists) → slots ≡ replicate (length parties) no_lists → AreReserved (parties_made {P = P} s parties) slots
  made_reserved s parties slots is =
      let count : length slots ≡ length parties = ap (length {A = SlotLists}) is ∙ length-replicate {A = SlotLists} (length parties) no_lists in
      record {
        count = count ∙ sym (length-map parties (party_made_for {P = P} s));
        each = λ i d x below.
            let inside : i < length parties = omega (arith, below, length-map parties (party_made_for {P = P} s)) in
            let e : Party = record { home = 0; limits = None; gc_faults = []; heap_faults = []; commands = [] } in
            let none : slice_index_or slots i x ≡ no_lists = ap (λ (l : List SlotLists). slice_index_or l i x) is ∙ get_or-replicate (length parties) i no_lists x inside in
            let made : slice_index_or (parties_made {P = P} s parties) i d ≡ party_made_for s (slice_index_or parties i e) = get_or-map (party_made_for {P = P} s) parties i e d inside in
            let R : RunningParty P → SlotLists → Type 0 = λ p l. IsReserved p.frame l in
            subst (λ p. R p (slice_index_or slots i x)) (sym made) (subst (R (party_made_for s (slice_index_or parties i e))) (sym none) (unasked_reserved (frame_made (slice_index_or parties i e).home s) no_lists refl refl (λ asking. absurd cc)));
      }

  -- and after a turn of one of them.
  pub turned_reserved : (parties : List (RunningParty P)) (slots : List SlotLists) (i : ℕ) (p : RunningParty P) (x : SlotLists) → i < length parties → AreReserved parties slots → IsReserved p.frame x → AreReserved (slice_set parties i p) (slice_set slots i x)
  turned_reserved parties slots i p x below are is = record {
    count = length-set slots i x ∙ are.count ∙ sym (length-set parties i p);
    each = λ k d y inside.
        let R : RunningParty P → SlotLists → Type 0 = λ q l. IsReserved q.frame l in
        elim (cases_eq k i) [
          | inl same ↦
              subst (λ (n : ℕ). R (slice_index_or (slice_set parties i p) n d) (slice_index_or (slice_set slots i x) n y)) (sym same)
              (subst (λ q. R q (slice_index_or (slice_set slots i x) i y)) (sym (get_or-set_same parties i p d below)) (subst (R p) (sym (get_or-set_same slots i x y (omega (arith, below, are.count)))) is))
          | inr other ↦
              subst (λ q. R q (slice_index_or (slice_set slots i x) k y)) (sym (get_or-set_other parties i k p d other))
              (subst (R (slice_index_or parties k d)) (sym (get_or-set_other slots i k x y other)) (are.each k d y (omega (arith, inside, length-set parties i p))))
        ];
  }
