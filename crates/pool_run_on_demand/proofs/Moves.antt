-- What a write and a growth make of a memory on demand, as the party sees it. A growth ends as the rule of its limiter says,
-- but that it may find no memory; and it leaves the maker the same.
use Rattle.std.proofs.Common.{◌≡◌, ℕ, ◌+◌, ◌-◌, ◌^◌, ◌<◌, ◌≤◌, Bool, true, false, List, ◌++◌, length, take, replicate, Option, Some, None, Result, Ok, Err, ◌⊎◌, inl, inr, refl, sym, ap, ◌∙◌, subst, arith, nat_lt, nat_le, is_some, ◌==◌, ◌||◌, ◌&&◌, not, if◌then◌else◌, IfSome, option_map, slice_range, OnOk, OnErr}
use Rattle.pool_run_on_demand.proofs.Imports.{cases_lt, lt-ltb, ltb-false, ltb-true, leb-true, nat_tests, same_lists, places, length-append, length-replicate, pow_pos, mapped_some, Contents, put, written, MakerTold, page_size, allow_growth_to, MemoryType, Slot, raised, GrowthRule, GrowthGiven, Obstacles, is_want_of_memory, report_result, result_by, pages_result, answer_result, AnswerMakes, MakesBy, GrowError, GrowFault, LimiterError, Trap, MemoryOutOfBounds, asked_same, IsSameMaker, InPlace, GrowsTo, IsUngrown, StaysTold, grown_size, exceeds, obstacles, past_room, PagesLeave, AnswerLeaves, LeavesBy, Layout, layout_of, moved_layout, Storage, in_slot, stored, slot_in, Linear, linear_bytes, first_bytes, storage_written, maximum_asked, MemoryState, memory_written, access_answer, CallLeaves, MakerLeft, MoveLeaves, PlaceLeaves, grows, growth_reply, write_reply, PrivateMemory, IsRead, Writes, private_written, GrowthEnd, as_it_was, has_grown, growth, left_of, Reply, Bytes, Grown, Refused, trapped, Alloc, seen_as, take_put, tried_by, ended_by, ended_by_rule, reported_seen, right_of}
use Rattle.pool_limits.specs.declared.errors.GrowError.TheVariants as failed
use Rattle.pool_slots.specs.declared.errors.AllocError.TheVariants as alloc
use Rattle.pool_run_on_demand.specs.OnDemand.{most_between, MovesOnDemand}
use Rattle.pool_run_on_demand.specs.Seen.{layout_in, seen_made, HasAddresses, IsHeld, GrowsByRule}
use Rattle.pool_run_on_demand.proofs.Places.{grown_within, overflows, past_capacity, ungrown_within, written_layout}

-- The maker is the same after a growth, and may have been asked for a region.
still : (before after : MakerTold) → after ≡ before → IsSameMaker before after
still before after is = let S : MakerTold → Type 0 = IsSameMaker before in subst S (sym is) (record { same = refl; rises = omega arith })

move_same : (failure : Option GrowError) (l : Layout) (size : ℕ) (place : Storage) (before after : MakerTold) → MoveLeaves failure l size place before after → IsSameMaker before after
move_same None l size place before after is = asked_same before after is.0.made.asked
move_same (Some failed.PageFault) l size place before after is = asked_same before after is.asked
move_same (Some failed.Memory) l size place before after is = asked_same before after is.asked
move_same (Some failed.Overflow) l size place before after is = still before after is.1
move_same (Some failed.TypeLimit) l size place before after is = absurd is
move_same (Some failed.MaximumExceeded) l size place before after is = absurd is

place_same : (failure : Option GrowError) (size extra : ℕ) (old new : Storage) (before after : MakerTold) → PlaceLeaves failure size extra old new before after → IsSameMaker before after
place_same failure size extra (in_slot s) new before after is = move_same failure (moved_layout size extra (layout_of s)) size new before after is
place_same failure size extra (stored len bytes) new before after is = still before after is

called_same : (b : Bool) (failure : Option GrowError) (size : ℕ) (old new : Linear) (before after : MakerTold) → CallLeaves b failure size old new before after → IsSameMaker before after
called_same false failure size old new before after is = still before after is
called_same true failure size old new before after is = place_same failure size old.extra old.storage new.storage before after is

module _ (size : ℕ) (old new : Linear) (before after : MakerTold) where
  same_some : Some after ≡ Some before → IsSameMaker before after
  same_some is = let same : after ≡ before = cc in still before after same

  pages_same : (failure : Option GrowError) → MakerLeft failure size old new (Some before) (Some after) → IsSameMaker before after
  pages_same failure is = called_same (nat_lt old.capacity size) failure size old new before after is

  abbrev Called : Option GrowError → Type 0
  Called failure = MakerLeft failure size old new (Some before) (Some after)

  abbrev Makes : Bool → Bool → Bool → GrowthGiven → Type 0
  Makes nothing past_type past g = MakesBy (Some after ≡ Some before) (Called None) (λ e. Called (Some e)) nothing past_type past g

  answer_same : (past : Bool) (answer : Result Bool LimiterError) (failure : Option GrowError) → AnswerMakes (Some after ≡ Some before) (Called None) (λ e. Called (Some e)) past answer failure → IsSameMaker before after
  answer_same past (Err e) failure is = same_some is
  answer_same past (Ok false) failure is = same_some is
  answer_same true (Ok true) failure is = same_some is
  answer_same false (Ok true) None is = pages_same None is
  answer_same false (Ok true) (Some e) is = pages_same (Some e) is

  makes_same : (nothing past_type past : Bool) (g : GrowthGiven) → Makes nothing past_type past g → IsSameMaker before after
  makes_same true past_type past g is = same_some is
  makes_same false true past g is = same_some is
  makes_same false false past g is = answer_same past g.answer g.failure is

pub growth_same : (rule : GrowthRule) (pages : ℕ) (m new : MemoryState) (before after : MakerTold) (answer : Result (Option ℕ) GrowFault) → GrowsByRule rule pages m new before after answer → IsSameMaker before after
growth_same rule pages m new before after answer is =
    let o : Obstacles = obstacles pages m in
    makes_same (grown_size pages m) m.linear new.linear before after o.nothing o.past_type o.past_room is.0 is.5

raised_tells : (b : Bool) (n : ℕ) (s : Slot) → is_some (if b then raised n s else s).region.contents ≡ is_some s.region.contents
raised_tells true n s = mapped_some _ s.region.contents
raised_tells false n s = refl

if_tells : {X : Type 0} (b : Bool) (x : X) → true ≡ b → is_some (if b then Some x else None) ≡ true
if_tells true x is = refl
if_tells false x is = absurd cc

place_tells : (n : ℕ) (st : Storage) → is_some (slot_in st).region.contents ≡ true → is_some (first_bytes n st) ≡ true
place_tells n (in_slot s) is = mapped_some _ s.region.contents ∙ is
place_tells n (stored len bytes) is = absurd cc

-- So a memory that has moved tells its bytes, if it told them before.
moved_tells : (size : ℕ) (old new : Linear) (before after : MakerTold) (st : Storage) → true ≡ before.tells → is_some (first_bytes old.size st) ≡ true → StaysTold st (linear_bytes new) → PlaceLeaves None size old.extra st new.storage before after → is_some (linear_bytes new) ≡ true
moved_tells size old new before after (in_slot s) tells told stays left = place_tells new.size new.storage (left.1.tells ∙ raised_tells _ _ _ ∙ if_tells before.tells _ tells)
moved_tells size old new before after (stored len bytes) tells told stays left = stays ∙ sym (mapped_some _ bytes) ∙ told

-- what both tell
both_told : {X : Type 0} (f : X → X) (o p : Option X) → is_some o ≡ true → is_some p ≡ true → IfSome o (λ b. IfSome p (λ c. c ≡ f b)) → p ≡ option_map f o
both_told f None p some other is = absurd cc
both_told f (Some b) None some other is = absurd cc
both_told f (Some b) (Some c) some other is = ap Some is

told_some : {X : Type 0} (o : Option X) (x : X) → o ≡ Some x → is_some o ≡ true
told_some o x is = ap is_some is

place_capacity : (size : ℕ) (old new : Linear) (st : Storage) → InPlace size st old new → new.capacity ≡ old.capacity
place_capacity size old new (in_slot s) is = ap (λ (l : Linear). l.capacity) is
place_capacity size old new (stored len bytes) is = is

room_same : (b : Bool) (most m n k : ℕ) → most ≡ m → (b ≡ false → n ≡ k) → (if b then most else n) ≡ (if b then m else k)
room_same true most m n k room same = room
room_same false most m n k room same = same refl

bytes_if : (tells : Bool) (f : List ℕ → List ℕ) (o p : Option (List ℕ)) → (tells ≡ true → p ≡ option_map f o) → (if tells then p else None) ≡ option_map f (if tells then o else None)
bytes_if true f o p is = is refl
bytes_if false f o p is = refl

abbrev pub seen_as_parts : MemoryState → ℕ → ℕ → Option (List ℕ) → PrivateMemory
seen_as_parts m size capacity bytes = record { slot = 2 ^ 32 - 1; ty = m.ty; size = size; capacity = capacity; bytes = bytes }

-- What is past a memory's room and what is past it as the party sees it are the same, or a size is past all that a region can
-- have.
abbrev pub SeesRoom : Bool → Bool → ℕ → ℕ → Type 0
SeesRoom past sees most size = (past ≡ sees) ⊎ ((past ≡ false) × ((sees ≡ true) × (most < size)))

module _ (tells : Bool) (size : ℕ) (m : MemoryState) (new : Linear) (held : IsHeld tells m) where
  abbrev left_as : MemoryState
  left_as = record m { linear = new }

  abbrev was : PrivateMemory
  was = seen_made tells m

  abbrev tried : Result (Unit {0}) LimiterError → Bool → GrowthEnd × Reply
  tried r fault = tried_by m.linear.size r fault

  abbrev ends : Bool → Bool → Bool → Result Bool LimiterError → Result (Unit {0}) LimiterError → Bool → GrowthEnd × Reply
  ends nothing past_type past answer r fault = ended_by m.linear.size nothing past_type past answer r fault

  -- it ends as one of these, if a call on pages failed or not; or it found no memory where it would have grown
  abbrev EndsMade : Reply → (Bool → GrowthEnd × Reply) → Type 0
  EndsMade reply end =
      (((fault : Bool) × (◌≡◌ {A = PrivateMemory × Reply} (seen_made tells left_as, reply) (left_of (end fault).0 size was, (end fault).1)))
      ⊎ (((end false).0 ≡ has_grown) × ((reply ≡ Refused (Alloc alloc.Memory)) × (seen_made tells left_as ≡ was))))
      × IsHeld tells left_as

  unchanged : (reply : Reply) (end : Bool → GrowthEnd × Reply) → end false ≡ (as_it_was, reply) → new ≡ m.linear → EndsMade reply end
  unchanged reply end is same =
      let Held : Linear → Type 0 = λ l. IsHeld tells (record m { linear = l }) in
      let seen : seen_made tells left_as ≡ was = ap (λ (l : Linear). seen_made tells (record m { linear = l })) same in
      let Left : GrowthEnd × Reply → PrivateMemory × Reply = λ p. (left_of p.0 size was, p.1) in
      (inl (false, ap (λ (p : PrivateMemory). (p, reply)) seen ∙ sym (ap Left is)), subst Held (sym same) held)

  abbrev most_now : Linear → ℕ
  most_now l = most_between (layout_in l.storage)

  ungrown_seen : (e : GrowError) → IsUngrown e size m.linear new → seen_made tells left_as ≡ was
  ungrown_seen e is =
      ap (λ (n : ℕ). seen_as_parts m n (if m.may_move then most_now new else new.capacity) (if tells then linear_bytes new else None)) is.same_size
      ∙ ap (λ (n : ℕ). seen_as_parts m m.linear.size n (if tells then linear_bytes new else None)) (room_same m.may_move (most_now new) (most_now m.linear) new.capacity m.linear.capacity (ungrown_within size m.linear new held.addresses e is).0 (λ stays. is.capacity))
      ∙ ap (λ (b : Option (List ℕ)). seen_as_parts m m.linear.size (if m.may_move then most_now m.linear else m.linear.capacity) (if tells then b else None)) is.bytes

  ungrown_held : (e : GrowError) → IsUngrown e size m.linear new → IsHeld tells left_as
  ungrown_held e is = record {
    room = omega (arith, is.same_size, held.room);
    addresses = (ungrown_within size m.linear new held.addresses e is).1;
    told = λ say. let t = held.told say in (t.0, (is.bytes ∙ t.1.0, t.1.1 ∙ sym is.same_size));
  }

  reported_end : (wanting : Bool) (e : GrowError) (report : Result (Unit {0}) LimiterError) → IsUngrown e size m.linear new → EndsMade (growth_reply (report_result {X = ℕ} wanting report)) (tried report)
  reported_end false e report is = (inl (true, ap (λ (p : PrivateMemory). (p, growth_reply (report_result {X = ℕ} false report))) (ungrown_seen e is) ∙ ap (λ (r : Reply). (was, r)) (reported_seen report)), ungrown_held e is)
  reported_end true e report is = (inr (refl, (refl, ungrown_seen e is)), ungrown_held e is)

  module _ (before after : MakerTold) (same : tells ≡ before.tells) (within : m.may_move ≡ false → size ≤ m.linear.capacity) (more : m.linear.size ≤ size) (room : size + page_size m.ty ≤ 2 ^ 64) where
    abbrev zeros : List ℕ → List ℕ
    zeros b = b ++ replicate {A = ℕ} (size - m.linear.size) 0

    grown_bytes : GrowsTo size m.linear new → MakerLeft None size m.linear new (Some before) (Some after) → tells ≡ true → linear_bytes new ≡ option_map zeros (linear_bytes m.linear)
    grown_bytes is left say =
        elim (cases_lt m.linear.capacity size) [
          | inl past ↦
              let called : PlaceLeaves None size m.linear.extra m.linear.storage new.storage before after = subst (λ (b : Bool). CallLeaves b None size m.linear new before after) (lt-ltb m.linear.capacity size past) left in
              let told : is_some (linear_bytes m.linear) ≡ true = told_some (linear_bytes m.linear) (held.told say).0 (held.told say).1.0 in
              both_told zeros (linear_bytes m.linear) (linear_bytes new) told (moved_tells size m.linear new before after m.linear.storage (sym say ∙ same) told (is.moved past).told called) (is.moved past).bytes
          | inr room_there ↦ sym (is.bytes room_there)
        ]

    grown_seen : GrowsTo size m.linear new → MakerLeft None size m.linear new (Some before) (Some after) → seen_made tells left_as ≡ left_of has_grown size was
    grown_seen is left =
        let capacity : m.may_move ≡ false → new.capacity ≡ m.linear.capacity = λ stays. place_capacity size m.linear new m.linear.storage (is.in_place (within stays)) in
        ap (λ (n : ℕ). seen_as_parts m n (if m.may_move then most_now new else new.capacity) (if tells then linear_bytes new else None)) is.same_size
        ∙ ap (λ (n : ℕ). seen_as_parts m size n (if tells then linear_bytes new else None)) (room_same m.may_move (most_now new) (most_now m.linear) new.capacity m.linear.capacity (grown_within size m.linear new held.addresses before after is left).0 capacity)
        ∙ ap (seen_as_parts m size (if m.may_move then most_now m.linear else m.linear.capacity)) (bytes_if tells zeros (linear_bytes m.linear) (linear_bytes new) (grown_bytes is left))

    grown_held : GrowsTo size m.linear new → MakerLeft None size m.linear new (Some before) (Some after) → IsHeld tells left_as
    grown_held is left = record {
      room = omega (arith, is.same_size, room);
      addresses = (grown_within size m.linear new held.addresses before after is left).1;
      told = λ say.
          let t = held.told say in
          let long : length (zeros t.0) ≡ length t.0 + length (replicate {A = ℕ} (size - m.linear.size) 0) = length-append t.0 (replicate {A = ℕ} (size - m.linear.size) 0) in
          (zeros t.0, (grown_bytes is left say ∙ ap (option_map zeros) t.1.0, omega (arith, long, length-replicate {A = ℕ} (size - m.linear.size) 0, t.1.1, is.same_size, more)));
    }

    pages_end : (failure : Option GrowError) (report : Result (Unit {0}) LimiterError) → PagesLeave failure size m.linear new → MakerLeft failure size m.linear new (Some before) (Some after) → EndsMade (growth_reply (pages_result m.linear.size failure report)) (tried report)
    pages_end None report is left = (inl (false, ap (λ (p : PrivateMemory). (p, Grown (Some m.linear.size))) (grown_seen is left)), grown_held is left)
    pages_end (Some e) report is left = reported_end (is_want_of_memory e) e report is

  answer_end : (before after : MakerTold) → tells ≡ before.tells → (past : Bool) → (past ≡ false → m.may_move ≡ false → size ≤ m.linear.capacity) → m.linear.size ≤ size → size + page_size m.ty ≤ 2 ^ 64 → (answer : Result Bool LimiterError) (failure : Option GrowError) (report : Result (Unit {0}) LimiterError) → AnswerLeaves past answer failure size m.linear new
      → AnswerMakes (Some after ≡ Some before) (MakerLeft None size m.linear new (Some before) (Some after)) (λ e. MakerLeft (Some e) size m.linear new (Some before) (Some after)) past answer failure
      → EndsMade (growth_reply (answer_result m.linear.size past answer failure report)) (ends false false past answer report)
  answer_end before after same past within more room (Err e) failure report is left = unchanged _ (ends false false past (Err e) report) refl is
  answer_end before after same past within more room (Ok false) failure report is left = unchanged _ (ends false false past (Ok false) report) refl is
  answer_end before after same true within more room (Ok true) failure report is left = unchanged _ (ends false false true (Ok true) report) (ap (λ (r : Reply). (as_it_was, r)) (sym (reported_seen report))) is
  answer_end before after same false within more room (Ok true) None report is left = pages_end before after same (within refl) more room None report is left
  answer_end before after same false within more room (Ok true) (Some e) report is left = pages_end before after same (within refl) more room (Some e) report is left

  growth_end : (nothing past_type past : Bool) (g : GrowthGiven) (before after : MakerTold) → tells ≡ before.tells → (past ≡ false → m.may_move ≡ false → size ≤ m.linear.capacity) → m.linear.size ≤ size → size + page_size m.ty ≤ 2 ^ 64 → LeavesBy nothing past_type past g size m.linear new → Makes size m.linear new before after nothing past_type past g
      → EndsMade (growth_reply (result_by m.linear.size nothing past_type past g)) (ends nothing past_type past g.answer g.report)
  growth_end true past_type past g before after same within more room is left = unchanged _ (ends true past_type past g.answer g.report) refl is
  growth_end false true past g before after same within more room is left = unchanged _ (ends false true past g.answer g.report) (ap (λ (r : Reply). (as_it_was, r)) (sym (reported_seen g.report))) is
  growth_end false false past g before after same within more room is left = answer_end before after same past within more room g.answer g.failure g.report is left

  -- Past all that a region can have it ends as one past the memory's room: its pages fail, by the size of the region.
  module _ (before after : MakerTold) (past : most_now m.linear < size) (small : size < 2 ^ 64) where
    over_end : (failure : Option GrowError) (report : Result (Unit {0}) LimiterError) → PagesLeave failure size m.linear new → MakerLeft failure size m.linear new (Some before) (Some after) → EndsMade (growth_reply (pages_result m.linear.size failure report)) (ends false false true (Ok true) report)
    over_end failure report is left =
        let Ends : Option GrowError → Type 0 = λ f. PagesLeave f size m.linear new → EndsMade (growth_reply (pages_result m.linear.size f report)) (ends false false true (Ok true) report) in
        let over : failure ≡ Some failed.Overflow = (overflows size m.linear new held.addresses before after failure past small left).0 in
        let here : m.linear.capacity < size = past_capacity size m.linear.capacity (layout_in m.linear.storage) held.addresses past small in
        subst Ends (sym over) (λ fails. unchanged _ (ends false false true (Ok true) report) (ap (λ (r : Reply). (as_it_was, r)) (sym (reported_seen report))) (fails.stays here)) is

    over_answer : (answer : Result Bool LimiterError) (failure : Option GrowError) (report : Result (Unit {0}) LimiterError) → AnswerLeaves false answer failure size m.linear new
        → AnswerMakes (Some after ≡ Some before) (MakerLeft None size m.linear new (Some before) (Some after)) (λ e. MakerLeft (Some e) size m.linear new (Some before) (Some after)) false answer failure
        → EndsMade (growth_reply (answer_result m.linear.size false answer failure report)) (ends false false true answer report)
    over_answer (Err e) failure report is left = unchanged _ (ends false false true (Err e) report) refl is
    over_answer (Ok false) failure report is left = unchanged _ (ends false false true (Ok false) report) refl is
    over_answer (Ok true) None report is left = over_end None report is left
    over_answer (Ok true) (Some e) report is left = over_end (Some e) report is left

    over_growth : (nothing past_type : Bool) (g : GrowthGiven) → LeavesBy nothing past_type false g size m.linear new → Makes size m.linear new before after nothing past_type false g → EndsMade (growth_reply (result_by m.linear.size nothing past_type false g)) (ends nothing past_type true g.answer g.report)
    over_growth true past_type g is left = unchanged _ (ends true past_type true g.answer g.report) refl is
    over_growth false true g is left = unchanged _ (ends false true true g.answer g.report) (ap (λ (r : Reply). (as_it_was, r)) (sym (reported_seen g.report))) is
    over_growth false false g is left = over_answer g.answer g.failure g.report is left

  -- It ends by what the party sees of its room.
  seen_end : (nothing past_type past sees : Bool) (g : GrowthGiven) (before after : MakerTold) → tells ≡ before.tells → (past ≡ false → m.may_move ≡ false → size ≤ m.linear.capacity) → m.linear.size ≤ size → size + page_size m.ty ≤ 2 ^ 64 → size < 2 ^ 64 → SeesRoom past sees (most_now m.linear) size
      → LeavesBy nothing past_type past g size m.linear new → Makes size m.linear new before after nothing past_type past g → EndsMade (growth_reply (result_by m.linear.size nothing past_type past g)) (ends nothing past_type sees g.answer g.report)
  seen_end nothing past_type past sees g before after same within more room small (inl seen) is left =
      let Ends : Bool → Type 0 = λ b. EndsMade (growth_reply (result_by m.linear.size nothing past_type past g)) (ends nothing past_type b g.answer g.report) in
      subst Ends seen (growth_end nothing past_type past g before after same within more room is left)
  seen_end nothing past_type past sees g before after same within more room small (inr over) is left =
      let Leaves : Bool → Type 0 = λ b. LeavesBy nothing past_type b g size m.linear new in
      let Left : Bool → Type 0 = λ b. Makes size m.linear new before after nothing past_type b g in
      let Ends : Bool → Bool → Type 0 = λ b c. EndsMade (growth_reply (result_by m.linear.size nothing past_type b g)) (ends nothing past_type c g.answer g.report) in
      subst (Ends past) (sym over.1.0) (subst (λ (b : Bool). Ends b true) (sym over.0) (over_growth before after over.1.1 small nothing past_type g (subst Leaves over.0 is) (subst Left over.0 left)))

page_some : (ty : MemoryType) → 0 < page_size ty
page_some ty = pow_pos ty.page_size_log2

pub grown_small : (tells : Bool) (pages : ℕ) (m : MemoryState) → IsHeld tells m → grown_size pages m < 2 ^ 64
grown_small tells pages m held = omega (arith, held.room, page_some m.ty)

-- A size is past the room of a memory and of what the party sees of it, or past neither; or it is past all that a region can
-- have for a memory that moves.
sees_moving : (past : Bool) (exceeding : Bool) (most size : ℕ) → nat_lt most size ≡ past → SeesRoom (exceeding || false) (exceeding || nat_lt most size) most size
sees_moving past true most size is = inl refl
sees_moving true false most size is = inr (refl, (is, ltb-true most size is))
sees_moving false false most size is = inl (sym is)

sees_by : (may_move exceeding : Bool) (most n size : ℕ) → SeesRoom (exceeding || (not may_move && nat_lt n size)) (exceeding || nat_lt (if may_move then most else n) size) most size
sees_by true exceeding most n size = sees_moving (nat_lt most size) exceeding most size refl
sees_by false exceeding most n size = inl refl

abbrev pub past_seen : Bool → ℕ → MemoryState → Bool
past_seen tells pages m = exceeds (maximum_asked m.ty) (grown_size pages m) || nat_lt (seen_made tells m).capacity (grown_size pages m)

pub sees_room : (tells : Bool) (pages : ℕ) (m : MemoryState) → SeesRoom (past_room (grown_size pages m) m) (past_seen tells pages m) (most_between (layout_in m.linear.storage)) (grown_size pages m)
sees_room tells pages m = sees_by m.may_move (exceeds (maximum_asked m.ty) (grown_size pages m)) (most_between (layout_in m.linear.storage)) m.linear.capacity (grown_size pages m)

within_room : (b e : Bool) (n size : ℕ) → (e || (not b && nat_lt n size)) ≡ false → b ≡ false → size ≤ n
within_room true e n size under is = absurd cc
within_room false e n size under is = ltb-false n size (right_of e (nat_lt n size) under)

-- So a memory grows by the rule that its limiter told, and holds on.
pub grows_made : (tells : Bool) (rule : GrowthRule) (pages : ℕ) (m new : MemoryState) (before after : MakerTold) (answer : Result (Option ℕ) GrowFault) → tells ≡ before.tells → IsHeld tells m → GrowsByRule rule pages m new before after answer
    → MovesOnDemand (grows pages) rule (seen_made tells m) (seen_made tells new) (growth_reply answer) × IsHeld tells new
grows_made tells rule pages m new before after answer same held is =
    let g : GrowthGiven = is.0 in
    let growth_is = is.4 in
    let size : ℕ = grown_size pages m in
    let most : Option ℕ = maximum_asked m.ty in
    let was : PrivateMemory = seen_made tells m in
    let nothing : Bool = pages == 0 in
    let past_type : Bool = not (allow_growth_to m.ty size) in
    let sees : Bool = past_seen tells pages m in
    let past : Bool = past_room size m in
    let fits : size + page_size m.ty ≤ 2 ^ 64 = omega (arith, held.room) in
    let more : m.linear.size ≤ size = omega (arith, held.room) in
    let end = seen_end tells size m new.linear held nothing past_type past sees g before after same (within_room m.may_move (exceeds most size) m.linear.capacity size) more fits (grown_small tells pages m held) (sees_room tells pages m) growth_is.linear is.5 in
    let replies : growth_reply answer ≡ growth_reply (result_by m.linear.size nothing past_type past g) = ap growth_reply growth_is.ruled.replies in
    let ruled : (fault : Bool) → ends tells size m new.linear held nothing past_type sees g.answer g.report fault ≡ growth rule fault pages was = λ fault. ended_by_rule rule is.1.rule pages was g.answer g.report fault is.3 growth_is.ruled.answer growth_is.ruled.report in
    let Seen : GrowthEnd × Reply → PrivateMemory × Reply = λ p. (left_of p.0 size was, p.1) in
    let now : seen_made tells new ≡ seen_made tells (record m { linear = new.linear }) = ap (seen_made tells) growth_is.memory in (
      elim end.0 [
        | inl ended ↦
            inl (ended.0, ap (λ (p : PrivateMemory). (p, growth_reply answer)) now ∙ ap (λ (r : Reply). (seen_made tells (record m { linear = new.linear }), r)) replies ∙ ended.1 ∙ ap Seen (ruled ended.0))
        | inr wanting ↦ inr (ap (λ (p : GrowthEnd × Reply). p.0) (sym (ruled false)) ∙ wanting.0, (replies ∙ wanting.1.0, now ∙ wanting.1.1))
      ],
      subst (IsHeld tells) (sym growth_is.memory) end.1,
    )

-- What is written into a part of a row is written into that part of it.
slice_put : (i size base : ℕ) (new xs : List ℕ) → length (slice_range xs base (base + size)) ≡ size → i + length new ≤ size → slice_range (put (base + i) new xs) base (base + size) ≡ put i new (slice_range xs base (base + size))
slice_put i size base new xs long within = same_lists _ _ (grind (arith, places, long)) (λ k d h. grind (arith, places, long))

contents_written : (i size base : ℕ) (new b : List ℕ) (o : Option Contents) → option_map (λ c. slice_range c.bytes base (base + size)) o ≡ Some b → length b ≡ size → i + length new ≤ size → option_map (λ c. slice_range c.bytes base (base + size)) (option_map (written (base + i) new) o) ≡ Some (put i new b)
contents_written i size base new b None told long within = absurd cc
contents_written i size base new b (Some c) told long within =
    let same : slice_range c.bytes base (base + size) ≡ b = cc in
    ap Some (slice_put i size base new c.bytes (ap length same ∙ long) within ∙ ap (put i new) same)

written_told : (i size : ℕ) (new b : List ℕ) (st : Storage) → first_bytes size st ≡ Some b → length b ≡ size → i + length new ≤ size → first_bytes size (storage_written i new st) ≡ Some (put i new b)
written_told i size new b (in_slot s) told long within = contents_written i size s.base.bytes new b s.region.contents told long within
written_told i size new b (stored len None) told long within = absurd cc
written_told i size new b (stored len (Some bytes)) told long within =
    let same : take size bytes ≡ b = cc in
    ap Some (take_put i size new bytes within ∙ ap (put i new) same)

pub put_long : (i n : ℕ) (new b : List ℕ) → length b ≡ n → i + length new ≤ n → length (put i new b) ≡ n
put_long i n new b long within = grind (arith, places, long)

-- A write, with its reply.
module _ (tells : Bool) (i : ℕ) (new : List ℕ) (m left : MemoryState) (held : IsHeld tells m) where
  written_seen : (yes : Bool) → tells ≡ yes → i + length new ≤ m.linear.size → seen_made tells (memory_written i new m) ≡ private_written i new (seen_made tells m)
  written_seen false untold within =
      let Seen : Bool → Type 0 = λ b. seen_made b (memory_written i new m) ≡ private_written i new (seen_made b m) in
      subst Seen (sym untold) (ap (λ (o : Option Layout). seen_as_parts m m.linear.size (if m.may_move then most_between o else m.linear.capacity) None) (written_layout i new m.linear.storage))
  written_seen true say within =
      let Seen : Bool → Type 0 = λ b. seen_made b (memory_written i new m) ≡ private_written i new (seen_made b m) in
      let t = held.told say in
      let bytes : linear_bytes (memory_written i new m).linear ≡ option_map (put i new) (linear_bytes m.linear) = written_told i m.linear.size new t.0 m.linear.storage t.1.0 t.1.1 within ∙ ap (option_map (put i new)) (sym t.1.0) in
      subst Seen (sym say)
      (
      ap (λ (o : Option Layout). seen_as_parts m m.linear.size (if m.may_move then most_between o else m.linear.capacity) (linear_bytes (memory_written i new m).linear)) (written_layout i new m.linear.storage)
      ∙ ap (seen_as_parts m m.linear.size (if m.may_move then most_between (layout_in m.linear.storage) else m.linear.capacity)) bytes
      )

  written_held : i + length new ≤ m.linear.size → IsHeld tells (memory_written i new m)
  written_held within = record {
    room = held.room;
    addresses = subst (HasAddresses m.linear.capacity) (sym (written_layout i new m.linear.storage)) held.addresses;
    told = λ say. let t = held.told say in (put i new t.0, (written_told i m.linear.size new t.0 m.linear.storage t.1.0 t.1.1 within, put_long i m.linear.size new t.0 t.1.1 within));
  }

  abbrev answered : Bool → Result (Unit {0}) Trap
  answered b = if b then Ok tt else Err MemoryOutOfBounds

  writes_by : (b : Bool) (result : Result (Unit {0}) Trap) → nat_le (i + length new) m.linear.size ≡ b → result ≡ answered b → OnOk result (left ≡ memory_written i new m) → OnErr result (left ≡ m) → Writes i new (seen_made tells m) (seen_made tells left) (write_reply result) × IsHeld tells left
  writes_by true result fits answer done same =
      let On : Result (Unit {0}) Trap → Type 0 = λ r. OnOk r (left ≡ memory_written i new m) in
      let is : left ≡ memory_written i new m = subst On answer done in
      let within : i + length new ≤ m.linear.size = leb-true (i + length new) m.linear.size fits in
      let Gives : Result (Unit {0}) Trap → Type 0 = λ r. Writes i new (seen_made tells m) (seen_made tells left) (write_reply r) in
      (subst Gives (sym answer) (within, ap (seen_made tells) is ∙ written_seen tells refl within), subst (IsHeld tells) (sym is) (written_held within))
  writes_by false result fits answer done same =
      let On : Result (Unit {0}) Trap → Type 0 = λ r. OnErr r (left ≡ m) in
      let is : left ≡ m = subst On answer same in
      let Gives : Result (Unit {0}) Trap → Type 0 = λ r. Writes i new (seen_made tells m) (seen_made tells left) (write_reply r) in
      (subst Gives (sym answer) (refl, grind (arith, nat_tests, fits), ap (seen_made tells) is), subst (IsHeld tells) (sym is) held)

  pub writes_made : (result : Result (Unit {0}) Trap) → result ≡ access_answer (i + length new) m.linear.size → OnOk result (left ≡ memory_written i new m) → OnErr result (left ≡ m) → Writes i new (seen_made tells m) (seen_made tells left) (write_reply result) × IsHeld tells left
  writes_made result answer done same = writes_by (nat_le (i + length new) m.linear.size) result refl answer done same

-- A read is one of what the party sees.
pub read_made : (tells : Bool) (m : MemoryState) (i len : ℕ) (reply : Reply) → IsRead (seen_as 0 m) i len reply → IsRead (seen_made tells m) i len reply
read_made true m i len (Bytes bytes) is = is
read_made false m i len (Bytes bytes) is = (is.0, is.1, tt)
read_made tells m i len (trapped trap) is = is
read_made tells m i len (Refused refusal) is = is
read_made tells m i len _ is = absurd is
