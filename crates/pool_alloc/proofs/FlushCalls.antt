-- A part of a flush that the code makes, as the row of a flush.
use Rattle.std.proofs.Common.{◌≡◌, ℕ, ◌<◌, ◌≤◌, Bool, true, false, List, [], length, refl, sym, ap, ◌∙◌, subst, arith, Option, Some, None, ◌==◌, is_some, if◌then◌else◌}
use Rattle.pool_alloc.proofs.Imports.{list_any, eq-eqb, ne_eqb, PoolPart, Plan, SlotKind, Queue, Queued, is_to_zero, first_of_kind, others_of_kind}
use Rattle.pool_alloc.specs.PageCallAnswers.{FlushTold, FlushPlanned}
use Rattle.pool_alloc.specs.CanStep.{CanPutNext}
use Rattle.pool_alloc.specs.OnParts.{CanFlushOn, CanPutOn, flush_on, put_on}
use Rattle.pool_alloc.specs.StepTable.{FlushStep, run, zero, put, free, some_queued, kind_settled, put_step, settled_step, flush_step, flush_row}
use Rattle.pool_alloc.specs.StepReads.{StepGiven}
use Rattle.pool_alloc.specs.StepsAlone.{CanFlushAlone}
use Rattle.pool_alloc.specs.Turns.{After, stepped}
use Rattle.pool_alloc.specs.declared.pool_core.PoolCore.{PoolCore}
use Rattle.pool_alloc.specs.declared.frame.Frame.{Frame}
use Rattle.pool_alloc.specs.declared.frame.FreedSlot.{FreedSlot}
use Rattle.pool_alloc.specs.declared.frame.Outcome.{Outcome}
use Rattle.pool_alloc.proofs.BeforeTheTurn.{empty_length}
use Rattle.pool_alloc.proofs.KindCounts.{none_others}

some_ranges : (n : ℕ) → 0 < n → (n == 0) ≡ false
some_ranges n some = ne_eqb n 0 (λ e. omega (arith, some, e))

no_ranges : (n : ℕ) → n ≤ 0 → (n == 0) ≡ true
no_ranges n none = eq-eqb n 0 (omega (arith, none))

-- which part it is
pub flush_runs : (local : Queue) (freed : List FreedSlot) → 0 < length local.ranges → flush_step local freed ≡ run
flush_runs local freed some = rw (some_ranges (length local.ranges) some) refl

pub flush_settles : (local : Queue) (freed : List FreedSlot) → length local.ranges ≤ 0 → flush_step local freed ≡ settled_step (kind_settled local.slots freed) local.slots
flush_settles local freed none = rw (no_ranges (length local.ranges) none) refl

pub puts_some : (kind : SlotKind) (slots : List Queued) (m : Queued) → first_of_kind kind slots ≡ Some m → put_step kind slots ≡ put kind
puts_some kind slots m is = let some : some_queued kind slots ≡ true = ap (λ (o : Option Queued). is_some o) is in rw some refl

pub puts_none : (kind : SlotKind) (slots : List Queued) → first_of_kind kind slots ≡ None → put_step kind slots ≡ free
puts_none kind slots is = let none : some_queued kind slots ≡ false = ap (λ (o : Option Queued). is_some o) is in rw none refl

-- The queue stays where there is no slot of a kind.
pub popped_none : (kind : SlotKind) (q l : Queue) → l ≡ record q { slots = others_of_kind kind q.slots } → first_of_kind kind q.slots ≡ None → l ≡ q
popped_none kind q l is none = is ∙ ap (λ (ms : List Queued). record q { slots = ms }) (none_others kind q.slots none)

module _ {P H : Type 0} where
  -- What the code does where no part is changed is the part of a flush that is next.
  abbrev pub FlushesTo : FlushStep → Frame P H → Frame P H → Option (Outcome P H) → Type 0
  FlushesTo step f next o = (g : StepGiven H) × FlushTold step g f.local × FlushPlanned step g f.local × ((c : PoolCore P H) → ◌≡◌ {A = After P H} (record { core = c; frame = next; outcome = o }) (stepped (flush_row step g.queue c f)))

  pub flushes_to : (step : FlushStep) (f next : Frame P H) (o : Option (Outcome P H)) → flush_step f.local f.freed.items ≡ step → FlushesTo step f next o → FlushesTo (flush_step f.local f.freed.items) f next o
  flushes_to step f next o is so = let F : FlushStep → Type 0 = λ x. FlushesTo x f next o in subst F (sym is) so

  zeroes_by : (a b : Bool) (kind : SlotKind) (f : Frame P H) → CanFlushAlone (if a then zero kind else (if b then put kind else free)) f → ((if a then zero kind else (if b then put kind else free)) ≡ zero kind) × (f.local.ranges ≡ [])
  zeroes_by true b kind f can = (refl, can)
  zeroes_by false true kind f can = absurd can
  zeroes_by false false kind f can = absurd can

  -- where no ranges are left, and no part is changed, a slot is zeroed
  pub flush_zeroes : (f : Frame P H) → length f.local.ranges ≤ 0 → CanFlushAlone (flush_step f.local f.freed.items) f → (flush_step f.local f.freed.items ≡ zero (kind_settled f.local.slots f.freed.items)) × (f.local.ranges ≡ [])
  flush_zeroes f none can =
      let kind : SlotKind = kind_settled f.local.slots f.freed.items in
      let settles : flush_step f.local f.freed.items ≡ settled_step kind f.local.slots = flush_settles f.local f.freed.items none in
      let A : FlushStep → Type 0 = λ x. CanFlushAlone x f in
      let is = zeroes_by (list_any (is_to_zero kind) f.local.slots) (some_queued kind f.local.slots) kind f (subst A settles can) in
      (settles ∙ is.0, is.1)

  -- Where a part is changed, no ranges are left and none is to be zeroed.
  pub record Puts (f : Frame P H) : Type 0 where
    pub none : f.local.ranges ≡ []
    pub is : flush_step f.local f.freed.items ≡ put_step (kind_settled f.local.slots f.freed.items) f.local.slots

  puts_by : (a : Bool) (kind : SlotKind) (later : FlushStep) (plan : Plan) (x : PoolPart P H) (f : Frame P H) → CanFlushOn plan (if a then zero kind else later) x f → (if a then zero kind else later) ≡ later
  puts_by true kind later plan x f can = absurd can
  puts_by false kind later plan x f can = refl

  settled_by : (b : Bool) (kind : SlotKind) (plan : Plan) (x : PoolPart P H) (f : Frame P H) → (length f.local.ranges == 0) ≡ b → CanFlushOn plan (if b then settled_step kind f.local.slots else run) x f → (f.local.ranges ≡ []) × ((if b then settled_step kind f.local.slots else run) ≡ put_step kind f.local.slots)
  settled_by true kind plan x f none can = (empty_length f.local.ranges none, puts_by (list_any (is_to_zero kind) f.local.slots) kind (put_step kind f.local.slots) plan x f can)
  settled_by false kind plan x f some can = absurd can

  pub flush_puts : (plan : Plan) (x : PoolPart P H) (f : Frame P H) → CanFlushOn plan (flush_step f.local f.freed.items) x f → Puts f
  flush_puts plan x f can =
      let is = settled_by (length f.local.ranges == 0) (kind_settled f.local.slots f.freed.items) plan x f refl can in
      record { none = is.0; is = is.1 }

  -- So the first slot of its kind is put back,
  pub record PutsBack (plan : Plan) (x : PoolPart P H) (f : Frame P H) (m : Queued) : Type 0 where
    pub on : CanPutOn (Some m) x
    pub next : CanPutNext f.local f.freed
    pub row : flush_on plan (flush_step f.local f.freed.items) x f ≡ put_on (Some m) (others_of_kind (kind_settled f.local.slots f.freed.items) f.local.slots) x f

  pub puts_back : (plan : Plan) (x : PoolPart P H) (f : Frame P H) (m : Queued) → CanFlushOn plan (flush_step f.local f.freed.items) x f → first_of_kind (kind_settled f.local.slots f.freed.items) f.local.slots ≡ Some m → PutsBack plan x f m
  puts_back plan x f m can first =
      let kind : SlotKind = kind_settled f.local.slots f.freed.items in
      let is : flush_step f.local f.freed.items ≡ put kind = (flush_puts plan x f can).is ∙ puts_some kind f.local.slots m first in
      let C : FlushStep → Type 0 = λ s. CanFlushOn plan s x f in
      let now : CanFlushOn plan (put kind) x f = subst C is can in
      let O : Option Queued → Type 0 = λ o. CanPutOn o x in
      record {
        on = subst O first now.0;
        next = now.1;
        row = ap (λ (s : FlushStep). flush_on plan s x f) is ∙ ap (λ (o : Option Queued). put_on o (others_of_kind kind f.local.slots) x f) first;
      }

  -- or where none is queued, slots are freed.
  pub record FreesOn (plan : Plan) (x : PoolPart P H) (f : Frame P H) : Type 0 where
    pub can : CanFlushOn plan free x f
    pub row : flush_on plan (flush_step f.local f.freed.items) x f ≡ flush_on plan free x f

  pub frees_on : (plan : Plan) (x : PoolPart P H) (f : Frame P H) → CanFlushOn plan (flush_step f.local f.freed.items) x f → first_of_kind (kind_settled f.local.slots f.freed.items) f.local.slots ≡ None → FreesOn plan x f
  frees_on plan x f can first =
      let kind : SlotKind = kind_settled f.local.slots f.freed.items in
      let is : flush_step f.local f.freed.items ≡ free = (flush_puts plan x f can).is ∙ puts_none kind f.local.slots first in
      let C : FlushStep → Type 0 = λ s. CanFlushOn plan s x f in
      record { can = subst C is can; row = ap (λ (s : FlushStep). flush_on plan s x f) is }
