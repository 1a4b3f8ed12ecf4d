-- What a step may be told: how its page calls on what the party holds end, and what they leave.
use Rattle.std.specs.Prelude.{◌≡◌, ◌⊎◌, ℕ, List, [], ◌∷◌, Bool, true, false, not, Option, IfSome, option_map, Result}
use Rattle.pool_alloc.specs.Imports.{rounded_up, minimum_byte_size, MemoryDecl, Zero, Image, Follows, resizing, replacing, wiping, resetting, told_by_hand, given_marks, TellsMarks, removing, Slot, IsClean, IsLeft, IsBegun, IsSized, HasImage, wiped, reused, replaced, name_of, hides, CallFaulted, called, without_image, memory_answer, Exchange, may_grow, LimiterTold, after_answer, HeapsTold, LimiterError, minimum_asked, maximum_asked, minimum_question, CanHold, Queue, LeavesClean, after_run, first_slot, IsFaulted, run_of, AreInOrder, slot_of, making_question, decommitting, ImageSlot, Unmapped, Unknown, PreviouslyUsed, Taken}
use Rattle.pool_alloc.specs.PartyTold.{MakesHeap}
use Rattle.pool_alloc.specs.TableSteps.{AsksForTable}
use Rattle.pool_alloc.specs.Modules.{IfAllocated, IfTable}
use Rattle.pool_alloc.specs.Leases.{slot_taken}
use Rattle.pool_alloc.specs.MemorySteps.{slot_ended, reset_listed}
use Rattle.pool_alloc.specs.StepReads.{StepGiven, image_wanted}
use Rattle.pool_alloc.specs.StepTable.{FlushStep, run, flush_step}
use Rattle.pool_alloc.specs.declared.pool_core.Settings.{Settings}
use Rattle.pool_alloc.specs.declared.frame.Frame.{Frame}
use Rattle.pool_alloc.specs.declared.frame.Phase.{Phase}
use Rattle.pool_alloc.specs.declared.frame.Object.{Object}
use Rattle.pool_alloc.specs.declared.frame.Object.TheVariants.{Memory, Table}
use Rattle.pool_alloc.specs.declared.frame.TakenSlot.{TakenSlot}
use Rattle.pool_alloc.specs.declared.frame.Phase.TheVariants.{Empty, Instantiate, MakeMemory, MakeTable, MakeHeap, Reset, Flush, Purge, Release}
use Rattle.pool_alloc.specs.declared.purge.PurgeStep.{PurgeStep}
use Rattle.pool_alloc.specs.declared.purge.PurgeStep.TheVariants as purging_step
use Rattle.pool_alloc.specs.declared.release.ReleaseStep.{ReleaseStep}
use Rattle.pool_alloc.specs.declared.release.ReleaseStep.TheVariants as releasing_step

-- a slot is emptied, and clean then, or a call on its region failed
abbrev pub Empties : Bool → Slot → Slot → Type 0
Empties true old new = IsLeft old new
Empties false old new = (new ≡ wiped old) × IsClean new

-- A slot that was in use is reset, and is clean once what that leaves is decommitted, or a call on its region failed. None
-- does where pages go back to a mapped image.
abbrev pub Resets : Bool → Bool → ℕ → TakenSlot → Slot → Slot → Type 0
Resets true offered keep at old new = (old.region.behaviour ≡ Zero) × IsLeft old new
Resets false offered keep at old new = (new ≡ (slot_ended offered keep at old).slot) × LeavesClean (reset_listed offered keep at.name.slot old) (slot_ended offered keep at old)

-- What is so of an instantiation where the slot has the wanted image already, or what where it hasn't. Where its pages
-- aren't told it is one of both.
pub record ByImage (image : Option Image) (old : Slot) (Has Hasnt : Type 0) : Type 0 where
  pub either : Has ⊎ Hasnt
  pub has : IfSome old.region.contents (λ c. HasImage old image c → Has)
  pub hasnt : IfSome old.region.contents (λ c. (HasImage old image c → ⊥) → Hasnt)

-- The slot is instantiated: in use, with so much accessible, and its first bytes are the image and zeros. An image that
-- it has already isn't mapped again.
pub record IsInstantiated (initial : ℕ) (hide : Bool) (image : Option Image) (old new : Slot) : Type 0 where
  pub begun : IsBegun image new
  pub holds : CanHold initial new
  pub sizes : IsSized initial hide old new
  pub named : new.image ≡ option_map name_of image
  pub slot : ByImage image old (new ≡ reused (rounded_up old.region.page initial) hide old) (new ≡ replaced (rounded_up old.region.page initial) hide image old)

-- The slot is instantiated, or a call on its region failed and left it as faults do.
abbrev pub InstantiatesAs : Bool → ℕ → Bool → Option Image → Slot → Slot → Type 0
InstantiatesAs true initial hide image old new = IsLeft old new
InstantiatesAs false initial hide image old new = IsInstantiated initial hide image old new

-- the slot is instantiated for a memory, or a call on its region failed
abbrev pub InstantiatesFor : Settings → MemoryDecl → Bool → Option Image → Slot → Slot → Type 0
InstantiatesFor s decl fault image old new = InstantiatesAs fault (minimum_byte_size decl.ty) (hides decl.ty s.tunables old.region.page) image old new

-- The limiter is asked for a memory: it answers by its rule where it tells one, and counts what it doesn't grant.
pub record AsksForMemory (given : Result Bool LimiterError) (old new : LimiterTold) (decl : MemoryDecl) : Type 0 where
  pub answer : given ≡ memory_answer old.rule given (minimum_asked decl.ty) (maximum_asked decl.ty)
  pub left : new ≡ after_answer given old

-- the next ranges of one slot are decommitted, or a decommit failed
abbrev pub Decommits : Bool → Queue → Queue → Type 0
Decommits true old new = IsFaulted old new
Decommits false old new = new ≡ after_run old

-- The page calls of an instantiation: those that a slot with the wanted image needs, or those that another one does.
-- Where the region tells its plan, they were made in their order, and ended so.
abbrev pub FollowsPlan : ℕ → Bool → Option Image → Bool → Slot → Slot → Type 0
FollowsPlan initial hide image fault old new =
    ByImage image old
    (Follows (resizing (rounded_up old.region.page initial) hide old) (not fault) old.region new.region)
    (Follows (replacing (rounded_up old.region.page initial) hide image old) (not fault) old.region new.region)

-- The page calls of an instantiation for a memory of the module, by its minimum and the settings.
abbrev pub FollowsPlanFor : Settings → MemoryDecl → Bool → Option Image → Slot → Slot → Type 0
FollowsPlanFor s decl fault image old new = FollowsPlan (minimum_byte_size decl.ty) (hides decl.ty s.tunables old.region.page) image fault old new

-- The page calls of a memory's reset, in their order and as the region's plan ends them.
abbrev pub FollowsReset : Bool → ℕ → Bool → Slot → Slot → Type 0
FollowsReset offered keep fault old new = Follows (resetting old.region.behaviour old) (not fault) (told_by_hand (given_marks offered old) old.region.behaviour keep old) new.region

-- The decommits of the next ranges of one slot, in their order and as the region's plan ends them.
abbrev pub FollowsRun : Bool → Queue → Queue → Type 0
FollowsRun fault old new = AreInOrder (first_slot old.ranges) (run_of (first_slot old.ranges) old.ranges) (not fault) old.slots new.slots

-- What a step of a flush may be told: how the decommits of a run ended; the other steps are told nothing.
abbrev pub FlushTold : {H : Type 0} → FlushStep → StepGiven H → Queue → Type 0
FlushTold run g local = Decommits g.fault local g.queue
FlushTold _ g local = Unit {0}

-- The page calls of a step of a flush: the decommits of a run in order; the other steps make none.
abbrev pub FlushPlanned : {H : Type 0} → FlushStep → StepGiven H → Queue → Type 0
FlushPlanned run g local = FollowsRun g.fault local g.queue
FlushPlanned _ g local = Unit {0}

-- a slot's image is removed, and the slot is clean then, or a call on its region failed
abbrev pub RemovesImage : Bool → Slot → Slot → Type 0
RemovesImage true old new = IsLeft old new
RemovesImage false old new = (new ≡ without_image old) × IsClean new

-- the whole region of a slot is decommitted, or the call failed
abbrev pub DecommitsWhole : Settings → Bool → Slot → Slot → Type 0
DecommitsWhole s true old new = CallFaulted (decommitting old.base.bytes s.max_memory_size) old new
DecommitsWhole s false old new = new ≡ called (decommitting old.base.bytes s.max_memory_size) old

module _ {P : Type 0} where
  -- A slot is forgotten: one of which nothing is known is emptied, and else its image is removed.
  abbrev pub Forgets : Bool → ImageSlot P → Slot → Type 0
  Forgets fault (Unmapped region) new = fault ≡ false
  Forgets fault (Unknown old) new = Empties fault old new
  Forgets fault (PreviouslyUsed old) new = RemovesImage fault old new
  Forgets fault Taken new = fault ≡ false

  -- The page calls by which a slot is forgotten: those of a wipe or of the image's removal; none of a region never
  -- used.
  abbrev pub FollowsForget : Bool → ImageSlot P → Slot → Type 0
  FollowsForget fault (Unmapped region) new = Unit {0}
  FollowsForget fault (Unknown old) new = Follows (wiping old) (not fault) old.region new.region
  FollowsForget fault (PreviouslyUsed old) new = Follows (removing old) (not fault) old.region new.region
  FollowsForget fault Taken new = Unit {0}

  -- A slot's region is decommitted. A clean slot stays clean, also where the call failed.
  abbrev pub Drains : Settings → Bool → ImageSlot P → Slot → Type 0
  Drains s fault (Unmapped region) new = fault ≡ false
  Drains s fault (Unknown old) new = DecommitsWhole s fault old new
  Drains s fault (PreviouslyUsed old) new = DecommitsWhole s fault old new × IsClean new
  Drains s fault Taken new = fault ≡ false

  -- The page call by which a slot's region is decommitted whole; none of a region never used.
  abbrev pub FollowsDrain : Settings → Bool → ImageSlot P → Slot → Type 0
  FollowsDrain s fault (Unmapped region) new = Unit {0}
  FollowsDrain s fault (Unknown old) new = Follows (decommitting old.base.bytes s.max_memory_size ∷ []) (not fault) old.region new.region
  FollowsDrain s fault (PreviouslyUsed old) new = Follows (decommitting old.base.bytes s.max_memory_size ∷ []) (not fault) old.region new.region
  FollowsDrain s fault Taken new = Unit {0}

module _ {P H : Type 0} where
  -- What a step of a purge may be told: how the forgetting of a slot ended.
  abbrev pub PurgeTold : StepGiven H → PurgeStep P → Type 0
  PurgeTold g (purging_step.Forget at held) = Forgets g.fault held g.slot
  PurgeTold g _ = Unit {0}

  -- The page calls of a step of a purge, which only forgetting makes.
  abbrev pub PurgePlanned : StepGiven H → PurgeStep P → Type 0
  PurgePlanned g (purging_step.Forget at held) = FollowsForget g.fault held g.slot
  PurgePlanned g _ = Unit {0}

  -- What a step of a release may be told: how the decommit of a region ended.
  abbrev pub ReleaseTold : Settings → StepGiven H → ReleaseStep P → Type 0
  ReleaseTold s g (releasing_step.Decommit r k at held) = Drains s g.fault held g.slot
  ReleaseTold s g _ = Unit {0}

  -- The page calls of a step of a release, which only the decommit of a region makes.
  abbrev pub ReleasePlanned : Settings → StepGiven H → ReleaseStep P → Type 0
  ReleasePlanned s g (releasing_step.Decommit r k at held) = FollowsDrain s g.fault held g.slot
  ReleasePlanned s g _ = Unit {0}

  -- What the reset of an object may be told: how the page calls of a memory's reset ended, and of a table's region the dirty
  -- marks.
  abbrev pub ResetTold : Settings → StepGiven H → Object P → Type 0
  ResetTold s g (Memory lease) = Resets g.fault s.dirty_pages s.keep_resident.bytes (slot_taken lease) (slot_of lease.memory) g.slot
  ResetTold s g (Table lease) = IfSome lease.table.region TellsMarks
  ResetTold s g _ = Unit {0}

  -- The page calls of the reset of an object, which only a memory's makes.
  abbrev pub ResetPlanned : Settings → StepGiven H → Object P → Type 0
  ResetPlanned s g (Memory lease) = FollowsReset s.dirty_pages s.keep_resident.bytes g.fault (slot_of lease.memory) g.slot
  ResetPlanned s g _ = Unit {0}

  -- the given answers may come in this phase
  abbrev pub MayBeTold : Settings → StepGiven H → Phase P H → Frame P H → Type 0
  MayBeTold s g (Empty at held) f = Empties g.fault held g.slot
  MayBeTold s g (Instantiate at held) f = IfAllocated f (λ decl. InstantiatesFor s decl g.fault (image_wanted f) held g.slot)
  MayBeTold s g (Reset object) f = ResetTold s g object
  MayBeTold s g Flush f = FlushTold (flush_step f.local f.freed.items) g f.local
  MayBeTold s g (Purge p step) f = PurgeTold g step
  MayBeTold s g (Release step) f = ReleaseTold s g step
  MayBeTold s g _ f = Unit {0}

  -- what the step makes of the limiter: only the making of a memory or a table asks it
  abbrev pub AsksOf : LimiterTold → LimiterTold → StepGiven H → Phase P H → Frame P H → Type 0
  AsksOf old new g (MakeMemory at held) f = IfAllocated f (AsksForMemory g.limiter old new)
  AsksOf old new g (MakeTable at region) f = IfTable f (AsksForTable g.limiter old new)
  AsksOf old new g _ f = new ≡ old

  -- What a step asks of the maker of heaps, and its answer: only the making of a heap asks it.
  abbrev pub MakesOf : HeapsTold → HeapsTold → StepGiven H → Phase P H → Type 0
  MakesOf old new g (MakeHeap at) = MakesHeap g.heap old new
  MakesOf old new g _ = new ≡ old

  -- What passes between the step and the limiter, of which this is told: the making of a memory or a table asks it once,
  -- and no other step speaks to it.
  abbrev pub LimiterHears : (List Exchange → Type 0) → StepGiven H → Phase P H → Frame P H → Type 0
  LimiterHears Passes g (MakeMemory at held) f = IfAllocated f (λ decl. Passes (may_grow (minimum_question decl.ty) g.limiter ∷ []))
  LimiterHears Passes g (MakeTable at region) f = IfTable f (λ ty. Passes (may_grow (making_question ty) g.limiter ∷ []))
  LimiterHears Passes g _ f = Passes []

  -- A page call of the step failed exactly where the regions' plans say so, where they are told.
  abbrev pub IsPlanned : Settings → StepGiven H → Phase P H → Frame P H → Type 0
  IsPlanned s g (Empty at held) f = Follows (wiping held) (not g.fault) held.region g.slot.region
  IsPlanned s g (Instantiate at held) f = IfAllocated f (λ decl. FollowsPlanFor s decl g.fault (image_wanted f) held g.slot)
  IsPlanned s g (Reset object) f = ResetPlanned s g object
  IsPlanned s g Flush f = FlushPlanned (flush_step f.local f.freed.items) g f.local
  IsPlanned s g (Purge p step) f = PurgePlanned g step
  IsPlanned s g (Release step) f = ReleasePlanned s g step
  IsPlanned s g _ f = Unit {0}
