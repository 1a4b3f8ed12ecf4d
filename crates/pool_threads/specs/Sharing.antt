-- The parties of an input that share a pool, each on a thread of its own: which is which, and what they all rely on.
use Rattle.std.specs.Prelude.{◌≡◌, ℕ, List, [], length, slice_index_or, true, false, None}
use Rattle.pool_pages.specs.MakerTold.{MakerTold}
use Rattle.pool_hall.specs.declared.hall.Hall.{Hall}
use Rattle.pool_hall.specs.declared.view.View.{View}
use Rattle.pool_slots.specs.declared.listed_heaps.PlainHeap.{PlainHeap}
use Rattle.pool_slots.specs.declared.plan.Plan.{Plan}
use Rattle.pool_alloc.specs.PlainModules.{ModuleAsked}
use Rattle.pool_driver.specs.Pools.{IsSharedOf}
use Rattle.pool_driver.specs.declared.part.HallPart.{HallPart}
use Rattle.pool_driver.specs.declared.shared_pool.SharedPool.{SharedPool}
use Rattle.pool_callers.specs.Callers.{about_shared}
use Rattle.pool_run.specs.PartyRules.{host_for}
use Rattle.pool_run.specs.Rooms.{World, in_stripe, under}
use Rattle.pool_run.specs.Runs.{world_of}
use Rattle.pool_run.specs.Validity.{is_valid}
use Rattle.pool_run.specs.Worlds.{AreCallsFor}
use Rattle.pool_run.specs.declared.input.Input.{Input}
use Rattle.pool_run.specs.declared.input.Party.{Party}
use Rattle.pool_run.specs.declared.reply.Reply.{Reply}
use Rattle.pool_threads.specs.Asked.{asked, faulted, refused}
use Rattle.pool_threads.specs.Noted.{Notes}
use Rattle.pool_threads.specs.Working.{IsJob, Job, about_job}

-- A party that no input has.
abbrev pub no_party : Party
no_party = record { home = 0; limits = None; gc_faults = []; heap_faults = []; commands = [] }

-- The party of an input with this number.
abbrev pub party_in : Input → ℕ → Party
party_in input i = slice_index_or input.parties i no_party

-- The world of parties that share a pool: none is alone, and none knows what others have counted.
abbrev pub shared_world : Input → MakerTold → World
shared_world input maker = record (world_of input maker) { alone = false; counts = false }

-- That world as one of the parties sees it, in its stripe and with its host.
abbrev pub party_world : Job → Party → ℕ → World
party_world j given stripe = in_stripe stripe (under (host_for given) j.world)

-- What a party's seat has noted of its commands, which had these replies.
abbrev pub NotesOf : {T : Type 0} → Plan → List ModuleAsked → Party → ℕ → List Reply → View T → View T → Type 0
NotesOf plan modules given stripe replies base v = Notes plan given.home stripe (λ k. asked k modules given.commands replies) (λ k. refused k given.commands replies) (faulted given.commands replies) base v

-- Of a pool that callers share, by what its maker of regions tells
module _ {P M : Type 0} (told : M → MakerTold) where
  -- What the parties of an input work on there.
  abbrev pub job_of : Input → SharedPool (Hall (HallPart P PlainHeap M)) → Job
  job_of input pool = record { world = shared_world input (about_shared told pool).maker; settings = pool.settings; plan = pool.plan }

  -- What all parties of an input rely on: the input is valid, the pool is one for it, and there is a call for each of its modules.
  pub record IsGround (input : Input) (modules : List ModuleAsked) (pool : SharedPool (Hall (HallPart P PlainHeap M))) : Type 0 where
    pub valid : is_valid input ≡ true
    pub shared : IsSharedOf told (about_job (job_of input pool)) pool
    pub job : IsJob P (job_of input pool)
    pub calls : AreCallsFor (job_of input pool).world.terms pool.settings modules
    pub count : length modules ≡ length input.modules
