-- How far the parties are: how many calls began, whether one is under way, and at most how many turns it still takes.
use Rattle.std.specs.Prelude.{◌≡◌, ◌≢◌, ℕ, ◌+◌, ◌<◌, ◌≤◌, List, length, slice_get, slice_index_or, nat_lt, ◌&&◌, Bool, true, false, not, Option, Some, None}
use Rattle.pool_run.specs.Imports.{one_if, bound_of, steps_left, is_idle, PoolCore, Grant, ModuleAsked, PlainHeap}
use Rattle.pool_alloc.specs.declared.frame.Call.TheVariants as call
use Rattle.pool_run.specs.Folds.{RunState, IsUnderWay}
use Rattle.pool_run.specs.RunsMade.{Background, commands_in}
use Rattle.pool_run.specs.Worlds.{NameModules}
use Rattle.pool_run.specs.Acts.{Act, requests, on_memory, on_table, drops, purges, releases, act_of, an_instance, a_component, a_stack, a_heap, heap_type}
use Rattle.pool_run.specs.declared.command.Command.{Command}
use Rattle.pool_run.specs.declared.input.Party.{Party}
use Rattle.pool_run.specs.declared.running_party.RunningParty.{RunningParty}

module _ {P : Type 0} where
  -- the party's call is under way
  abbrev pub is_busy : Option (RunningParty P) → Bool
  is_busy None = false
  is_busy (Some p) = not (is_idle p.frame.phase)

  -- how many of its commands have their replies
  abbrev pub commands_done : Option (RunningParty P) → ℕ
  commands_done None = 0
  commands_done (Some p) = p.done

  -- How many calls it began, where a command that ends with its first step counts as one: that which drew its stripe,
  -- those of the commands that have their replies, and the one under way.
  abbrev pub begun_by : RunningParty P → ℕ
  begun_by p = p.done + one_if p.keyed + one_if (not (is_idle p.frame.phase))

  -- How many calls a party began; none where there is no such party.
  abbrev pub calls_begun : Option (RunningParty P) → ℕ
  calls_begun None = 0
  calls_begun (Some p) = begun_by p

  -- its next turn begins one, where it has so many commands
  abbrev pub begins_by : ℕ → RunningParty P → Bool
  begins_by count p = is_idle p.frame.phase && nat_lt p.done count

  -- The next turn of a party begins a call.
  abbrev pub begins_call : ℕ → Option (RunningParty P) → Bool
  begins_call count None = false
  begins_call count (Some p) = begins_by count p

  -- at most how many turns its call still takes
  abbrev pub turns_left : PoolCore P PlainHeap → Option (RunningParty P) → ℕ
  turns_left c None = 0
  turns_left c (Some p) = steps_left c p.frame

  -- At most how many turns a request for an instance takes, by the sizes of the pool and of the module; one where there
  -- is no such module.
  abbrev pub bound_asked : PoolCore P PlainHeap → Option ModuleAsked → ℕ
  bound_asked c None = 1
  bound_asked c (Some m) = bound_of c (call.Module m)

  -- At most how many turns the give-back of a grant takes.
  abbrev pub bound_returned : PoolCore P PlainHeap → Option (Grant P PlainHeap) → ℕ
  bound_returned c None = 1
  bound_returned c (Some grant) = bound_of c (call.GiveBack grant)

  -- At most how many turns the call takes that an act begins; an operation on bytes or elements takes one.
  abbrev pub bound_begun : List ModuleAsked → Act → PoolCore P PlainHeap → RunningParty P → ℕ
  bound_begun modules (requests (an_instance number)) c p = bound_asked c (slice_get modules number)
  bound_begun modules (requests (a_component info)) c p = bound_of c (call.Component info)
  bound_begun modules (requests a_stack) c p = bound_of c call.Stack
  bound_begun modules (requests (a_heap limits)) c p = bound_of c (call.Heap (heap_type limits))
  bound_begun modules (on_memory of k op) c p = 1
  bound_begun modules (on_table of k op) c p = 1
  bound_begun modules (drops of) c p = bound_returned c (slice_index_or p.live of None)
  bound_begun modules (purges number) c p = bound_of c (call.Purge (record { 0 = number }))
  bound_begun modules releases c p = bound_of c call.Release

  -- At most how many turns a party's next call takes, by whether its stripe is drawn already, which takes one turn.
  abbrev pub bound_keyed : Bool → List ModuleAsked → Option Command → PoolCore P PlainHeap → RunningParty P → ℕ
  bound_keyed false modules next c p = 1
  bound_keyed true modules None c p = 1
  bound_keyed true modules (Some command) c p = bound_begun modules (act_of command) c p

  -- At most how many turns the next call of this party takes.
  abbrev pub bound_by : List ModuleAsked → List Command → PoolCore P PlainHeap → RunningParty P → ℕ
  bound_by modules commands c p = bound_keyed p.keyed modules (slice_get commands p.done) c p

  -- At most how many turns the next call of a party takes.
  abbrev pub bound_next : List ModuleAsked → List Command → PoolCore P PlainHeap → Option (RunningParty P) → ℕ
  bound_next modules commands c None = 1
  bound_next modules commands c (Some p) = bound_by modules commands c p

  -- A turn of party i, which has these commands, takes its call further, or begins its next. As it takes the calls of the
  -- others neither further nor back, a call takes no more turns than its bound, whatever turns of others lie between.
  pub record Advances (modules : List ModuleAsked) (commands : List Command) (i : ℕ) (s new : RunState P) : Type 0 where
    pub fewer : is_busy (slice_get s.parties i) ≡ true → turns_left new.core (slice_get new.parties i) + 1 ≤ turns_left s.core (slice_get s.parties i)
    pub bounded : is_busy (slice_get s.parties i) ≡ false → turns_left new.core (slice_get new.parties i) + 1 ≤ bound_next modules commands s.core (slice_get s.parties i)
    pub begun : calls_begun (slice_get new.parties i) ≡ calls_begun (slice_get s.parties i) + one_if (begins_call (length commands) (slice_get s.parties i))
    pub others : (k : ℕ) → k ≢ i → turns_left new.core (slice_get new.parties k) ≡ turns_left s.core (slice_get s.parties k)

  -- The run is under way, and is one of these parties, whose commands name modules that are there.
  pub record IsRunOf (of : Background) (given : List Party) (s : RunState P) : Type 0 where
    pub way : IsUnderWay of.world of.modules of.inputs s
    pub inputs : of.inputs ≡ commands_in given
    pub parties : length s.parties ≡ length given
    pub named : (i : ℕ) (d : Party) → i < length given → NameModules (length of.modules) (slice_index_or given i d).commands
