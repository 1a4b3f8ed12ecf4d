-- What a turn leaves is sound where what its calls leave is.
use Rattle.std.proofs.Common.{◌≡◌, ℕ, zero, suc, List, Option, Some, None, sym, subst, All, IfSome, slice_get, slice_index_or}
use Rattle.pool_run.proofs.Imports.{All-set, All-get_or, slice_get_within, get_or_from_slice_get, MakerTold, Asked, PartyTold, IsStackLease, LeasedStack, IsIdle, IsGrant, IsGrantOf, IfGranted, Lease, IsTableLease, LeasedTable, IsCore, IsFrame, IsShapedAt, IsLeaseOf, After, PoolCore, Settings, Frame, Phase, Grant, instance, component, one_memory, one_table, stack, heap, heap_over, Outcome, InstanceLease, at_rest, held_of, frame_of, Plan, PlainHeap, IsSameSize}
use Rattle.pool_alloc.specs.declared.frame.Outcome.TheVariants as answer
use Rattle.pool_run.specs.Turns.{Turned, leases_named, tables_named, stack_of, one_step, ended_at_once, answered, after_step}
use Rattle.pool_run.specs.Ties.{IsSoundParty}
use Rattle.pool_run.specs.declared.reply.Reply.{Reply}
use Rattle.pool_run.specs.declared.running_party.RunningParty.{RunningParty}
use Rattle.pool_run.proofs.Parties.{live_grant}
use Rattle.pool_run.proofs.Stepped.{IsStepped}

module _ {P : Type 0} where
  -- what a turn leaves is sound
  pub record IsSoundTurn (maker : MakerTold) (t : Turned P) : Type 0 where
    pub core : IsCore maker t.core
    pub party : IsSoundParty maker t.core t.party

  -- A grant of as many memories as were asked for is one of the pool.
  -- what is so of the sizes of one pool is so of those of another of the same sizes
  pub over_size : (Q : Settings → Plan → Type 0) (c d : PoolCore P PlainHeap) → IsSameSize c d → Q c.settings c.plan → Q d.settings d.plan
  over_size Q c d size is = subst (Q d.settings) (sym size.plan) (subst (λ (s : Settings). Q s c.plan) (sym size.settings) is)

  granted_any : (maker : MakerTold) (s : Settings) (plan : Plan) (asked : Asked) (o : Option (Outcome P PlainHeap)) → IfGranted (IsGrantOf maker s plan asked) o → IfGranted (IsGrant maker s plan) o
  granted_any maker s plan asked None is = is
  granted_any maker s plan asked (Some answer.Key) is = is
  granted_any maker s plan asked (Some (answer.Granted (instance lease))) is = is.0
  granted_any maker s plan asked (Some (answer.Granted component)) is = is
  granted_any maker s plan asked (Some (answer.Granted (one_memory lease))) is = is.memory_is
  granted_any maker s plan asked (Some (answer.Granted (one_table lease))) is = is.table_is
  granted_any maker s plan asked (Some (answer.Granted (stack lease))) is = is.0
  granted_any maker s plan asked (Some (answer.Granted (heap lease memory))) is = (is.heap, is.memory_is)
  granted_any maker s plan asked (Some (answer.Granted (heap_over lease))) is = is.heap
  granted_any maker s plan asked (Some answer.Returned) is = is
  granted_any maker s plan asked (Some (answer.Purged n)) is = is
  granted_any maker s plan asked (Some (answer.Released n)) is = is
  granted_any maker s plan asked (Some (answer.Refused e)) is = is

  answered_sound : (maker : MakerTold) (c : PoolCore P PlainHeap) (p : RunningParty P) (d : PoolCore P PlainHeap) (f : Frame P PlainHeap) (o : Option (Outcome P PlainHeap)) → All (λ g. IfSome g (IsGrant maker d.settings d.plan)) p.live → IsCore maker d → IsFrame maker d.settings d.plan f → IfGranted (IsGrant maker d.settings d.plan) o → IsSoundTurn maker (answered o d (record p { frame = f }))
  answered_sound maker c p d f None live core frame granted = record { core = core; party = record { frame = frame; grants = live } }
  answered_sound maker c p d f (Some answer.Key) live core frame granted = record { core = core; party = record { frame = frame; grants = live } }
  answered_sound maker c p d f (Some (answer.Granted grant)) live core frame granted = record { core = core; party = record { frame = frame; grants = All-set (λ g. IfSome g (IsGrant maker d.settings d.plan)) p.live p.done (Some grant) granted live } }
  answered_sound maker c p d f (Some answer.Returned) live core frame granted = record { core = core; party = record { frame = frame; grants = live } }
  answered_sound maker c p d f (Some (answer.Purged n)) live core frame granted = record { core = core; party = record { frame = frame; grants = live } }
  answered_sound maker c p d f (Some (answer.Released n)) live core frame granted = record { core = core; party = record { frame = frame; grants = live } }
  answered_sound maker c p d f (Some (answer.Refused e)) live core frame granted = record { core = core; party = record { frame = frame; grants = live } }

  -- A step leaves what is sound.
  pub step_sound : {old new : PartyTold} (maker : MakerTold) (c : PoolCore P PlainHeap) (p : RunningParty P) (a : After P PlainHeap) → IsSoundParty maker c p → IsStepped maker old new c p.frame a → IsSoundTurn maker (after_step a p)
  step_sound maker c p a sound on =
      let Grants : Settings → Plan → Type 0 = λ s plan. All (λ g. IfSome g (IsGrant maker s plan)) p.live in
      let Granted : Settings → Plan → Type 0 = λ s plan. IfGranted (IsGrant maker s plan) a.outcome in
      answered_sound maker c p a.core a.frame a.outcome (over_size Grants c a.core on.size sound.grants) on.core on.frame (over_size Granted c a.core on.size (granted_any maker c.settings c.plan p.frame.asked a.outcome on.granted))

  -- So does a command that ends at once.
  pub reply_sound : (maker : MakerTold) (c : PoolCore P PlainHeap) (p : RunningParty P) (reply : Reply) → IsCore maker c → IsIdle p.frame → IsSoundParty maker c p → IsSoundTurn maker (ended_at_once reply c p)
  reply_sound maker c p reply core idle sound =
      let Shaped : Phase P PlainHeap → Type 0 = λ phase. IsShapedAt maker c.settings c.plan phase (one_step p.frame) in
      let rest : Shaped p.frame.phase = subst Shaped (sym idle) (at_rest maker c.settings c.plan p.frame sound.frame idle) in
      record { core = core; party = record { frame = frame_of maker c.settings c.plan (one_step p.frame) (held_of maker c.settings c.plan p.frame sound.frame) rest; grants = sound.grants } }

  -- The memory that moves was one.
  pub lease_there : (maker : MakerTold) (c : PoolCore P PlainHeap) (p : RunningParty P) (of k : ℕ) (lease : InstanceLease P) (l : Lease) → IsSoundParty maker c p → slice_index_or p.live of None ≡ Some (instance lease) → slice_get lease.memories.items k ≡ Some l → IsLeaseOf maker c.settings c.plan l
  lease_there maker c p of k lease l sound has there =
      let items : List Lease = lease.memories.items in
      let L : Lease → Type 0 = IsLeaseOf maker c.settings c.plan in
      subst L (get_or_from_slice_get items k l l there) (All-get_or L items k l (slice_get_within items k l there) (live_grant maker c.settings c.plan p.live of (instance lease) sound.grants has).0)

  pub lease_held : (maker : MakerTold) (c : PoolCore P PlainHeap) (p : RunningParty P) (of k : ℕ) (grant : Grant P PlainHeap) (l : Lease) → IsSoundParty maker c p → slice_index_or p.live of None ≡ Some grant → slice_get (leases_named grant) k ≡ Some l → IsLeaseOf maker c.settings c.plan l
  lease_held maker c p of k (instance lease) l sound has there = lease_there maker c p of k lease l sound has there
  lease_held maker c p of k component l sound has there = absurd cc
  lease_held maker c p of k (one_memory lease) l sound has there = absurd cc
  lease_held maker c p of k (one_table lease) l sound has there = absurd cc
  lease_held maker c p of k (stack lease) l sound has there = absurd cc
  lease_held maker c p of zero (heap lease memory) l sound has there = let same : memory ≡ l = cc in subst (IsLeaseOf maker c.settings c.plan) same (live_grant maker c.settings c.plan p.live of (heap lease memory) sound.grants has).1
  lease_held maker c p of (suc k) (heap lease memory) l sound has there = absurd cc
  lease_held maker c p of k (heap_over lease) l sound has there = absurd cc

  pub table_held : (maker : MakerTold) (c : PoolCore P PlainHeap) (p : RunningParty P) (of k : ℕ) (grant : Grant P PlainHeap) (l : LeasedTable) → IsSoundParty maker c p → slice_index_or p.live of None ≡ Some grant → slice_get (tables_named grant) k ≡ Some l → IsTableLease maker c.settings c.plan l
  table_held maker c p of k (instance lease) l sound has there =
      let items : List LeasedTable = lease.tables.items in
      let L : LeasedTable → Type 0 = IsTableLease maker c.settings c.plan in
      subst L (get_or_from_slice_get items k l l there) (All-get_or L items k l (slice_get_within items k l there) (live_grant maker c.settings c.plan p.live of (instance lease) sound.grants has).1)
  table_held maker c p of k component l sound has there = absurd cc
  table_held maker c p of k (one_memory lease) l sound has there = absurd cc
  table_held maker c p of k (one_table lease) l sound has there = absurd cc
  table_held maker c p of k (stack lease) l sound has there = absurd cc
  table_held maker c p of k (heap lease memory) l sound has there = absurd cc
  table_held maker c p of k (heap_over lease) l sound has there = absurd cc

  pub stack_held : (maker : MakerTold) (c : PoolCore P PlainHeap) (p : RunningParty P) (of k : ℕ) (grant : Grant P PlainHeap) (l : LeasedStack) → IsSoundParty maker c p → slice_index_or p.live of None ≡ Some grant → slice_get (stack_of grant) k ≡ Some l → IsStackLease maker c.settings c.plan l
  stack_held maker c p of k (instance lease) l sound has there = absurd cc
  stack_held maker c p of k component l sound has there = absurd cc
  stack_held maker c p of k (one_memory lease) l sound has there = absurd cc
  stack_held maker c p of k (one_table lease) l sound has there = absurd cc
  stack_held maker c p of k (heap lease memory) l sound has there = absurd cc
  stack_held maker c p of k (heap_over lease) l sound has there = absurd cc
  stack_held maker c p of zero (stack lease) l sound has there = let same : lease ≡ l = cc in subst (IsStackLease maker c.settings c.plan) same (live_grant maker c.settings c.plan p.live of (stack lease) sound.grants has)
  stack_held maker c p of (suc k) (stack lease) l sound has there = absurd cc
