-- A party at work begins its next command.
use Rattle.std.proofs.Common.{◌≡◌, ℕ, zero, suc, ◌<◌, ◌≤◌, ◌++◌, ◌∷◌, [], Bool, true, false, not, List, length, Option, Some, None, refl, sym, ap, ◌∙◌, subst, inl, inr, arith, IfSome, true≢false, slice_get, slice_set, slice_index_or, sum_by}
use Rattle.pool_hall.specs.declared.view.View.{View}
use Rattle.pool_slots.specs.declared.listed_heaps.PlainHeap.{PlainHeap}
use Rattle.pool_alloc.specs.CallStages.{stage_at, stage_of}
use Rattle.pool_alloc.specs.Calls.{IsIdle, MayBegin, begun_call}
use Rattle.pool_alloc.specs.BetweenSteps.{IsFrame}
use Rattle.pool_alloc.specs.Objects.{objects_in}
use Rattle.pool_alloc.specs.Places.{Counter, Thing, of_units, of_counts, only}
use Rattle.pool_alloc.specs.PlainModules.{ModuleAsked}
use Rattle.pool_alloc.specs.Stepping.{grant_count, grant_counted}
use Rattle.pool_alloc.specs.Targets.{next_target}
use Rattle.pool_alloc.specs.declared.frame.Call.{Call}
use Rattle.pool_alloc.specs.declared.frame.Call.TheVariants as call
use Rattle.pool_alloc.specs.declared.frame.Frame.{Frame}
use Rattle.pool_alloc.specs.declared.frame.Grant.{Grant}
use Rattle.pool_alloc.specs.declared.frame.Outcome.TheVariants as answer
use Rattle.pool_alloc.specs.declared.frame.Phase.{Phase}
use Rattle.pool_alloc.specs.declared.pool_core.PoolCore.{PoolCore}
use Rattle.pool_alloc.specs.declared.pool_core.Settings.{Settings}
use Rattle.pool_alloc.proofs.BegunFrames.{at_rest}
use Rattle.pool_alloc.proofs.StripesKept.{begun_stripe}
use Rattle.pool_slots.specs.declared.plan.Plan.{Plan}
use Rattle.pool_table.specs.declared.gc_store.ListedStore.{ListedStore}
use Rattle.pool_driver.specs.Calling.{GoesOnSince, brought}
use Rattle.pool_driver.specs.Counts.{counter_limits}
use Rattle.pool_driver.specs.Driving.{IsDriven, StandsFor, StandsOn}
use Rattle.pool_driver.proofs.Calling.{driven_begun, goes_begun}
use Rattle.pool_run.specs.Acts.{Act, requests, on_memory, on_table, drops, purges, releases, act_of, Wanted, an_instance, a_component, a_stack, a_heap, heap_type}
use Rattle.pool_run.specs.Folds.{seen_by}
use Rattle.pool_run.specs.Private.{no_grants}
use Rattle.pool_run.specs.PrivateTables.{Host}
use Rattle.pool_run.specs.Rooms.{World, in_stripe, under}
use Rattle.pool_run.specs.RunsMade.{is_drawing}
use Rattle.pool_run.specs.Ties.{CanTurn, IsPrivate, granted_to}
use Rattle.pool_run.specs.Turns.{Begins, BeginsFrom, IsPlain, Opening, OpensAct, OpensNext, OpensRequest, OpensWanted, drop_opening, Turned, ended_at_once, host_of_party, makes_step, one_step, replies, rests}
use Rattle.pool_run.specs.Worlds.{AreCallsFor, AreFit, IsFit}
use Rattle.pool_run.specs.declared.begin.Begun.{Begun}
use Rattle.pool_run.specs.declared.begin.Begun.TheVariants.{Rests, Replies, Calls}
use Rattle.pool_run.specs.declared.command.Command.{Command}
use Rattle.pool_run.specs.declared.reply.Reply.{Reply}
use Rattle.pool_run.specs.declared.running_party.RunningParty.{RunningParty}
use Rattle.pool_run.proofs.Beginning.{SeesOpening, next_seen}
use Rattle.pool_run.proofs.Drawn.{IsKeyed, next_keyed}
use Rattle.pool_run.proofs.Folding.{calls_seen}
use Rattle.pool_run.proofs.Opened.{IsOpened, IsReply, IsStep, are_fit, next_opened}
use Rattle.pool_run.proofs.Parties.{HaveSame, can_step, fewer, live_grant}
use Rattle.pool_run.proofs.Running.{party_over}
use Rattle.pool_run.proofs.Sounds.{IsSoundTurn}
use Rattle.pool_run.proofs.Turned.{HasTurned, follows_sound, follows_turned}
use Rattle.pool_run.proofs.Weighed.{held_units, held_counts}
use Rattle.pool_threads.specs.Asked.{Scarce, asked_next, at_next, faulted_by, refused_by}
use Rattle.pool_threads.specs.GrowthFaults.{AreGrowthsListed}
use Rattle.pool_threads.specs.Noted.{call_asks}
use Rattle.pool_threads.specs.Working.{IsAtWork, IsToldSoFar, Job, StaysSame, about_job, bare_pool, given_by}
use Rattle.pool_threads.proofs.Begun.{begun_home, next_asks, next_call, next_quiet}
use Rattle.pool_threads.proofs.GrowthsTold.{begun_growths, ended_growths}
use Rattle.pool_threads.proofs.LiveFaults.{AllKeep, bytes_keep, kept_at, put_keeps, table_keep}
use Rattle.pool_threads.proofs.LiveGrowths.{Loses}
use Rattle.pool_threads.proofs.LiveNames.{KeepsNames, bytes_named, gone_named, more_named, table_named}
use Rattle.pool_threads.proofs.LiveUnits.{live_beside, live_weigh}
use Rattle.pool_threads.proofs.OpenGrowths.{NextCounts, next_counts}
use Rattle.pool_threads.proofs.Regiven.{driven_over}
use Rattle.pool_threads.proofs.TurnsAgain.{can_turn_again, counting_core}

module _ {T P : Type 0} (j : Job) (places : ℕ) (v : View T) where
  -- What an opening leaves of a party's seat: it drives the call that has begun, or none.
  abbrev DrivesOpening : RunningParty P → Opening P → Type 0
  DrivesOpening p rests = Unit {0}
  DrivesOpening p (replies reply live store) = AllKeep live × KeepsNames p.live live
  DrivesOpening p (makes_step frame live) = IsDriven places (given_by j live) v frame None × AllKeep live × KeepsNames p.live live

  -- a call begins that brings nothing
  begun_plain : (p : RunningParty P) (asked : Call P PlainHeap) → IsPlain asked → IsIdle p.frame → IsAtWork j places v p → DrivesOpening p (makes_step (begun_call asked p.frame) p.live)
  begun_plain p asked plain idle work = (driven_begun places (given_by j p.live) v p.frame asked (brings asked plain) (may asked plain), work.keeps, (λ replies all. all))
    where
      may : (a : Call P PlainHeap) → IsPlain a → MayBegin j.world.maker j.settings j.plan a p.frame
      may call.Key plain = idle
      may (call.Component info) plain = idle
      may call.Stack plain = idle
      may (call.Heap ty) plain = (idle, plain)
      may (call.Purge id) plain = idle
      may call.Release plain = idle
      may _ plain = absurd plain

      brings : (a : Call P PlainHeap) → IsPlain a → IsDriven places (given_by j p.live) v p.frame (brought a)
      brings call.Key plain = work.driven
      brings (call.Component info) plain = work.driven
      brings call.Stack plain = work.driven
      brings (call.Heap ty) plain = work.driven
      brings (call.Purge id) plain = work.driven
      brings call.Release plain = work.driven
      brings _ plain = absurd plain

  module _ (p : RunningParty P) (idle : IsIdle p.frame) (work : IsAtWork j places v p) where
    -- a grant goes into the call that gives it back
    begun_back : (of : ℕ) (grant : Grant P PlainHeap) → slice_index_or p.live of None ≡ Some grant → DrivesOpening p (makes_step (begun_call (call.GiveBack grant) p.frame) (slice_set p.live of None))
    begun_back of grant has =
        let live : List (Option (Grant P PlainHeap)) = slice_set p.live of None in
        let had : IsDriven places (given_by j live) v p.frame (Some (answer.Granted grant)) =
        driven_over places (given_by j p.live) (given_by j live) v p.frame None (Some (answer.Granted grant)) refl (live_beside live)
        (λ t. omega (arith, live_weigh t live, live_weigh t p.live, fewer (grant_count t) p.live of grant has))
        (λ k. omega (arith, fewer (grant_counted (only k)) p.live of grant has)) (kept_at p.live of grant has work.keeps) work.driven in
        (driven_begun places (given_by j live) v p.frame (call.GiveBack grant) had (idle, live_grant j.world.maker j.settings j.plan p.live of grant work.party.sound.grants has), put_keeps p.live of None tt work.keeps, (λ replies all. gone_named replies p.live of grant has all))

    drops_driven : (of : ℕ) (x : Option (Grant P PlainHeap)) → slice_index_or p.live of None ≡ x → DrivesOpening p (drop_opening x of p)
    drops_driven of None has = (work.keeps, (λ replies all. all))
    drops_driven of (Some grant) has = begun_back of grant has

    requests_driven : (kept : Option ModuleAsked) (o : Opening P) → IfSome kept (IsFit j.settings) → OpensRequest kept p o → DrivesOpening p o
    requests_driven None o fit opens = absurd opens
    requests_driven (Some kept) o fit opens =
        elim opens [
          | inl is ↦ subst (DrivesOpening p) (sym is) (work.keeps, (λ replies all. all))
          | inr is ↦ subst (DrivesOpening p) (sym is) (driven_begun places (given_by j p.live) v p.frame (call.Module kept) work.driven (idle, fit.images, fit.places), work.keeps, (λ replies all. all))
        ]

    wanted_driven : (modules : List ModuleAsked) (wanted : Wanted) (o : Opening P) → AreFit j.settings modules → OpensWanted modules wanted p o → DrivesOpening p o
    wanted_driven modules (an_instance number) o fit opens = requests_driven (slice_get modules number) o (fit number) opens
    wanted_driven modules (a_component info) o fit opens = subst (DrivesOpening p) (sym opens) (begun_plain p (call.Component info) tt idle work)
    wanted_driven modules a_stack o fit opens = subst (DrivesOpening p) (sym opens) (begun_plain p call.Stack tt idle work)
    wanted_driven modules (a_heap limits) o fit opens = subst (DrivesOpening p) (sym opens) (begun_plain p (call.Heap (heap_type limits)) (omega arith) idle work)

    act_driven : (modules : List ModuleAsked) (act : Act) (o : Opening P) → AreFit j.settings modules → OpensAct modules act p o → DrivesOpening p o
    act_driven modules (requests wanted) o fit opens = wanted_driven modules wanted o fit opens
    act_driven modules (on_memory of k op) o fit opens = subst (DrivesOpening p) (sym opens.3) (bytes_keep j.world.maker (bare_pool j) p work.party.sound (slice_index_or p.live of None) op of k opens.1 opens.0 opens.2 work.keeps, bytes_named p (slice_index_or p.live of None) op of k opens.1 opens.0 opens.2)
    act_driven modules (on_table of k op) o fit opens = subst (DrivesOpening p) (sym opens.5) (table_keep j.world.maker (bare_pool j) p work.party.sound op of k opens.1 opens.2 opens.0 opens.3 work.keeps, table_named p op of k opens.1 opens.2 opens.0 opens.3)
    act_driven modules (drops of) o fit opens = subst (DrivesOpening p) (sym opens) (drops_driven of (slice_index_or p.live of None) refl)
    act_driven modules (purges number) o fit opens = subst (DrivesOpening p) (sym opens) (begun_plain p (call.Purge (record { 0 = number })) tt idle work)
    act_driven modules releases o fit opens = subst (DrivesOpening p) (sym opens) (begun_plain p call.Release tt idle work)

    next_driven : (modules : List ModuleAsked) (next : Option Command) (keyed : Bool) (o : Opening P) → AreFit j.settings modules → OpensNext modules next keyed p o → DrivesOpening p o
    next_driven modules None keyed o fit opens = subst (DrivesOpening p) (sym opens) tt
    next_driven modules (Some command) false o fit opens = subst (DrivesOpening p) (sym opens) (begun_plain p call.Key tt idle work)
    next_driven modules (Some command) true o fit opens = act_driven modules (act_of command) o fit opens

    -- The seat of a party whose command ended at once has as much.
    ended_driven : (live : List (Option (Grant P PlainHeap))) → HaveSame p (record p { live = live }) → IsFrame j.world.maker j.settings j.plan (one_step p.frame) → IsDriven places (given_by j live) v (one_step p.frame) None
    ended_driven live same sound =
        let f : Frame P PlainHeap = p.frame in
        let units : (t : Thing) → sum_by (granted_to (grant_count t)) live ≡ sum_by (granted_to (grant_count t)) p.live = λ t. omega (arith, same (of_units t), held_units t p, held_units t (record p { live = live })) in
        let counts : (k : Counter) → sum_by (granted_to (grant_counted (only k))) live ≡ sum_by (granted_to (grant_counted (only k))) p.live = λ k. omega (arith, same (of_counts (only k)), held_counts (only k) p, held_counts (only k) (record p { live = live })) in
        let d : IsDriven places (given_by j live) v f None =
        driven_over places (given_by j p.live) (given_by j live) v f None None refl (live_beside live) (λ t. omega (arith, live_weigh t live, live_weigh t p.live, units t)) (λ k. omega (arith, counts k)) tt work.driven in
        let s : StandsOn (about_job j) places f = subst (λ (phase : Phase P PlainHeap). StandsFor (next_target j.settings j.plan phase f) (about_job j) places f) idle d.stands in
        record {
          frame = sound;
          keeps = record { objects = d.keeps.objects; local = d.keeps.local; phase = d.keeps.phase };
          answer = tt;
          carries = record { units = d.carries.units; beside = d.carries.beside };
          counted = d.counted;
          stands = subst (λ (phase : Phase P PlainHeap). StandsFor (next_target j.settings j.plan phase (one_step f)) (about_job j) places (one_step f)) (sym idle) (record {
            counters = s.counters;
            parts = s.parts;
            long = s.long;
            kept = s.kept;
            can = record { core = s.can.core; frame = sound; fits = record { once = s.can.fits.once; others = s.can.fits.others } };
          });
        }

  -- What the beginning of its next command leaves of a party that was told a private run.
  module _ (modules : List ModuleAsked) (commands : List Command) (p : RunningParty P) (asked : AreCallsFor j.world.terms j.settings modules) (idle : IsIdle p.frame) (work : IsAtWork j places v p) (room : length p.live ≡ length commands) (fresh : p.keyed ≡ false → p.done ≡ 0) where
    abbrev c : PoolCore P PlainHeap
    c = counting_core j places v p work

    abbrev u : World
    u = seen_by p j.world

    can : CanTurn j.world.maker c p
    can = can_turn_again j places v p work

    fit : AreFit j.settings modules
    fit = are_fit j.world.terms j.settings modules asked

    -- over the core's settings
    there : AreFit c.settings modules
    there = subst (λ (s : Settings). AreFit s modules) (sym work.stands.settings) fit

    calls : AreCallsFor u.terms c.settings modules
    calls = subst (λ (s : Settings). AreCallsFor u.terms s modules) (sym work.stands.settings) (calls_seen p j.world j.settings modules asked)

    undrawn : is_drawing (stage_of p.frame) ≡ false
    undrawn = ap (λ (phase : Phase P PlainHeap). is_drawing (stage_at phase p.frame.asked p.frame.ending (objects_in p.frame.objects))) idle

    module _ (o : Opening P) (opens : OpensNext modules (slice_get commands p.done) p.keyed p o) where
      opened_so : IsOpened j.world.maker c p o
      opened_so = next_opened j.world.maker c p can idle modules commands (slice_get commands p.done) p.keyed o refl there (omega (arith, room)) opens

      seen_so : (before : List Reply) → IsToldSoFar j commands before p → SeesOpening u (no_grants commands) commands before p o
      seen_so before told = next_seen u (no_grants commands) commands before c p told.private can.party.sound refl idle modules (slice_get commands p.done) p.keyed o calls refl opens

      driven_so : DrivesOpening p o
      driven_so = next_driven p idle work modules (slice_get commands p.done) p.keyed o fit opens

      counts_so : NextCounts j.world.maker (bare_pool j) p work.party.sound (slice_get commands p.done) o
      counts_so = next_counts j.world.maker (bare_pool j) p work.party.sound modules (slice_get commands p.done) p.keyed o opens

      keyed_so : IsKeyed p o
      keyed_so = next_keyed j.world.maker c p undrawn (λ none. (fresh none, idle)) modules (slice_get commands p.done) p.keyed o refl opens

    -- a call that has begun
    call_at_work : (frame : Frame P PlainHeap) (live : List (Option (Grant P PlainHeap))) → IsStep j.world.maker c p frame live → DrivesOpening p (makes_step frame live) → IsAtWork j places v (record p { frame = frame; live = live })
    call_at_work frame live step driven =
        let q : RunningParty P = record p { frame = frame; live = live } in
        record {
          core = c;
          stands = record {
            settings = work.stands.settings;
            plan = work.stands.plan;
            can = can_step j.world.maker c q step.can;
            away = λ t. omega (arith, step.can.fits.once (of_units t), held_units t q, live_weigh t live);
          };
          party = party_over j.world.maker c (bare_pool j) q (record { settings = sym work.stands.settings; plan = sym work.stands.plan }) step.can.party;
          driven = driven.0;
          keeps = driven.1;
        }

    call_told : (before : List Reply) → IsToldSoFar j commands before p → (frame : Frame P PlainHeap) (live : List (Option (Grant P PlainHeap))) → IsStep j.world.maker c p frame live → KeepsNames p.live live → Loses p.live live → IsPrivate u (no_grants commands) commands before (record p { frame = frame; live = live }) → IsToldSoFar j commands before (record p { frame = frame; live = live })
    call_told before told frame live step names loses seen = record {
      room = step.room ∙ told.room;
      private = subst (λ (n : ℕ). IsPrivate (in_stripe n (under (host_of_party p) j.world)) (no_grants commands) commands before (record p { frame = frame; live = live })) (sym step.stripe) seen;
      named = names before told.named;
      growths = subst (λ (n : ℕ). AreGrowthsListed (in_stripe n (under (host_of_party p) j.world)) commands before live) (sym step.stripe) (begun_growths u commands before p told.private told.growths live loses);
      fresh = told.fresh;
    }

    -- A call that has begun is driven, and draws the stripe where the party has none. It has told nothing.
    pub record HasBegun (q : RunningParty P) : Type 0 where
      pub at_work : IsAtWork j places v q
      pub told : (before : List Reply) → IsToldSoFar j commands before p → IsToldSoFar j commands before q
      pub keyed : is_drawing (stage_of q.frame) ≡ not q.keyed
      pub same : q.keyed ≡ p.keyed
      pub done : q.done ≡ p.done
      pub stays : StaysSame p q
      pub home : q.frame.home ≡ p.frame.home
      pub goes : v.limits ≡ counter_limits j.settings → GoesOnSince (about_job j) v v q.frame q.frame
      pub asks : (k : Scarce) → call_asks q.frame k ≤ asked_next k modules p.keyed (slice_get commands p.done)

    -- A command that ended at once was replied to.
    pub record HasReplied (reply : Reply) (q : RunningParty P) : Type 0 where
      pub at_work : IsAtWork j places v q
      pub told : (before : List Reply) → IsToldSoFar j commands before p → IsToldSoFar j commands (before ++ reply ∷ []) q
      pub keyed : (p.keyed ≡ true) × (q.keyed ≡ true)
      pub settled : IsIdle q.frame
      pub stays : StaysSame p q
      pub home : q.frame.home ≡ p.frame.home
      pub quiet : ((k : Scarce) → at_next (refused_by k) (slice_get commands p.done) reply ≡ 0) × (at_next faulted_by (slice_get commands p.done) reply ≡ 0)

    calls_by : (o : Opening P) → OpensNext modules (slice_get commands p.done) p.keyed p o → (q : RunningParty P) (left : Begun) → Begins o p q left → left ≡ Calls → HasBegun q
    calls_by rests opens q left begins now = absurd (let e : Calls ≡ Rests = sym now ∙ begins.1 in cc)
    calls_by (replies reply live store) opens q left begins now = absurd (let e : Calls ≡ Replies reply = sym now ∙ begins.1 in cc)
    calls_by (makes_step frame live) opens q left begins now =
        let step = opened_so (makes_step frame live) opens in
        subst HasBegun (sym begins.0) (record {
          at_work = call_at_work frame live step (driven_so (makes_step frame live) opens);
          told = λ before told. call_told before told frame live step (driven_so (makes_step frame live) opens).2 (counts_so (makes_step frame live) opens) (seen_so (makes_step frame live) opens before told);
          keyed = keyed_so (makes_step frame live) opens;
          same = refl;
          done = refl;
          stays = record { host = refl; stripe = λ drawn. ap (λ (f : Frame P PlainHeap). f.stripe) (begun opens).1 ∙ begun_stripe (begun opens).0 p.frame };
          home = ap (λ (f : Frame P PlainHeap). f.home) (begun opens).1 ∙ begun_home (begun opens).0 p.frame;
          goes = λ limits. subst (λ (f : Frame P PlainHeap). GoesOnSince (about_job j) v v f f) (sym (begun opens).1) (goes_begun (about_job j) v (begun opens).0 p.frame limits (at_rest j.world.maker j.settings j.plan p.frame work.driven.frame idle));
          asks = next_asks p modules (slice_get commands p.done) p.keyed (makes_step frame live) opens;
        })
      where
        begun : OpensNext modules (slice_get commands p.done) p.keyed p (makes_step frame live) → (call' : Call P PlainHeap) × (frame ≡ begun_call call' p.frame)
        begun opens = next_call p modules (slice_get commands p.done) p.keyed (makes_step frame live) opens

    replied_by : (reply : Reply) (o : Opening P) → OpensNext modules (slice_get commands p.done) p.keyed p o → (q : RunningParty P) (left : Begun) → Begins o p q left → left ≡ Replies reply → HasReplied reply q
    replied_by reply rests opens q left begins now = absurd (let e : Replies reply ≡ Rests = sym now ∙ begins.1 in cc)
    replied_by reply (makes_step frame live) opens q left begins now = absurd (let e : Replies reply ≡ Calls = sym now ∙ begins.1 in cc)
    replied_by reply (replies other live store) opens q left begins now =
        let e : Replies reply ≡ Replies other = sym now ∙ begins.1 in
        let same : reply ≡ other = cc in
        let is : IsReply j.world.maker c p live store = opened_so (replies other live store) opens in
        let t : Turned P = ended_at_once other c (record p { live = live; store = store }) in
        let turned : HasTurned c p t = follows_turned j.world.maker c p can (replies other live store) t is refl in
        let sound : IsSoundTurn j.world.maker t = follows_sound j.world.maker c p can (replies other live store) t is refl in
        let still : IsFrame j.world.maker j.settings j.plan (one_step p.frame) = subst (λ (s : Settings). IsFrame j.world.maker s j.plan (one_step p.frame)) work.stands.settings (subst (λ (plan : Plan). IsFrame j.world.maker c.settings plan (one_step p.frame)) work.stands.plan sound.party.frame) in
        let keyed : p.keyed ≡ true = keyed_so (replies other live store) opens in
        subst (λ (r : Reply). HasReplied r q) (sym same) (subst (HasReplied other) (sym begins.0) (record {
          at_work = record {
            core = c;
            stands = record {
              settings = work.stands.settings;
              plan = work.stands.plan;
              can = (let able = can_step j.world.maker c p can in record { core = able.core; frame = sound.party.frame; fits = record { once = able.fits.once; others = able.fits.others } });
              away = λ t. omega (arith, work.stands.away t, is.same (of_units t), held_units t p, held_units t (record p { live = live }), live_weigh t live, live_weigh t p.live);
            };
            party = party_over j.world.maker c (bare_pool j) t.party (record { settings = sym work.stands.settings; plan = sym work.stands.plan }) (record { sound = sound.party; to_come = turned.to_come; place = turned.place });
            driven = ended_driven p idle work live is.same still;
            keeps = (driven_so (replies other live store) opens).0;
          };
          told = λ before told. record {
            room = is.room ∙ told.room;
            private = subst (λ (h : Host). IsPrivate (in_stripe p.frame.stripe (under h j.world)) (no_grants commands) commands (before ++ other ∷ []) t.party) (sym turned.host) (seen_so (replies other live store) opens before told);
            named = more_named before other live ((driven_so (replies other live store) opens).1 before told.named);
            growths = subst (λ (h : Host). AreGrowthsListed (in_stripe p.frame.stripe (under h j.world)) commands (before ++ other ∷ []) live) (sym turned.host) (ended_growths u commands before p told.private told.growths live other (counts_so (replies other live store) opens).0 idle told.named (counts_so (replies other live store) opens).1 (counts_so (replies other live store) opens).2);
            fresh = λ none. absurd (true≢false (sym keyed ∙ none));
          };
          keyed = (keyed, keyed);
          settled = idle;
          stays = record { host = turned.host; stripe = λ drawn. refl };
          home = refl;
          quiet = (next_quiet p modules (slice_get commands p.done) p.keyed (replies other live store) opens);
        }))

    -- So a command begins that has a call,
    pub begins_call : (q : RunningParty P) (left : Begun) → BeginsFrom (OpensNext modules (slice_get commands p.done) p.keyed p) p q left → left ≡ Calls → HasBegun q
    begins_call q left from now = calls_by from.0 from.1 q left from.2 now

    -- so it ends at once,
    pub ends_at_once : (reply : Reply) (q : RunningParty P) (left : Begun) → BeginsFrom (OpensNext modules (slice_get commands p.done) p.keyed p) p q left → left ≡ Replies reply → HasReplied reply q
    ends_at_once reply q left from now = replied_by reply from.0 from.1 q left from.2 now

-- A command opens with something.
module _ {P : Type 0} (p : RunningParty P) where
  -- nothing is what no opening of a command is
  not_steps : (frame : Frame P PlainHeap) (live : List (Option (Grant P PlainHeap))) → rests ≡ makes_step frame live → ⊥
  not_steps frame live is = cc

  not_replies : (reply : Reply) (live : List (Option (Grant P PlainHeap))) (store : ListedStore) → ◌≡◌ {A = Opening P} rests (replies reply live store) → ⊥
  not_replies reply live store is = cc

  drop_opens : (of : ℕ) (x : Option (Grant P PlainHeap)) → rests ≡ drop_opening x of p → ⊥
  drop_opens of None is = cc
  drop_opens of (Some grant) is = cc

  request_opens : (kept : Option ModuleAsked) → OpensRequest kept p rests → ⊥
  request_opens None opens = opens
  request_opens (Some kept) opens = elim opens [ inl is ↦ cc | inr is ↦ cc ]

  wanted_opens : (modules : List ModuleAsked) (wanted : Wanted) → OpensWanted modules wanted p rests → ⊥
  wanted_opens modules (an_instance number) opens = request_opens (slice_get modules number) opens
  wanted_opens modules (a_component info) opens = cc
  wanted_opens modules a_stack opens = cc
  wanted_opens modules (a_heap limits) opens = cc

  act_opens : (modules : List ModuleAsked) (act : Act) → OpensAct modules act p rests → ⊥
  act_opens modules (requests wanted) opens = wanted_opens modules wanted opens
  act_opens modules (on_memory of k op) opens = not_replies opens.0 opens.1 p.store opens.3
  act_opens modules (on_table of k op) opens = not_replies opens.0 opens.1 opens.2 opens.5
  act_opens modules (drops of) opens = drop_opens of (slice_index_or p.live of None) opens
  act_opens modules (purges number) opens = cc
  act_opens modules releases opens = cc

  next_opens : (modules : List ModuleAsked) (next : Option Command) (keyed : Bool) → OpensNext modules next keyed p rests → next ≡ None
  next_opens modules None keyed opens = refl
  next_opens modules (Some command) false opens = absurd (not_steps (begun_call call.Key p.frame) p.live opens)
  next_opens modules (Some command) true opens = absurd (act_opens modules (act_of command) opens)

  none_by : (modules : List ModuleAsked) (next : Option Command) (keyed : Bool) (o : Opening P) → OpensNext modules next keyed p o → (q : RunningParty P) (left : Begun) → Begins o p q left → left ≡ Rests → next ≡ None
  none_by modules next keyed rests opens q left begins now = next_opens modules next keyed opens
  none_by modules next keyed (replies reply live store) opens q left begins now = absurd (let e : Rests ≡ Replies reply = sym now ∙ begins.1 in cc)
  none_by modules next keyed (makes_step frame live) opens q left begins now = absurd (let e : Rests ≡ Calls = sym now ∙ begins.1 in cc)

  -- So where there is a next command, it begins.
  pub some_begins : (modules : List ModuleAsked) (commands : List Command) (q : RunningParty P) (left : Begun) → BeginsFrom (OpensNext modules (slice_get commands p.done) p.keyed p) p q left → p.done < length commands → left ≡ Rests → ⊥
  some_begins modules commands q left from below now =
      let none : slice_get commands p.done ≡ None = none_by modules (slice_get commands p.done) p.keyed from.0 from.1 q left from.2 now in
      let some' = some_there commands p.done below in
      let both : Some some'.0 ≡ None = sym some'.1 ∙ none in
      cc
    where
      some_there : (xs : List Command) (k : ℕ) → k < length xs → (x : Command) × (slice_get xs k ≡ Some x)
      some_there [] k below = absurd (omega (arith, below))
      some_there (x ∷ xs) zero below = (x, refl)
      some_there (x ∷ xs) (suc k) below = some_there xs k (omega (arith, below))
