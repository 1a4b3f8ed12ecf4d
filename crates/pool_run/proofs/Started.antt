-- A run as it starts: nobody has anything, and nobody was told anything.
use Rattle.std.proofs.Common.{true, ◌≡◌, ℕ, zero, suc, ◌<◌, Bool, false, List, [], ◌∷◌, length, map, get_or, replicate, Option, None, refl, sym, ap, ◌∙◌, subst, arith, All, IfSome, sum_by, slice_index_or}
use Rattle.pool_run.proofs.Imports.{length-replicate, All-replicate, recursion_from_All, sum_by-cons, MakerTold, frame_made, IsGrant, IsCore, IsUntouched, HasNothing, untouched_is_whole, none_away, none_kept, PoolCore, Settings, Frame, Grant, ModuleAsked, made_frame, ListedStore, ListedHeaps, PlainHeap, grant_weight, made_weight}
use Rattle.pool_run.specs.PartyRules.{host_of}
use Rattle.pool_run.specs.Private.{Grants, no_grants, with_grants}
use Rattle.pool_run.specs.Rooms.{World, under, in_stripe}
use Rattle.pool_run.specs.declared.input.PartyLimits.{PartyLimits}
use Rattle.pool_run.specs.Turns.{grants_of, host_of_party}
use Rattle.pool_run.specs.Ties.{IsAlone, granted_to, held_by_party, IsParty, IsPrivate, IsRunning}
use Rattle.pool_run.specs.Worlds.{IsWorldOf, AreCallsFor}
use Rattle.pool_run.specs.Folds.{commands_of, IsRunTo, IsUnderWay}
use Rattle.pool_run.specs.RunsMade.{party_made}
use Rattle.pool_run.specs.declared.command.Command.{Command}
use Rattle.pool_run.specs.declared.reply.Reply.{Reply}
use Rattle.pool_run.specs.declared.running_party.RunningParty.{RunningParty}
use Rattle.pool_run.proofs.LimitsOfRuns.{made_within, live_within}
use Rattle.pool_run.specs.Limits.{IsWithinCounts}

none_at : {X : Type 0} (n k : ℕ) → slice_index_or (replicate {A = Option X} n None) k None ≡ None
none_at zero k = refl
none_at (suc n) zero = refl
none_at (suc n) (suc k) = none_at n k

empty_at : {X : Type 0} (n k : ℕ) → slice_index_or (replicate {A = List X} n []) k [] ≡ []
empty_at zero k = refl
empty_at (suc n) zero = refl
empty_at (suc n) (suc k) = empty_at n k

module _ {P : Type 0} where
  -- a party as it is made, with places for so many commands
  pub record IsMadeParty (s : Settings) (places : ℕ) (p : RunningParty P) : Type 0 where
    pub home : ℕ
    pub frame : p.frame ≡ frame_made home s
    pub limits : Option PartyLimits
    pub limited : p.limits ≡ limits
    pub failing : List ℕ
    pub store : p.store ≡ record { failing = failing; made = 0; faults = 0 }
    pub unmade : List ℕ
    pub heaps : p.heaps ≡ record { failing = unmade; made = 0; faults = 0 }
    pub keyed : p.keyed ≡ false
    pub done : p.done ≡ 0
    pub live : p.live ≡ replicate places None

  pub is_party_made : (s : Settings) (places : ℕ) (p : RunningParty P) (made : IsMadeParty s places p) → p ≡ party_made made.home made.limits made.failing made.unmade s places
  is_party_made s places p made =
      let Q : Frame P PlainHeap → Option PartyLimits → ListedStore → ListedHeaps → Bool → ℕ → List (Option (Grant P PlainHeap)) → RunningParty P = λ f limits store heaps keyed done live. record { frame = f; limits = limits; store = store; heaps = heaps; keyed = keyed; done = done; live = live } in
      let store : ListedStore = record { failing = made.failing; made = 0; faults = 0 } in
      let heaps : ListedHeaps = record { failing = made.unmade; made = 0; faults = 0 } in
      ap (λ (f : Frame P PlainHeap). Q f p.limits p.store p.heaps p.keyed p.done p.live) made.frame
      ∙ ap (λ (limits : Option PartyLimits). Q (frame_made made.home s) limits p.store p.heaps p.keyed p.done p.live) made.limited
      ∙ ap (λ (calls : ListedStore). Q (frame_made made.home s) made.limits calls p.heaps p.keyed p.done p.live) made.store
      ∙ ap (λ (calls : ListedHeaps). Q (frame_made made.home s) made.limits store calls p.keyed p.done p.live) made.heaps
      ∙ ap (λ (keyed : Bool). Q (frame_made made.home s) made.limits store heaps keyed p.done p.live) made.keyed
      ∙ ap (λ (done : ℕ). Q (frame_made made.home s) made.limits store heaps false done p.live) made.done
      ∙ ap (λ (live : List (Option (Grant P PlainHeap))). Q (frame_made made.home s) made.limits store heaps false 0 live) made.live

  pub none_live : (of : Grant P PlainHeap → ℕ) (n : ℕ) → sum_by (granted_to of) (replicate n None) ≡ 0
  none_live of zero = refl
  none_live of (suc n) = omega (arith, sum_by-cons (granted_to of) None (replicate n None), none_live of n)

none_told : (P : Type 0) (n : ℕ) → grants_of {P = P} (replicate n None) ≡ replicate n None
none_told P zero = refl
none_told P (suc n) = ap (λ (g : Grants). None ∷ g) (none_told P n)

-- It has nothing,
party_has_nothing : (P : Type 0) (home : ℕ) (limits : Option PartyLimits) (failing unmade : List ℕ) (s : Settings) (n : ℕ) → HasNothing (held_by_party (party_made {P = P} home limits failing unmade s n))
party_has_nothing P home limits failing unmade s n = λ w. omega (arith, made_weight P PlainHeap w home s, none_live {P = P} (grant_weight w) n)

-- and was told nothing.
pub party_is_private : (P : Type 0) (w : World) (commands : List Command) (home : ℕ) (limits : Option PartyLimits) (failing unmade : List ℕ) (s : Settings) → IsPrivate w (no_grants commands) commands [] (party_made {P = P} home limits failing unmade s (length commands))
party_is_private P w commands home limits failing unmade s = record { told = with_grants (no_grants commands); run = refl; count = refl; tied = ap (λ (g : Grants). with_grants g) (none_told P (length commands)) }

module _ {P : Type 0} where
  -- It is sound.
  pub party_is_sound : (maker : MakerTold) (home n : ℕ) (limits : Option PartyLimits) (failing unmade : List ℕ) (c : PoolCore P PlainHeap) → IsCore maker c → IsParty maker c (party_made home limits failing unmade c.settings n)
  party_is_sound maker home n limits failing unmade c core = record {
    sound = record { frame = made_frame maker home c core; grants = All-replicate (λ g. IfSome g (IsGrant maker c.settings c.plan)) n None tt };
    to_come = λ k behind. none_at n k;
    place = λ is. absurd cc;
  }

  -- the parties are as made, each with a place for each of its commands
  abbrev pub AreMade : Settings → List (List Command) → List (RunningParty P) → Type 0
  AreMade s inputs parties = (i : ℕ) (d : RunningParty P) → i < length parties → IsMadeParty s (length (commands_of inputs i)) (slice_index_or parties i d)

  each_made : (Q : RunningParty P → Type 0) (s : Settings) (inputs : List (List Command)) (parties : List (RunningParty P)) → ((home n : ℕ) (limits : Option PartyLimits) (failing unmade : List ℕ) → Q (party_made home limits failing unmade s n)) → AreMade s inputs parties → All Q parties
  each_made Q s inputs parties holds made i d below =
      let one = made i d below in
      subst Q (sym (is_party_made s (length (commands_of inputs i)) (get_or parties i d) one)) (holds one.home (length (commands_of inputs i)) one.limits one.failing one.unmade)

  -- So a run starts.
  pub started_running : (maker : MakerTold) (c : PoolCore P PlainHeap) (inputs : List (List Command)) (parties : List (RunningParty P)) → IsCore maker c → IsUntouched c → AreMade c.settings inputs parties → IsRunning maker c parties
  started_running maker c inputs parties core untouched made = record {
    core = core;
    each = each_made (IsParty maker c) c.settings inputs parties (λ home n limits failing unmade. party_is_sound maker home n limits failing unmade c core) made;
    whole = untouched_is_whole held_by_party c parties untouched (recursion_from_All (λ p. HasNothing (held_by_party p)) parties (each_made (λ p. HasNothing (held_by_party p)) c.settings inputs parties (λ home n limits failing unmade. party_has_nothing P home limits failing unmade c.settings n) made));
  }

  -- One party is alone.
  made_alone : (maker : MakerTold) (home n : ℕ) (limits : Option PartyLimits) (failing unmade : List ℕ) (c : PoolCore P PlainHeap) → IsCore maker c → IsUntouched c → IsAlone c (party_made {P = P} home limits failing unmade c.settings n).frame (party_made {P = P} home limits failing unmade c.settings n).live
  made_alone maker home n limits failing unmade c core untouched =
      let nothing : HasNothing (held_by_party (party_made {P = P} home limits failing unmade c.settings n)) = party_has_nothing P home limits failing unmade c.settings n in
      record {
        whole = λ w. omega (arith, none_away w.unit c untouched, none_kept w.unit c untouched, untouched.counted w.counts, nothing w);
        searched = tt;
      }

  run_to_start : (w : World) (s : Settings) (commands : List Command) (p : RunningParty P) → IsMadeParty s (length commands) p → IsRunTo w commands [] p
  run_to_start w s commands p made =
      let To : RunningParty P → Type 0 = λ q. IsRunTo w commands [] q in
      let first : To (party_made made.home made.limits made.failing made.unmade s (length commands)) = record { room = length-replicate {A = Option (Grant P PlainHeap)} (length commands) None; private = party_is_private P (in_stripe 0 (under (host_of made.limits made.failing made.unmade) w)) commands made.home made.limits made.failing made.unmade s; fresh = λ keyed. (refl, refl); drawn = refl } in
      subst To (sym (is_party_made s (length commands) p made)) first

  pub run_started : (w : World) (modules : List ModuleAsked) (inputs : List (List Command)) (c : PoolCore P PlainHeap) (parties : List (RunningParty P)) → IsCore w.maker c → IsUntouched c → IsWorldOf w c → AreCallsFor w.terms c.settings modules → AreMade c.settings inputs parties → map host_of_party parties ≡ w.hosts → (w.alone ≡ true → length parties ≡ 1) → IsUnderWay w modules inputs (record { core = c; modules = modules; parties = parties; replies = replicate (length parties) [] })
  run_started w modules inputs c parties core untouched world calls made hosts alone =
      let running : IsRunning w.maker c parties = started_running w.maker c inputs parties core untouched made in
      let within : IsWithinCounts c parties = made_within c parties untouched running.whole in
      record {
        holds = record { running = running; instances = live_within c parties within; components = within.components };
        within = within;
        given = refl;
        world = world;
        calls = calls;
        hosts = hosts;
        alone = λ e. record {
          one = alone e;
          alone = λ d.
              let A : RunningParty P → Type 0 = λ q. IsAlone c q.frame q.live in
              let one = made 0 d (omega (arith, alone e)) in
              subst A (sym (is_party_made c.settings (length (commands_of inputs 0)) (slice_index_or parties 0 d) one)) (made_alone w.maker one.home (length (commands_of inputs 0)) one.limits one.failing one.unmade c core untouched);
        };
        told = length-replicate {A = List Reply} (length parties) [];
        each = λ i d below.
            let To : List Reply → Type 0 = λ rs. IsRunTo w (commands_of inputs i) rs (slice_index_or parties i d) in
            subst To (sym (empty_at (length parties) i)) (run_to_start w c.settings (commands_of inputs i) (slice_index_or parties i d) (made i d below));
      }
