-- A run keeps what it promises.
use Rattle.std.proofs.Common.{◌≡◌, ℕ, ◌+◌, ◌^◌, ◌<◌, ◌≤◌, List, [], ◌∷◌, ◌++◌, length, map, take, get_or, replicate, Option, Some, None, refl, sym, ap, ◌∙◌, subst, arith, IfSome, slice_get, slice_set, slice_index_or, unwrap_or}
use Rattle.pool_run.proofs.Imports.{StoreTold, listed_store, ListedStore, length-set, get_or-set_same, get_or-map, length-map, map-append, take_all, take_more, replicate_more, All-map, sum_by-set, get_or-le-sum_by, slice_get_within, get_or_from_slice_get, MakerTold, one_if, ModuleAsked, CanCount, PoolCore, IsCore, IsUntouched, IsPartitioned, Settings, listed_heaps, ListedHeaps, PlainHeap}
use Rattle.pool_run.specs.AtOnce.{store_told}
use Rattle.pool_run.specs.Folds.{RunState, TurnsOf, TurnsIf, with_turn, commands_of, replies_to, Folds}
use Rattle.pool_run.specs.Progress.{begins_by, bound_by, Advances, IsRunOf}
use Rattle.pool_run.specs.RunsMade.{Background, IsKept, places_in, commands_in, party_made_for, parties_made}
use Rattle.pool_run.specs.declared.input.Party.{Party}
use Rattle.pool_run.specs.Ties.{CanTurn, held_by_party}
use Rattle.pool_run.specs.Turns.{heaps_told, Turned, Turns}
use Rattle.pool_run.specs.Worlds.{AreFit, NameModules}
use Rattle.pool_run.specs.Rooms.{World}
use Rattle.pool_run.specs.declared.command.Command.{Command}
use Rattle.pool_run.specs.declared.running_party.RunningParty.{RunningParty}
use Rattle.pool_run.proofs.Advanced.{HasAdvanced, has_advanced}
use Rattle.pool_run.proofs.KeptBetweenTurns.{IsDrawn, ready_there, still_drawn, advances}
use Rattle.pool_run.proofs.Counters.{can_count}
use Rattle.pool_run.proofs.Ended.{few_told, folds_count}
use Rattle.pool_run.proofs.Folding.{run_turned, folds_more}
use Rattle.pool_run.proofs.Following.{commands_there}
use Rattle.pool_run.proofs.Started.{IsMadeParty, AreMade, started_running}
use Rattle.pool_run.proofs.LimitsOfRuns.{made_within}
use Rattle.pool_run.proofs.Opened.{are_fit}
use Rattle.pool_run.proofs.Running.{can_turn}
use Rattle.pool_run.proofs.Turned.{HasTurned, has_turned}
use Rattle.pool_run.proofs.SameHeaps.{listed_same}

-- what is made of one element more
pub map_more : {X Y : Type 0} (f : X → Y) (xs : List X) (i : ℕ) (x : X) → i < length xs → x ≡ get_or xs i x → map f (take i xs) ++ f x ∷ [] ≡ map f (take (i + 1) xs)
map_more {Y = Y} f xs i x below is =
    let L : List Y = map f (take i xs) in
    ap (λ y. L ++ f y ∷ []) is ∙ sym (map-append f (take i xs) (get_or xs i x ∷ [])) ∙ ap (map f) (sym (take_more xs i x below))

-- a loop that is over went through all
pub all_passed : (i count n : ℕ) → count ≡ n → count ≤ i → n ≤ i
all_passed i count n same past = omega (arith, same, past)

pub map_all : {X Y : Type 0} (f : X → Y) (xs : List X) (i : ℕ) → length xs ≤ i → map f (take i xs) ≡ map f xs
map_all f xs i all = ap (map f) (take_all i xs all)

-- a store as it is made
pub store_made : (store : ListedStore) (failing : List ℕ) → store_told store ≡ listed_store failing 0 0 → store ≡ record { failing = failing; made = 0; faults = 0 }
store_made store failing is = ap (λ (t : StoreTold). record { failing = unwrap_or t.plan []; made = t.made; faults = t.faults }) is

-- a maker of heaps as it is made
pub heaps_made : (heaps : ListedHeaps) (failing : List ℕ) → heaps_told heaps ≡ listed_heaps failing 0 0 → heaps ≡ record { failing = failing; made = 0; faults = 0 }
heaps_made heaps failing is = listed_same heaps (record { failing = failing; made = 0; faults = 0 }) is

-- a party that doesn't matter
nobody : Party
nobody = record { home = 0; limits = None; gc_faults = []; heap_faults = []; commands = [] }

module _ {P : Type 0} where
  -- a turn that was made is one of the run
  turn_taken : (modules : List ModuleAsked) (inputs : List (List Command)) (commands : List Command) (i : ℕ) (p : RunningParty P) (s : RunState P) (t : Turned P) → slice_get s.parties i ≡ Some p → commands ≡ commands_of inputs i → Turns modules commands s.core p t → TurnsOf modules inputs i s (with_turn i t s)
  turn_taken modules inputs commands i p s t there same turns =
      let If : Option (RunningParty P) → Type 0 = λ o. TurnsIf modules (commands_of inputs i) i o s (with_turn i t s) in
      let T : List Command → Type 0 = λ cs. Turns modules cs s.core p t in
      subst If (sym there) (t, subst T same turns, refl)

  -- A run goes on with a turn, over the same parties.
  run_goes_on : (of : Background) (given : List Party) (i : ℕ) (s new : RunState P) → IsRunOf of given s → TurnsOf of.modules of.inputs i s new → IsRunOf of given new
  run_goes_on of given i s new run turns = record {
    way = run_turned of.world of.modules of.inputs i s new run.way turns;
    inputs = run.inputs;
    parties = folds_count of.modules of.inputs (i ∷ []) s new (new, turns, refl) ∙ run.parties;
    named = run.named;
  }

  -- what a turn of the party wants
  pub record CanTake (maker : MakerTold) (modules : List ModuleAsked) (commands : List Command) (c : PoolCore P PlainHeap) (p : RunningParty P) : Type 0 where
    pub can : CanTurn maker c p
    pub counts : CanCount c
    pub calls : AreFit c.settings modules
    pub named : NameModules (length modules) commands
    pub places : length commands ≤ length p.live
    pub small : p.done + 1 < 2 ^ 64

  pub can_take : (of : Background) (given : List Party) (commands : List Command) (i : ℕ) (p : RunningParty P) (s : RunState P) → IsRunOf of given s → IsKept s.core s.parties → slice_get s.parties i ≡ Some p → commands ≡ commands_of of.inputs i → CanTake of.world.maker s.modules commands s.core p
  can_take of given commands i p s run kept there same =
      let w : World = of.world in
      let way = run.way in
      let below : i < length s.parties = slice_get_within s.parties i p there in
      let here : slice_index_or s.parties i p ≡ p = get_or_from_slice_get s.parties i p p there in
      let Can : RunningParty P → Type 0 = λ q. CanTurn w.maker s.core q in
      let to = way.each i p below in
      let places : RunningParty P → ℕ = λ q. 1 + length q.live in
      let long : length commands ≡ length (commands_of of.inputs i) = ap (length {A = Command}) same in
      let live : length (slice_index_or s.parties i p).live ≡ length p.live = ap (λ (q : RunningParty P). length q.live) here in
      let done : (slice_index_or s.parties i p).done ≡ p.done = ap (λ (q : RunningParty P). q.done) here in
      let few : 1 + length (slice_index_or s.parties i p).live ≤ places_in s.parties = get_or-le-sum_by places s.parties i p below in
      let inside : i < length given = omega (arith, below, run.parties) in
      let N : List ModuleAsked → List Command → Type 0 = λ modules cs. NameModules (length modules) cs in
      let named : N of.modules commands = subst (N of.modules) (commands_there of.inputs given i nobody run.inputs inside ∙ sym same) (run.named i nobody inside) in
      record {
        can = subst Can here (can_turn w.maker s.core s.parties i p way.holds.running below);
        counts = can_count w.maker s.core s.parties way.holds.running kept.few;
        calls = subst (AreFit s.core.settings) (sym way.given) (are_fit w.terms s.core.settings of.modules way.calls);
        named = subst (λ modules. N modules commands) (sym way.given) named;
        places = omega (arith, to.room, long, live);
        small = omega (arith, kept.few, few, few_told of.world (commands_of of.inputs i) (replies_to i s.replies) (slice_index_or s.parties i p) to, to.private.count, live, done);
      }

  -- a turn is one of the run, which goes on, and keeps what it promises
  pub record IsAfter (of : Background) (given : List Party) (i : ℕ) (s new : RunState P) : Type 0 where
    pub turn : TurnsOf of.modules of.inputs i s new
    pub run : IsRunOf of given new
    pub kept : IsKept new.core new.parties
    pub advances : Advances of.modules (commands_of of.inputs i) i s new

  pub turn_after : (of : Background) (given : List Party) (commands : List Command) (i : ℕ) (p : RunningParty P) (s : RunState P) (t : Turned P) → IsRunOf of given s → IsKept s.core s.parties → slice_get s.parties i ≡ Some p → commands ≡ commands_of of.inputs i → Turns s.modules commands s.core p t → IsAfter of given i s (with_turn i t s)
  turn_after of given commands i p s t run kept there same turns =
      let w : World = of.world in
      let way = run.way in
      let T : List ModuleAsked → List Command → Type 0 = λ modules cs. Turns modules cs s.core p t in
      let turned_so : T of.modules (commands_of of.inputs i) = subst (T of.modules) same (subst (λ modules. T modules commands) way.given turns) in
      let below : i < length s.parties = slice_get_within s.parties i p there in
      let inside : i < length (slice_set s.parties i t.party) = omega (arith, below, length-set s.parties i t.party) in
      let places : RunningParty P → ℕ = λ q. 1 + length q.live in
      let live : length (slice_index_or (slice_set s.parties i t.party) i p).live ≡ length t.party.live = ap (λ (q : RunningParty P). length q.live) (get_or-set_same s.parties i t.party p below) in
      let take : CanTake w.maker s.modules commands s.core p = can_take of given commands i p s run kept there same in
      let L : List Command → Type 0 = λ cs. length cs ≤ length p.live in
      let room : L (commands_of of.inputs i) = subst L same take.places in
      let count : ℕ = length (commands_of of.inputs i) in
      let turned : HasAdvanced (one_if (begins_by count p)) (bound_by of.modules (commands_of of.inputs i) s.core p) s.core p t =
      has_advanced w of.modules (commands_of of.inputs i) s.core p t way.calls take.can (ready_there s i p kept.drawn there) room turned_so in
      let has : HasTurned s.core p t = has_turned w of.modules (commands_of of.inputs i) s.core p t way.calls take.can room turned_so in
      let turn : TurnsOf of.modules of.inputs i s (with_turn i t s) = turn_taken of.modules of.inputs (commands_of of.inputs i) i p s t there refl turned_so in
      let on : IsRunOf of given (with_turn i t s) = run_goes_on of given i s (with_turn i t s) run turn in
      record {
        turn = turn;
        run = on;
        advances = advances of.modules (commands_of of.inputs i) s i p t there has.size turned;
        kept = record {
          whole = on.way.holds.running.whole;
          within = on.way.within;
          few = omega (arith, kept.few, sum_by-set places s.parties i t.party p below, (way.each i p below).room, (on.way.each i p inside).room, live);
          drawn = still_drawn s i (one_if (begins_by count p)) (bound_by of.modules (commands_of of.inputs i) s.core p) p t kept.drawn turned;
        };
      }

  -- one turn more of the same party
  pub repeated : (modules : List ModuleAsked) (inputs : List (List Command)) (i n : ℕ) (s mid new : RunState P) → Folds modules inputs (replicate n i) s mid → TurnsOf modules inputs i mid new → Folds modules inputs (replicate (n + 1) i) s new
  repeated modules inputs i n s mid new folds turns =
      let F : List ℕ → Type 0 = λ schedule. Folds modules inputs schedule s new in
      subst F (replicate_more n i) (folds_more modules inputs (replicate n i) i s mid new folds turns)

  one_made : (s : Settings) (q : Party) → IsMadeParty s (length q.commands) (party_made_for {P = P} s q)
  one_made s q = record { home = q.home; frame = refl; limits = q.limits; limited = refl; failing = q.gc_faults; store = refl; unmade = q.heap_faults; heaps = refl; keyed = refl; done = refl; live = refl }

  -- each party is as it is made, with a place for each of its commands
  pub are_made : (s : Settings) (parties : List Party) → AreMade s (commands_in parties) (map (party_made_for {P = P} s) parties)
  are_made s parties i d inside =
      let below : i < length parties = omega (arith, inside, length-map parties (party_made_for {P = P} s)) in
      let q : Party = get_or parties i nobody in
      let party : get_or (map (party_made_for {P = P} s) parties) i d ≡ party_made_for s q = get_or-map (party_made_for {P = P} s) parties i nobody d below in
      let commands : get_or (commands_in parties) i [] ≡ q.commands = get_or-map (λ (x : Party). x.commands) parties i nobody [] below in
      let At : List Command → RunningParty P → Type 0 = λ cs p. IsMadeParty s (length cs) p in
      subst (λ (cs : List Command). At cs (get_or (map (party_made_for {P = P} s) parties) i d)) (sym commands) (subst (At q.commands) (sym party) (one_made s q))

  -- A run keeps what it promises from its start on.
  pub kept_at_start : (maker : MakerTold) (c : PoolCore P PlainHeap) (parties : List Party) → IsCore maker c → IsUntouched c → places_in (parties_made {P = P} c.settings parties) + 1 < 2 ^ 64 → IsKept c (parties_made c.settings parties)
  kept_at_start maker c parties core untouched few =
      let whole : IsPartitioned held_by_party c (parties_made c.settings parties) = (started_running maker c (commands_in parties) (parties_made c.settings parties) core untouched (are_made c.settings parties)).whole in
      record {
        whole = whole;
        within = made_within c (parties_made c.settings parties) untouched whole;
        few = few;
        drawn = All-map IsDrawn (party_made_for c.settings) parties (λ k d below. refl);
      }
