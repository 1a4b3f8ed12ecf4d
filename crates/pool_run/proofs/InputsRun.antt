-- A run of an input: the program's conditions follow from those of the input, and its end from its turns.
use Rattle.std.proofs.Common.{◌≡◌, ℕ, ◌+◌, ◌*◌, ◌^◌, ◌<◌, ◌≤◌, zero, suc, List, [], ◌∷◌, ◌++◌, length, map, get_or, replicate, refl, sym, ap, ◌∙◌, subst, arith, Option, None, Bool, true, false, slice_get, slice_index_or, ◌==◌}
use Rattle.pool_run.proofs.Watched.{performs_watched}
use Rattle.pool_run.proofs.Imports.{eqb-true, ltb-true, get_or-map, length-map, length-replicate, sum_by-append, sum_by-cons, one_if, is_idle, sizes_of, slice_get-get_or, first_true, second_true, MakerTold, ModuleInfo, Tunables, IsCore, metrics_of, IsUntouched, Grant, ModuleAsked, PoolCore, Settings, made_untouched, PlainHeap}
use Rattle.pool_alloc.specs.StepBounds.{PoolSizes}
use Rattle.pool_run.specs.Bounds.{own_turns}
use Rattle.pool_run.specs.Built.{is_built}
use Rattle.pool_run.specs.Agreeing.{IsRunnable}
use Rattle.pool_run.specs.Folds.{RunParts, RunState, Folds, IsUnderWay, commands_of, party_by_party, replies_to, told_state}
use Rattle.pool_run.specs.Made.{calls_made}
use Rattle.pool_run.specs.Numbers.{calls_of_run}
use Rattle.pool_run.specs.PartyRules.{host_for}
use Rattle.pool_run.specs.Private.{IsPrivateRun}
use Rattle.pool_run.specs.PrivateTables.{Host}
use Rattle.pool_run.specs.Turns.{host_of_party}
use Rattle.pool_run.specs.Exact.{IsExactRun}
use Rattle.pool_run.specs.Rooms.{World, world_at}
use Rattle.pool_run.specs.Progress.{IsRunOf}
use Rattle.pool_run.specs.Runs.{AreInTime, Performs, IsToldBy, IsMadeRun, IsRun, world_of, world_seen, stripe_of, HoldsFromStart}
use Rattle.pool_run.specs.RunsMade.{Background, commands_in, party_made, party_made_for, parties_made, nothing_told, places_in}
use Rattle.pool_run.specs.Schedules.{turns_of}
use Rattle.pool_run.specs.Watching.{TurnTold, WatchesRun, IsWatchedRun}
use Rattle.pool_run.specs.Validity.{is_valid, is_valid_act, are_valid_after, most_commands}
use Rattle.pool_run.specs.Worlds.{IsWorldOf, AreCallsFor, NamesModule, NameModules}
use Rattle.pool_run.specs.declared.command.Command.{Command}
use Rattle.pool_run.specs.Acts.{Act, requests, on_memory, on_table, drops, purges, releases, act_of, an_instance}
use Rattle.pool_run.specs.declared.input.Input.{Input}
use Rattle.pool_run.specs.declared.input.Party.{Party}
use Rattle.pool_run.specs.declared.input.ScheduleEntry.{ScheduleEntry}
use Rattle.pool_run.specs.declared.output.RunOutput.{RunOutput}
use Rattle.pool_run.specs.declared.reply.Reply.{Reply}
use Rattle.pool_run.specs.declared.running_party.RunningParty.{RunningParty}
use Rattle.pool_run.proofs.Ended.{folds_count, run_count, all_replied}
use Rattle.pool_run.proofs.Folding.{folds_on, folds_under_way, run_under_way, replies_private}
use Rattle.pool_run.proofs.InTime.{Within, StepTo, folds_step, come_in_time}
use Rattle.pool_run.proofs.RunMade.{are_made}
use Rattle.pool_run.proofs.Started.{run_started}
use Rattle.pool_run.proofs.StripesOfRuns.{AreInStripes, folds_in_stripes, new_in_stripes, told_exactly}
use Rattle.pool_run.proofs.Valid.{valid_parties, valid_home, few_commands, valid_commands, valid_entry}
use Rattle.pool_run.proofs.BuiltInputs.{built_modules}
use Rattle.pool_run.proofs.MadeRuns.{core_sound}
use Rattle.pool_run.proofs.WorldsMade.{is_world, are_calls_for}

-- Each command names a module that there is.
names : (modules : List ModuleInfo) (earlier : List Command) (act : Act) → is_valid_act modules earlier act ≡ true → NamesModule (length modules) act
names modules earlier (requests (an_instance number)) valid = ltb-true number (length modules) valid
names modules earlier (requests _) valid = tt
names modules earlier (on_memory of k op) valid = tt
names modules earlier (on_table of k op) valid = tt
names modules earlier (drops of) valid = tt
names modules earlier (purges number) valid = ltb-true number (length modules) valid
names modules earlier releases valid = tt

pub all_name : (modules : List ModuleInfo) (earlier commands : List Command) → are_valid_after modules earlier commands ≡ true → NameModules (length modules) commands
all_name modules earlier [] valid k = tt
all_name modules earlier (c ∷ cs) valid zero = names modules earlier (act_of c) (first_true _ _ valid)
all_name modules earlier (c ∷ cs) valid (suc k) = all_name modules (earlier ++ c ∷ []) cs (second_true (is_valid_act modules earlier (act_of c)) _ valid) k

pub parties_name : (input : Input) (parties : List Party) (modules : ℕ) → parties ≡ input.parties → modules ≡ length input.modules → is_valid input ≡ true → (i : ℕ) (d : Party) → i < length parties → NameModules modules (slice_index_or parties i d).commands
parties_name input parties modules same count valid i d below =
    let inside : i < length input.parties = omega (arith, below, ap (length {A = Party}) same) in
    let Names : ℕ → List Party → Type 0 = λ n ps. NameModules n (slice_index_or ps i d).commands in
    subst (Names modules) (sym same)
    (subst (λ n. Names n input.parties) (sym count) (all_name input.modules [] (slice_index_or input.parties i d).commands (valid_commands input i (get_or input.parties i d) valid (slice_get-get_or input.parties i d inside))))

-- each party has the host that its input says
hosts_made : (P : Type 0) (s : Settings) (parties : List Party) → map host_of_party (map (party_made_for {P = P} s) parties) ≡ map host_for parties
hosts_made P s [] = refl
hosts_made P s (p ∷ ps) = ap (λ (hosts : List Host). host_for p ∷ hosts) (hosts_made P s ps)

-- Each entry of the schedule is of a party that there is, and each home is a small number.
pub entries_below : (input : Input) (parties : List Party) (schedule : List ScheduleEntry) → parties ≡ input.parties → schedule ≡ input.schedule → is_valid input ≡ true → (k : ℕ) (d : ScheduleEntry) → k < length schedule → (slice_index_or schedule k d).party < length parties
entries_below input parties schedule same entries valid k d below =
    let inside : k < length input.schedule = omega (arith, below, ap (length {A = ScheduleEntry}) entries) in
    let Below : List ScheduleEntry → List Party → Type 0 = λ es ps. (slice_index_or es k d).party < length ps in
    subst (Below schedule) (sym same) (subst (λ es. Below es input.parties) (sym entries) (valid_entry input k (get_or input.schedule k d) valid (slice_get-get_or input.schedule k d inside)))

pub homes_below : (input : Input) (parties : List Party) → parties ≡ input.parties → is_valid input ≡ true → (k : ℕ) (d : Party) → k < length parties → (slice_index_or parties k d).home < 2 ^ 32
homes_below input parties same valid k d below =
    let inside : k < length input.parties = omega (arith, below, ap (length {A = Party}) same) in
    let Below : List Party → Type 0 = λ ps. (slice_index_or ps k d).home < 2 ^ 32 in
    subst Below (sym same) (omega (arith, valid_home input k (get_or input.parties k d) valid (slice_get-get_or input.parties k d inside)))

places_of : (P : Type 0) (s : Settings) (party : Party) → length (party_made_for {P = P} s party).live ≡ length party.commands
places_of P s party = length-replicate {A = Option (Grant P PlainHeap)} (length party.commands) None

-- There are not too many places.
places_below : (P : Type 0) (s : Settings) (parties : List Party) → ((k : ℕ) (d : Party) → k < length parties → length (get_or parties k d).commands ≤ most_commands) → places_in (parties_made {P = P} s parties) ≤ length parties * 100001
places_below P s [] few = omega arith
places_below P s (p ∷ ps) few =
    let places : RunningParty P → ℕ = λ q. 1 + length q.live in
    let one : length p.commands ≤ most_commands = few 0 p (omega arith) in
    omega (arith, sum_by-cons places (party_made_for s p) (map (party_made_for {P = P} s) ps), places_of P s p, one, places_below P s ps (λ k d below. few (suc k) d (omega (arith, below))))

-- there is a call for each module
calls_count : (tunables : Tunables) (page n : ℕ) (ms : List ModuleInfo) → length (calls_made tunables page n ms) ≡ length ms
calls_count tunables page n [] = refl
calls_count tunables page n (m ∷ ms) = omega (arith, calls_count tunables page (n + 1) ms)

module _ {P : Type 0} where
  pub few_places : (input : Input) (c : PoolCore P PlainHeap) (parties : List Party) → parties ≡ input.parties → is_valid input ≡ true → places_in (parties_made {P = P} c.settings parties) + 1 < 2 ^ 64
  few_places input c parties same valid =
      let Few : List Party → Type 0 = λ ps. places_in (parties_made {P = P} c.settings ps) + 1 < 2 ^ 64 in
      subst Few (sym same)
      (omega (arith, valid_parties input valid, places_below P c.settings input.parties (λ k d below. few_commands input k (get_or input.parties k d) valid (slice_get-get_or input.parties k d below))))

  -- The run as it is made is under way.
  under_way : (input : Input) (maker : MakerTold) (c : PoolCore P PlainHeap) (modules : List ModuleAsked) → IsCore maker c → IsUntouched c → IsWorldOf (world_of input maker) c → AreCallsFor (world_of input maker).terms c.settings modules → IsUnderWay (world_of input maker) modules (commands_in input.parties) (record { core = c; modules = modules; parties = parties_made c.settings input.parties; replies = nothing_told input.parties })
  under_way input maker c modules core untouched world calls =
      let w : World = world_of input maker in
      let parties : List (RunningParty P) = map (party_made_for {P = P} c.settings) input.parties in
      let count : length parties ≡ length input.parties = length-map input.parties (party_made_for {P = P} c.settings) in
      let Way : ℕ → Type 0 = λ n. IsUnderWay w modules (commands_in input.parties) (record { core = c; modules = modules; parties = parties; replies = replicate n [] }) in
      subst Way count (run_started w modules (commands_in input.parties) c parties core untouched world calls (are_made c.settings input.parties) (hosts_made P c.settings input.parties) (λ alone. count ∙ eqb-true (length input.parties) 1 alone))

  calls_there : (input : Input) (maker : MakerTold) (c : PoolCore P PlainHeap) (modules : List ModuleAsked) → is_built input ≡ true → IsCore maker c → modules ≡ calls_made input.tunables maker.page 0 input.modules → AreCallsFor (world_of input maker).terms c.settings modules
  calls_there input maker c modules built core calls = are_calls_for (world_of input maker).terms c.settings modules (built_modules input built) core.page (omega (arith, core.settings.page.at_least)) calls

  pub made_under_way : (input : Input) (maker : MakerTold) (run : RunParts P) → IsRunnable input maker → IsMadeRun input maker run → IsUnderWay (world_of input maker) run.modules (commands_in input.parties) (told_state run (nothing_told input.parties))
  made_under_way input maker run runnable made =
      let core : IsCore maker run.core = core_sound input maker run.core runnable made.made in
      let Way : List (RunningParty P) → Type 0 = λ ps. IsUnderWay (world_of input maker) run.modules (commands_in input.parties) (record { core = run.core; modules = run.modules; parties = ps; replies = nothing_told input.parties }) in
      subst Way (sym made.parties) (under_way input maker run.core run.modules core (made_untouched maker input.config input.tunables input.offered input.shards run.core made.made) (is_world input maker run.core (omega (arith, core.page, core.settings.page.at_least)) made.made) (calls_there input maker run.core run.modules runnable.built core made.calls))

  pub made_count : (input : Input) (maker : MakerTold) (run : RunParts P) → IsMadeRun input maker run → length run.parties ≡ length input.parties
  made_count input maker run made = ap (length {A = RunningParty P}) made.parties ∙ length-map input.parties (party_made_for {P = P} run.core.settings)

  -- The run as it is made, once the lists of its replies are there.
  pub made_run : (input : Input) (run : RunParts P) (parties : List Party) (s : RunState P) → parties ≡ input.parties → s ≡ told_state run (nothing_told parties) → s ≡ told_state run (nothing_told input.parties)
  made_run input run parties s same is = is ∙ ap (λ (ps : List Party). told_state run (nothing_told ps)) same

  -- what the run is of
  abbrev pub background : Input → MakerTold → RunState P → Background
  background input maker s = record { world = world_of input maker; modules = s.modules; inputs = commands_in input.parties }

  pub is_run_of : (input : Input) (maker : MakerTold) (run : RunParts P) (s : RunState P) → IsRunnable input maker → is_valid input ≡ true → IsMadeRun input maker run → s ≡ told_state run (nothing_told input.parties) → IsRunOf (background input maker s) input.parties s
  is_run_of input maker run s runnable valid made is =
      let Of : RunState P → Type 0 = λ x. IsRunOf (background input maker x) input.parties x in
      subst Of (sym is)
      (record {
        way = made_under_way input maker run runnable made;
        inputs = refl;
        parties = made_count input maker run made;
        named = parties_name input input.parties (length run.modules) refl (ap (length {A = ModuleAsked}) made.calls ∙ calls_count input.tunables maker.page 0 input.modules) valid;
      })

  -- The run is under way at its end, and has as many parties.
  performed_under_way : (finish : Bool) (w : World) (modules : List ModuleAsked) (inputs : List (List Command)) (schedule : List ℕ) (s end : RunState P) → IsUnderWay w modules inputs s → Performs finish modules inputs schedule s end → IsUnderWay w modules inputs end × (length end.parties ≡ length s.parties)
  performed_under_way true w modules inputs schedule s end way runs = (run_under_way w modules inputs schedule s end way runs, run_count modules inputs schedule s end runs)
  performed_under_way false w modules inputs schedule s end way folds = (folds_under_way w modules inputs schedule s end way folds, folds_count modules inputs schedule s end folds)

  -- Its parties are in their stripes at its end.
  performed_in_stripes : (finish : Bool) (w : World) (modules : List ModuleAsked) (inputs : List (List Command)) (schedule : List ℕ) (s end : RunState P) → AreInStripes w modules inputs s → Performs finish modules inputs schedule s end → AreInStripes w modules inputs end
  performed_in_stripes true w modules inputs schedule s end are runs = folds_in_stripes w modules inputs (party_by_party 0 runs.finishes.counts) runs.scheduled end (folds_in_stripes w modules inputs schedule s runs.scheduled are runs.folds) runs.finishes.folds
  performed_in_stripes false w modules inputs schedule s end are folds = folds_in_stripes w modules inputs schedule s end are folds

  -- what holds of the stripe of party i
  at_stripe : (Q : ℕ → Type 0) (parties : List (RunningParty P)) (i : ℕ) (d : RunningParty P) → i < length parties → Q (slice_index_or parties i d).frame.stripe → Q (stripe_of (slice_get parties i))
  at_stripe Q parties i d inside is = subst Q (sym (ap stripe_of (slice_get-get_or parties i d inside))) is

  -- What the parties were told at the end of a run.
  told_by : (finish : Bool) (w : World) (modules : List ModuleAsked) (inputs : List (List Command)) (schedule : List ℕ) (s end : RunState P) (i : ℕ) (d : RunningParty P) → IsUnderWay w modules inputs s → Performs finish modules inputs schedule s end → i < length s.parties → IsToldBy finish (world_at w i (stripe_of (slice_get end.parties i))).terms (commands_of inputs i) (replies_to i end.replies)
  told_by true w modules inputs schedule s end i d way runs below =
      let ended : IsUnderWay w modules inputs end = run_under_way w modules inputs schedule s end way runs in
      let inside : i < length end.parties = omega (arith, below, run_count modules inputs schedule s end runs) in
      record { private = at_stripe (λ n. IsPrivateRun (world_at w i n).terms (commands_of inputs i) (replies_to i end.replies)) end.parties i d inside (replies_private w modules inputs end i d ended inside); all = all_replied w modules inputs end i d ended runs.finishes.finished inside }
  told_by false w modules inputs schedule s end i d way folds below =
      let ended : IsUnderWay w modules inputs end = folds_under_way w modules inputs schedule s end way folds in
      let inside : i < length end.parties = omega (arith, below, folds_count modules inputs schedule s end folds) in
      at_stripe (λ n. IsPrivateRun (world_at w i n).terms (commands_of inputs i) (replies_to i end.replies)) end.parties i d inside (replies_private w modules inputs end i d ended inside)

  made_idle : (s : Settings) (given : List Party) (parties : List (RunningParty P)) (i : ℕ) (d : RunningParty P) → parties ≡ parties_made s given → i < length given → is_idle (slice_index_or parties i d).frame.phase ≡ true
  made_idle s given parties i d made below =
      let nobody : Party = record { home = 0; limits = None; gc_faults = []; heap_faults = []; commands = [] } in
      let one : slice_index_or (parties_made s given) i d ≡ party_made_for s (slice_index_or given i nobody) = get_or-map (party_made_for {P = P} s) given i nobody d below in
      ap (λ (ps : List (RunningParty P)). is_idle (slice_index_or ps i d).frame.phase) made ∙ ap (λ (p : RunningParty P). is_idle p.frame.phase) one

  made_keyless : (s : Settings) (given : List Party) (parties : List (RunningParty P)) (i : ℕ) (d : RunningParty P) → parties ≡ parties_made s given → i < length given → (slice_index_or parties i d).keyed ≡ false
  made_keyless s given parties i d made below =
      let nobody : Party = record { home = 0; limits = None; gc_faults = []; heap_faults = []; commands = [] } in
      let one : slice_index_or (parties_made s given) i d ≡ party_made_for s (slice_index_or given i nobody) = get_or-map (party_made_for {P = P} s) given i nobody d below in
      ap (λ (ps : List (RunningParty P)). (slice_index_or ps i d).keyed) made ∙ ap (λ (p : RunningParty P). p.keyed) one

  -- From its start on, whatever turns come first and whatever turns come then: each party has its replies in time in those.
  pub replies_in_time : (input : Input) (maker : MakerTold) → IsRunnable input maker → (run : RunParts P) → IsMadeRun input maker run → (first turns : List ℕ) (s end : RunState P) → Folds run.modules (commands_in input.parties) first (told_state run (nothing_told input.parties)) s → Folds run.modules (commands_in input.parties) turns s end → AreInTime input run.core turns s.replies end.replies
  replies_in_time input maker runnable run made first turns s end before folds i below =
      let w : World = world_of input maker in
      let inputs : List (List Command) = commands_in input.parties in
      let start : RunState P = told_state run (nothing_told input.parties) in
      let way : IsUnderWay w run.modules inputs start = made_under_way input maker run runnable made in
      let z : PoolSizes = sizes_of run.core.settings run.core.plan in
      let d : RunningParty P = party_made 0 None [] [] run.core.settings 0 in
      let inside : i < length start.parties = omega (arith, below, made_count input maker run made) in
      let idle : is_idle (slice_index_or start.parties i d).frame.phase ≡ true = made_idle run.core.settings input.parties run.parties i d made.parties below in
      let within : Within w run.modules inputs i z start (slice_index_or start.parties i d) = λ busy. let wrong : true ≡ false = sym idle ∙ busy in absurd cc in
      let led : StepTo w run.modules inputs i z (own_turns i first) start s d = folds_step w run.modules inputs i z first start s d refl inside way before in
      come_in_time w run.modules inputs i z turns s end d led.0 (omega (arith, inside, folds_count run.modules inputs first start s before)) (folds_under_way w run.modules inputs first start s way before) folds (led.2 within)

  -- So the schedule brings them in time, whatever turns come after it.
  performed_in_time : (finish : Bool) (input : Input) (maker : MakerTold) (run : RunParts P) (end : RunState P) → IsRunnable input maker → IsMadeRun input maker run → Performs finish run.modules (commands_in input.parties) (turns_of input.schedule) (told_state run (nothing_told input.parties)) end → AreInTime input run.core (turns_of input.schedule) (nothing_told input.parties) end.replies
  performed_in_time false input maker run end runnable made folds = replies_in_time input maker runnable run made [] (turns_of input.schedule) (told_state run (nothing_told input.parties)) end refl folds
  performed_in_time true input maker run end runnable made runs =
      λ i below n inside enough.
      let start : RunState P = told_state run (nothing_told input.parties) in
      let first : List ℕ = turns_of input.schedule in
      let rest : List ℕ = party_by_party 0 runs.finishes.counts in
      let folds = folds_on run.modules (commands_in input.parties) first rest start runs.scheduled end runs.folds runs.finishes.folds in
      replies_in_time input maker runnable run made [] (first ++ rest) start end refl folds i below n inside (omega (arith, enough, sum_by-append (λ (k : ℕ). one_if (k == i)) first rest))

  -- So the output of its end is that of a run of the input.
  pub is_run : (input : Input) (maker : MakerTold) (run : RunParts P) (s end : RunState P) (output : RunOutput) → IsRunnable input maker → IsMadeRun input maker run → s ≡ told_state run (nothing_told input.parties)
      → Performs input.finish s.modules (commands_in input.parties) (turns_of input.schedule) s end
      → output.replies ≡ end.replies → output.metrics ≡ metrics_of end.core → output.calls ≡ calls_of_run end.core end.parties → IsRun P input maker output
  is_run input maker run s end output runnable made is performs replies metrics numbers =
      let w : World = world_of input maker in
      let From : RunState P → Type 0 = λ x. Performs input.finish x.modules (commands_in input.parties) (turns_of input.schedule) x end in
      let performed : From (told_state run (nothing_told input.parties)) = subst From is performs in
      record {
        start = run;
        made = made;
        end = end;
        performed = performed;
        replies = replies;
        told = λ i below.
            let Told : List (List Reply) → Type 0 = λ rs. IsToldBy input.finish (world_seen input maker end.parties i).terms (commands_of (commands_in input.parties) i) (replies_to i rs) in
            subst Told (sym replies) (told_by input.finish w run.modules (commands_in input.parties) (turns_of input.schedule) (told_state run (nothing_told input.parties)) end i (party_made 0 None [] [] run.core.settings 0) (made_under_way input maker run runnable made) performed (omega (arith, below, made_count input maker run made)));
        room = λ i below.
            let start : RunState P = told_state run (nothing_told input.parties) in
            let d : RunningParty P = party_made 0 None [] [] run.core.settings 0 in
            let are : AreInStripes w run.modules (commands_in input.parties) end =
            performed_in_stripes input.finish w run.modules (commands_in input.parties) (turns_of input.schedule) start end (new_in_stripes w run.modules (commands_in input.parties) start (made_under_way input maker run runnable made) (λ k x inside. made_keyless run.core.settings input.parties run.parties k x made.parties (omega (arith, inside, made_count input maker run made)))) performed in
            let Told : List (List Reply) → Type 0 = λ rs. IsExactRun (world_seen input maker end.parties i) (commands_of (commands_in input.parties) i) (replies_to i rs) in
            let inside : i < length end.parties = omega (arith, below, made_count input maker run made, (performed_under_way input.finish w run.modules (commands_in input.parties) (turns_of input.schedule) start end (made_under_way input maker run runnable made) performed).1) in
            subst Told (sym replies)
            (at_stripe (λ n. IsExactRun (world_at w i n) (commands_of (commands_in input.parties) i) (replies_to i end.replies)) end.parties i d inside
            (told_exactly w run.modules (commands_in input.parties) end i d refl are inside));
        in_time = subst (AreInTime input run.core (turns_of input.schedule) (nothing_told input.parties)) (sym replies) (performed_in_time input.finish input maker run end runnable made performed);
        metrics = metrics;
        calls_made = numbers;
      }

  -- The same of a run that was watched.
  pub is_watched_run : {W : Type 0} (Leads : TurnTold P → W → W → Type 0) (input : Input) (maker : MakerTold) (run : RunParts P) (s end : RunState P) (output : RunOutput) (w out : W) → IsRunnable input maker → IsMadeRun input maker run → s ≡ told_state run (nothing_told input.parties)
      → WatchesRun Leads input.finish s.modules (commands_in input.parties) (turns_of input.schedule) s end w out
      → output.replies ≡ end.replies → output.metrics ≡ metrics_of end.core → output.calls ≡ calls_of_run end.core end.parties → IsWatchedRun P Leads input maker output w out
  unfolding is_run
  is_watched_run Leads input maker run s end output w out runnable made is watched replies metrics numbers =
      let From : RunState P → Type 0 = λ x. WatchesRun Leads input.finish x.modules (commands_in input.parties) (turns_of input.schedule) x end w out in
      let performs = performs_watched Leads s.modules (commands_in input.parties) input.finish (turns_of input.schedule) s end w out watched in
      record {
        run = is_run input maker run s end output runnable made is performs replies metrics numbers;
        watched = subst From is watched;
      }

  -- Whatever turns are made from its start, pool and parties are sound.
  pub holds_from_start : (input : Input) (maker : MakerTold) → IsRunnable input maker → HoldsFromStart P input maker
  holds_from_start input maker runnable run made turns x folds =
      (folds_under_way (world_of input maker) run.modules (commands_in input.parties) turns (told_state run (nothing_told input.parties)) x (made_under_way input maker run runnable made) folds).holds
