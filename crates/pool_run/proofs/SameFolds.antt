-- Two runs over the same turns, in which the same commands find no memory, are the same.
use Rattle.std.proofs.Common.{◌≡◌, ◌≢◌, ℕ, zero, suc, ◌+◌, ◌<◌, Bool, true, false, List, [], ◌∷◌, ◌++◌, length, replicate, Option, Some, None, IsSome, ◌⊎◌, refl, sym, ap, ◌∙◌, subst, inl, inr, arith, IfSome, slice_get, slice_set}
use Rattle.pool_run.proofs.Imports.{cases_eq, cases_lt, append-nil, set_past, get_or-set_same, get_or-set_other, set-get_or, slice_get_past, slice_get_within, objects_in, ModuleAsked, stage_at, stage_of, is_idle, Phase, ModuleCall, PoolCore, PlainHeap}
use Rattle.pool_run.specs.Ties.{CanTurn}
use Rattle.pool_run.specs.Agreeing.{want_of_memory, WantAlike}
use Rattle.pool_run.specs.Folds.{RunState, commands_of, replies_to, replies_after, party_by_party, with_turn, TurnsIf, TurnsOf, Folds, HasNothingLeft, IsFinished, FinishesRun, Runs, IsUnderWay}
use Rattle.pool_run.specs.Rooms.{World}
use Rattle.pool_run.specs.Turns.{Turned, Turns, OpensAt, OpensNext, Opening, rests, Leaves, with_reply}
use Rattle.pool_run.specs.declared.command.Command.{Command}
use Rattle.pool_run.specs.declared.reply.Reply.{Reply}
use Rattle.pool_run.specs.declared.running_party.RunningParty.{RunningParty}
use Rattle.pool_run.proofs.Finishing.{set_same, turned_others}
use Rattle.pool_run.proofs.Ended.{folds_count}
use Rattle.pool_run.proofs.Folding.{run_turned, folds_on}
use Rattle.pool_run.proofs.KeptBetweenTurns.{set_other}
use Rattle.pool_run.proofs.Cleared.{IsClearIdle}
use Rattle.pool_run.proofs.Opened.{idle_is}
use Rattle.pool_run.proofs.Pending.{IsPast, PastReply, step_past}
use Rattle.pool_run.proofs.SameTurns.{IsApart, can_now, turn_alike, turn_clear}
use Rattle.pool_run.proofs.Wants.{stays_get}

-- what is put behind a list is there
last_get : {X : Type 0} (xs : List X) (x : X) → slice_get (xs ++ x ∷ []) (length xs) ≡ Some x
last_get [] x = refl
last_get (y ∷ xs) x = last_get xs x

-- Replies that were told stay told,
told_stays : (o : Option Reply) (before : List Reply) (n : ℕ) (r : Reply) → slice_get before n ≡ Some r → slice_get (with_reply o before) n ≡ Some r
told_stays None before n r there = there
told_stays (Some x) before n r there = stays_get before (x ∷ []) n r there

pub replies_stay : (i j n : ℕ) (o : Option Reply) (told : List (List Reply)) (r : Reply) → slice_get (replies_to j told) n ≡ Some r → slice_get (replies_to j (replies_after i o told)) n ≡ Some r
replies_stay i j n o told r there =
    let new : List Reply = with_reply o (replies_to i told) in
    let Get : List Reply → Type 0 = λ rs. slice_get rs n ≡ Some r in
    elim (cases_eq j i) [
      | inl is ↦
          let At : ℕ → Type 0 = λ k. Get (replies_to k told) → Get (replies_to k (slice_set told i new)) in
          subst At (sym is)
          (λ here. elim (cases_lt i (length told)) [
            | inl below ↦ subst Get (sym (get_or-set_same told i new [] below)) (told_stays o (replies_to i told) n r here)
            | inr past ↦ subst (λ (rs : List (List Reply)). Get (replies_to i rs)) (sym (set_past told i new past)) here
          ]) there
      | inr other ↦ subst Get (sym (get_or-set_other told i j new [] other)) there
    ]

-- and the one that a turn ends with is told.
pub told_now : (i : ℕ) (r : Reply) (told : List (List Reply)) → i < length told → slice_get (replies_to i (replies_after i (Some r) told)) (length (replies_to i told)) ≡ Some r
told_now i r told below = ap (λ (rs : List Reply). slice_get rs (length (replies_to i told))) (get_or-set_same told i (replies_to i told ++ r ∷ []) [] below) ∙ last_get (replies_to i told) r

module _ {P : Type 0} where
  -- What was told stays told.
  turn_tells : (modules : List ModuleAsked) (commands : List Command) (i j n : ℕ) (o : Option (RunningParty P)) (s new : RunState P) (r : Reply) → TurnsIf modules commands i o s new → slice_get (replies_to j s.replies) n ≡ Some r → slice_get (replies_to j new.replies) n ≡ Some r
  turn_tells modules commands i j n None s new r turns there = let G : RunState P → Type 0 = λ x. slice_get (replies_to j x.replies) n ≡ Some r in subst G (sym turns) there
  turn_tells modules commands i j n (Some p) s new r turns there =
      let G : RunState P → Type 0 = λ x. slice_get (replies_to j x.replies) n ≡ Some r in
      subst G (sym turns.2) (replies_stay i j n turns.0.reply s.replies r there)

  pub folds_tell : (modules : List ModuleAsked) (inputs : List (List Command)) (schedule : List ℕ) (j n : ℕ) (s end : RunState P) (r : Reply) → Folds modules inputs schedule s end → slice_get (replies_to j s.replies) n ≡ Some r → slice_get (replies_to j end.replies) n ≡ Some r
  folds_tell modules inputs [] j n s end r folds there = let G : RunState P → Type 0 = λ x. slice_get (replies_to j x.replies) n ≡ Some r in subst G (sym folds) there
  folds_tell modules inputs (i ∷ schedule) j n s end r folds there = folds_tell modules inputs schedule j n folds.0 end r folds.2 (turn_tells modules (commands_of inputs i) i j n (slice_get s.parties i) s folds.0 r folds.1 there)

  opens_rests : (modules : List ModuleCall) (commands : List Command) (p : RunningParty P) (b : Bool) (next : Option Command) (o : Opening P) → is_idle p.frame.phase ≡ b → b ≡ true → slice_get commands p.done ≡ next → next ≡ None → OpensAt b modules commands p o → o ≡ rests
  opens_rests modules commands p false next o idle is there none opens = absurd cc
  opens_rests modules commands p true next o idle is there none opens =
      let Opens : Option Command → Type 0 = λ n. OpensNext modules n p.keyed p o in
      subst Opens (there ∙ none) opens

  rest_turn : (modules : List ModuleCall) (commands : List Command) (c : PoolCore P PlainHeap) (p : RunningParty P) (t : Turned P) → HasNothingLeft commands p → Turns modules commands c p t → t ≡ record { core = c; party = p; reply = None }
  rest_turn modules commands c p t left turns =
      let L : Opening P → Type 0 = λ o. Leaves o c p t in
      subst L (opens_rests modules commands p (is_idle p.frame.phase) (slice_get commands p.done) turns.0 refl left.idle refl (slice_get_past commands p.done left.all) turns.1) turns.2

  rest_state : (modules : List ModuleCall) (commands : List Command) (i : ℕ) (o : Option (RunningParty P)) (s new : RunState P) → slice_get s.parties i ≡ o → IfSome o (HasNothingLeft commands) → TurnsIf modules commands i o s new → new ≡ s
  rest_state modules commands i None s new there left turns = turns
  rest_state modules commands i (Some p) s new there left turns =
      let With : List (RunningParty P) → List (List Reply) → RunState P = λ ps rs. record { core = s.core; modules = s.modules; parties = ps; replies = rs } in
      turns.2 ∙ ap (λ (t : Turned P). with_turn i t s) (rest_turn modules commands s.core p turns.0 left turns.1)
      ∙ ap (λ (ps : List (RunningParty P)). With ps (slice_set s.replies i (replies_to i s.replies))) (set_same s.parties i p there) ∙ ap (With s.parties) (set-get_or s.replies i [])

  abbrev pub HasLeftNothing : List (List Command) → ℕ → RunState P → Type 0
  HasLeftNothing inputs i s = IfSome (slice_get s.parties i) (HasNothingLeft (commands_of inputs i))

  -- Other parties' turns leave a party as it is.
  later_others : (modules : List ModuleCall) (inputs : List (List Command)) (k i : ℕ) (counts : List ℕ) (s end : RunState P) → k < i → Folds modules inputs (party_by_party i counts) s end → slice_get end.parties k ≡ slice_get s.parties k
  later_others modules inputs k i [] s end below folds = ap (λ (x : RunState P). slice_get x.parties k) folds
  later_others modules inputs k i (zero ∷ counts) s end below folds = later_others modules inputs k (i + 1) counts s end (omega (arith, below)) folds
  later_others modules inputs k i (suc n ∷ counts) s end below folds =
      later_others modules inputs k i (n ∷ counts) folds.0 end below folds.2 ∙ turned_others modules (commands_of inputs i) i k (slice_get s.parties i) s folds.0 (λ e. omega (arith, e, below)) folds.1

-- the elements of a list after one was changed
set_there : {X : Type 0} (xs : List X) (i : ℕ) (x y : X) → slice_get xs i ≡ Some y → slice_get (slice_set xs i x) i ≡ Some x
set_there [] i x y there = absurd cc
set_there (z ∷ zs) zero x y there = refl
set_there (z ∷ zs) (suc i) x y there = set_there zs i x y there

not_wanted : (told : List Reply) (n : ℕ) (r : Reply) → slice_get told n ≡ Some r → r ≢ want_of_memory → slice_get told n ≢ Some want_of_memory
not_wanted told n r there not is = not (let both : Some r ≡ Some want_of_memory = sym there ∙ is in cc)

-- turns of a run in this world
module _ {P : Type 0} (w : World) (modules : List ModuleAsked) (inputs : List (List Command)) where
  -- the frames of parties without a call are clear
  abbrev pub AllClear : RunState P → Type 0
  AllClear s = (k : ℕ) → IfSome (slice_get s.parties k) (λ q. IsClearIdle q.frame)

  clear_at : (s : RunState P) (k : ℕ) (q : RunningParty P) → slice_get s.parties k ≡ Some q → AllClear s → IsClearIdle q.frame
  clear_at s k q there clear = let C : Option (RunningParty P) → Type 0 = λ o. IfSome o (λ x. IsClearIdle x.frame) in subst C there (clear k)

  clear_turned : (i : ℕ) (o : Option (RunningParty P)) (s new : RunState P) → slice_get s.parties i ≡ o → IsUnderWay w modules inputs s → AllClear s → TurnsIf modules (commands_of inputs i) i o s new → AllClear new
  clear_turned i None s new there way clear turns = subst AllClear (sym turns) clear
  clear_turned i (Some p) s new there way clear turns =
      subst AllClear (sym turns.2)
      (λ k.
      let C : Option (RunningParty P) → Type 0 = λ o. IfSome o (λ x. IsClearIdle x.frame) in
      elim (cases_eq k i) [
        | inl is ↦
            let here : C (slice_get (slice_set s.parties i turns.0.party) i) = subst C (sym (set_there s.parties i turns.0.party p there)) (turn_clear w modules inputs i p s there way turns.0 (clear_at s i p there clear) turns.1) in
            subst (λ (n : ℕ). C (slice_get (slice_set s.parties i turns.0.party) n)) (sym is) here
        | inr other ↦ subst C (sym (set_other s.parties i k turns.0.party other)) (clear k)
      ])

  -- A request that passed its test is pending: its reply is to be this one.
  record IsPending (i n : ℕ) (s : RunState P) : Type 0 where
    party : RunningParty P
    there : slice_get s.parties i ≡ Some party
    past : IsPast (stage_of party.frame)
    count : length (replies_to i s.replies) ≡ n

  past_turns : (c : PoolCore P PlainHeap) (p : RunningParty P) (commands : List Command) (t : Turned P) (b : Bool) (o : Opening P) → is_idle p.frame.phase ≡ b → CanTurn w.maker c p → IsPast (stage_of p.frame) → OpensAt b modules commands p o → Leaves o c p t → PastReply t.reply (stage_of t.party.frame)
  past_turns c p commands t true o idle can past opens leaves =
      let S : Phase P PlainHeap → Type 0 = λ x. IsPast (stage_at x p.frame.asked p.frame.ending (objects_in p.frame.objects)) in
      absurd (subst S (idle_is p.frame.phase idle) past)
  past_turns c p commands t false o busy can past opens leaves =
      let L : Opening P → Type 0 = λ x. Leaves x c p t in
      step_past w.maker c p t can past (subst L opens leaves)

  -- It never is that there is no memory.
  later_by : (i n : ℕ) (s : RunState P) (t : Turned P) (p : RunningParty P) (o : Option Reply) → slice_get s.parties i ≡ Some p → t.reply ≡ o → i < length s.replies → length (replies_to i s.replies) ≡ n → PastReply o (stage_of t.party.frame) → (IsPending i n (with_turn i t s)) ⊎ ((r : Reply) × (slice_get (replies_to i (with_turn i t s).replies) n ≡ Some r) × (r ≢ want_of_memory))
  later_by i n s t p None there reply below count past =
      let same : replies_to i (replies_after i t.reply s.replies) ≡ replies_to i s.replies = ap (λ (o : Option Reply). replies_to i (replies_after i o s.replies)) reply ∙ get_or-set_same s.replies i (replies_to i s.replies) [] below in
      inl (record { party = t.party; there = set_there s.parties i t.party p there; past = past; count = ap (length {A = Reply}) same ∙ count })
  later_by i n s t p (Some r) there reply below count past =
      let At : ℕ → Type 0 = λ k. slice_get (replies_to i (replies_after i t.reply s.replies)) k ≡ Some r in
      let With : Option Reply → Type 0 = λ o. slice_get (replies_to i (replies_after i o s.replies)) (length (replies_to i s.replies)) ≡ Some r in
      inr (r, subst At count (subst With (sym reply) (told_now i r s.replies below)), past)

  pending_by : (i n j : ℕ) (q : Option (RunningParty P)) (s new : RunState P) → slice_get s.parties j ≡ q → IsUnderWay w modules inputs s → IsPending i n s → TurnsIf modules (commands_of inputs j) j q s new → (IsPending i n new) ⊎ ((r : Reply) × (slice_get (replies_to i new.replies) n ≡ Some r) × (r ≢ want_of_memory))
  pending_by i n j None s new there way pending turns = let G : RunState P → Type 0 = λ x. (IsPending i n x) ⊎ ((r : Reply) × (slice_get (replies_to i x.replies) n ≡ Some r) × (r ≢ want_of_memory)) in subst G (sym turns) (inl pending)
  pending_by i n j (Some p) s new there way pending turns =
      let G : RunState P → Type 0 = λ x. (IsPending i n x) ⊎ ((r : Reply) × (slice_get (replies_to i x.replies) n ≡ Some r) × (r ≢ want_of_memory)) in
      subst G (sym turns.2)
      (elim (cases_eq i j) [
        | inl is ↦
            let here : slice_get s.parties i ≡ Some p = subst (λ (k : ℕ). slice_get s.parties k ≡ Some p) (sym is) there in
            let party : pending.party ≡ p = let both : Some pending.party ≡ Some p = sym pending.there ∙ here in cc in
            let Past : RunningParty P → Type 0 = λ x. IsPast (stage_of x.frame) in
            let past = past_turns s.core p (commands_of inputs j) turns.0 (is_idle p.frame.phase) turns.1.0 refl (can_now w modules inputs j p s there way) (subst Past party pending.past) turns.1.1 turns.1.2 in
            let below : i < length s.replies = omega (arith, slice_get_within s.parties i p here, way.told) in
            subst (λ (k : ℕ). G (with_turn k turns.0 s)) is (later_by i n s turns.0 p turns.0.reply here refl below pending.count past)
        | inr other ↦
            let replies : replies_to i (replies_after j turns.0.reply s.replies) ≡ replies_to i s.replies = get_or-set_other s.replies j i (with_reply turns.0.reply (replies_to j s.replies)) [] other in
            inl (record {
              party = pending.party;
              there = set_other s.parties j i turns.0.party other ∙ pending.there;
              past = pending.past;
              count = ap (length {A = Reply}) replies ∙ pending.count;
            })
      ])

  pending_folds : (i n : ℕ) (schedule : List ℕ) (s end : RunState P) → IsUnderWay w modules inputs s → IsPending i n s → Folds modules inputs schedule s end → slice_get (replies_to i end.replies) n ≢ Some want_of_memory
  pending_folds i n [] s end way pending folds is =
      let At : RunState P → Type 0 = λ x. slice_get (replies_to i x.replies) n ≡ Some want_of_memory in
      let none : slice_get (replies_to i s.replies) n ≡ None = slice_get_past (replies_to i s.replies) n (omega (arith, pending.count)) in
      let wrong : None ≡ Some want_of_memory = sym none ∙ subst At folds is in
      absurd cc
  pending_folds i n (j ∷ schedule) s end way pending folds is =
      elim (pending_by i n j (slice_get s.parties j) s folds.0 refl way pending folds.1) [
        | inl still ↦ pending_folds i n schedule folds.0 end (run_turned w modules inputs j s folds.0 way folds.1) still folds.2 is
        | inr told ↦ not_wanted (replies_to i end.replies) n told.0 (folds_tell modules inputs schedule i n folds.0 end told.0 folds.2 told.1) told.2 is
      ]

  -- Where one turn found no memory, and the other went on, the ends tell.
  apart_tells : (i : ℕ) (p : RunningParty P) (s new other end last : RunState P) (t u : Turned P) (rest more : List ℕ) → slice_get s.parties i ≡ Some p → IsUnderWay w modules inputs s → IsUnderWay w modules inputs other → new ≡ with_turn i t s → other ≡ with_turn i u s → IsApart t u → Folds modules inputs rest new end → Folds modules inputs more other last
      → ((j n : ℕ) → slice_get (replies_to j end.replies) n ≡ Some want_of_memory → slice_get (replies_to j last.replies) n ≡ Some want_of_memory) → ⊥
  apart_tells i p s new other end last t u rest more there way going one two apart folds also alike =
      let n : ℕ = length (replies_to i s.replies) in
      let below : i < length s.replies = omega (arith, slice_get_within s.parties i p there, way.told) in
      let At : RunState P → Type 0 = λ x. slice_get (replies_to i x.replies) n ≡ Some want_of_memory in
      let With : Option Reply → Type 0 = λ o. slice_get (replies_to i (replies_after i o s.replies)) n ≡ Some want_of_memory in
      let told : At new = subst At (sym one) (subst With (sym apart.wants) (told_now i want_of_memory s.replies below)) in
      let wanted : At last = alike i n (folds_tell modules inputs rest i n new end want_of_memory folds told) in
      let G : RunState P → Type 0 = λ x. (IsPending i n x) ⊎ ((r : Reply) × (slice_get (replies_to i x.replies) n ≡ Some r) × (r ≢ want_of_memory)) in
      elim (subst G (sym two) (later_by i n s u p u.reply there refl below refl apart.later)) [
        | inl pending ↦ pending_folds i n more other last going pending also wanted
        | inr other_reply ↦ not_wanted (replies_to i last.replies) n other_reply.0 (folds_tell modules inputs more i n other last other_reply.0 also other_reply.1) other_reply.2 wanted
      ]

-- a world whose maker tells what its regions hold, and which of their calls fail, and two runs in it that come to these ends
module _ {P : Type 0} (w : World) (tells : w.maker.tells ≡ true) (planned : IsSome w.maker.plan) (modules : List ModuleAsked) (inputs : List (List Command)) (end last : RunState P) (alike : WantAlike end.replies last.replies) where
  abbrev pub F : List ℕ → RunState P → RunState P → Type 0
  F schedule s x = Folds modules inputs schedule s x

  -- A turn of a party from one state leaves the same,
  turned_same : (i : ℕ) (o : Option (RunningParty P)) (s new other : RunState P) (rest more : List ℕ) → slice_get s.parties i ≡ o → IsUnderWay w modules inputs s → AllClear w modules inputs s → IsUnderWay w modules inputs new → IsUnderWay w modules inputs other → TurnsIf modules (commands_of inputs i) i o s new → TurnsIf modules (commands_of inputs i) i o s other → F rest new end → F more other last → new ≡ other
  turned_same i None s new other rest more there way clear going on turns also folds after = turns ∙ sym also
  turned_same i (Some p) s new other rest more there way clear going on turns also folds after =
      elim (turn_alike w modules inputs i p s there way tells planned turns.0 also.0 (clear_at w modules inputs s i p there clear) turns.1 also.1) [
        | inl same ↦ turns.2 ∙ ap (λ (t : Turned P). with_turn i t s) same ∙ sym also.2
        | inr apart ↦
            elim apart [
              | inl one ↦ absurd (apart_tells w modules inputs i p s new other end last turns.0 also.0 rest more there way on turns.2 also.2 one folds after (λ j n. (alike j n).0))
              | inr two ↦ absurd (apart_tells w modules inputs i p s other new last end also.0 turns.0 more rest there way going also.2 turns.2 two after folds (λ j n. (alike j n).1))
            ]
      ]

  turns_same : (i : ℕ) (s new other : RunState P) (rest more : List ℕ) → IsUnderWay w modules inputs s → AllClear w modules inputs s → TurnsOf modules inputs i s new → TurnsOf modules inputs i s other → F rest new end → F more other last → new ≡ other
  turns_same i s new other rest more way clear turns also folds after =
      turned_same i (slice_get s.parties i) s new other rest more refl way clear (run_turned w modules inputs i s new way turns) (run_turned w modules inputs i s other way also) turns also folds after

  -- so two runs come through one state,
  pub record AreOne (rest more : List ℕ) : Type 0 where
    pub mid : RunState P
    pub way : IsUnderWay w modules inputs mid
    pub clear : AllClear w modules inputs mid
    pub first : F rest mid end
    pub second : F more mid last

  next_same : (i : ℕ) (s new other : RunState P) (rest more : List ℕ) → IsUnderWay w modules inputs s → AllClear w modules inputs s → TurnsOf modules inputs i s new → TurnsOf modules inputs i s other → F rest new end → F more other last → AreOne rest more
  next_same i s new other rest more way clear turns also folds after =
      let From : RunState P → Type 0 = λ x. F more x last in
      record {
        mid = new;
        way = run_turned w modules inputs i s new way turns;
        clear = clear_turned w modules inputs i (slice_get s.parties i) s new refl way clear turns;
        first = folds;
        second = subst From (sym (turns_same i s new other rest more way clear turns also folds after)) after;
      }

  -- after the turns of a schedule,
  pub schedule_same : (schedule rest more : List ℕ) (s : RunState P) → IsUnderWay w modules inputs s → AllClear w modules inputs s → F (schedule ++ rest) s end → F (schedule ++ more) s last → AreOne rest more
  schedule_same [] rest more s way clear folds also = record { mid = s; way = way; clear = clear; first = folds; second = also }
  schedule_same (i ∷ schedule) rest more s way clear folds also =
      let one : AreOne (schedule ++ rest) (schedule ++ more) = next_same i s folds.0 also.0 (schedule ++ rest) (schedule ++ more) way clear folds.1 also.1 folds.2 also.2 in
      schedule_same schedule rest more one.mid one.way one.clear one.first one.second

  -- after those of a party until it has nothing left,
  party_same : (i n m : ℕ) (rest more : List ℕ) (s : RunState P) → IsUnderWay w modules inputs s → AllClear w modules inputs s → F (replicate n i ++ rest) s end → F (replicate m i ++ more) s last → ((x : RunState P) → F rest x end → HasLeftNothing inputs i x) → ((x : RunState P) → F more x last → HasLeftNothing inputs i x) → AreOne rest more
  party_same i zero zero rest more s way clear folds also left right = record { mid = s; way = way; clear = clear; first = folds; second = also }
  party_same i zero (suc m) rest more s way clear folds also left right =
      let same : also.0 ≡ s = rest_state modules (commands_of inputs i) i (slice_get s.parties i) s also.0 refl (left s folds) also.1 in
      let From : RunState P → Type 0 = λ x. F (replicate m i ++ more) x last in
      party_same i zero m rest more s way clear folds (subst From same also.2) left right
  party_same i (suc n) zero rest more s way clear folds also left right =
      let same : folds.0 ≡ s = rest_state modules (commands_of inputs i) i (slice_get s.parties i) s folds.0 refl (right s also) folds.1 in
      let From : RunState P → Type 0 = λ x. F (replicate n i ++ rest) x end in
      party_same i n zero rest more s way clear (subst From same folds.2) also left right
  party_same i (suc n) (suc m) rest more s way clear folds also left right =
      let one : AreOne (replicate n i ++ rest) (replicate m i ++ more) = next_same i s folds.0 also.0 (replicate n i ++ rest) (replicate m i ++ more) way clear folds.1 also.1 folds.2 also.2 in
      party_same i n m rest more one.mid one.way one.clear one.first one.second left right

  -- and after those of all parties, one after another, which is the end.
  pub parties_same : (i : ℕ) (counts numbers : List ℕ) (s : RunState P) → length counts ≡ length numbers → IsUnderWay w modules inputs s → AllClear w modules inputs s → F (party_by_party i counts) s end → F (party_by_party i numbers) s last → IsFinished inputs end → IsFinished inputs last → end ≡ last
  parties_same i [] [] s same way clear folds also left right = folds ∙ sym also
  parties_same i [] (m ∷ ms) s same way clear folds also left right = absurd (omega (arith, same))
  parties_same i (n ∷ ns) [] s same way clear folds also left right = absurd (omega (arith, same))
  parties_same i (n ∷ ns) (m ∷ ms) s same way clear folds also left right =
      let L : Option (RunningParty P) → Type 0 = λ o. IfSome o (HasNothingLeft (commands_of inputs i)) in
      let one : AreOne (party_by_party (i + 1) ns) (party_by_party (i + 1) ms) =
      party_same i n m (party_by_party (i + 1) ns) (party_by_party (i + 1) ms) s way clear folds also
      (λ x rest. subst L (later_others modules inputs i (i + 1) ns x end (omega arith) rest) (left i))
      (λ x more. subst L (later_others modules inputs i (i + 1) ms x last (omega arith) more) (right i)) in
      parties_same (i + 1) ns ms one.mid (omega (arith, same)) one.way one.clear one.first one.second left right

  -- Whole runs.
  pub folds_same : (schedule : List ℕ) (s : RunState P) → IsUnderWay w modules inputs s → AllClear w modules inputs s → F schedule s end → F schedule s last → end ≡ last
  folds_same schedule s way clear folds also =
      let End : List ℕ → Type 0 = λ turns. F turns s end in
      let Last : List ℕ → Type 0 = λ turns. F turns s last in
      let one : AreOne [] [] = schedule_same schedule [] [] s way clear (subst End (sym (append-nil schedule)) folds) (subst Last (sym (append-nil schedule)) also) in
      one.first ∙ sym one.second

  pub runs_same : (schedule : List ℕ) (s : RunState P) → IsUnderWay w modules inputs s → AllClear w modules inputs s → Runs modules inputs schedule s end → Runs modules inputs schedule s last → end ≡ last
  runs_same schedule s way clear runs also =
      let one : FinishesRun modules inputs runs.scheduled end = runs.finishes in
      let two : FinishesRun modules inputs also.scheduled last = also.finishes in
      let both : AreOne (party_by_party 0 one.counts) (party_by_party 0 two.counts) =
      schedule_same schedule (party_by_party 0 one.counts) (party_by_party 0 two.counts) s way clear
      (folds_on modules inputs schedule (party_by_party 0 one.counts) s runs.scheduled end runs.folds one.folds)
      (folds_on modules inputs schedule (party_by_party 0 two.counts) s also.scheduled last also.folds two.folds) in
      let number : length one.counts ≡ length two.counts =
      one.parties ∙ folds_count modules inputs schedule s runs.scheduled runs.folds ∙ sym (folds_count modules inputs schedule s also.scheduled also.folds) ∙ sym two.parties in
      parties_same 0 one.counts two.counts both.mid number both.way both.clear both.first both.second one.finished two.finished
