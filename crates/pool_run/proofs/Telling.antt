-- The replies are kept in lists beside the run, which have room for all of them.
use Rattle.std.proofs.Common.{◌≡◌, ℕ, ◌<◌, ◌≤◌, Option, Some, None, List, [], ◌∷◌, ◌++◌, length, map, refl, sym, ap, ◌∙◌, subst, inl, inr, arith, IfSome, replicate, slice_set, slice_index_or}
use Rattle.pool_run.proofs.Imports.{cases_eq, length-map, length-replicate, length-set, length_push, get_or-map, get_or-set_same, get_or-set_other, map-set, Reserved, no_room, Grant, Settings, PlainHeap}
use Rattle.pool_run.specs.Folds.{RunParts, RunState, commands_of, replies_to, told_state, replies_after}
use Rattle.pool_run.specs.Progress.{IsRunOf}
use Rattle.pool_run.specs.RunsMade.{Background, HaveRoom, party_made, party_made_for, parties_made, room_for, with_told}
use Rattle.pool_run.specs.Turns.{with_reply}
use Rattle.pool_run.specs.declared.input.Party.{Party}
use Rattle.pool_run.specs.declared.reply.Reply.{Reply}
use Rattle.pool_run.specs.declared.running_party.RunningParty.{RunningParty}
use Rattle.pool_run.proofs.Ended.{few_told}

abbrev pub lists_of : List (Reserved Reply) → List (List Reply)
lists_of told = map (λ l. l.items) told

items_more : (reply : Option Reply) (l : Reserved Reply) → (with_told reply l).items ≡ with_reply reply l.items
items_more None l = refl
items_more (Some reply) l = refl

same_room : (reply : Option Reply) (l : Reserved Reply) → (with_told reply l).room ≡ l.room
same_room None l = refl
same_room (Some reply) l = refl

-- the lists after a turn
pub told_more : (i : ℕ) (reply : Option Reply) (told : List (Reserved Reply)) → i < length told → lists_of (slice_set told i (with_told reply (slice_index_or told i no_room))) ≡ replies_after i reply (lists_of told)
told_more i reply told below =
    map-set (λ (l : Reserved Reply). l.items) told i (with_told reply (slice_index_or told i no_room))
    ∙ ap (slice_set (lists_of told) i) (items_more reply (slice_index_or told i no_room) ∙ ap (with_reply reply) (sym (get_or-map (λ (l : Reserved Reply). l.items) told i no_room [] below)))

all_empty : (parties : List Party) → lists_of (map room_for parties) ≡ replicate (length parties) []
all_empty [] = refl
all_empty (p ∷ ps) = ap (λ (l : List (List Reply)). [] ∷ l) (all_empty ps)

-- and before the first
pub none_told : (parties : List Party) (told : List (Reserved Reply)) → told ≡ map room_for parties → lists_of told ≡ replicate (length parties) []
none_told parties told is = ap lists_of is ∙ all_empty parties

-- the party is one of the run that is kept with the replies
pub inside_now : {P : Type 0} (run : RunParts P) (told : List (List Reply)) (s : RunState P) (of : Background) (given : List Party) (i : ℕ) → told_state run told ≡ s → IsRunOf of given s → i < length given → i < length run.parties
inside_now {P = P} run told s of given i is way inside = omega (arith, ap (λ (x : RunState P). length x.parties) is, way.parties, inside)

module _ {P : Type 0} where
  pub room_made : (s : Settings) (parties : List Party) (made : List (RunningParty P)) (told : List (Reserved Reply)) → made ≡ parties_made s parties → told ≡ map room_for parties → HaveRoom made told
  room_made s parties made told same is =
      let R : List (RunningParty P) → List (Reserved Reply) → Type 0 = λ ps ls. HaveRoom ps ls in
      let first : R (parties_made s parties) (map room_for parties) =
      record {
        count = length-map parties room_for ∙ sym (length-map parties (party_made_for {P = P} s));
        each = λ i d x below.
            let inside : i < length parties = omega (arith, below, length-map parties (party_made_for {P = P} s)) in
            let q : Party = slice_index_or parties i (record { home = 0; limits = None; gc_faults = []; heap_faults = []; commands = [] }) in
            let party : length (slice_index_or (parties_made {P = P} s parties) i d).live ≡ length (party_made_for {P = P} s q).live = ap (λ (p : RunningParty P). length p.live) (get_or-map (party_made_for {P = P} s) parties i (record { home = 0; limits = None; gc_faults = []; heap_faults = []; commands = [] }) d inside) in
            let room : (slice_index_or (map room_for parties) i x).room ≡ length q.commands = ap (λ (l : Reserved Reply). l.room) (get_or-map room_for parties i (record { home = 0; limits = None; gc_faults = []; heap_faults = []; commands = [] }) x inside) in
            omega (arith, party, room, length-replicate {A = Option (Grant P PlainHeap)} (length q.commands) None);
      } in
      subst (λ ps. R ps told) (sym same) (subst (R (parties_made s parties)) (sym is) first)

-- a turn of party i of a run, after which it goes on
module _ {P : Type 0} (of : Background) (given : List Party) (i : ℕ) (reply : Option Reply) (run new : RunParts P) (told : List (Reserved Reply)) (before : List (List Reply)) (same : before ≡ lists_of told) (room : HaveRoom run.parties told) (was : IsRunOf of given (told_state run before)) (is : IsRunOf of given (told_state new (replies_after i reply before))) (inside : i < length given) where
  below : i < length told
  below = omega (arith, inside, room.count, was.parties)

  -- The party has as many places as before.
  places_same : (k : ℕ) (d : RunningParty P) → k < length given → length (slice_index_or new.parties k d).live ≡ length (slice_index_or run.parties k d).live
  places_same k d there = omega (arith, (was.way.each k d (omega (arith, there, was.parties))).room, (is.way.each k d (omega (arith, there, is.parties))).room)

  room_for_reply : (o : Option Reply) → reply ≡ o → IfSome o (λ r. length (slice_index_or told i no_room).items < (slice_index_or told i no_room).room)
  room_for_reply None none = tt
  room_for_reply (Some r) some =
      let d : RunningParty P = party_made 0 None [] [] run.core.settings 0 in
      let items : List Reply = (slice_index_or told i no_room).items in
      let few = few_told of.world (commands_of of.inputs i) (replies_to i (replies_after i reply before)) (slice_index_or new.parties i d) (is.way.each i d (omega (arith, inside, is.parties))) in
      let long : i < length before = omega (arith, below, ap (length {A = List Reply}) same, length-map told (λ (l : Reserved Reply). l.items)) in
      let one : replies_to i (replies_after i reply before) ≡ items ++ r ∷ [] = get_or-set_same before i (with_reply reply (replies_to i before)) [] long ∙ ap (λ (o : Option Reply). with_reply o (replies_to i before)) some ∙ ap (λ (rs : List Reply). rs ++ r ∷ []) (ap (replies_to i) same ∙ get_or-map (λ (l : Reserved Reply). l.items) told i no_room [] below) in
      omega (arith, few, ap (length {A = Reply}) one, length_push items r, places_same i d inside, room.each i d no_room (omega (arith, inside, was.parties)))

  -- There is room for the reply,
  pub room_there : IfSome reply (λ r. length (slice_index_or told i no_room).items < (slice_index_or told i no_room).room)
  room_there = room_for_reply reply refl

  -- and for those to come.
  pub still_room : HaveRoom new.parties (slice_set told i (with_told reply (slice_index_or told i no_room)))
  still_room =
      let l : Reserved Reply = with_told reply (slice_index_or told i no_room) in
      record {
        count = omega (arith, length-set told i l, room.count, was.parties, is.parties);
        each = λ k d x here.
            let there : k < length given = omega (arith, here, is.parties) in
            let Room : ℕ → Type 0 = λ n. length (slice_index_or run.parties n d).live ≤ (slice_index_or (slice_set told i l) n x).room in
            let kept : Room k =
            elim (cases_eq k i) [
              | inl at_i ↦ subst Room (sym at_i) (omega (arith, ap (λ (y : Reserved Reply). y.room) (get_or-set_same told i l x below), same_room reply (slice_index_or told i no_room), room.each i d no_room (omega (arith, inside, was.parties))))
              | inr other ↦ omega (arith, ap (λ (y : Reserved Reply). y.room) (get_or-set_other told i k l x other), room.each k d x (omega (arith, there, was.parties)))
            ] in
            omega (arith, kept, places_same k d there);
      }
