-- What a table of affinities tells after one of its places changed.
use Rattle.std.proofs.Common.{◌≡◌, ◌≢◌, ℕ, zero, suc, ◌+◌, ◌^◌, ◌<◌, ◌≤◌, true, false, List, [], ◌∷◌, length, replicate, refl, ap, sym, ◌∙◌, subst, arith, inl, inr, ⊎_elim, true≢false, length-set, get_or-set_same, get_or-set_other, Option, None, Some, IfSome, is_some, option_map, slice_index_or, slice_set, max, if◌then◌else◌}
use Rattle.pool_index.proofs.Imports.{option_or, zero-mod, cases_eq, cases_lt, cases_Bool, nat_tests, get_or_past, get_or-replicate, length-replicate, sum_by-set, sum_by-cons}
use Rattle.pool_index.specs.Table.{same_affinity, mixed, home, place, distance, has, own, entry_with, ends_at, ends_len, entry_len, table_total, IsSpot}
use Rattle.pool_index.specs.TableFields.{IsTable}
use Rattle.pool_index.specs.declared.ids.MemoryInModule.{MemoryInModule}
use Rattle.pool_index.specs.declared.affinity_table.Ends.{Ends}
use Rattle.pool_index.specs.declared.affinity_table.AffinityEntry.{AffinityEntry}

abbrev pub Entries : Type 0
Entries = List (Option AffinityEntry)

abbrev pub Affinity : Type 0
Affinity = Option MemoryInModule

pub same_is : (a b : Affinity) → same_affinity a b ≡ true → a ≡ b
same_is (Some a) (Some b) e =
    let m : a.0.0 ≡ b.0.0 = grind (arith, nat_tests) in
    let i : a.1.0 ≡ b.1.0 = grind (arith, nat_tests) in
    (λ k. Some (record { 0 = record { 0 = m k }; 1 = record { 0 = i k } }))
same_is None None e = refl
same_is (Some a) None e = cc
same_is None (Some b) e = cc

pub same_self : (a : Affinity) → same_affinity a a ≡ true
same_self None = refl
same_self (Some a) = grind (arith, nat_tests)

own_none : (a : Affinity) (e : Option AffinityEntry) → has a e ≡ false → own a e ≡ None
own_none a None h = refl
own_none a (Some e) h = rw h refl

pub none_has : (es : Entries) (a : Affinity) → ((i : ℕ) → has a (slice_index_or es i None) ≡ false) → ends_at es a ≡ None
none_has [] a h = refl
none_has (e ∷ es) a h = rw (own_none a e (h 0)) (none_has es a (λ i. h (suc i)))

or_none : {X : Type 0} (o : Option X) → option_or o None ≡ o
or_none None = refl
or_none (Some x) = refl

-- where no other place has an affinity, one place has what the table has
one_has : (es : Entries) (i : ℕ) (a : Affinity) → i < length es → ((j : ℕ) → j ≢ i → has a (slice_index_or es j None) ≡ false) → ends_at es a ≡ own a (slice_index_or es i None)
one_has [] i a inside h = absurd (omega arith)
one_has (e ∷ es) zero a inside h = rw (none_has es a (λ j. h (suc j) (λ same. absurd (omega arith)))) (or_none (own a e))
one_has (e ∷ es) (suc i) a inside h = rw (own_none a e (h 0 (λ same. absurd (omega arith)))) (one_has es i a (omega arith) (λ j other. h (suc j) (λ same. other (omega arith))))

-- a place changes between entries that don't have an affinity
ends_set : (es : Entries) (i : ℕ) (x : Option AffinityEntry) (a : Affinity) → own a x ≡ None → own a (slice_index_or es i None) ≡ None → ends_at (slice_set es i x) a ≡ ends_at es a
ends_set [] i x a h k = refl
ends_set (e ∷ es) zero x a h k = rw (h, k) refl
ends_set (e ∷ es) (suc i) x a h k = ap (option_or (own a e)) (ends_set es i x a h k)

-- an entry of one affinity has no other
entry_of_one : (a b : Affinity) (o : Option Ends) → same_affinity a b ≡ false → own a (entry_with b o) ≡ None
entry_of_one a b None h = refl
entry_of_one a b (Some o) h = rw h refl

entry_of_its : (a : Affinity) (o : Option Ends) → own a (entry_with a o) ≡ o
entry_of_its a None = refl
entry_of_its a (Some o) = rw (same_self a) refl

-- a place has an affinity's entry, or none
pub data Its (a : Affinity) (e : Option AffinityEntry) : Type 0 where
  vacant : e ≡ None → Its a e
  entry : has a e ≡ true → Its a e

has_one : (a b : Affinity) (e : Option AffinityEntry) → has b e ≡ true → has a e ≡ true → a ≡ b
has_one a b None h k = cc
has_one a b (Some e) h k = same_is a e.affinity k ∙ sym (same_is b e.affinity h)

its_alone : (a b : Affinity) (e : Option AffinityEntry) → Its b e → same_affinity a b ≡ false → own a e ≡ None
its_alone a b e (vacant h) apart = ap (own a) h
its_alone a b e (entry h) apart = own_none a e (⊎_elim
    (λ (k : has a e ≡ true). absurd (true≢false (sym (same_self b) ∙ ap (λ c. same_affinity c b) (sym (has_one a b e h k)) ∙ apart)))
    (λ (k : has a e ≡ false). k)
    (cases_Bool (has a e)))

its_len : (a : Affinity) (e : Option AffinityEntry) → Its a e → entry_len e ≡ ends_len (own a e)
its_len a None i = refl
its_len a (Some e) (vacant h) = absurd (cc h)
its_len a (Some e) (entry h) = rw h refl

with_len : (a : Affinity) (o : Option Ends) → entry_len (entry_with a o) ≡ ends_len o
with_len a None = refl
with_len a (Some o) = refl

module _ (es : Entries) (i : ℕ) (b : Affinity) (o : Option Ends) (inside : i < length es) (its : Its b (slice_index_or es i None)) (others : (j : ℕ) → j ≢ i → has b (slice_index_or es j None) ≡ false) where
  abbrev now : Entries
  now = slice_set es i (entry_with b o)

  here : slice_index_or now i None ≡ entry_with b o
  here = get_or-set_same es i (entry_with b o) None inside

  there : (j : ℕ) → j ≢ i → slice_index_or now j None ≡ slice_index_or es j None
  there j other = get_or-set_other es i j (entry_with b o) None other

  ends_here : (a : Affinity) → a ≡ b → ends_at now a ≡ o
  ends_here a same =
      ap (ends_at now) same
      ∙ one_has now i b (let l : length now ≡ length es = length-set es i (entry_with b o) in omega arith) (λ j other. ap (has b) (there j other) ∙ others j other)
      ∙ ap (own b) here
      ∙ entry_of_its b o

  pub changed_ends : (a : Affinity) → ends_at now a ≡ (if same_affinity a b then o else ends_at es a)
  changed_ends a = ⊎_elim
      (λ (h : same_affinity a b ≡ true). rw h (ends_here a (same_is a b h)))
      (λ (h : same_affinity a b ≡ false). rw h (ends_set es i (entry_with b o) a (entry_of_one a b o h) (its_alone a b (slice_index_or es i None) its h)))
      (cases_Bool (same_affinity a b))

  pub changed_total : table_total now + ends_len (ends_at es b) ≡ table_total es + ends_len o
  changed_total =
      let set : table_total now + entry_len (slice_index_or es i None) ≡ table_total es + entry_len (entry_with b o) = sum_by-set entry_len es i (entry_with b o) None inside in
      let was : entry_len (slice_index_or es i None) ≡ ends_len (ends_at es b) = its_len b (slice_index_or es i None) its ∙ ap ends_len (sym (one_has es i b inside others)) in
      let is : entry_len (entry_with b o) ≡ ends_len o = with_len b o in
      omega arith

  -- an affinity that the place has is this one
  here_has : (a : Affinity) → has a (slice_index_or now i None) ≡ true → a ≡ b
  here_has a h = with_has o (ap (has a) (sym here) ∙ h) where
    with_has : (o : Option Ends) → has a (entry_with b o) ≡ true → a ≡ b
    with_has None k = cc
    with_has (Some e) k = same_is a b k

  pub changed_once : ((j k : ℕ) (a : Affinity) → has a (slice_index_or es j None) ≡ true → has a (slice_index_or es k None) ≡ true → j ≡ k) → (j k : ℕ) (a : Affinity) → has a (slice_index_or now j None) ≡ true → has a (slice_index_or now k None) ≡ true → j ≡ k
  changed_once once j k a hj hk = elim (cases_eq j i) [
    | inl ej ↦ elim (cases_eq k i) [
      | inl ek ↦ ej ∙ sym ek
      | inr fk ↦ absurd (apart a k fk (subst (λ m. has a (slice_index_or now m None) ≡ true) ej hj) hk)
    ]
    | inr fj ↦ elim (cases_eq k i) [
      | inl ek ↦ absurd (apart a j fj (subst (λ m. has a (slice_index_or now m None) ≡ true) ek hk) hj)
      | inr fk ↦ once j k a (ap (has a) (sym (there j fj)) ∙ hj) (ap (has a) (sym (there k fk)) ∙ hk)
    ]
  ] where
    apart : (a : Affinity) (m : ℕ) → m ≢ i → has a (slice_index_or now i None) ≡ true → has a (slice_index_or now m None) ≡ true → ⊥
    apart a m other h k = true≢false (sym k ∙ ap (has a) (there m other) ∙ ap (λ c. has c (slice_index_or es m None)) (here_has a h) ∙ others m other)

  pub changed_lists : ((j : ℕ) → IfSome (slice_index_or es j None) (λ e. 0 < e.ends.len)) → IfSome o (λ e. 0 < e.len) → (j : ℕ) → IfSome (slice_index_or now j None) (λ e. 0 < e.ends.len)
  changed_lists lists some j = elim (cases_eq j i) [
    | inl same ↦ subst (λ x. IfSome x (λ (e : AffinityEntry). 0 < e.ends.len)) (sym (ap (λ m. slice_index_or now m None) same ∙ here)) (with_some o some)
    | inr other ↦ subst (λ x. IfSome x (λ (e : AffinityEntry). 0 < e.ends.len)) (sym (there j other)) (lists j)
  ] where
    with_some : (o : Option Ends) → IfSome o (λ e. 0 < e.len) → IfSome (entry_with b o) (λ e. 0 < e.ends.len)
    with_some None h = tt
    with_some (Some e) h = h

  module _ (n : ℕ) (old new : List ℕ) (grows : (k : ℕ) → slice_index_or old k 0 ≤ slice_index_or new k 0) (reaches : distance n (home n b) i < slice_index_or new (home n b) 0) where
    pub changed_near : ((j : ℕ) (a : Affinity) → has a (slice_index_or es j None) ≡ true → distance n (home n a) j < slice_index_or old (home n a) 0) → (j : ℕ) (a : Affinity) → has a (slice_index_or now j None) ≡ true → distance n (home n a) j < slice_index_or new (home n a) 0
    changed_near near j a h = elim (cases_eq j i) [
      | inl same ↦
          let its' : a ≡ b = here_has a (subst (λ m. has a (slice_index_or now m None) ≡ true) same h) in
          subst (λ m. distance n (home n a) m < slice_index_or new (home n a) 0) (sym same) (subst (λ c. distance n (home n c) i < slice_index_or new (home n c) 0) (sym its') reaches)
      | inr other ↦
          let was : distance n (home n a) j < slice_index_or old (home n a) 0 = near j a (ap (has a) (sym (there j other)) ∙ h) in
          let more : slice_index_or old (home n a) 0 ≤ slice_index_or new (home n a) 0 = grows (home n a) in
          omega arith
    ]

-- a place from its distance, and a distance from its place
pub place-distance : (n h i : ℕ) → h < n → i < n → place n h (distance n h i) ≡ i
place-distance n h i a b = grind (arith, nat_tests)

pub distance-place : (n h d : ℕ) → h < n → d < n → distance n h (place n h d) ≡ d
distance-place n h d a b = grind (arith, nat_tests)

pub distance-below : (n h i : ℕ) → h < n → i < n → distance n h i < n
distance-below n h i a b = grind (arith, nat_tests)

-- a table without a free place has as many slots as places
pub full_table : (es : Entries) → ((i : ℕ) → IfSome (slice_index_or es i None) (λ e. 0 < e.ends.len)) → ((i : ℕ) → i < length es → is_some (slice_index_or es i None) ≡ true) → length es ≤ table_total es
full_table [] lists all = omega arith
full_table (e ∷ es) lists all =
    let rest : length es ≤ table_total es = full_table es (λ i. lists (suc i)) (λ i inside. all (suc i) (omega arith)) in
    let one : 0 < entry_len e = first_len e (lists 0) (all 0 (omega arith)) in
    let sum : table_total (e ∷ es) ≡ entry_len e + table_total es = sum_by-cons entry_len e es in
    omega arith
  where
    first_len : (e : Option AffinityEntry) → IfSome e (λ e. 0 < e.ends.len) → is_some e ≡ true → 0 < entry_len e
    first_len None h s = cc
    first_len (Some e) h s = h

pub only_one : (es : Entries) (i : ℕ) (a : Affinity) → ((i j : ℕ) (a : Affinity) → has a (slice_index_or es i None) ≡ true → has a (slice_index_or es j None) ≡ true → i ≡ j) → has a (slice_index_or es i None) ≡ true → (j : ℕ) → j ≢ i → has a (slice_index_or es j None) ≡ false
only_one es i a once found j other = ⊎_elim
    (λ (h : has a (slice_index_or es j None) ≡ true). absurd (other (once j i a h found)))
    (λ (h : has a (slice_index_or es j None) ≡ false). h)
    (cases_Bool (has a (slice_index_or es j None)))

-- the entry that was found is the only one of its affinity
pub found_ends : (es : Entries) (i : ℕ) (a : Affinity) → ((i j : ℕ) (a : Affinity) → has a (slice_index_or es i None) ≡ true → has a (slice_index_or es j None) ≡ true → i ≡ j) → i < length es → has a (slice_index_or es i None) ≡ true → ends_at es a ≡ own a (slice_index_or es i None)
found_ends es i a once inside found = one_has es i a inside (only_one es i a once found)

pub has_own : (a : Affinity) (e : Option AffinityEntry) (x : AffinityEntry) → has a e ≡ true → e ≡ Some x → own a e ≡ Some x.ends
has_own a None x h k = cc
has_own a (Some e) x h k = rw h (ap (λ (o : Option AffinityEntry). option_map (λ (y : AffinityEntry). y.ends) o) k)

-- a table after a place changed to an affinity's entry, or to none
pub changed_table : (es : Entries) (reach : List ℕ) (i : ℕ) (b : Affinity) (o : Option Ends) → IsTable es reach → i < length es → has b (slice_index_or es i None) ≡ true → IfSome o (λ e. 0 < e.len) → IsTable (slice_set es i (entry_with b o)) reach
changed_table es reach i b o t inside found some =
    let l : length (slice_set es i (entry_with b o)) ≡ length es = length-set es i (entry_with b o) in
    let others = only_one es i b t.once found in
    let near = changed_near es i b o inside (entry found) others (length es) reach reach (λ k. omega arith) (t.near i b found) t.near in
    record {
      once = changed_once es i b o inside (entry found) others t.once;
      near = λ j a h. subst (λ n. distance n (home n a) j < slice_index_or reach (home n a) 0) (sym l) (near j a h);
      within = λ k. subst (λ n. slice_index_or reach k 0 ≤ n) (sym l) (t.within k);
      lists = changed_lists es i b o inside (entry found) others t.lists some;
      homes = t.homes ∙ sym l;
      some = let s = t.some in omega arith;
      small = let s = t.small in omega arith;
    }

pub inserted_table : (es : Entries) (reach : List ℕ) (h d i m : ℕ) (b : Affinity) (o : Option Ends) → IsTable es reach → h ≡ home (length es) b → h < length es → d < length es → i ≡ place (length es) h d → slice_index_or es i None ≡ None → ((j : ℕ) → has b (slice_index_or es j None) ≡ false) → IfSome o (λ e. 0 < e.len) → m ≡ max (slice_index_or reach h 0) (d + 1) → IsTable (slice_set es i (entry_with b o)) (slice_set reach h m)
inserted_table es reach h d i m b o t its close far at' free absent some most =
    let n : ℕ = length es in
    let inside : i < n = grind (arith, nat_tests) in
    let l : length (slice_set es i (entry_with b o)) ≡ n = length-set es i (entry_with b o) in
    let r : length (slice_set reach h m) ≡ length reach = length-set reach h m in
    let in' : h < length reach = let e = t.homes in omega arith in
    let here' : slice_index_or (slice_set reach h m) h 0 ≡ m = get_or-set_same reach h m 0 in' in
    let others : (j : ℕ) → j ≢ i → has b (slice_index_or es j None) ≡ false = λ j other. absent j in
    let grows : (k : ℕ) → slice_index_or reach k 0 ≤ slice_index_or (slice_set reach h m) k 0 = λ k. elim (cases_eq k h) [
      | inl same ↦ subst (λ q. slice_index_or reach q 0 ≤ slice_index_or (slice_set reach h m) q 0) (sym same) (omega arith)
      | inr other ↦ let e : slice_index_or (slice_set reach h m) k 0 ≡ slice_index_or reach k 0 = get_or-set_other reach h k m 0 other in omega arith
    ] in
    let back : distance n h i ≡ d = ap (distance n h) at' ∙ distance-place n h d close far in
    let reaches : distance n (home n b) i < slice_index_or (slice_set reach h m) (home n b) 0 = subst (λ q. distance n q i < slice_index_or (slice_set reach h m) q 0) its (omega arith) in
    let near = changed_near es i b o inside (vacant free) others n reach (slice_set reach h m) grows reaches t.near in
    record {
      once = changed_once es i b o inside (vacant free) others t.once;
      near = λ j a k. subst (λ n. distance n (home n a) j < slice_index_or (slice_set reach h m) (home n a) 0) (sym l) (near j a k);
      within = λ k. elim (cases_eq k h) [
        | inl same ↦ subst (λ q. slice_index_or (slice_set reach h m) q 0 ≤ length (slice_set es i (entry_with b o))) (sym same) (let w : slice_index_or reach h 0 ≤ n = t.within h in omega arith)
        | inr other ↦ let e : slice_index_or (slice_set reach h m) k 0 ≡ slice_index_or reach k 0 = get_or-set_other reach h k m 0 other in let w : slice_index_or reach k 0 ≤ n = t.within k in omega arith
      ];
      lists = changed_lists es i b o inside (vacant free) others t.lists some;
      homes = r ∙ t.homes ∙ sym l;
      some = let s = t.some in omega arith;
      small = let s = t.small in omega arith;
    }

has_some : (a : Affinity) (e : Option AffinityEntry) → has a e ≡ true → is_some e ≡ true
has_some a None h = absurd (true≢false (sym h))
has_some a (Some e) h = refl

-- a table after the reach of a home fell to the last place that is taken
pub shortened_table : (es : Entries) (reach : List ℕ) (h m : ℕ) → IsTable es reach → h < length es → m ≤ slice_index_or reach h 0 → ((d : ℕ) → m ≤ d → d < slice_index_or reach h 0 → is_some (slice_index_or es (place (length es) h d) None) ≡ false) → IsTable es (slice_set reach h m)
shortened_table es reach h m t close less free =
    let n : ℕ = length es in
    let in' : h < length reach = let e = t.homes in omega arith in
    let here' : slice_index_or (slice_set reach h m) h 0 ≡ m = get_or-set_same reach h m 0 in' in
    let near' : (i : ℕ) (a : Affinity) → has a (slice_index_or es i None) ≡ true → home n a ≡ h → distance n h i < slice_index_or reach h 0 → distance n h i < m = λ i a found its was. elim (cases_lt (distance n h i) m) [
      | inl below ↦ below
      | inr beyond ↦ elim (cases_lt i n) [
        | inl inside ↦ absurd (true≢false (sym (has_some a (slice_index_or es i None) found) ∙ ap (λ j. is_some (slice_index_or es j None)) (sym (place-distance n h i close inside)) ∙ free (distance n h i) beyond was))
        | inr past ↦ absurd (true≢false (sym found ∙ ap (has a) (get_or_past es i None past)))
      ]
    ] in
    record {
      once = t.once;
      near = λ i a found. elim (cases_eq (home n a) h) [
        | inl same ↦ subst (λ q. distance n q i < slice_index_or (slice_set reach h m) q 0) (sym same) (let was : distance n h i < slice_index_or reach h 0 = subst (λ q. distance n q i < slice_index_or reach q 0) same (t.near i a found) in let is = near' i a found same was in omega arith)
        | inr other ↦ let e : slice_index_or (slice_set reach h m) (home n a) 0 ≡ slice_index_or reach (home n a) 0 = get_or-set_other reach h (home n a) m 0 other in let was = t.near i a found in omega arith
      ];
      within = λ k. elim (cases_eq k h) [
        | inl same ↦ subst (λ q. slice_index_or (slice_set reach h m) q 0 ≤ n) (sym same) (let w : slice_index_or reach h 0 ≤ n = t.within h in omega arith)
        | inr other ↦ let e : slice_index_or (slice_set reach h m) k 0 ≡ slice_index_or reach k 0 = get_or-set_other reach h k m 0 other in let w : slice_index_or reach k 0 ≤ n = t.within k in omega arith
      ];
      lists = t.lists;
      homes = length-set reach h m ∙ t.homes;
      some = t.some;
      small = t.small;
    }

pub get_or-replicate-any : {X : Type 0} (n i : ℕ) (x : X) → slice_index_or (replicate n x) i x ≡ x
get_or-replicate-any n i x = elim (cases_lt i n) [
  | inl inside ↦ get_or-replicate n i x x inside
  | inr past ↦ get_or_past (replicate n x) i x (let l : length (replicate n x) ≡ n = length-replicate n x in omega arith)
]

-- a fresh table
pub fresh_table : (n : ℕ) (es : Entries) (reach : List ℕ) → 0 < n → n < 2 ^ 63 → es ≡ replicate n None → reach ≡ replicate n 0 → IsTable es reach
fresh_table n es reach some few e r =
    let none' : (i : ℕ) → slice_index_or es i None ≡ None = λ i. ap (λ l. slice_index_or l i None) e ∙ get_or-replicate-any n i None in
    let zero' : (i : ℕ) → slice_index_or reach i 0 ≡ 0 = λ i. ap (λ l. slice_index_or l i 0) r ∙ get_or-replicate-any n i 0 in
    let l : length es ≡ n = ap length e ∙ length-replicate n None in
    let m : length reach ≡ n = ap length r ∙ length-replicate n 0 in
    record {
      once = λ i j a h k. absurd (true≢false (sym h ∙ ap (has a) (none' i)));
      near = λ i a h. absurd (true≢false (sym h ∙ ap (has a) (none' i)));
      within = λ k. let z = zero' k in omega arith;
      lists = λ i. subst (λ o. IfSome o (λ (e : AffinityEntry). 0 < e.ends.len)) (sym (none' i)) tt;
      homes = m ∙ sym l;
      some = omega arith;
      small = omega arith;
    }

pub none_found : (es : Entries) (reach : List ℕ) (a : Affinity) (n h d : ℕ) → IsTable es reach → n ≡ length es → h ≡ home n a → h < n → slice_index_or reach h 0 ≤ d → ((e : ℕ) → e < d → has a (slice_index_or es (place n h e) None) ≡ false) → (i : ℕ) → has a (slice_index_or es i None) ≡ false
none_found es reach a n h d t long its close far none' i = ⊎_elim
    (λ (found : has a (slice_index_or es i None) ≡ true). elim (cases_lt i n) [
      | inl inside ↦
          let near : distance n h i < slice_index_or reach h 0 = subst (λ q. distance n q i < slice_index_or reach q 0) (sym its) (subst (λ m. distance m (home m a) i < slice_index_or reach (home m a) 0) (sym long) (t.near i a found)) in
          ap (λ j. has a (slice_index_or es j None)) (sym (place-distance n h i close inside)) ∙ none' (distance n h i) (omega arith)
      | inr past ↦ ap (has a) (get_or_past es i None (omega arith))
    ])
    (λ (absent : has a (slice_index_or es i None) ≡ false). absent)
    (cases_Bool (has a (slice_index_or es i None)))

pub none_vacant : (es : Entries) (reach : List ℕ) (n h d : ℕ) → IsTable es reach → n ≡ length es → h < length es → n ≤ d → ((e : ℕ) → e < d → is_some (slice_index_or es (place n h e) None) ≡ true) → length es ≤ table_total es
none_vacant es reach n h d t long close all taken = full_table es t.lists (λ i inside.
    let close' : h < n = omega arith in
    let inside' : i < n = omega arith in
    let below : distance n h i < n = distance-below n h i close' inside' in
    ap (λ j. is_some (slice_index_or es j None)) (sym (place-distance n h i close' inside')) ∙ taken (distance n h i) (omega arith))

pub home_none : (n : ℕ) → home n None ≡ 0
unfolding home mixed
home_none n = zero-mod n

-- what a search found
some_same : (i j : ℕ) → Some i ≡ Some j → i ≡ j
some_same i j e = cc

pub found_spot : (es : Entries) (reach : List ℕ) → IsTable es reach → (n h i : ℕ) (a : Affinity) (x : AffinityEntry) → n ≡ length es → h ≡ home n a → h < n → i < n → slice_index_or es i None ≡ Some x → same_affinity a x.affinity ≡ true → IsSpot es a (record { home = h; entry = Some i; ends = Some x.ends })
found_spot es reach t n h i a x long its close inside here same =
    let in' : i < length es = omega arith in
    let its_entry : has a (slice_index_or es i None) ≡ true = ap (has a) here ∙ same in
    record {
      its = its ∙ ap (λ k. home k a) long;
      within = omega arith;
      list = sym (found_ends es i a t.once in' its_entry ∙ has_own a (slice_index_or es i None) x its_entry here);
      found = λ j e. subst (λ k. (k < length es) × (has a (slice_index_or es k None) ≡ true)) (some_same i j e) (in', its_entry);
      absent = λ e. absurd (cc e);
    }

pub absent_spot : (es : Entries) (n h : ℕ) (a : Affinity) → n ≡ length es → h ≡ home n a → h < n → ((i : ℕ) → has a (slice_index_or es i None) ≡ false) → IsSpot es a (record { home = h; entry = None; ends = None })
absent_spot es n h a long its close absent = record {
  its = its ∙ ap (λ k. home k a) long;
  within = omega arith;
  list = sym (none_has es a absent);
  found = λ i e. absurd (cc e);
  absent = λ e. absent;
}

-- an affinity's entry with other ends
pub its_entry : (es : Entries) (i : ℕ) (a : Affinity) (x : AffinityEntry) (ends : Ends) → has a (slice_index_or es i None) ≡ true → slice_index_or es i None ≡ Some x → Some (record x { ends = ends }) ≡ entry_with a (Some ends)
its_entry es i a x ends found here =
    let its : a ≡ x.affinity = same_is a x.affinity (sym (ap (has a) here) ∙ found) in
    (λ k. Some (record { affinity = sym its k; ends = ends }))
