-- A broken rule of the settings is named, exactly where there is one.
use Rattle.std.proofs.Common.{◌≡◌, ℕ, Bool, true, false, Option, Some, None, Result, Ok, Err, refl, sym, ap, ◌∙◌, subst, ◌↔◌, nat_le, IfErr, OnOk}
use Rattle.pool_run.proofs.Imports.{leb-true, same_Some, first_true, second_true, first_too_great, is_batch_size, IsPageSize, is_page_size, is_shard_count, keys_suffice, first_broken_total, or_else, unless, PageSize, Shards, DecommitBatch, Reservation, KeysNotOffered, BrokenRule}
use Rattle.pool_run.specs.Built.{broken_rule}
use Rattle.pool_run.specs.Runs.{is_refused, NamesRule}
use Rattle.pool_run.specs.Validity.{is_valid}
use Rattle.pool_run.specs.declared.input.Input.{Input}
use Rattle.pool_run.specs.declared.output.RunFault.{RunFault}
use Rattle.pool_run.specs.declared.output.RunFault.TheVariants.{BadInput, BadConfig, PageFault, Memory}

-- where none is broken, and it isn't for the input that nothing is run
pub names_none : (broken : Option BrokenRule) (fault : RunFault) → broken ≡ None → is_refused fault ≡ false → NamesRule broken fault
names_none broken BadInput none accepted = absurd cc
names_none broken (BadConfig e) none accepted = absurd cc
names_none broken PageFault none accepted = none
names_none broken Memory none accepted = none

named_by : {X : Type 0} (broken : Option BrokenRule) (fault : RunFault) (e : BrokenRule) → NamesRule broken fault → (◌≡◌ {A = Result X RunFault} (Err fault) (Err (BadConfig e))) ↔ (broken ≡ Some e)
named_by broken BadInput e names = absurd names
named_by {X = X} broken (BadConfig rule) e names =
    let same : rule ≡ e → ◌≡◌ {A = Result X RunFault} (Err (BadConfig rule)) (Err (BadConfig e)) = λ is. ap (λ (r : BrokenRule). Err (BadConfig r)) is in
    (λ is. let one : rule ≡ e = cc in names ∙ ap (λ (r : BrokenRule). Some r) one, λ is. same (same_Some rule e (sym names ∙ is)))
named_by broken PageFault e names = (λ is. absurd cc, λ is. let none : ◌≡◌ {A = Option BrokenRule} None (Some e) = sym names ∙ is in absurd cc)
named_by broken Memory e names = (λ is. absurd cc, λ is. let none : ◌≡◌ {A = Option BrokenRule} None (Some e) = sym names ∙ is in absurd cc)

-- The page is the first thing that has a rule.
sized : (n : ℕ) → is_page_size n ≡ true → IsPageSize n
sized n is =
    let rest = second_true (nat_le 16 n) _ is in
    record {
      at_least = leb-true 16 n (first_true (nat_le 16 n) _ is);
      at_most = leb-true n 65536 (first_true (nat_le n 65536) _ rest);
      power_of_two = second_true (nat_le n 65536) _ rest;
    }

broken_page : (input : Input) → is_page_size input.page ≡ false → broken_rule input ≡ Some (PageSize input.page)
broken_page input is =
    let rest : Option BrokenRule =
    or_else (unless (is_shard_count input.shards) (Shards input.shards))
    (or_else (unless (is_batch_size input.config.decommit_batch_size) (DecommitBatch input.config.decommit_batch_size))
    (or_else (first_too_great input.config input.offered)
    (or_else (unless (nat_le input.config.limits.max_memory_size input.tunables.memory_reservation) (Reservation input.config.limits.max_memory_size input.tunables.memory_reservation))
    (or_else (unless (keys_suffice input.config input.offered) KeysNotOffered)
    (first_broken_total input.config input.tunables input.page input.offered))))) in
    ap (λ (b : Bool). or_else (unless b (PageSize input.page)) rest) is

page_by : (input : Input) (b : Bool) → is_page_size input.page ≡ b → (IsPageSize input.page → ⊥) → broken_rule input ≡ Some (PageSize input.page)
page_by input true is isnt = absurd (isnt (sized input.page is))
page_by input false is isnt = broken_page input is

-- Where no rule is broken, the page is one.
paged : (input : Input) (b : Bool) → is_page_size input.page ≡ b → broken_rule input ≡ None → IsPageSize input.page
paged input true is none = sized input.page is
paged input false is none = let wrong : Some (PageSize input.page) ≡ None = sym (broken_page input is) ∙ none in absurd cc

pub page_sized : (input : Input) → broken_rule input ≡ None → IsPageSize input.page
page_sized input none = paged input (is_page_size input.page) refl none

-- A page that is no page's size is named, in an input that is valid.
pub page_named : {X : Type 0} (input : Input) (rule e : BrokenRule) → is_valid input ≡ true → rule ≡ PageSize input.page → (IsPageSize input.page → ⊥) → (◌≡◌ {A = Result X RunFault} (Err (BadConfig rule)) (Err (BadConfig e))) ↔ ((is_valid input ≡ true) × (broken_rule input ≡ Some e))
page_named {X = X} input rule e valid is isnt =
    let broken : broken_rule input ≡ Some rule = page_by input (is_page_size input.page) refl isnt ∙ ap (λ (r : BrokenRule). Some r) (sym is) in
    let named = named_by {X = X} (broken_rule input) (BadConfig rule) e broken in
    (λ err. (valid, named.0 err), λ both. named.1 both.1)

-- what holds whatever is answered
pub ok_has : {X A : Type 0} (r : Result X RunFault) → A → OnOk r A
ok_has (Ok x) is = is
ok_has (Err e) is = tt

-- Want of memory, where no rule is broken.
pub memory_named : {X : Type 0} (broken : Option BrokenRule) (r : Result X RunFault) → broken ≡ None → IfErr r (λ fault. fault ≡ Memory) → IfErr r (NamesRule broken)
memory_named broken (Ok x) none is = tt
memory_named broken (Err fault) none is = let N : RunFault → Type 0 = NamesRule broken in subst N (sym is) none

-- a fault of the pages is no answer, and no other refusal
pub ok_no_fault : {X : Type 0} (r : Result X RunFault) (x : X) → r ≡ Ok x → r ≡ Err PageFault → ⊥
ok_no_fault (Ok y) x is wrong = absurd cc
ok_no_fault (Err y) x is wrong = absurd cc

one_refusal : {X : Type 0} (r : Result X RunFault) (a e : RunFault) → r ≡ Err a → r ≡ Err e → a ≡ e
one_refusal (Ok y) a e is other = absurd cc
one_refusal (Err y) a e is other =
    let left : y ≡ a = cc in
    let right : y ≡ e = cc in
    sym left ∙ right

pub rule_no_fault : {X : Type 0} (r : Result X RunFault) (rule : BrokenRule) → r ≡ Err (BadConfig rule) → r ≡ Err PageFault → ⊥
rule_no_fault r rule is wrong = let same : BadConfig rule ≡ PageFault = one_refusal r (BadConfig rule) PageFault is wrong in absurd cc

pub memory_no_fault : {X : Type 0} (r : Result X RunFault) → r ≡ Err Memory → r ≡ Err PageFault → ⊥
memory_no_fault r is wrong = let same : Memory ≡ PageFault = one_refusal r Memory PageFault is wrong in absurd cc
