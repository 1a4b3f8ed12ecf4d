-- Texts that are added one after another.
use Rattle.std.proofs.Common.{◌≡◌, ℕ, List, ◌++◌, ap, ◌∙◌, append_assoc, codes}
use Rattle.pool_pages.specs.declared.pages.PageCalls.{PageCalls}
use Rattle.pool_view_summary.specs.CostsText.{pages_line}
use Rattle.pool_view_summary.specs.Kinds.{calls_of_kinds}
use Rattle.pool_view_summary.specs.Made.{calls_since}
use Rattle.pool_view_summary.specs.declared.kinds.Kinds.{Kinds}

two : (o p q a b : List ℕ) → p ≡ o ++ a → q ≡ p ++ b → q ≡ o ++ (a ++ b)
two o p q a b first second = second ∙ ap (λ xs. xs ++ b) first ∙ append_assoc o a b

pub three : (o p q r a b c : List ℕ) → p ≡ o ++ a → q ≡ p ++ b → r ≡ q ++ c → r ≡ o ++ ((a ++ b) ++ c)
three o p q r a b c first second third = two o q r (a ++ b) c (two o p q a b first second) third

pub four : (o p q r s a b c d : List ℕ) → p ≡ o ++ a → q ≡ p ++ b → r ≡ q ++ c → s ≡ r ++ d → s ≡ o ++ (((a ++ b) ++ c) ++ d)
four o p q r s a b c d first second third fourth = two o r s ((a ++ b) ++ c) d (three o p q r a b c first second third) fourth

-- The page calls of no command are written, and then all.
pub pages_added : (ks : Kinds) (calls of_commands others : PageCalls) (o p q : List ℕ) (name : List ℕ) → of_commands ≡ calls_of_kinds ks → others ≡ calls_since calls of_commands → p ≡ o ++ pages_line name others → q ≡ p ++ pages_line (codes "page calls in all | ") calls
    → q ≡ o ++ (pages_line name (calls_since calls (calls_of_kinds ks)) ++ pages_line (codes "page calls in all | ") calls)
pages_added ks calls of_commands others o p q name commands since first second =
    let same : others ≡ calls_since calls (calls_of_kinds ks) = since ∙ ap (calls_since calls) commands in
    two o p q (pages_line name (calls_since calls (calls_of_kinds ks))) (pages_line (codes "page calls in all | ") calls) (first ∙ ap (λ (x : PageCalls). o ++ pages_line name x) same) second
