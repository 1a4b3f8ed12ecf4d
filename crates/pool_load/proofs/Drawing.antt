-- Draws one after another.
use Rattle.std.proofs.Common.{◌≡◌, ℕ, ◌+◌, ◌*◌, ◌<◌, ◌/◌, ◌%◌, ◌^◌, zero, suc, refl, sym, ap, ◌∙◌, arith}
use Rattle.std.proofs.Math.Nat.{add-mul-mod_self_left, mod-add-div}
use Rattle.std.proofs.lemmas.Nat.{mod_below}
use Rattle.std.specs.Fn.{iterate}
use Rattle.pool_load.specs.Draws.{next_state, number_of, state_after}

-- a sum modulo m, of which one part was taken modulo m before
pub mod_first : (a b m : ℕ) → (a % m + b) % m ≡ (a + b) % m
mod_first a b m =
    let parts : a % m + m * (a / m) ≡ a = mod-add-div a m in
    let whole : (a % m + b) + m * (a / m) ≡ a + b = omega (arith, parts) in
    sym (add-mul-mod_self_left (a % m + b) m (a / m)) ∙ ap (λ (n : ℕ). n % m) whole

pub below_bound : (n x : ℕ) → 0 < n → number_of n x < n
unfolding number_of
below_bound n x some = mod_below (x / 2 ^ 33) n some

iterate_add : (h : ℕ → ℕ) (m n x : ℕ) → iterate h (m + n) x ≡ iterate h n (iterate h m x)
iterate_add h zero n x =
    let none : 0 + n ≡ n = omega arith in
    ap (λ (k : ℕ). iterate h k x) none
iterate_add h (suc m) n x =
    let whole : suc m + n ≡ suc (m + n) = omega arith in
    ap (λ (k : ℕ). iterate h k x) whole ∙ iterate_add h m n (h x)

-- some draws, and then some more
pub draws_more : (m n x : ℕ) → state_after (m + n) x ≡ state_after n (state_after m x)
unfolding state_after
draws_more m n x = iterate_add next_state m n x

-- one draw is the first
pub one_draw : (x : ℕ) → state_after 1 x ≡ next_state x
unfolding state_after
one_draw x = refl

pub no_draw : (x : ℕ) → state_after 0 x ≡ x
unfolding state_after
no_draw x = refl

-- one draw more
pub draw_more : (m x : ℕ) → state_after (m + 1) x ≡ next_state (state_after m x)
draw_more m x = draws_more m 1 x ∙ one_draw (state_after m x)

-- the draws of m things of k draws each, and of one thing more
pub draws_of_more : (k m x : ℕ) → state_after (k * (m + 1)) x ≡ state_after k (state_after (k * m) x)
draws_of_more k m x =
    let whole : k * (m + 1) ≡ k * m + k = omega arith in
    ap (λ (n : ℕ). state_after n x) whole ∙ draws_more (k * m) k x

pub ruleset one_drawn = (mod_first, below_bound)
