-- The calls for modules, as they are made one after another.
use Rattle.std.proofs.Common.{◌≡◌, ℕ, ◌+◌, ◌<◌, List, [], ◌∷◌, ◌++◌, length, take, get_or, sym, ap, ◌∙◌, arith}
use Rattle.pool_run.proofs.Imports.{take_more, ModuleInfo, Tunables, ModuleAsked}
use Rattle.pool_run.specs.Made.{call_made, calls_made}

-- one more call is for the next module
calls_push : (tunables : Tunables) (page n : ℕ) (ms : List ModuleInfo) (m : ModuleInfo) → calls_made tunables page n (ms ++ m ∷ []) ≡ calls_made tunables page n ms ++ call_made tunables page (n + length ms) m ∷ []
calls_push tunables page n [] m = ap (λ (k : ℕ). call_made tunables page k m ∷ []) {x = n} {y = n + 0} (omega arith)
calls_push tunables page n (x ∷ xs) m =
    let Last : ℕ → List ModuleAsked = λ k. call_made tunables page n x ∷ (calls_made tunables page (n + 1) xs ++ call_made tunables page k m ∷ []) in
    ap (λ (cs : List ModuleAsked). call_made tunables page n x ∷ cs) (calls_push tunables page (n + 1) xs m) ∙ ap Last {x = n + 1 + length xs} {y = n + length (x ∷ xs)} (omega arith)

pub one_more : (tunables : Tunables) (page : ℕ) (modules : List ModuleInfo) (i : ℕ) (m : ModuleInfo) (before after : List ModuleAsked) (call : ModuleAsked) → i < length modules → length (take i modules) ≡ i → m ≡ get_or modules i m → before ≡ calls_made tunables page 0 (take i modules) → call ≡ call_made tunables page i m → after ≡ before ++ call ∷ [] → after ≡ calls_made tunables page 0 (take (i + 1) modules)
one_more tunables page modules i m before after call below count is made one more =
    let ms : List ModuleInfo = take i modules in
    let number : 0 + length ms ≡ i = omega (arith, count) in
    let next : take (i + 1) modules ≡ ms ++ m ∷ [] = take_more modules i m below ∙ ap (λ (x : ModuleInfo). ms ++ x ∷ []) (sym is) in
    more ∙ ap (λ (cs : List ModuleAsked). cs ++ call ∷ []) made ∙ ap (λ (x : ModuleAsked). calls_made tunables page 0 ms ++ x ∷ []) one
    ∙ ap (λ (k : ℕ). calls_made tunables page 0 ms ++ call_made tunables page k m ∷ []) (sym number) ∙ sym (calls_push tunables page 0 ms m) ∙ ap (calls_made tunables page 0) (sym next)
