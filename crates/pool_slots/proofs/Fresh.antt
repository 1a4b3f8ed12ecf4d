-- Calls on regions are the same where each count is.
use Rattle.std.proofs.Common.{◌≡◌, ℕ, ap, ◌∙◌, subst, slice_index_or}
use Rattle.pool_pages.specs.declared.pages.PageCalls.{PageCalls}

-- calls are the same where each count is
pub same_calls : (a b : PageCalls) → a.expose ≡ b.expose → a.hide ≡ b.hide → a.map_image ≡ b.map_image → a.remap_zeros ≡ b.remap_zeros → a.erase ≡ b.erase → a.recolour ≡ b.recolour → a.decommit ≡ b.decommit → a ≡ b
same_calls a b e h m z r c d =
    ap (λ (n : ℕ). record a { expose = n }) e
    ∙ ap (λ (n : ℕ). record a { expose = b.expose; hide = n }) h
    ∙ ap (λ (n : ℕ). record a { expose = b.expose; hide = b.hide; map_image = n }) m
    ∙ ap (λ (n : ℕ). record a { expose = b.expose; hide = b.hide; map_image = b.map_image; remap_zeros = n }) z
    ∙ ap (λ (n : ℕ). record a { expose = b.expose; hide = b.hide; map_image = b.map_image; remap_zeros = b.remap_zeros; erase = n }) r
    ∙ ap (λ (n : ℕ). record b { recolour = n; decommit = a.decommit }) c
    ∙ ap (λ (n : ℕ). record b { decommit = n }) d
