-- The images of a module, one memory after another.
use Rattle.std.proofs.Common.{◌≡◌, ℕ, zero, suc, ◌+◌, ◌<◌, List, [], ◌∷◌, ◌++◌, length, get_or, take, refl, sym, subst, ap, ◌∙◌, arith, Option, Some, None, Bool, true, false, Result, Ok, Err, MatchResult, is_some, IsErr, IfOk, ◌≢◌, IfSome, option_map, ◌&&◌, ◌||◌, if◌then◌else◌}
use Rattle.pool_images.proofs.Imports.{true≢false, list_any, IsErrAnd, take_more, length-take-le, list_any_at, or_false, and_false, CompiledModuleId, MemoryDecl, RaisesBehind, Planned, fails_images}
use Rattle.pool_pages.specs.declared.maker.MakeFault.TheVariants as making
use Rattle.pool_images.specs.declared.memory_image.ImageError.{ImageError}
use Rattle.pool_images.specs.declared.memory_image.ImageError.TheVariants.{Memory, Unsupported, PageFault}
use Rattle.pool_images.specs.ImageErrors.{RaisesImageBehind, IsListedImageFault}
use Rattle.pool_images.specs.Images.{image_of, images_from, makes_listed_images, misplaced, first_misplaced}

-- one more memory
pub images_from_push : (id : CompiledModuleId) (page n : ℕ) (decls : List MemoryDecl) (decl : MemoryDecl) → images_from id page n (decls ++ decl ∷ []) ≡ images_from id page n decls ++ option_map (image_of id page (n + length decls)) decl.image ∷ []
images_from_push id page n [] decl = let place : n ≡ n + 0 = omega arith in ap (λ k. option_map (image_of id page k) decl.image ∷ []) place
images_from_push id page n (d ∷ decls) decl =
    let place : n + 1 + length decls ≡ n + length (d ∷ decls) = omega arith in
    ap (λ l. option_map (image_of id page n) d.image ∷ l) (images_from_push id page (n + 1) decls decl ∙ ap (λ k. images_from id page (n + 1) decls ++ option_map (image_of id page k) decl.image ∷ []) place)

pub images_from_more : (id : CompiledModuleId) (page : ℕ) (decls : List MemoryDecl) (i : ℕ) (d : MemoryDecl) → i < length decls → images_from id page 0 (take (i + 1) decls) ≡ images_from id page 0 (take i decls) ++ option_map (image_of id page i) (get_or decls i d).image ∷ []
images_from_more id page decls i d below =
    let count : 0 + length (take i decls) ≡ i = omega (arith, length-take-le i decls (omega arith)) in
    ap (images_from id page 0) (take_more decls i d below)
    ∙ images_from_push id page 0 (take i decls) (get_or decls i d)
    ∙ ap (λ k. images_from id page 0 (take i decls) ++ option_map (image_of id page k) (get_or decls i d).image ∷ []) count

or_assoc : (a b c : Bool) → (a || (b || c)) ≡ ((a || b) || c)
or_assoc false b c = refl
or_assoc true b c = refl

-- one more memory, for the list of those whose making fails
pub makes_listed_push : (id : CompiledModuleId) (plan : List Planned) (decls : List MemoryDecl) (decl : MemoryDecl) → makes_listed_images id plan (decls ++ decl ∷ []) ≡ makes_listed_images id plan decls || (is_some decl.image && fails_images id.0 plan)
makes_listed_push id plan [] decl = or_false (is_some decl.image && fails_images id.0 plan)
makes_listed_push id plan (d ∷ decls) decl =
    ap (λ b. (is_some d.image && fails_images id.0 plan) || b) (makes_listed_push id plan decls decl)
    ∙ or_assoc (is_some d.image && fails_images id.0 plan) (makes_listed_images id plan decls) (is_some decl.image && fails_images id.0 plan)

neither : (o r : Option ℕ) → (if is_some o then o else r) ≡ None → (o ≡ None) × (r ≡ None)
neither None r none = (refl, none)
neither (Some n) r none = absurd cc

-- where no offset is inside a page, none of them is
pub none_misplaced : (page : ℕ) (decls : List MemoryDecl) (i : ℕ) (d : MemoryDecl) → i < length decls → first_misplaced page decls ≡ None → misplaced page (get_or decls i d) ≡ None
none_misplaced page [] i d below none = absurd (omega arith)
none_misplaced page (x ∷ xs) zero d below none = (neither (misplaced page x) (first_misplaced page xs) none).0
none_misplaced page (x ∷ xs) (suc i) d below none = none_misplaced page xs i d (omega arith) (neither (misplaced page x) (first_misplaced page xs) none).1

-- none of the makings so far is listed, and the next isn't
pub planned_more : (plan : Option (List Planned)) (id : CompiledModuleId) (decls : List MemoryDecl) (i : ℕ) (d : MemoryDecl) → i < length decls → IfSome plan (λ p. makes_listed_images id p (take i decls) ≡ false) → IfSome plan (λ p. (is_some (get_or decls i d).image && fails_images id.0 p) ≡ false) → IfSome plan (λ p. makes_listed_images id p (take (i + 1) decls) ≡ false)
planned_more None id decls i d below before next = before
planned_more (Some p) id decls i d below before next =
    ap (makes_listed_images id p) (take_more decls i d below)
    ∙ makes_listed_push id p (take i decls) (get_or decls i d)
    ∙ ap (λ b. b || (is_some (get_or decls i d).image && fails_images id.0 p)) before
    ∙ next

lists_none : (decls : List MemoryDecl) → list_any (λ d. is_some d.image && false) decls ≡ false
lists_none [] = refl
lists_none (d ∷ decls) = ap (λ b. b || list_any (λ d. is_some d.image && false) decls) (and_false (is_some d.image)) ∙ lists_none decls

-- where one memory has an image, the makings of the module are listed where images are
lists_one : (listed : Bool) (decls : List MemoryDecl) (i : ℕ) (d : MemoryDecl) → i < length decls → is_some (get_or decls i d).image ≡ true → list_any (λ d. is_some d.image && listed) decls ≡ listed
lists_one true decls i d below has = list_any_at (λ d. is_some d.image && true) decls i d below (ap (λ b. b && true) has)
lists_one false decls i d below has = lists_none decls

-- a refused making of one image is one of the module's makings
pub raises_one : (id : CompiledModuleId) (own : List Planned) (decls : List MemoryDecl) (i : ℕ) (d : MemoryDecl) (old new : ℕ) (e : ImageError) → i < length decls → (e ≡ PageFault → is_some (get_or decls i d).image ≡ true) →
    RaisesImageBehind (fails_images id.0 own) old new e → RaisesImageBehind (makes_listed_images id own decls) old new e
raises_one id own decls i d old new Memory below has raises = raises
raises_one id own decls i d old new (Unsupported u) below has raises = raises
raises_one id own decls i d old new PageFault below has raises = subst (λ b. RaisesBehind b old new making.PageFault) (sym (lists_one (fails_images id.0 own) decls i d below (has refl))) raises

-- an error that `?` hands on is the one that was answered
pub handed_on : {T : Type 0} (Q : T → Type 0) (P : ImageError → Type 0) (r : Result T ImageError) (e : ImageError) → IsErrAnd r (λ x. x ≡ e) → P e → MatchResult r Q P
handed_on Q P (Ok t) e h p = absurd h
handed_on Q P (Err x) e h p = subst P (sym h) p

-- a listed making of one image is one of the module's
pub listed_one : (id : CompiledModuleId) (plan : List Planned) (decls : List MemoryDecl) (i : ℕ) (d : MemoryDecl) (e : ImageError) → i < length decls → IsListedImageFault (is_some (get_or decls i d).image && fails_images id.0 plan) e → IsListedImageFault (makes_listed_images id plan decls) e
listed_one id plan decls i d Memory below listed = tt
listed_one id plan decls i d (Unsupported u) below listed = tt
listed_one id plan decls i d PageFault below listed = list_any_at (λ d. is_some d.image && fails_images id.0 plan) decls i d below listed

pub listed_told : {T : Type 0} (o : Option (List Planned)) (id : CompiledModuleId) (decls : List MemoryDecl) (i : ℕ) (d : MemoryDecl) (Q : List Planned → T → Type 0) (r : Result T ImageError) (e : ImageError) → i < length decls → IsErrAnd r (λ x. x ≡ e) →
    IfSome o (λ plan. IsListedImageFault (is_some (get_or decls i d).image && fails_images id.0 plan) e) → IfSome o (λ plan. MatchResult r (Q plan) (IsListedImageFault (makes_listed_images id plan decls)))
listed_told None id decls i d Q r e below err listed = tt
listed_told (Some p) id decls i d Q r e below err listed = handed_on (Q p) (IsListedImageFault (makes_listed_images id p decls)) r e err (listed_one id p decls i d e below listed)

-- an error that is handed on is none that the one before wasn't
pub still_supported : {T U : Type 0} (r : Result T ImageError) (q : Result U ImageError) (e : ImageError) → IsErrAnd r (λ x. x ≡ e) → q ≡ Err e → ((u : _) → q ≢ Err (Unsupported u)) → (u : _) → r ≢ Err (Unsupported u)
still_supported (Ok t) q e h same supported u = absurd h
still_supported (Err x) q e h same supported u = λ is.
    let inner : x ≡ Unsupported u = cc in
    supported u (same ∙ ap Err (sym h ∙ inner))

-- where an error is handed on, nothing is asked of a success
pub none_ok : {T E : Type 0} (r : Result T E) (P : T → Type 0) → IsErr r → IfOk r P
none_ok (Ok t) P err = absurd (true≢false (sym err))
none_ok (Err e) P err = tt

pub handed_told : {T X : Type 0} (o : Option X) (Q : X → T → Type 0) (P : X → ImageError → Type 0) (r : Result T ImageError) (e : ImageError) → IsErrAnd r (λ x. x ≡ e) → IfSome o (λ plan. P plan e) → IfSome o (λ plan. MatchResult r (Q plan) (P plan))
handed_told None Q P r e h p = tt
handed_told (Some x) Q P r e h p = handed_on (Q x) (P x) r e h p

pub same_error : {T : Type 0} (r : Result T ImageError) (e f : ImageError) → IsErrAnd r (λ x. x ≡ e) → r ≡ Err f → e ≡ f
same_error (Ok t) e f h is = absurd h
same_error (Err x) e f h is =
    let inner : x ≡ f = cc in
    sym h ∙ inner
