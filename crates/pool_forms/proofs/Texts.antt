-- The JSON value of bytes that are text, and of bytes that are none.
use Rattle.std.proofs.Common.{◌≡◌, ℕ, List, Bool, true, false, cond, refl, ap, Option, None}
use Rattle.std.specs.Str.{IsUtf8, is_utf8}
use Rattle.std.proofs.lemmas.Str.{IsUtf8-from_is_utf8, is_utf8-from_IsUtf8}
use Rattle.serde_json.specs.Read.{read}
use Rattle.pool_forms.specs.Reading.{json_of}

from_not_true : (b : Bool) → ¬ (b ≡ true) → b ≡ false
from_not_true true h = absurd (h refl)
from_not_true false h = refl

pub json_text : (bytes : List ℕ) → IsUtf8 bytes → json_of bytes ≡ read bytes
unfolding json_of
json_text bytes h = ap (λ b. cond b (read bytes) None) (is_utf8-from_IsUtf8 bytes h)

pub json_no_text : (bytes : List ℕ) → ¬ (IsUtf8 bytes) → json_of bytes ≡ None
unfolding json_of
json_no_text bytes h = ap (λ b. cond b (read bytes) None) (from_not_true (is_utf8 bytes) (λ e. h (IsUtf8-from_is_utf8 bytes e)))
