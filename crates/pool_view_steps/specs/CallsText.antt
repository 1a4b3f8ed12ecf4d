-- How page calls are written.
use Rattle.std.specs.Prelude.{ℕ, List, [], ◌++◌, ◌==◌, codes, length, if◌then◌else◌}
use Rattle.std.specs.Fmt.{decimal}
use Rattle.pool_pages.specs.declared.pages.PageCalls.{PageCalls}

-- with a space behind it, unless nothing is written yet
unfoldable pub spaced : List ℕ → List ℕ
spaced row = if length row == 0 then row else row ++ codes " "

-- with a number of calls, if there were some
unfoldable pub call_with : List ℕ → ℕ → List ℕ → List ℕ
call_with name n row = if n == 0 then row else spaced row ++ (name ++ codes "=" ++ decimal n)

-- with the calls that change what can be reached
unfoldable pub changes_with : PageCalls → List ℕ → List ℕ
changes_with c row = call_with (codes "remap_zeros") c.remap_zeros (call_with (codes "map_image") c.map_image (call_with (codes "hide") c.hide (call_with (codes "expose") c.expose row)))

-- with all others
unfoldable pub others_with : PageCalls → List ℕ → List ℕ
others_with c row = call_with (codes "decommit") c.decommit (call_with (codes "recolour") c.recolour (call_with (codes "erase") c.erase row))

-- a dash where nothing is written
unfoldable pub dash_if : List ℕ → List ℕ
dash_if row = if length row == 0 then codes "-" else row

-- The page calls of each kind, or a dash where there were none.
unfoldable pub calls_text : PageCalls → List ℕ
calls_text c = dash_if (others_with c (changes_with c []))
