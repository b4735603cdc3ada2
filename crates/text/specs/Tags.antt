-- Rule 14. Tag: `#` and a run, possibly empty, of letters, digits, `-`, `_`. Link: `^`, also `.`.
use Rattle.std.specs.Prelude.{ℕ, ◌+◌, Bool, cond, List, eqb, get_or, None, Option, Some}
use Prim.Native.Char.{code}
use Rattle.text.specs.Bytes.{in_tag, in_link}
use Rattle.text.specs.Run.{run_to}

-- a mark and a run
unfoldable pub marked_at : ℕ → (ℕ → Bool) → List ℕ → ℕ → Option ℕ
marked_at m p s at = cond (eqb (get_or s at 0) m) (Some (run_to p s (at + 1))) None

abbrev pub tag_at : List ℕ → ℕ → Option ℕ
tag_at s at = marked_at (code "#") in_tag s at

abbrev pub link_at : List ℕ → ℕ → Option ℕ
link_at s at = marked_at (code "^") in_link s at
