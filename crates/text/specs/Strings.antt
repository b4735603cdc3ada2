-- Rule 5. String: `"`, content, `"`. Ordinary: any byte, LF too, but `"` and `\`. The escapes are `\"` and `\\`, and
-- each needs an ordinary byte directly before it; any other backslash is a miss.
use Rattle.std.specs.Prelude.{ℕ, ◌+◌, Bool, true, false, cond, List, [], ◌∷◌, eqb, drop, get_or, None, Option, Some}
use Prim.Native.Char.{code}
use Rattle.text.specs.Bytes.{is_ordinary, is_escaped}

-- In a text that starts at place i: the content that is left and the closing quote. An ordinary byte goes on, `"`
-- closes, a backslash needs an ordinary byte directly before it (`ordinary`: one stands there). esc_from: after that
-- backslash.
unfoldable mutual
  pub str_from : Bool → List ℕ → ℕ → Option ℕ
  str_from ordinary [] i = None
  str_from ordinary (b ∷ s) i =
      cond (is_ordinary b) (str_from true s (i + 1)) (cond (eqb b (code "\"")) (Some (i + 1)) (cond ordinary (esc_from s (i + 1)) None))

  pub esc_from : List ℕ → ℕ → Option ℕ
  esc_from [] i = None
  esc_from (b ∷ s) i = cond (is_escaped b) (str_from false s (i + 1)) None

unfoldable pub string_at : List ℕ → ℕ → Option ℕ
string_at s at = cond (eqb (get_or s at 0) (code "\"")) (str_from false (drop (at + 1) s) (at + 1)) None
