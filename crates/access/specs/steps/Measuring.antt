-- String content byte by byte, as the code goes through it.
use Rattle.std.specs.Prelude.{ℕ, Bool, cond, ◌&&◌, List, eqb, length, None, Option, Some}
use Prim.Native.Char.{code}
use Rattle.text.specs.Bytes.{is_ordinary, is_escaped}
use Rattle.access.specs.Contents.{valid, unescaped}

-- how many bytes stand for the next byte of a string, if one may stand there: by whether an ordinary byte stands before
-- it, its first byte and the one after
unfoldable pub taken : Bool → ℕ → ℕ → Option ℕ
taken ordinary b next =
    cond (is_ordinary b) (Some 1) (cond (ordinary && (eqb b (code "\\") && is_escaped next)) (Some 2) None)

-- how many bytes are left out before the one that is kept
unfoldable pub slash : ℕ → ℕ
slash b = cond (eqb b (code "\\")) 1 0

-- how many bytes valid content has without its escapes
unfoldable pub measured_of : List ℕ → Option ℕ
measured_of c = cond (valid c) (Some (length (unescaped c))) None
