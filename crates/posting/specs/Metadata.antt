-- Rule 16. Metadata (H): any number of lines of gap, key, `:`, gap, value, line end, and of empty or comment lines.
use Rattle.std.specs.Prelude.{ℕ, suc, ◌+◌, cond, List, [], ◌∷◌, length, get_or, None, Option, Some}
use Prim.Native.Char.{code}
use Rattle.text.specs.Bytes.{is_small, in_tag}
use Rattle.text.specs.Run.{run_to}
use Rattle.text.specs.Answer.{To, ◌then◌, ◌and◌, ◌else◌, many}
use Rattle.text.specs.Leaves.{gap, currency, byte, line_end, empty_line}
use Rattle.amount.specs.Kinds.{string_meta_kind, number_meta_kind, currency_meta_kind}
use Rattle.amount.specs.Details.{Rows, named, valued, quoted}
use Rattle.amount.specs.Expression.{expression}

-- Key: small letter, then letters, digits, `-`, `_`.
unfoldable pub key_at : List ℕ → ℕ → Option ℕ
key_at s at = cond (is_small (get_or s at 0)) (Some (run_to in_tag s (at + 1))) None

unfoldable pub key : List ℕ → ℕ → Rows
key s at = Rattle.text.specs.Leaves.token (key_at s at)

-- Value: string, expression or currency, tried so. The key's span is k to c.
unfoldable pub value : ℕ → ℕ → List ℕ → ℕ → Rows
value k c s at =
    let text = quoted (named string_meta_kind k c) s at in
    let number = expression s at then λ e v. To e (valued number_meta_kind k c at e v ∷ []) in
    let unit = currency s at and λ e. To e (named currency_meta_kind k c at e ∷ []) in
    text else number else unit

unfoldable pub meta_line : List ℕ → ℕ → Rows
meta_line s at = gap s at and λ k. key s k and λ c. byte (code ":") s c and λ d. gap s d and λ v. value k c s v and λ e. line_end s e

unfoldable pub meta_step : List ℕ → ℕ → Rows
meta_step s at =
    let line = meta_line s at in
    let other = empty_line s at in
    line else other

unfoldable pub metadata : List ℕ → ℕ → Rows
metadata s at = many (meta_step s) (suc (length s)) at
