-- The text of a span: a part of the ledger, empty for a bad span: start over end or end over the length.
use Rattle.std.specs.Prelude.{ℕ, ◌-◌, Bool, cond, ◌&&◌, List, [], leb, length, take, drop}

unfoldable pub good_span : List ℕ → ℕ → ℕ → Bool
good_span s a e = leb a e && leb e (length s)

unfoldable pub span_text : List ℕ → ℕ → ℕ → List ℕ
span_text s a e = cond (good_span s a e) (take (e - a) (drop a s)) []
