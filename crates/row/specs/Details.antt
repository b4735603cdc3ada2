-- What rows hold beside their span: second spans, and values.
use Rattle.decimal.specs.Faults.{Value}
use Rattle.std.specs.Prelude.{ℕ, Bool, cond, ◌||◌, eqb, ℤ, pos, Err, Ok}
use Rattle.decimal.specs.Exact.{whole_of}
use Rattle.amount.specs.Kinds.{amount_kind, unit_price_kind, total_price_kind, string_meta_kind, number_meta_kind, currency_meta_kind}
use Rattle.amount.specs.declared.detail.Detail.{Detail}

-- kinds whose p and q are a span
unfoldable pub spanned : ℕ → Bool
spanned k = eqb k amount_kind || eqb k unit_price_kind || eqb k total_price_kind || eqb k string_meta_kind || eqb k number_meta_kind || eqb k currency_meta_kind

unfoldable pub millionths : Value → ℤ
millionths (Ok d) = whole_of d
millionths (Err n) = pos 0

-- where the expression of a row starts
unfoldable pub value_place : Detail → ℕ
value_place d = cond (eqb d.kind number_meta_kind) d.p d.start
