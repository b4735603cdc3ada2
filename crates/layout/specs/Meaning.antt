-- M-103. What reading the output must give again: "the same kinds, dates, values and texts (save of entries,
-- expressions and braces) in the same order". Of entries, a blank one's text is kept too.
use Rattle.std.specs.Prelude.{ℕ, Bool, cond, ◌&&◌, ◌||◌, not, List, [], map, eqb, ltb}
use Rattle.amount.specs.Kinds.{blank_kind, first_detail, amount_kind, tolerance_kind, cost_kind, unit_price_kind, total_price_kind, number_meta_kind}
use Rattle.text.specs.Bytes.{between}
use Rattle.row.specs.declared.table.Row.{Row}
use Rattle.row.specs.Details.{spanned}

-- a row without its places: its kind, the text of its span, the text that p and q name, p where it is a date or a
-- flag, its value in eight bytes
pub record Item : Type 0 where
  pub kind : ℕ
  pub text : List ℕ
  pub other : List ℕ
  pub number : ℕ
  pub bits : ℕ

-- kinds whose span is a text: save of entries, expressions and braces
unfoldable pub texted : ℕ → Bool
texted k =
    eqb k blank_kind
    || not (ltb k first_detail || eqb k amount_kind || eqb k tolerance_kind || eqb k cost_kind || eqb k unit_price_kind || eqb k total_price_kind)

-- kinds whose p and q name a text: a currency, or metadata's string or currency; its number is an expression
unfoldable pub naming : ℕ → Bool
naming k = spanned k && not (eqb k number_meta_kind)

abbrev pub item_for : List ℕ → ℕ → ℕ → ℕ → ℕ → ℕ → ℕ → Item
item_for s k a e p q v =
    record {
      kind = k;
      text = cond (texted k) (between s a e) [];
      other = cond (naming k) (between s p q) [];
      number = cond (spanned k) 0 p;
      bits = v;
    }

unfoldable pub item_of : List ℕ → Row → Item
item_of s r = item_for s r.kind r.start r.end r.p r.q r.bits

unfoldable pub meaning : List ℕ → List Row → List Item
meaning s rs = map (item_of s) rs
