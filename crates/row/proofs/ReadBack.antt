-- A row as its bytes say it: each field modulo its width, and the row itself where its fields are held; rows at the
-- front of a table.
use Rattle.std.specs.Prelude.{Err, Ok}
use Rattle.decimal.specs.Faults.{Value}
use Prim.Native.Nat.{ℕ, zero, suc, ◌≤◌, ◌<◌}
use native.Mathlib.Nat.{mod-eq_of_lt}
use native.Mathlib.Omega.{arith}
use mathlib.Core.Path.{◌≡◌, refl, ◌∙◌, ap}
use mathlib.Core.Bool.{Bool, true, false, cond}
use mathlib.Core.List.{List, [], ◌∷◌, ◌++◌, map, append_assoc}
use lib.IntN.{pos, neg_ℤ}
use lib.ListN.{length, drop}
use lib.Seq.{drop_at}
use Rattle.decimal.specs.Exact.{limit, twos_of, word_limit}
use Rattle.amount.proofs.ValueSizes.{Small}
use Rattle.row.specs.declared.table.Row.{Row}
use Rattle.row.specs.Field.{le, un, field_limit}
use Rattle.row.specs.Row.{bytes_of, field_bytes, fields_in, width, row_bytes, rows_bytes, row_in, rows_in}
use Rattle.row.specs.Details.{millionths}
use Rattle.row.specs.steps.Holding.{Held}
use Rattle.row.proofs.FieldLaws.{un_le}
use Rattle.row.proofs.PourLaws.{length_row_bytes}

unfoldable pub wrapped : Row → Row
wrapped r =
    record {
      kind = un (le 4 r.kind);
      start = un (le 4 r.start);
      end = un (le 4 r.end);
      line = un (le 4 r.line);
      p = un (le 4 r.p);
      q = un (le 4 r.q);
      bits = un (le 8 r.bits);
    }

fields_in_lem : (r : Row) (b : List ℕ) → fields_in (field_bytes r ++ b) ≡ wrapped r
unfolding fields_in field_bytes wrapped
fields_in_lem r b = refl

pub row_in_lem : (r : Row) (b : List ℕ) → row_in (row_bytes r ++ b) ≡ wrapped r
unfolding row_in fields_in row_bytes field_bytes wrapped
row_in_lem r b = refl

-- a number that four bytes hold, and one that eight hold
pub four_back : (x : ℕ) → x < field_limit → un (le 4 x) ≡ x
four_back x h = un_le 4 x ∙ mod-eq_of_lt h

pub eight_back : (x : ℕ) → x < word_limit → un (le 8 x) ≡ x
eight_back x h = un_le 8 x ∙ mod-eq_of_lt h

held_is : (r : Row) → Held r → wrapped r ≡ r
unfolding wrapped
held_is r h =
    rw (
      four_back r.kind h.kind,
      four_back r.start h.start,
      four_back r.end h.end,
      four_back r.line h.line,
      four_back r.p h.p,
      four_back r.q h.q,
      eight_back r.bits h.bits,
    )

-- the same of its fields alone
pub fields_back : (r : Row) (b : List ℕ) → Held r → fields_in (field_bytes r ++ b) ≡ r
fields_back r b h = fields_in_lem r b ∙ held_is r h

pub held_back : (r : Row) (b : List ℕ) → Held r → row_in (row_bytes r ++ b) ≡ r
held_back r b h = row_in_lem r b ∙ held_is r h

-- rows at the front of a table
pub rows_front : (rs : List Row) (b : List ℕ) → rows_in (length rs) (rows_bytes rs ++ b) ≡ map wrapped rs
unfolding rows_in bytes_of
rows_front [] b = refl
rows_front (r ∷ rs) b =
    let x = rows_bytes rs ++ b in
    let q : (row_bytes r ++ rows_bytes rs) ++ b ≡ row_bytes r ++ x = append_assoc (row_bytes r) (rows_bytes rs) b in
    ap (λ (z : List ℕ). row_in z ∷ rows_in (length rs) (drop width z)) q
    ∙ ap (λ (z : Row). z ∷ rows_in (length rs) (drop width (row_bytes r ++ x))) (row_in_lem r x)
    ∙ ap (λ (z : List ℕ). wrapped r ∷ rows_in (length rs) z) (drop_at (row_bytes r) x width (length_row_bytes r))
    ∙ ap (λ (z : List Row). wrapped r ∷ z) (rows_front rs b)

-- a value within the limit is held by eight bytes
twos_low : (m : Bool) (n : ℕ) → n ≤ limit → twos_of (cond m (neg_ℤ (pos n)) (pos n)) < word_limit
unfolding twos_of
twos_low true zero h = omega arith
twos_low true (suc n) h = omega arith
twos_low false n h = omega arith

pub bits_low : (v : Value) → Small v → twos_of (millionths v) < word_limit
unfolding millionths
bits_low (Ok d) h = twos_low d.minus d.size h.holds
bits_low (Err n) h = twos_low false 0 (omega arith)
