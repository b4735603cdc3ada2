-- Laws by which the row writer does what is asked: the row of a detail, and what is held of it.
use Rattle.decimal.specs.declared.Fault.{Fault}
use Rattle.std.specs.Prelude.{Err, Ok, None, Option, Some}
use Rattle.decimal.specs.Faults.{Value}
use Prim.Native.Nat.{ℕ, ◌+◌, ◌%◌}
use mathlib.Core.Path.{◌≡◌, refl, sym, ◌∙◌}
use mathlib.Core.Bool.{Bool, true, false}
use mathlib.Core.List.{List, [], ◌∷◌}
use native.Mathlib.Omega.{arith}
use lib.Dec.{ltb}
use borrow.Author.Tests.{eq-eqb, ne_eqb, ltb-false}
use Rattle.decimal.specs.Exact.{whole_of, twos_of}
use Rattle.decimal.specs.declared.Decimal.{Decimal}
use Rattle.amount.specs.declared.detail.Detail.{Detail}
use Rattle.row.specs.Field.{le, field_limit}
use Rattle.row.specs.steps.Pouring.{poured, poured_at, pour_at}
use Rattle.row.specs.Row.{row_of, row_bytes, room}
use Rattle.row.specs.Details.{spanned, millionths, value_place}
use Rattle.row.specs.steps.Writing.{laid, noted, first_refused}
use Rattle.row.specs.declared.table.Row.{Row}
use Rattle.row.specs.declared.writer.Out.{Out}
use Rattle.row.proofs.SameBytes.{mod_four, bytes_same}
use Rattle.row.proofs.PourLaws.{pour_at_full}

-- ---- the bytes of a row

-- the low four bytes of a sum are those of the sum with the low four bytes
low : (b x : ℕ) → le 4 (b + x % field_limit) ≡ le 4 (b + x)
low b x = mod_four (b + x % field_limit) (b + x) (omega arith)

-- a row as the writer makes it: its line is not known yet
abbrev unlined : ℕ → ℕ → ℕ → ℕ → ℕ → ℕ → Row
unlined k s e p q b = record { kind = k; start = s; end = e; line = 0; p = p; q = q; bits = b }

module _ (base : ℕ) (x : Detail) (b : ℕ) (r : Bool) (v : r ≡ spanned x.kind) (w : b ≡ twos_of (millionths x.value)) where
  pub row_span : r ≡ true
      → row_bytes (unlined x.kind (base + x.start % field_limit) (base + x.end % field_limit) (base + x.p % field_limit) (base + x.q % field_limit) b)
      ≡ row_bytes (laid base x)
  unfolding laid row_of
  row_span e = rw (← v, e, w) (bytes_same _ _ refl (low base x.start) (low base x.end) refl (low base x.p) (low base x.q) refl)

  pub row_plain : r ≡ false
      → row_bytes (unlined x.kind (base + x.start % field_limit) (base + x.end % field_limit) x.p x.q b) ≡ row_bytes (laid base x)
  unfolding laid row_of
  row_plain e = rw (← v, e, w) (bytes_same _ _ refl (low base x.start) (low base x.end) refl refl refl refl)

-- ---- a value's bytes

module _ (v : Value) where
  pub bits_known : (d : Decimal) {n b : ℕ} → v ≡ Ok d → n ≡ twos_of (whole_of d) → b ≡ n → b ≡ twos_of (millionths v)
  unfolding millionths
  bits_known d e f g = rw (e, g, f)

  pub bits_refused : (n : Fault) → v ≡ Err n → 0 ≡ twos_of (millionths v)
  unfolding millionths twos_of
  bits_refused n e = rw e

-- ---- what is held

module _ (r : Option (Fault × ℕ)) (x : Detail) where
  pub first_kept : (first : Fault × ℕ) → r ≡ Some first → Some first ≡ first_refused r x
  unfolding first_refused
  first_kept first e = rw e

  pub first_none : (d : Decimal) → r ≡ None → x.value ≡ Ok d → None ≡ first_refused r x
  unfolding first_refused
  first_none d e f = rw (e, f)

  pub first_now : (n : Fault) {p : ℕ} → r ≡ None → x.value ≡ Err n → p ≡ value_place x → Some (n, p) ≡ first_refused r x
  unfolding first_refused value_place
  first_now n e f g = rw (e, f, g)

-- what is held after a row more
pub emit_answer : (o : Out) (x : Detail) (r : Option (Fault × ℕ)) → r ≡ first_refused o.refused x → record { rows = o.rows + 1; refused = r } ≡ noted o x
unfolding noted
emit_answer o x r e = rw e

module _ (x : Detail) where
  pub place_key : x.kind ≡ 36 → x.p ≡ value_place x
  unfolding value_place
  place_key e = rw (eq-eqb x.kind 36 e)

  pub place_start : (x.kind ≡ 36 → ⊥) → x.start ≡ value_place x
  unfolding value_place
  place_start e = rw (ne_eqb x.kind 36 e)

-- ---- a row where there is room for it

pub put_same : (n : ℕ) (r m : Row) (t : List ℕ) {u v : List ℕ} → row_bytes r ≡ row_bytes m → v ≡ pour_at n (r ∷ []) t → u ≡ v
    → u ≡ pour_at n (m ∷ []) t
unfolding poured poured_at
put_same n r m t e f g = g ∙ f ∙ rw e

pub put_full : (n : ℕ) (rs : List Row) (t : List ℕ) {u : List ℕ} {b : Bool} → b ≡ ltb n (room t) → b ≡ false → u ≡ t
    → u ≡ pour_at n rs t
put_full n rs t e f g = g ∙ sym (pour_at_full n rs t (ltb-false n (room t) (sym e ∙ f)))

pub ruleset writing = (
  row_span,
  row_plain,
  bits_known,
  bits_refused,
  first_kept,
  first_none,
  first_now,
  place_key,
  place_start,
  put_same,
  put_full,
)
