-- Rows with the same bytes in each field.
use Prim.Native.Nat.{ℕ, ◌%◌}
use native.Mathlib.Omega.{arith}
use mathlib.Core.Path.{◌≡◌, ap, ◌∙◌}
use mathlib.Core.List.{List, [], ◌∷◌, ◌++◌}
use Rattle.row.specs.declared.table.Row.{Row}
use Rattle.row.specs.Field.{le, field_limit}
use Rattle.row.specs.Row.{field_bytes, row_bytes}

four : {a b c d w x y z : ℕ} → a ≡ w → b ≡ x → c ≡ y → d ≡ z → (a ∷ b ∷ c ∷ d ∷ []) ≡ (w ∷ x ∷ y ∷ z ∷ [])
four e f g h = rw (e, f, g, h)

pub mod_four : (x y : ℕ) → x % field_limit ≡ y % field_limit → le 4 x ≡ le 4 y
mod_four x y h = four (omega arith) (omega arith) (omega arith) (omega arith)

pub both : {x y v w : List ℕ} → x ≡ y → v ≡ w → x ++ v ≡ y ++ w
both {x} {y} {v} {w} g h = ap (λ (z : List ℕ). z ++ v) g ∙ ap (λ (z : List ℕ). y ++ z) h

module _ (r u : Row) (k : le 4 r.kind ≡ le 4 u.kind) (s : le 4 r.start ≡ le 4 u.start) (e : le 4 r.end ≡ le 4 u.end)
    (l : le 4 r.line ≡ le 4 u.line) (p : le 4 r.p ≡ le 4 u.p) (q : le 4 r.q ≡ le 4 u.q) (b : le 8 r.bits ≡ le 8 u.bits) where
  fields_same : field_bytes r ≡ field_bytes u
  unfolding field_bytes
  fields_same = both k (both s (both e (both l (both p (both q b)))))

  pub bytes_same : row_bytes r ≡ row_bytes u
  unfolding row_bytes
  bytes_same = rw fields_same
