-- The answers on rows, and whether a tag is in force.
use Rattle.text.specs.Refusals.{refused_with}
use Rattle.std.specs.Prelude.{Err, Ok, None, Option, Some, false, true}
use Prim.Native.Nat.{ℕ, zero, suc, ◌+◌, ◌-◌, ◌*◌, ◌≤◌, ◌<◌}
use native.Mathlib.Numerals.{sub-one}
use native.Mathlib.Omega.{arith}
use mathlib.Core.Path.{◌≡◌, refl, sym, ap, ◌∙◌}
use mathlib.Core.Bool.{Bool, true, false, cond, ◌&&◌, ◌||◌}
use mathlib.Core.List.{List, [], ◌∷◌}
use borrow.Author.Tests.{eq-eqb, ne_eqb, lt-ltb, le-ltb, le-leb, lt-leb}
use lib.Dec.{eqb}
use lib.Pointwise.{pointwise}
use Rattle.row.specs.declared.table.Row.{Row}
use Rattle.row.specs.Field.{field_at}
use Rattle.row.specs.Row.{at_kind, at_start, at_end, at_line, at_p, at_q, at_value, width, room}
use Rattle.access.specs.Spans.{good_span, span_text}
use Rattle.access.specs.Tables.{row_at, row_found, same, names, last_named, pushes, in_force}

-- ---- the row with a number

pub row_read : (t : List ℕ) (k : ℕ) {a b c d e f g : ℕ}
    → a ≡ field_at t (k * width + at_kind) 4 → b ≡ field_at t (k * width + at_start) 4 → c ≡ field_at t (k * width + at_end) 4 → d ≡ field_at t (k * width + at_line) 4
    → e ≡ field_at t (k * width + at_p) 4 → f ≡ field_at t (k * width + at_q) 4 → g ≡ field_at t (k * width + at_value) 8
    → record { kind = a; start = b; end = c; line = d; p = e; q = f; bits = g } ≡ row_at t k
unfolding row_at
row_read t k ea eb ec ed ee ef eg = rw (ea, eb, ec, ed, ee, ef, eg)

module _ (t : List ℕ) (k : ℕ) where
  pub row_there : (r : Row) → k < room t → r ≡ row_at t k → Ok r ≡ row_found t k
  unfolding row_found
  row_there r h e = rw (e, lt-ltb k (room t) h)

  pub row_over : room t ≤ k → Err (refused_with 10 0 0) ≡ row_found t k
  unfolding row_found
  row_over h = rw (le-ltb k (room t) h)

pub ruleset row_laws = (row_there, row_over)

pub ruleset read_laws = (row_read)

-- ---- the same bytes

pointwise_same : (a b : List ℕ) → pointwise eqb a b ≡ same a b
unfolding same
pointwise_same [] [] = refl
pointwise_same [] (y ∷ b) = refl
pointwise_same (x ∷ a) [] = refl
pointwise_same (x ∷ a) (y ∷ b) = ap (λ t. eqb x y && t) (pointwise_same a b)

-- ---- whether a row and the next one name a tag

module _ (s t tag : List ℕ) (j : ℕ) (x : Row) (e : x ≡ row_at t j) where
  pub other_kind : (eqb x.kind 4 || eqb x.kind 5) ≡ false → false ≡ names s t tag j
  unfolding names
  other_kind f = rw (← e, f)

  module _ (f : (eqb x.kind 4 || eqb x.kind 5) ≡ true) (y : Row) (g : y ≡ row_at t (j + 1)) where
    pub other_next : (y.kind ≡ 23 → ⊥) → false ≡ names s t tag j
    unfolding names
    other_next n = rw (← e, f, ← g, ne_eqb y.kind 23 n)

    module _ (n : y.kind ≡ 23) (r : Bool) (v : r ≡ good_span s y.start y.end) where
      pub passed_over : r ≡ false → false ≡ names s t tag j
      unfolding names
      passed_over b = rw (← e, f, ← g, eq-eqb y.kind 23 n, ← v, b)

      pub names_bytes : (w : List ℕ) (q : Bool) → r ≡ true → w ≡ span_text s y.start y.end → q ≡ pointwise eqb w tag → q ≡ names s t tag j
      unfolding names
      names_bytes w q b u z = rw (← e, f, ← g, eq-eqb y.kind 23 n, ← v, b, ← u, ← pointwise_same w tag, z)

pub ruleset name_laws = (other_kind, other_next, passed_over, names_bytes)

-- ---- the last row that does; a is the answer, which the first j rows give

module _ (s t tag : List ℕ) (a : Option ℕ) (j : ℕ) (v : a ≡ last_named s t tag j) where
  pub named_none : j ≤ 0 → None ≡ a
  unfolding last_named
  named_none h = let z : j ≡ 0 = omega arith in sym (rw z at v)

  module _ (h : 0 < j) (r : Bool) (e : r ≡ names s t tag (j - 1)) where
    named_step : a ≡ cond r (Some (row_at t (j - 1)).kind) (last_named s t tag (j - 1))
    unfolding last_named
    named_step = v ∙ go j h e
      where
        go : (i : ℕ) → 0 < i → r ≡ names s t tag (i - 1) → last_named s t tag i ≡ cond r (Some (row_at t (i - 1)).kind) (last_named s t tag (i - 1))
        go zero l q = absurd (omega arith)
        go (suc i) l q = rw (q, sub-one (suc i))

    pub named_here : (x : Row) → r ≡ true → x ≡ row_at t (j - 1) → Some x.kind ≡ a
    named_here x f g = sym (named_step ∙ rw (f, g))

    pub named_before : r ≡ false → a ≡ last_named s t tag (j - 1)
    named_before f = named_step ∙ rw f

pub ruleset last_laws = (named_none, named_here, named_before)

-- ---- whether it is in force after the first k rows

module _ (s t tag : List ℕ) (k : ℕ) where
  pub force_none : k ≡ 0 → (Ok false) ≡ in_force s t k tag
  unfolding in_force last_named pushes
  force_none e = rw (e, le-leb 0 (room t) (omega arith))

  pub force_over : room t < k → Err (refused_with 10 0 0) ≡ in_force s t k tag
  unfolding in_force
  force_over h = rw (lt-leb k (room t) h)

  module _ (h : k ≤ room t) (r : Option ℕ) (e : r ≡ last_named s t tag (k - 1)) where
    pub force_by : (m : ℕ) → r ≡ Some m → Ok (eqb m 4) ≡ in_force s t k tag
    unfolding in_force pushes
    force_by m f = rw (le-leb k (room t) h, ← e, f)

    pub force_not : r ≡ None → Ok false ≡ in_force s t k tag
    unfolding in_force pushes
    force_not f = rw (le-leb k (room t) h, ← e, f)

pub ruleset force_laws = (force_none, force_over, force_by, force_not)
