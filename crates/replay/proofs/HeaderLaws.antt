-- The header's numbers, and its limit.
use Prim.Native.Nat.{ℕ, ◌+◌, ◌<◌}
use native.Mathlib.Omega.{arith}
use mathlib.Core.Path.{◌≡◌, sym, ◌∙◌}
use mathlib.Core.Bool.{false, cond}
use mathlib.Core.List.{List}
use borrow.Author.Tests.{lt-leb, ne_eqb}
use lib.Dec.{eqb, leb}
use Rattle.row.specs.Field.{field_at}
use Rattle.replay.specs.Cases.{case_of, must_of}

module _ (h : List ℕ) where
  pub case_read : {k a b c d n m t : ℕ}
      → k ≡ field_at h 0 4 → a ≡ field_at h 4 4 → b ≡ field_at h 8 4 → c ≡ field_at h 12 4 → d ≡ field_at h 16 4
      → n ≡ field_at h 20 4 → m ≡ field_at h 24 4 → t ≡ field_at h 28 4
      → record { call = k; a = a; b = b; c = c; d = d; first = n; second = m; lent = t } ≡ case_of h
  unfolding case_of
  case_read ek ea eb ec ed en em et = rw (ek, ea, eb, ec, ed, en, em, et)

  pub must_read : {n p c v g : ℕ}
      → n ≡ field_at h 32 4 → p ≡ field_at h 36 4 → c ≡ field_at h 40 4 → v ≡ field_at h 48 8 → g ≡ cond (eqb (field_at h 0 4) 16) (field_at h 12 4) 0
      → record { number = n; place = p; count = c; value = v; tag = g } ≡ must_of h
  unfolding must_of
  must_read en ep ec ev eg = rw (en, ep, ec, ev, eg)

  module _ (k : ℕ) (e : k ≡ field_at h 0 4) where
    pub tag_step : k ≡ 16 → (g : ℕ) → g ≡ field_at h 12 4 → g ≡ cond (eqb (field_at h 0 4) 16) (field_at h 12 4) 0
    tag_step z g eg = eg ∙ rw (← e, z)

    pub tag_none : (k ≡ 16 → ⊥) → 0 ≡ cond (eqb (field_at h 0 4) 16) (field_at h 12 4) 0
    tag_none z = rw (← e, ne_eqb k 16 z)

pub ruleset header_laws = (case_read, must_read, tag_step, tag_none)

-- one part over the limit is too much
module _ (n m t : ℕ) where
  pub first_over : 65536 < n → false ≡ leb (56 + n + m + t + t) 65536
  first_over h = sym (lt-leb (56 + n + m + t + t) 65536 (omega arith))

  pub second_over : 65536 < m → false ≡ leb (56 + n + m + t + t) 65536
  second_over h = sym (lt-leb (56 + n + m + t + t) 65536 (omega arith))

  pub lent_over : 65536 < t → false ≡ leb (56 + n + m + t + t) 65536
  lent_over h = sym (lt-leb (56 + n + m + t + t) 65536 (omega arith))

pub ruleset limit_laws = (first_over, second_over, lent_over)
