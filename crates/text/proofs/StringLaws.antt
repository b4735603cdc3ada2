-- The answers in a string, byte by byte.
use Rattle.std.specs.Prelude.{None, Option, Some}
use Prim.Native.Nat.{ℕ, ◌+◌, ◌-◌, ◌≤◌, ◌<◌}
use native.Mathlib.Nat.{add_assoc}
use native.Mathlib.Omega.{arith}
use mathlib.Core.Path.{◌≡◌, refl, sym, ◌∙◌}
use mathlib.Core.Bool.{Bool, true, false, cond}
use mathlib.Core.List.{List}
use borrow.Author.Tests.{eq-eqb, ne_eqb, lt-ltb, le-ltb}
use lib.Dec.{ltb}
use lib.ListN.{length, drop, get_or, drop_of_length-le}
use Rattle.text.specs.Bytes.{is_ordinary, is_escaped}
use Rattle.text.specs.Strings.{str_from, esc_from}
use Rattle.text.proofs.Steps.{drop_step}

pub str_start : (s : List ℕ) (at : ℕ) → str_from false (drop at s) at ≡ str_from (ltb at at) (drop at s) at
str_start s at = rw (le-ltb at at (omega arith))

-- The invariant is that the answer a is what is left to read at i, where the last escape, or the opening quote, ended
-- at `start`: so an ordinary byte stands before i if that is behind it.
module _ (a : Option ℕ) (s : List ℕ) (start i : ℕ) (v : a ≡ str_from (ltb start i) (drop i s) i) where
  quote : i < length s → get_or s i 0 ≡ 34 → Some (i + 1) ≡ a
  unfolding str_from is_ordinary
  quote h q = sym (v ∙ rw (drop_step s i h, eq-eqb _ _ q))

  -- before the text's last byte
  module _ (h : i < length s - 1) where
    pub str_quote : get_or s i 0 ≡ 34 → Some (i + 1) ≡ a
    str_quote q = quote (omega arith) q

    module _ (q : get_or s i 0 ≡ 34 → ⊥) where
      pub str_next : (get_or s i 0 ≡ 92 → ⊥) → start ≤ i → a ≡ str_from (ltb start (i + 1)) (drop (i + 1) s) (i + 1)
      unfolding str_from is_ordinary
      str_next b l = v ∙ rw (drop_step s i (omega arith), ne_eqb _ _ q, ne_eqb _ _ b, lt-ltb start (i + 1) (omega arith))

      -- a backslash
      module _ (b : get_or s i 0 ≡ 92) where
        pub str_touch : i ≡ start → None ≡ a
        unfolding str_from is_ordinary
        str_touch e = sym (v ∙ rw (drop_step s i (omega arith), b, e, le-ltb start start (omega arith)))

        -- r says whether the byte behind it may stand there
        module _ (r : Bool) (l : start ≤ i) (n : i ≡ start → ⊥) (u : r ≡ is_escaped (get_or s (i + 1) 0)) where
          str_slash : a ≡ cond r (str_from false (drop (i + 2) s) (i + 2)) None
          unfolding str_from esc_from is_ordinary
          str_slash =
              v
              ∙ rw (drop_step s i (omega arith), b, lt-ltb start i (omega arith), drop_step s (i + 1) (omega arith), u, add_assoc i 1 1)

          pub str_escape : r ≡ true → a ≡ str_from (ltb (i + 2) (i + 2)) (drop (i + 2) s) (i + 2)
          str_escape t = str_slash ∙ rw (t, le-ltb (i + 2) (i + 2) (omega arith))

          pub str_bad : r ≡ false → None ≡ a
          str_bad t = sym (str_slash ∙ rw t refl)

  -- at it
  module _ (k : 0 < length s) (h : i ≡ length s - 1) where
    pub str_close : get_or s i 0 ≡ 34 → Some (i + 1) ≡ a
    str_close q = quote (omega arith) q

    pub str_open : (get_or s i 0 ≡ 34 → ⊥) → None ≡ a
    unfolding str_from esc_from
    str_open q =
        let l : length s ≤ i + 1 = omega arith in
        sym (v ∙ rw (drop_step s i (omega arith), ne_eqb _ _ q, drop_of_length-le s l) (go (is_ordinary (get_or s i 0)) (ltb start i)))
      where
        go : (b o : Bool) → ◌≡◌ {A = Option ℕ} (cond b None (cond o None None)) None
        go true o = refl
        go false true = refl
        go false false = refl

  -- and behind it
  pub str_past : length s - 1 ≤ i → (i ≡ length s - 1 → ⊥) → None ≡ a
  unfolding str_from
  str_past h n = let l : length s ≤ i = omega arith in sym (v ∙ rw (drop_of_length-le s l))

pub ruleset str_laws = (str_quote, str_next, str_touch, str_escape, str_bad, str_close, str_open, str_past)
