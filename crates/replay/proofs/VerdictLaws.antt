-- What is as it must be.
use Rattle.std.specs.Prelude.{None, Option, Some}
use Prim.Native.Nat.{ℕ}
use mathlib.Core.Path.{◌≡◌, refl, sym}
use mathlib.Core.Bool.{Bool, true, false}
use mathlib.Core.List.{List, [], ◌∷◌}
use borrow.Author.Tests.{eq-eqb, ne_eqb, eqb-true}
use lib.Dec.{eqb}
use Rattle.text.proofs.TestLaws.{and_left, and_right, absurd_bool}
use Rattle.access.specs.Spans.{span_text}
use Rattle.access.specs.Tables.{same}
use Rattle.replay.specs.declared.call.Reply.{Reply}
use Rattle.replay.specs.declared.case.Case.{Case}
use Rattle.replay.specs.declared.compare.Alike.{Alike}
use Rattle.replay.specs.Replies.{outcome, left_by}
use Rattle.replay.specs.Verdicts.{alike, compared, text_same, verdict}

-- ---- the same bytes

same_self : (x : List ℕ) → same x x ≡ true
unfolding same
same_self [] = refl
same_self (b ∷ x) = rw (eq-eqb b b refl, same_self x)

same_equal : (x y : List ℕ) → same x y ≡ true → x ≡ y
unfolding same
same_equal [] [] e = refl
same_equal [] (c ∷ y) e = absurd_bool e
same_equal (b ∷ x) [] e = absurd_bool e
same_equal (b ∷ x) (c ∷ y) e =
    let h : b ≡ c = eqb-true b c (and_left (eqb b c) (same x y) e) in
    let t = same_equal x y (and_right (eqb b c) (same x y) e) in
    cc

pub same_told : (r : Bool) (x y : List ℕ) → (r ≡ true → x ≡ y) × (x ≡ y → r ≡ true) → r ≡ same x y
same_told true x y h = rw (h.0 refl) (sym (same_self y))
same_told false x y h = go (same x y) refl
  where
    go : (q : Bool) → same x y ≡ q → false ≡ q
    go true e = h.1 (same_equal x y e)
    go false e = refl

pub ruleset same_laws = (same_told)

-- ---- the text

module _ (c : Case) (s u : List ℕ) where
  pub text_compared : (w : List ℕ) (q : Bool) → c.call ≡ 5 → w ≡ span_text s c.a c.b → q ≡ same w u → q ≡ text_same c s u
  unfolding text_same
  text_compared w q e v h = rw (eq-eqb c.call 5 e, ← v) h

  pub no_text : (c.call ≡ 5 → ⊥) → true ≡ text_same c s u
  unfolding text_same
  no_text n = rw (ne_eqb c.call 5 n)

pub ruleset text_laws = (text_compared, no_text)

-- ---- the whole case

module _ (c : Case) (must : Reply) (s u t after : List ℕ) (o : Option Reply) (e : o ≡ outcome c s u t) where
  pub judged_answered : (r : Reply) (x y : Bool) (w : List ℕ) (z : Alike)
      → o ≡ Some r → x ≡ text_same c s u → w ≡ left_by c s u t → y ≡ same w after → z ≡ alike r must x y
      → Some z ≡ verdict c must s u t after
  unfolding verdict compared
  judged_answered r x y w z f g h i j = rw (← e, f, ← g, ← h, ← i, j)

  pub judged_unknown : o ≡ None → None ≡ verdict c must s u t after
  unfolding verdict compared
  judged_unknown f = rw (← e, f)

pub ruleset verdict_laws = (judged_answered, judged_unknown)
