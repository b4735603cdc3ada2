-- Totals, whose working spaces stand one behind the other in a case: each is lent in a buffer of its own.
use Rattle.replay.specs.declared.call.Reply.{Reply}
use Rattle.std.specs.Prelude.{None, Option, Some}
use Prim.Native.Nat.{ℕ, ◌-◌, ◌≤◌, ◌<◌}
use native.Mathlib.Omega.{arith}
use mathlib.Core.Path.{◌≡◌, sym, ◌∙◌, ap}
use mathlib.Core.Bool.{Bool, ◌&&◌}
use mathlib.Core.List.{List, ◌++◌}
use borrow.Author.Tests.{le-leb, lt-leb}
use borrow.Rule.Slice.PartMut.{put_mid}
use lib.ListN.{length, take, drop, length-drop}
use lib.Seq.{take_all, length-take-le}
use Rattle.ledger.specs.Plain.{plain}
use Rattle.text.proofs.Steps.{rest_of}
use Rattle.totals.specs.Totals as totals
use Rattle.lumbrisse.specs.Promises.{TotalsPromise}
use Rattle.lumbrisse.specs.declared.reply as box
use Rattle.replay.specs.declared.case.Case.{Case}
use Rattle.replay.specs.Replies.{wiped, both_wiped, totals_of, of_spaced, totalled, totalled_left}
use Rattle.replay.proofs.SpaceLaws.{front_lent, front_back}

-- both, by parts of the buffers as they are lent on
pub both_wiped_lem : (u y z : List ℕ) (n d m : ℕ) → m ≡ length u - n → (p q : Bool)
    → p ≡ wiped d (take (n - 0) (drop 0 u)) (take (n - 0) (drop 0 y)) → q ≡ wiped d (take (length u - n) (drop n u)) (take (m - 0) (drop 0 z)) → (p && q) ≡ both_wiped n d u y z
both_wiped_lem u y z n d m em p q ep eq =
    let k : n - 0 ≡ n = omega arith in
    let l : m - 0 ≡ length u - n = omega arith in
    rw (ep, eq, k, l, rest_of u n)

pub ruleset kept_parts = (both_wiped_lem)

module _ (c : Case) (s u t : List ℕ) where
  pub totals_unknown : length u < c.c → None ≡ totalled c s u t
  totals_unknown h = rw (lt-leb c.c (length u) h)

  pub left_unknown_totals : length u < c.c → t ≡ totalled_left c s u t
  left_unknown_totals h = rw (lt-leb c.c (length u) h)

  -- x and y are the buffers, a and b as the parts are copied to their fronts, v and w what is left of the parts
  module _ (h : c.c ≤ length u) (m : ℕ) (em : m ≡ length u - c.c) (x y a b v w t' : List ℕ)
      (ea : a ≡ take c.c (drop 0 u) ++ drop c.c x) (eb : b ≡ take m (drop c.c u) ++ drop m y) where
    part_one : take (c.c - 0) (drop 0 a) ≡ take c.c u
    part_one = front_lent (take c.c u) x a c.c (length-take-le c.c u h) ea

    rest_is : take m (drop c.c u) ≡ drop c.c u
    rest_is = take_all m (drop c.c u) (rw length-drop (omega arith))

    rest_long : length (drop c.c u) ≡ m
    rest_long = rw length-drop (omega arith)

    part_two : take (m - 0) (drop 0 b) ≡ drop c.c u
    part_two = front_lent (take m (drop c.c u)) y b m (ap length rest_is ∙ rest_long) eb ∙ rest_is

    module _ (r : box.Reply.Reply) (P : TotalsPromise s c.a c.b t (take (c.c - 0) (drop 0 a)) (take (m - 0) (drop 0 b)) r t' v w) where
      outcome_is : totals.decided s c.a c.b (length t) (length (take (c.c - 0) (drop 0 a))) (length (take (m - 0) (drop 0 b))) (plain s) ≡ totals_of c s u t
      outcome_is = rw (part_one, part_two)

      one_left : v ≡ totals.work_left (totals_of c s u t) (take c.c u)
      one_left = P.work ∙ rw (part_one, part_two)

      other_left : w ≡ totals.work_left (totals_of c s u t) (drop c.c u)
      other_left = P.spare ∙ rw (part_one, part_two)

      pub totals_left : t' ≡ totalled_left c s u t
      totals_left = P.items ∙ rw (part_one, part_two, le-leb c.c (length u) h)

      pub totals_told : length v ≡ length (take (c.c - 0) (drop 0 a)) → length w ≡ length (take (m - 0) (drop 0 b)) → (kept : Bool)
          → kept ≡ both_wiped c.c c.d u (put_mid 0 (c.c - 0) a v) (put_mid 0 (m - 0) b w)
          → (o : Option Reply) → o ≡ Some (of_spaced r kept) → o ≡ totalled c s u t
      totals_told lv lw kept ek o e =
          let ln : length v ≡ c.c = lv ∙ ap length part_one ∙ length-take-le c.c u h in
          let lm : length w ≡ m = lw ∙ ap length part_two ∙ rest_long in
          let D = totals_of c s u t in
          let one : take c.c (put_mid 0 (c.c - 0) a v) ≡ take c.c (totals.work_left D (take c.c u)) =
          front_back a v c.c ln ∙ sym (take_all c.c v (omega (arith, ln))) ∙ ap (take c.c) one_left in
          let other : take (length u - c.c) (put_mid 0 (m - 0) b w) ≡ take (length u - c.c) (totals.work_left D (drop c.c u)) =
          ap (λ (i : ℕ). take i (put_mid 0 (m - 0) b w)) (sym em) ∙ front_back b w m lm ∙ sym (take_all (length u - c.c) w (omega (arith, lm, em))) ∙ ap (take (length u - c.c)) other_left in
          let both : kept ≡ both_wiped c.c c.d u (totals.work_left D (take c.c u)) (totals.work_left D (drop c.c u)) = ek ∙ rw (one, other) in
          e ∙ rw (both, le-leb c.c (length u) h, P.reply, outcome_is)

pub ruleset month_laws = (totals_unknown, left_unknown_totals, totals_left, totals_told)
