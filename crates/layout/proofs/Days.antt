-- A date's text reads back as the date.
use Rattle.std.specs.Prelude.{None, Some}
use Prim.Native.Nat.{ℕ, ◌+◌, ◌*◌, ◌/◌, ◌%◌}
use native.Mathlib.Omega.{arith}
use mathlib.Core.Path.{◌≡◌, refl, ap}
use mathlib.Core.Bool.{true, cond, ◌&&◌}
use mathlib.Core.List.{List, ◌++◌}
use borrow.Author.Tests.{le-leb}
use lib.Dec.{leb}
use lib.ListN.{get_or, drop}
use Rattle.text.specs.Bytes.{is_digit}
use Rattle.text.specs.Dates.{as_shape, like_shape, date_shape, two, date_in, date_at}
use Rattle.text.specs.Answer.{To}
use Rattle.text.specs.Leaves.{date, dated}
use Rattle.text.proofs.DayLaws.{Day}
use Rattle.text.proofs.Ats.{At, at_far}
use Rattle.layout.specs.Written.{digit, date_text}
use Rattle.layout.proofs.Numbers.{digit_is}

pub date_first_lem : (p : ℕ) (t : List ℕ) → is_digit (get_or (date_text p ++ t) 0 0) ≡ true
unfolding date_text
date_first_lem p t = digit_is (p / 10000000)

-- ---- back

module _ (s : List ℕ) (i p : ℕ) (D : Day p) (post : List ℕ) (A : At s i (date_text p ++ post)) where
  there : (k : ℕ) → get_or s (i + k) 0 ≡ get_or (date_text p ++ post) k 0
  there k = at_far k A

  like : like_shape date_shape (drop i s) ≡ true
  unfolding like_shape as_shape date_text
  like =
      rw A.here
      (rw (digit_is (p / 10000000), digit_is (p / 1000000), digit_is (p / 100000), digit_is (p / 10000))
      (rw (digit_is (p / 1000), digit_is (p / 100), digit_is (p / 10), digit_is p)))

  two_is : (at k x y : ℕ) → at ≡ i + k → get_or (date_text p ++ post) k 0 ≡ digit x → get_or (date_text p ++ post) (k + 1) 0 ≡ digit y → two s at ≡ x % 10 * 10 + y % 10
  unfolding two
  two_is at k x y e f g =
      let z : at + 1 ≡ i + (k + 1) = omega arith in
      rw (z, there (k + 1), g) (rw (e, there k, f) (omega arith))

  pub date_reads : date s i ≡ To (i + 10) p
  unfolding date date_at dated date_in date_text
  date_reads =
      let d = D.low in
      let e = D.from_month in
      let f = D.to_month in
      let g = D.from_day in
      let h = D.to_day in
      rw (
        like,
        two_is i 0 (p / 10000000) (p / 1000000) (omega arith) refl refl,
        two_is (i + 2) 2 (p / 100000) (p / 10000) refl refl refl,
        two_is (i + 5) 5 (p / 1000)
            (p / 100) refl refl refl,
        two_is (i + 8) 8 (p / 10) p refl refl refl,
      )
      (rest (p / 1000 % 10 * 10 + p / 100 % 10) (p / 10 % 10 * 10 + p % 10) (p / 10000000 % 10 * 10 + p / 1000000 % 10) (p / 100000 % 10 * 10 + p / 10000 % 10) (omega arith)
      (omega arith) (omega arith) (omega arith))
    where
      rest : (m d x y : ℕ) → m ≡ p / 100 % 100 → d ≡ p % 100 → x ≡ p / 1000000 → y ≡ p / 10000 % 100
          → dated (cond (leb 1 m && leb m 12 && leb 1 d && leb d 31) (Some ((i + 10), (x * 1000000 + y * 10000 + m * 100 + d))) None) ≡ To (i + 10) p
      rest m d x y a b c e =
          let f = D.from_month in
          let g = D.to_month in
          let h = D.from_day in
          let k = D.to_day in
          rw (le-leb 1 m (omega arith), le-leb m 12 (omega arith), le-leb 1 d (omega arith), le-leb d 31 (omega arith))
          (ap (To (i + 10)) {x = x * 1000000 + y * 10000 + m * 100 + d} {y = p} (omega arith))
