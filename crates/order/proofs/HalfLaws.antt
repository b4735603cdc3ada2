-- A buffer sorted by halves is the buffer sorted.
use Prim.Native.Nat.{ℕ, zero, suc, ◌+◌, ◌-◌, ◌*◌, ◌≤◌, ◌<◌}
use native.Mathlib.Nat.{sub-zero}
use native.Mathlib.Omega.{arith}
use mathlib.Core.Path.{◌≡◌, refl, sym, ap, ◌∙◌}
use mathlib.Core.Bool.{true, false, cond}
use mathlib.Core.List.{List, [], ◌∷◌, ◌++◌, append_assoc, append-nil}
use borrow.Author.Tests.{le-leb, lt-leb}
use lib.Dec.{leb}
use lib.ListN.{length, take, drop, take-append-drop, length-append, length-drop, drop_of_length-le}
use lib.Seq.{take_at, drop_at, drop-drop, take_all}
use Rattle.order.specs.Order.{by}
use Rattle.order.specs.steps.Buffers.{said_in, Ordered, records_from, records_of, joined, sorted_bytes, record_room}
use Rattle.order.specs.Sorted.{insert, sorted}
use Rattle.order.specs.steps.Merge.{merging}
use Rattle.order.proofs.Orders.{by_either, by_through}
use Rattle.order.proofs.SortLaws.{perm_length, sorted_perm, sorted_ordered, sorted_halves}
use Rattle.order.proofs.RecordLaws.{Wide, length_joined, joined_append, length_records, records_wide, joined_records, records_joined, sorted_wide}
use Rattle.order.specs.Records.{record_width}

length_sorted : (s : List ℕ) (rs : List (List ℕ)) → length (sorted (by (said_in s)) rs) ≡ length rs
length_sorted s rs = perm_length (sorted_perm (by (said_in s)) rs)

wide_append : (xs ys : List (List ℕ)) → Wide xs → Wide ys → Wide (xs ++ ys)
wide_append [] ys h k = k
wide_append (x ∷ xs) ys h k = (h.0, wide_append xs ys h.1 k)

-- a buffer that is made of records, and less than one more
sorted_joined : (s : List ℕ) (rs : List (List ℕ)) (z : List ℕ) → Wide rs → length z < record_width
    → sorted_bytes s (joined rs ++ z) ≡ joined (sorted (by (said_in s)) rs) ++ z
unfolding sorted_bytes
sorted_joined s rs z h l =
    let e : record_room (joined rs ++ z) ≡ length rs = rw (length-append, length_joined rs h) (omega arith) in
    rw (e, records_joined rs [] z 0 h refl, drop_at (joined rs) z (length rs * record_width) (length_joined rs h))

-- xs and ys are the halves, z is what is past them
module _ (s : List ℕ) (xs ys : List (List ℕ)) (z : List ℕ) (wx : Wide xs) (wy : Wide ys) (lz : length z < record_width) where
  X : List ℕ
  X = joined (sorted (by (said_in s)) xs)

  Y : List ℕ
  Y = joined (sorted (by (said_in s)) ys)

  length_X : length X ≡ length xs * record_width
  unfolding X
  length_X = length_joined (sorted (by (said_in s)) xs) (sorted_wide (by (said_in s)) xs wx) ∙ rw (length_sorted s xs)

  length_Y : length Y ≡ length ys * record_width
  unfolding Y
  length_Y = length_joined (sorted (by (said_in s)) ys) (sorted_wide (by (said_in s)) ys wy) ∙ rw (length_sorted s ys)

  -- the first half is sorted, then the second
  first_half : {p : List ℕ} → p ≡ sorted_bytes s (joined xs) → p ≡ X
  unfolding X
  first_half e = rw (append-nil (joined (sorted (by (said_in s)) xs))) at (e ∙ ap (sorted_bytes s) (sym (append-nil (joined xs))) ∙ sorted_joined s xs [] wx (omega arith))

  second_half : {q : List ℕ} → q ≡ sorted_bytes s (joined ys ++ z) → q ≡ Y ++ z
  unfolding Y
  second_half e = e ∙ sorted_joined s ys z wy lz

  -- the records of the buffer with both halves sorted, in one
  merged : (n : ℕ) → n ≡ length xs + length ys → merging s (X ++ (Y ++ z)) 0 (length xs) (length xs) n ≡ joined (sorted (by (said_in s)) (xs ++ ys))
  unfolding X Y merging
  merged n e =
      let lx : length xs - 0 ≡ length (sorted (by (said_in s)) xs) = rw (length_sorted s xs) (omega arith) in
      let ly : n - length xs ≡ length (sorted (by (said_in s)) ys) = rw (length_sorted s ys) (omega arith) in
      rw (
        lx,
        ly,
        records_joined (sorted (by (said_in s)) xs) [] (Y ++ z) 0 (sorted_wide (by (said_in s)) xs wx) refl,
        records_joined (sorted (by (said_in s)) ys) X z (length xs) (sorted_wide (by (said_in s)) ys wy) length_X,
        sorted_halves (by (said_in s)) (by_either (said_in s)) (by_through (said_in s)) xs ys,
      )

  -- the buffer t is lent in two parts: p and q are these afterwards, a and b the buffer after each, v the working space
  module _ (t p q a b u v w : List ℕ) (m : ℕ) (ex : take (m * record_width) t ≡ joined xs) (ey : drop (m * record_width) t ≡ joined ys ++ z)
      (em : length xs ≡ m) (en : m + length ys ≡ record_room t) where
    one_half : p ≡ sorted_bytes s (take (m * record_width - 0) (drop 0 t)) → a ≡ take 0 t ++ (p ++ drop (m * record_width - 0) (drop 0 t)) → a ≡ X ++ (joined ys ++ z)
    one_half ep ea =
        let e0 : m * record_width - 0 ≡ m * record_width = omega arith in
        rw (ea, e0, ey, first_half (rw (e0, ex) at ep))

    module _ (ea : a ≡ X ++ (joined ys ++ z)) where
      lx : length X ≡ m * record_width
      lx = rw (← em) length_X

      da : drop (m * record_width) a ≡ joined ys ++ z
      da = rw ea (drop_at X (joined ys ++ z) (m * record_width) lx)

      both_halves : q ≡ sorted_bytes s (take (length a - m * record_width) (drop (m * record_width) a)) → b ≡ take (m * record_width) a ++ (q ++ drop (length a - m * record_width) (drop (m * record_width) a))
          → b ≡ X ++ (Y ++ z)
      both_halves eq eb =
          let h : length (joined ys ++ z) ≤ length a - m * record_width = omega (arith, ap length ea ∙ length-append X (joined ys ++ z), lx) in
          let f : q ≡ Y ++ z = second_half (rw (da, take_all (length a - m * record_width) (joined ys ++ z) h) at eq) in
          rw (eb, da, drop_of_length-le (joined ys ++ z) h, f, append-nil (Y ++ z), ea, take_at X (joined ys ++ z) (m * record_width) lx)

    module _ (eb : b ≡ X ++ (Y ++ z)) where
      length_b : length b ≡ length t
      length_b =
          rw (eb, length-append X (Y ++ z), length_X, length-append Y z, length_Y)
          (omega (arith, ap length ey, length-drop (m * record_width) t, length-append (joined ys) z, length_joined ys wy))

      in_one : (x : List ℕ) → v ≡ merging s b 0 m m (record_room b) ++ drop (record_room b * record_width) u
          → x ≡ take (record_room t * record_width - 0) (drop 0 v) → w ≡ x ++ drop (record_room t * record_width - 0) (drop 0 b)
          → w ≡ joined (sorted (by (said_in s)) (xs ++ ys)) ++ z
      in_one x ev fx ew =
          let all = joined (sorted (by (said_in s)) (xs ++ ys)) in
          let n = record_room t in
          let lw : length all ≡ n * record_width =
          rw (length_joined (sorted (by (said_in s)) (xs ++ ys)) (sorted_wide (by (said_in s)) (xs ++ ys) (wide_append xs ys wx wy)), length_sorted s (xs ++ ys), length-append xs ys) (omega arith) in
          let mg : merging s (X ++ (Y ++ z)) 0 m m n ≡ all = rw em at (merged n (omega arith)) in
          let f : v ≡ all ++ drop (n * record_width) u = rw (length_b, eb, mg) at ev in
          let k : length (X ++ Y) ≡ n * record_width = rw (length-append X Y, length_X, length_Y) (omega arith) in
          let g : drop (n * record_width) b ≡ z = rw (eb, ← append_assoc X Y z) (drop_at (X ++ Y) z (n * record_width) k) in
          rw (ew, fx, sub-zero, f, take_at all (drop (n * record_width) u) (n * record_width) lw, g)

-- the whole: m is the number of records in the first part
pub halves : (s t p q a b u v x w : List ℕ) (m : ℕ) → m ≤ record_room t
    → p ≡ sorted_bytes s (take (m * record_width - 0) (drop 0 t)) → a ≡ take 0 t ++ (p ++ drop (m * record_width - 0) (drop 0 t))
    → q ≡ sorted_bytes s (take (length a - m * record_width) (drop (m * record_width) a)) → b ≡ take (m * record_width) a ++ (q ++ drop (length a - m * record_width) (drop (m * record_width) a))
    → v ≡ merging s b 0 m m (record_room b) ++ drop (record_room b * record_width) u
    → x ≡ take (record_room t * record_width - 0) (drop 0 v) → w ≡ x ++ drop (record_room t * record_width - 0) (drop 0 b)
    → w ≡ sorted_bytes s t
halves s t p q a b u v x w m lm ep ea eq eb ev fx ew =
    let n = record_room t in
    let xs = records_from t 0 m in
    let ys = records_from t m (n - m) in
    let z = drop (n * record_width) t in
    let wx : Wide xs = records_wide t 0 m (omega arith) in
    let wy : Wide ys = records_wide t m (n - m) (omega arith) in
    let lz : length z < record_width = rw length-drop (omega arith) in
    let em : length xs ≡ m = length_records t 0 m in
    let en : m + length ys ≡ n = rw (length_records t m (n - m)) (omega arith) in
    let ex : take (m * record_width) t ≡ joined xs = sym (joined_records t 0 m) in
    let e : m * record_width + (n - m) * record_width ≡ n * record_width = omega arith in
    let ey : drop (m * record_width) t ≡ joined ys ++ z =
    rw (joined_records t m (n - m), ← e, ← drop-drop ((n - m) * record_width) (m * record_width) t) (sym (take-append-drop ((n - m) * record_width) (drop (m * record_width) t))) in
    let fa = one_half s xs ys z wx wy lz t p q a b u v w m ex ey em en ep ea in
    let fb = both_halves s xs ys z wx wy lz t p q a b u v w m ex ey em en fa eq eb in
    let et : joined (xs ++ ys) ++ z ≡ t =
    rw (joined_append xs ys, append_assoc (joined xs) (joined ys) z, ← ey, ← ex) (take-append-drop (m * record_width) t) in
    in_one s xs ys z wx wy lz t p q a b u v w m ex ey em en fb x ev fx ew
    ∙ sym (sorted_joined s (xs ++ ys) z (wide_append xs ys wx wy) lz)
    ∙ ap (sorted_bytes s) et

-- a buffer with one record at the most is sorted
pub few_sorted : (s t : List ℕ) → record_room t < 2 → t ≡ sorted_bytes s t
unfolding sorted_bytes sorted insert records_from joined
few_sorted s t h = go (record_room t) h
  where
    go : (n : ℕ) → n < 2 → t ≡ joined (sorted (by (said_in s)) (records_from t 0 n)) ++ drop (n * record_width) t
    go zero l = refl
    go (suc zero) l = sym (ap (λ (z : List ℕ). z ++ drop record_width t) (append-nil (take record_width t)) ∙ take-append-drop record_width t)
    go (suc (suc n)) l = absurd (omega arith)

-- ---- the call: room is the number of bytes of whole records, n the length of the working space

module _ (room n : ℕ) where
  pub no_space : n < room → false ≡ leb room n
  no_space h = rw (lt-leb room n h)

  pub space : room ≤ n → true ≡ leb room n
  space h = rw (le-leb room n h)

  pub no_space_left : (t u : List ℕ) → n < room → t ≡ cond (leb room n) u t
  no_space_left t u h = rw (lt-leb room n h)

  pub space_sorted : (t u v : List ℕ) → room ≤ n → v ≡ u → v ≡ cond (leb room n) u t
  space_sorted t u v h e = rw (le-leb room n h) e

pub ruleset call_laws = (no_space, space, no_space_left, space_sorted)

-- ---- what a sorted buffer holds: the sorted records, in order

pub records_sorted : (s t : List ℕ) → records_of (sorted_bytes s t) ≡ sorted (by (said_in s)) (records_of t)
records_sorted s t =
    let n = record_room t in
    let rs = records_of t in
    let z = drop (n * record_width) t in
    let w : Wide rs = records_wide t 0 n (omega arith) in
    let v = sorted_wide (by (said_in s)) rs w in
    let x = sorted (by (said_in s)) rs in
    let lz : length z < record_width = rw length-drop (omega arith) in
    let e : joined rs ++ z ≡ t = rw (joined_records t 0 n) (take-append-drop (n * record_width) t) in
    let f : sorted_bytes s t ≡ joined x ++ z = ap (sorted_bytes s) (sym e) ∙ sorted_joined s rs z w lz in
    let k : record_room (joined x ++ z) ≡ length x = rw (length-append, length_joined x v) (omega arith) in
    rw (f, k) (records_joined x [] z 0 v refl)

pub bytes_ordered : (s t : List ℕ) → Ordered (by (said_in s)) (records_of (sorted_bytes s t))
bytes_ordered s t = rw (records_sorted s t) (sorted_ordered (by (said_in s)) (by_either (said_in s)) (by_through (said_in s)) (records_of t))
