-- Laws of the merge, from what the code knows in each turn.
use Prim.Native.Nat.{ℕ, ◌+◌, ◌-◌, ◌*◌, ◌≤◌, ◌<◌}
use native.Mathlib.Omega.{arith}
use mathlib.Core.Path.{◌≡◌, refl, sym, ap, ◌∙◌}
use mathlib.Core.Logic.{⊎_elim}
use mathlib.Core.Bool.{Bool, true, false}
use mathlib.Core.List.{List, [], ◌∷◌, ◌++◌, append_assoc}
use borrow.Author.Tests.{lt-ltb, le-ltb}
use lib.ListN.{length, take, drop, take-append-drop, length-drop}
use borrow.Rule.Slice.PartMut.{put_mid}
use lib.Seq.{drop-drop, paste, take-paste, drop-paste, length-paste}
use Rattle.text.proofs.TestLaws.{absurd_bool}
use Rattle.row.proofs.PourLaws.{le_or_lt}
use Rattle.order.specs.Records.{record_width}
use Rattle.order.specs.steps.Buffers.{record_room, said_in, record_at, records_from, joined}
use Rattle.std.specs.declared.cmp.Ordering.{Ordering}
use Rattle.std.specs.declared.cmp.Ordering.TheVariants.{Less, Equal, Greater}
use Rattle.order.specs.Order.{order_of, up_to, may_precede, by}
use Rattle.order.specs.steps.Merge.{left_first, merging}
use Rattle.order.proofs.SortLaws.{merge_left, merge_right, merge_none, merge_only}
use Rattle.order.proofs.RecordLaws.{records_step, records_none}

-- ---- a record is copied

-- z is what was read at i
pub copy_record : (d s z : List ℕ) (i k : ℕ) → i + record_width ≤ length s → k + record_width ≤ length d
    → z ≡ take (i + record_width - i) (drop i s) → put_mid k (k + record_width - k) d z ≡ paste d k (drop i s) record_width
copy_record d s z i k h l e =
    let a : i + record_width - i ≡ record_width = omega arith in
    let b : k + record_width - k ≡ record_width = omega arith in
    rw (e, a, b, drop-drop record_width k d) (sym (append_assoc (take k d) (take record_width (drop i s)) (drop (k + record_width) d)))

-- ---- which record comes next

module _ (s t : List ℕ) (i m j n : ℕ) where
  pub left_none : m ≤ i → false ≡ left_first s t i m j n
  unfolding left_first
  left_none h = rw (le-ltb i m h)

  pub right_none : i < m → n ≤ j → true ≡ left_first s t i m j n
  unfolding left_first
  right_none h k = rw (lt-ltb i m h, le-ltb j n k)

  module _ (h : i < m) (k : j < n) (o : Ordering) (e : o ≡ order_of (said_in s (record_at t i)) (said_in s (record_at t j))) where
    heads_first : up_to o ≡ left_first s t i m j n
    unfolding left_first may_precede
    heads_first = rw (lt-ltb i m h, lt-ltb j n k, ← e)

    pub heads_before : o ≡ Less → true ≡ left_first s t i m j n
    unfolding up_to
    heads_before f = rw f at heads_first

    pub heads_same : o ≡ Equal → true ≡ left_first s t i m j n
    unfolding up_to
    heads_same f = rw f at heads_first

    pub heads_after : o ≡ Greater → false ≡ left_first s t i m j n
    unfolding up_to
    heads_after f = rw f at heads_first

pub ruleset first_laws = (left_none, right_none, heads_before, heads_same, heads_after)

-- ---- a turn: record i, or record j, before what is left

module _ (s t : List ℕ) (i m j n : ℕ) where
  merging_left : left_first s t i m j n ≡ true → (i < m) × (merging s t i m j n ≡ record_at t i ++ merging s t (i + 1) m j n)
  unfolding left_first merging joined
  merging_left e = ⊎_elim (λ (h : m ≤ i). absurd_bool (left_none s t i m j n h ∙ e)) (λ (h : i < m). (h, ⊎_elim (none h) (some h) (le_or_lt n j))) (le_or_lt m i)
    where
      xs : List (List ℕ)
      xs = records_from t (i + 1) (m - (i + 1))

      Goal : Type 0
      Goal = merging s t i m j n ≡ record_at t i ++ merging s t (i + 1) m j n

      none : i < m → n ≤ j → Goal
      none h k = rw (records_step t i m h, records_none t j n k, merge_only (by (said_in s)) (record_at t i ∷ xs), merge_only (by (said_in s)) xs)

      some : i < m → j < n → Goal
      some h k =
          let f : by (said_in s) (record_at t i) (record_at t j) ≡ true = rw (lt-ltb i m h, lt-ltb j n k) at e in
          rw (records_step t i m h, records_step t j n k, merge_left (by (said_in s)) (record_at t i) (record_at t j) xs (records_from t (j + 1) (n - (j + 1))) f)

  merging_right : i + j < m + n → left_first s t i m j n ≡ false → (j < n) × (merging s t i m j n ≡ record_at t j ++ merging s t i m (j + 1) n)
  unfolding left_first merging joined
  merging_right l e =
      ⊎_elim
      (λ (h : n ≤ j). absurd_bool (sym (right_none s t i m j n (omega arith) h ∙ e)))
      (λ (h : j < n). (h, ⊎_elim (λ (k : m ≤ i). none h k) (λ (k : i < m). some h k) (le_or_lt m i)))
      (le_or_lt n j)
    where
      ys : List (List ℕ)
      ys = records_from t (j + 1) (n - (j + 1))

      Goal : Type 0
      Goal = merging s t i m j n ≡ record_at t j ++ merging s t i m (j + 1) n

      none : j < n → m ≤ i → Goal
      none h k = rw (records_step t j n h, records_none t i m k, merge_none (by (said_in s)) (record_at t j ∷ ys), merge_none (by (said_in s)) ys)

      some : j < n → i < m → Goal
      some h k =
          let f : by (said_in s) (record_at t i) (record_at t j) ≡ false = rw (lt-ltb i m k, lt-ltb j n h) at e in
          rw (records_step t i m k, records_step t j n h, merge_right (by (said_in s)) (record_at t i) (record_at t j) (records_from t (i + 1) (m - (i + 1))) ys f)

-- record k was stored: x starts with it, and z is what comes behind
stored : (u v x z : List ℕ) (k n : ℕ) → k < n → n * record_width ≤ length u → record_width ≤ length x → v ≡ paste u (k * record_width) x record_width
    → take ((k + 1) * record_width) v ++ (z ++ drop (n * record_width) v) ≡ take (k * record_width) u ++ ((take record_width x ++ z) ++ drop (n * record_width) u)
stored u v x z k n h l g e =
    let r = (n - (k + 1)) * record_width in
    let ek : (k + 1) * record_width ≡ k * record_width + record_width = omega arith in
    let en : n * record_width ≡ k * record_width + record_width + r = omega arith in
    let d : drop (n * record_width) v ≡ drop (n * record_width) u =
    rw (e, en, ← drop-drop r (k * record_width + record_width) (paste u (k * record_width) x record_width), drop-paste u (k * record_width) x record_width (omega arith) g, drop-drop r (k * record_width + record_width) u) in
    rw (ek, d, e, take-paste u (k * record_width) x record_width (omega arith) g, append_assoc (take (k * record_width) u) (take record_width x) (z ++ drop (n * record_width) u), append_assoc (take record_width x) z (drop (n * record_width) u))

-- k records are in u, which was z, and what is left leads to the whole
pub record Turn (s t z : List ℕ) (m : ℕ) (u : List ℕ) (i j k : ℕ) : Type 0 where
  pub whole : take (k * record_width) u ++ (merging s t i m j (record_room t) ++ drop (record_room t * record_width) u)
      ≡ merging s t 0 m m (record_room t) ++ drop (record_room t * record_width) z
  pub count : k + m ≡ i + j
  pub left : i ≤ m
  pub right : j ≤ record_room t
  pub size : length u ≡ length z

pub turn_first : (s t z : List ℕ) (m : ℕ) → m ≤ record_room t → Turn s t z m z 0 m 0
turn_first s t z m h = record { whole = refl; count = omega arith; left = omega arith; right = h; size = refl }

module _ (s t z : List ℕ) (m : ℕ) (u : List ℕ) (i j k : ℕ) (e : Turn s t z m u i j k) where
  pub turn_last : record_room t ≤ k → u ≡ merging s t 0 m m (record_room t) ++ drop (record_room t * record_width) z
  unfolding merging joined
  turn_last h =
      let ek : k ≡ record_room t = omega arith in
      rw (records_none t i m (omega arith), records_none t j (record_room t) (omega arith), merge_none (by (said_in s)) [], ek, take-append-drop) at e.whole

  -- f is what the code's test of the heads gave
  module _ (f : Bool) (g : f ≡ left_first s t i m j (record_room t)) (h : k < record_room t) where
    left_is : f ≡ true → (i < m) × (merging s t i m j (record_room t) ≡ record_at t i ++ merging s t (i + 1) m j (record_room t))
    left_is b = merging_left s t i m j (record_room t) (sym g ∙ b)

    right_is : f ≡ false → (j < record_room t) × (merging s t i m j (record_room t) ≡ record_at t j ++ merging s t i m (j + 1) (record_room t))
    right_is b = merging_right s t i m j (record_room t) (omega arith) (sym g ∙ b)

    pub left_there : m ≤ record_room t → f ≡ true → i * record_width + record_width ≤ length t
    left_there l b = omega (arith, (left_is b).0)

    pub right_there : f ≡ false → j * record_width + record_width ≤ length t
    right_there b = omega (arith, (right_is b).0)

    module _ (lm : m ≤ record_room t) (lu : record_room t * record_width ≤ length z) (v : List ℕ) where
      pub turn_left : f ≡ true → v ≡ paste u (k * record_width) (drop (i * record_width) t) record_width → Turn s t z m v (i + 1) j (k + 1)
      turn_left b ev =
          let r : i < m = (left_is b).0 in
          let w : record_width ≤ length (drop (i * record_width) t) = rw length-drop (omega arith) in
          record {
            whole = stored u v (drop (i * record_width) t) (merging s t (i + 1) m j (record_room t)) k (record_room t) h (omega arith) w ev ∙ (rw (left_is b).1 at e.whole);
            count = omega arith;
            left = omega arith;
            right = e.right;
            size = ap length ev ∙ length-paste u (k * record_width) (drop (i * record_width) t) record_width (omega arith) w ∙ e.size;
          }

      pub turn_right : f ≡ false → v ≡ paste u (k * record_width) (drop (j * record_width) t) record_width → Turn s t z m v i (j + 1) (k + 1)
      turn_right b ev =
          let r : j < record_room t = (right_is b).0 in
          let w : record_width ≤ length (drop (j * record_width) t) = rw length-drop (omega arith) in
          record {
            whole = stored u v (drop (j * record_width) t) (merging s t i m (j + 1) (record_room t)) k (record_room t) h (omega arith) w ev ∙ (rw (right_is b).1 at e.whole);
            count = omega arith;
            left = e.left;
            right = omega arith;
            size = ap length ev ∙ length-paste u (k * record_width) (drop (j * record_width) t) record_width (omega arith) w ∙ e.size;
          }

pub ruleset merge_laws = (turn_first, turn_last)
