-- Laws of the records of a buffer: their bytes in one list, and those of a list of records.
use Prim.Native.Nat.{ℕ, zero, suc, ◌+◌, ◌-◌, ◌*◌, ◌≤◌, ◌<◌}
use native.Mathlib.Nat.{add-zero, zero-add}
use native.Mathlib.Numerals.{add-one}
use native.Mathlib.Omega.{arith}
use mathlib.Core.Path.{◌≡◌, refl, sym, ap}
use mathlib.Core.Bool.{Bool, true, false, cond}
use mathlib.Core.List.{List, [], ◌∷◌, ◌++◌, append_assoc}
use borrow.Rule.Slice.PartMut.{put_mid}
use lib.ListN.{length, take, drop, length-append, length-take, length-drop}
use lib.Seq.{take_at, drop_at, take-add, drop-drop}
use Rattle.row.specs.declared.table.Row.{Row}
use Rattle.row.specs.Row.{fields_width, field_bytes}
use Rattle.row.proofs.PouredLaws.{poured_at_short, poured_lent}
use Rattle.order.specs.Sorted.{insert, sorted}
use Rattle.order.specs.steps.Buffers.{record_at, records_from, joined, record_room, put_records_at}
use Rattle.order.specs.Records.{record_width}

-- each has a record's bytes
abbrev pub Wide : List (List ℕ) → Type 0
Wide [] = Unit {0}
Wide (r ∷ rs) = (length r ≡ record_width) × Wide rs

pub length_joined : (rs : List (List ℕ)) → Wide rs → length (joined rs) ≡ length rs * record_width
unfolding joined
length_joined [] h = refl
length_joined (r ∷ rs) h = rw (length-append, h.0, length_joined rs h.1) (omega arith)

pub joined_append : (xs ys : List (List ℕ)) → joined (xs ++ ys) ≡ joined xs ++ joined ys
unfolding joined
joined_append [] ys = refl
joined_append (x ∷ xs) ys = rw (joined_append xs ys) (sym (append_assoc x (joined xs) (joined ys)))

-- ---- the records of a buffer

pub length_records : (t : List ℕ) (i n : ℕ) → length (records_from t i n) ≡ n
unfolding records_from
length_records t i zero = refl
length_records t i (suc n) = ap suc (length_records t (suc i) n)

-- the record at i before those behind it
pub records_step : (t : List ℕ) (i m : ℕ) → i < m → records_from t i (m - i) ≡ record_at t i ∷ records_from t (i + 1) (m - (i + 1))
unfolding records_from
records_step t i m h =
    let e : m - i ≡ suc (m - (i + 1)) = omega arith in
    rw (e, add-one)

pub records_none : (t : List ℕ) (i m : ℕ) → m ≤ i → records_from t i (m - i) ≡ []
unfolding records_from
records_none t i m h = let e : m - i ≡ 0 = omega arith in rw e

pub records_add : (t : List ℕ) (i m n : ℕ) → records_from t i (m + n) ≡ records_from t i m ++ records_from t (i + m) n
unfolding records_from
records_add t i zero n = rw (zero-add, add-zero)
records_add t i (suc m) n =
    let e : suc m + n ≡ suc (m + n) = omega arith in
    let f : i + suc m ≡ suc i + m = omega arith in
    rw (e, f, records_add t (suc i) m n)

pub records_wide : (t : List ℕ) (i n : ℕ) → (i + n) * record_width ≤ length t → Wide (records_from t i n)
unfolding records_from
records_wide t i zero h = tt
records_wide t i (suc n) h = (rw (length-take, length-drop) (omega arith), records_wide t (suc i) n (omega arith))

-- their bytes are those of the buffer
pub joined_records : (t : List ℕ) (i n : ℕ) → joined (records_from t i n) ≡ take (n * record_width) (drop (i * record_width) t)
unfolding records_from joined
joined_records t i zero = refl
joined_records t i (suc n) =
    let e : suc n * record_width ≡ record_width + n * record_width = omega arith in
    let f : suc i * record_width ≡ i * record_width + record_width = omega arith in
    rw (joined_records t (suc i) n, e, take-add record_width (n * record_width) (drop (i * record_width) t), drop-drop record_width (i * record_width) t, f)

-- ---- a list of records in a buffer, from record i on: x stands before them, and z behind them

pub records_joined : (rs : List (List ℕ)) (x z : List ℕ) (i : ℕ) → Wide rs → length x ≡ i * record_width
    → records_from (x ++ (joined rs ++ z)) i (length rs) ≡ rs
unfolding records_from joined
records_joined [] x z i h e = refl
records_joined (r ∷ rs) x z i h e =
    let q : x ++ ((r ++ joined rs) ++ z) ≡ (x ++ r) ++ (joined rs ++ z) =
    rw (append_assoc r (joined rs) z) (sym (append_assoc x r (joined rs ++ z))) in
    let l : length (x ++ r) ≡ suc i * record_width = rw (length-append, h.0) (omega arith) in
    let k : record_at (x ++ ((r ++ joined rs) ++ z)) i ≡ r =
    rw (drop_at x ((r ++ joined rs) ++ z) (i * record_width) e, append_assoc r (joined rs) z, take_at r (joined rs ++ z) record_width h.0) in
    let s : records_from (x ++ ((r ++ joined rs) ++ z)) (suc i) (length rs) ≡ rs = rw q (records_joined rs (x ++ r) z (suc i) h.1 l) in
    rw k (ap (λ (l : List (List ℕ)). r ∷ l) s)

-- ---- sorted

module _ (le : List ℕ → List ℕ → Bool) where
  insert_wide : (r : List ℕ) (rs : List (List ℕ)) → length r ≡ record_width → Wide rs → Wide (insert le r rs)
  unfolding insert
  insert_wide r [] e h = (e, tt)
  insert_wide r (x ∷ rs) e h = go (le r x) (insert_wide r rs e h.1)
    where
      go : (b : Bool) → Wide (insert le r rs) → Wide (cond b (r ∷ x ∷ rs) (x ∷ insert le r rs))
      go true k = (e, h)
      go false k = (h.0, k)

  pub sorted_wide : (rs : List (List ℕ)) → Wide rs → Wide (sorted le rs)
  unfolding sorted
  sorted_wide [] h = tt
  sorted_wide (r ∷ rs) h = insert_wide r (sorted le rs) h.0 (sorted_wide rs h.1)

-- ---- a row that is put as record n

module _ (n : ℕ) (r : Row) (t : List ℕ) where
  pub record_lent : {e : ℕ} {m : List ℕ} → n < record_room t → e ≡ n * record_width + record_width
      → m ≡ field_bytes r ++ drop fields_width (take (e - n * record_width) (drop (n * record_width) t))
      → put_mid (n * record_width) (e - n * record_width) t m ≡ put_records_at n (r ∷ []) t
  record_lent h ee em = poured_lent record_width field_bytes n r t (omega arith) ee em

  pub record_full : record_room t ≤ n → t ≡ put_records_at n (r ∷ []) t
  record_full h = sym (poured_at_short record_width field_bytes n (r ∷ []) t (omega arith))

pub ruleset putting = (record_lent, record_full)
