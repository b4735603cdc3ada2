-- Rows at the front of a table.
use Prim.Native.Nat.{ℕ, ◌+◌, ◌*◌, ◌-◌, ◌≤◌}
use native.Mathlib.Omega.{arith}
use mathlib.Core.Path.{◌≡◌, refl, sym, ◌∙◌}
use mathlib.Core.List.{List, [], ◌∷◌, ◌++◌, append_assoc, append-nil}
use borrow.Rule.Slice.PartMut.{put_mid}
use lib.ListN.{length, take, drop, length-append, length-take, length-drop, drop_of_length-le}
use lib.Seq.{take_at, take_all, take-append-add, length-take-le}
use Rattle.row.specs.declared.table.Row.{Row}
use Rattle.row.specs.Row.{rows_bytes, width, bytes_of}
use Rattle.row.specs.steps.Pouring.{pour, place_of}
use Rattle.row.specs.steps.Writing.{Poured}
use Rattle.row.proofs.PourLaws.{length_rows_bytes, length_pour, pour_all, pour_append, pour_at_zero, pour_at_at}
use Rattle.recovery.specs.steps.Front.{Front}

pub rows_append : (xs ys : List Row) → rows_bytes (xs ++ ys) ≡ rows_bytes xs ++ rows_bytes ys
unfolding bytes_of
rows_append [] ys = refl
rows_append (r ∷ xs) ys = rw (rows_append xs ys, append_assoc)

-- rows that are poured, and maybe others behind them
pub front_poured : (rs : List Row) (t u : List ℕ) → Poured 0 rs t u → Front rs t u
front_poured rs t u (xs, e) h =
    let n = length rs * width in
    let p = pour rs t in
    let rest = pour xs (drop n p) in
    let l : length (take n p) ≡ n = length-take-le n p (rw length_pour h) in
    let a : u ≡ take n p ++ rest = e ∙ pour_at_zero (rs ++ xs) t ∙ pour_append rs xs t ∙ pour_at_at (length rs) xs p (rw length_pour h) in
    rw (a, take_at (take n p) rest n l, pour_all rs t h, take_at (rows_bytes rs) (drop n t) n (length_rows_bytes rs))

-- one row into a table v that is as long as t
pub front_one : (r : Row) (t v u : List ℕ) → length v ≡ length t → u ≡ pour (r ∷ []) v → Front (r ∷ []) t u
front_one r t v u l e h = front_poured (r ∷ []) v u ([], e ∙ sym (pour_at_zero (r ∷ []) v)) (rw l h)

-- rows at the front of t, which was w; and then others, behind them, into the rest of it
pub front_then : (xs ys : List Row) (n : ℕ) (w t m : List ℕ) {k : ℕ} → n ≡ length xs → length t ≡ length w → k ≡ place_of n (length t) → Front xs w t
    → Front ys (take (length t - k) (drop k t)) m → Front (xs ++ ys) w (put_mid k (length t - k) t m)
front_then xs ys n w t m {k} en l ek fx fy h =
    let x = length xs * width in
    let y = length ys * width in
    let z : length (xs ++ ys) ≡ length xs + length ys = length-append xs ys in
    let hx : x ≤ length w = omega arith in
    let kx : k ≡ x = omega arith in
    let a : take k t ≡ rows_bytes xs = rw kx (fx hx) in
    let b : take y m ≡ rows_bytes ys = fy (rw (length-take, length-drop) (omega arith)) in
    let c : drop (length t - k) (drop k t) ≡ [] = drop_of_length-le (drop k t) {i = length t - k} (rw length-drop (omega arith)) in
    let d : length (xs ++ ys) * width ≡ length (rows_bytes xs) + y = rw (z, length_rows_bytes) (omega arith) in
    rw (a, c, append-nil, d, take-append-add (rows_bytes xs) m y, b) (sym (rows_append xs ys))

-- rows that fill a part of a table: the part is theirs
pub front_filled : (rs : List Row) (n : ℕ) (t v : List ℕ) → n ≡ length rs → n * width ≤ length t → length v ≡ length (take (n * width) (drop 0 t))
    → Front rs (take (n * width) (drop 0 t)) v → put_mid 0 (n * width) t v ≡ pour rs t
front_filled rs n t v e h l f =
    let la : length (take (n * width) (drop 0 t)) ≡ n * width = rw length-take (omega arith) in
    let a : v ≡ rows_bytes rs = sym (take_all (length rs * width) v (omega arith)) ∙ f (omega arith) in
    rw (a, pour_all rs t (omega arith), e)
