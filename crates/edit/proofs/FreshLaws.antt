-- The rows of the new bytes: counted, and put at their place.
use Rattle.text.specs.declared.stop.Refused.{Refused}
use Rattle.text.specs.Refusals.{refused_with}
use Rattle.std.specs.Prelude.{Err, Ok, Result}
use Prim.Native.Nat.{ℕ, ◌+◌, ◌*◌, ◌≤◌}
use native.Mathlib.Nat.{add-zero}
use native.Mathlib.Omega.{arith}
use mathlib.Core.Path.{◌≡◌, refl, sym, ◌∙◌, ap}
use mathlib.Core.Bool.{Bool, true, false, cond}
use mathlib.Core.List.{List, [], ◌∷◌, ◌++◌, map, append_assoc}
use borrow.Author.Tests.{le-leb, leb-true}
use lib.Dec.{leb}
use lib.ListN.{length, drop, length-map}
use lib.Seq.{drop_at}
use Rattle.text.specs.Permitted.{size_limit}
use Rattle.row.specs.declared.table.Row.{Row}
use Rattle.row.specs.Row.{width, row_bytes, rows_bytes, row_in, room, bytes_of}
use Rattle.row.specs.steps.Pouring.{pour}
use Rattle.row.proofs.PourLaws.{length_row_bytes, length_pour, pour_all}
use Rattle.ledger.specs.Plain.{Reading, accepted, denied}
use Rattle.ledger.specs.Answers.{answer, left}
use Rattle.ledger.specs.declared.scan.Profile.TheVariants.{Plain}
use Rattle.recovery.specs.Recovering.{recover_from, recovered}
use Rattle.recovery.proofs.BlocksLaws.{recover_kept}
use Rattle.recovery.proofs.CallLaws.{recovered_is}
use Rattle.edit.specs.declared.moves.By.{By}
use Rattle.edit.specs.steps.Moving.{Small, shift_by, moved_in, by, Fresh}
use Rattle.edit.proofs.MoveLaws.{move_all, recover_all}
use Rattle.row.proofs.ReadBack.{wrapped, row_in_lem}
use Rattle.edit.proofs.RowBytes.{all_shifted}

module _ (y : List ℕ) (h : length y ≤ size_limit) where
  abbrev rs : List Row
  rs = recover_from (length y) 0 0 y

  pub few : length rs ≤ size_limit
  few = omega (arith, (recover_kept Plain (length y) 0 0 y).few)

  answer_is : (room : ℕ) → answer (recovered y) room ≡ cond (leb (length rs) room) (Ok (length rs)) (Err (refused_with 9 0 (length rs)))
  unfolding answer
  answer_is room = rw (recovered_is Plain y h)

  module _ (r : Result ℕ Refused) (room : ℕ) (er : r ≡ answer (recovered y) room) where
    pub count_rows : (n : ℕ) → r ≡ Ok n → n ≡ length rs
    count_rows n e = go (leb (length rs) room) (sym e ∙ er ∙ answer_is room)
      where
        go : (b : Bool) → Ok n ≡ cond b (Ok (length rs)) (Err (refused_with 9 0 (length rs))) → n ≡ length rs
        go true z = cc
        go false z = absurd (let w : ◌≡◌ {A = ℕ} 0 1 = cc in omega arith)

    pub count_need : (x : Refused) → r ≡ Err x → x.count ≡ length rs
    count_need x e = go (leb (length rs) room) (sym e ∙ er ∙ answer_is room)
      where
        go : (b : Bool) → Err x ≡ cond b (Ok (length rs)) (Err (refused_with 9 0 (length rs))) → x.count ≡ length rs
        go true z = absurd (let w : ◌≡◌ {A = ℕ} 0 1 = cc in omega arith)
        go false z = let w : x ≡ refused_with 9 0 (length rs) = cc in ap (λ (y : Refused). y.count) w

    pub rows_low : (n : ℕ) → r ≡ Ok n → n ≤ size_limit
    rows_low n e = omega (arith, count_rows n e, few)

    pub need_low : (x : Refused) → r ≡ Err x → x.count ≤ size_limit
    need_low x e = omega (arith, count_need x e, few)

  -- at a place, with so many line feeds before
  rows_at : (base lines : ℕ) → recover_from (length y) base lines y ≡ map (move_all base lines) rs
  rows_at base lines = rw (add-zero base, add-zero lines) at (recover_all (length y) base lines 0 0 y)

  pub length_at : (base lines : ℕ) → length (recover_from (length y) base lines y) ≡ length rs
  length_at base lines = ap length (rows_at base lines) ∙ length-map rs (move_all base lines)

  shifted_rows : (base lines : ℕ) → rows_bytes (map (shift_by (by base lines)) (map wrapped rs)) ≡ rows_bytes (recover_from (length y) base lines y)
  shifted_rows base lines =
      let none : map (move_all (0 + 0) (0 + 0)) rs ≡ rs = sym (recover_all (length y) 0 0 0 0 y) in
      ap (λ (z : List Row). rows_bytes (map (shift_by (by base lines)) (map wrapped z))) (sym none)
      ∙ all_shifted 0 base base 0 lines lines (omega arith) (omega arith) 0 (0 + 1) y rs (recover_kept Plain (length y) 0 0 y).lines
      ∙ ap rows_bytes (sym (rows_at base lines))

pub ruleset count_laws = (count_rows, count_need, rows_low, need_low)

moved_rows : (b : By) (xs : List Row) (rest : List ℕ) → moved_in b (length xs) (rows_bytes xs ++ rest) ≡ rows_bytes (map (shift_by b) (map wrapped xs)) ++ rest
unfolding moved_in bytes_of
moved_rows b [] rest = refl
moved_rows b (r ∷ xs) rest =
    let x = rows_bytes xs ++ rest in
    let q : (row_bytes r ++ rows_bytes xs) ++ rest ≡ row_bytes r ++ x = append_assoc (row_bytes r) (rows_bytes xs) rest in
    ap (λ (z : List ℕ). row_bytes (shift_by b (row_in z)) ++ moved_in b (length xs) (drop width z)) q
    ∙ ap (λ (z : Row). row_bytes (shift_by b z) ++ moved_in b (length xs) (drop width (row_bytes r ++ x))) (row_in_lem r x)
    ∙ ap (λ (z : List ℕ). row_bytes (shift_by b (wrapped r)) ++ moved_in b (length xs) z) (drop_at (row_bytes r) x width (length_row_bytes r))
    ∙ ap (λ (z : List ℕ). row_bytes (shift_by b (wrapped r)) ++ z) (moved_rows b xs rest)
    ∙ sym (append_assoc (row_bytes (shift_by b (wrapped r))) (rows_bytes (map (shift_by b) (map wrapped xs))) rest)

module _ (y : List ℕ) (n base lines : ℕ) (z : List ℕ) (F : Fresh y n base lines z) where
  pub fresh_small : Small (by base lines)
  fresh_small = record { places = omega (arith, F.start); lines = omega (arith, F.feeds) }

  left_long : (v : List ℕ) → v ≡ left (recovered y) z → length v ≡ length z
  unfolding left
  left_long v ev = ap length ev ∙ go (recovered y) refl
    where
      go : (r : Reading) → recovered y ≡ r → length (left r z) ≡ length z
      go (accepted xs) e = many (leb (length xs) (room z)) refl
        where
          many : (b : Bool) → leb (length xs) (room z) ≡ b → length (cond b (rows_bytes xs ++ drop (length xs * width) z) z) ≡ length z
          many true q = ap length (sym (pour_all xs z (omega (arith, leb-true (length xs) (room z) q)))) ∙ length_pour xs z
          many false q = refl
      go (denied k p) e = refl

  pub fresh_room : (v : List ℕ) → v ≡ left (recovered y) z → n * width ≤ length v
  fresh_room v ev = omega (arith, left_long v ev, F.room)

  pub fresh_put : (v u : List ℕ) → v ≡ left (recovered y) z → u ≡ moved_in (by base lines) n v → u ≡ pour (recover_from (length y) base lines y) z
  unfolding left
  fresh_put v u ev eu =
      let xs = recover_from (length y) 0 0 y in
      let zs = recover_from (length y) base lines y in
      let rest = drop (length xs * width) z in
      let q : v ≡ rows_bytes xs ++ rest = ev ∙ rw (recovered_is Plain y F.size, le-leb (length xs) (room z) (omega (arith, F.count, F.room))) in
      let w : length zs ≡ length xs = length_at y F.size base lines in
      eu
      ∙ ap (λ (i : ℕ). moved_in (by base lines) i v) F.count
      ∙ ap (moved_in (by base lines) (length xs)) q
      ∙ moved_rows (by base lines) xs rest
      ∙ ap (λ (i : List ℕ). i ++ rest) (shifted_rows y F.size base lines)
      ∙ ap (λ (i : ℕ). rows_bytes zs ++ drop (i * width) z) (sym w)
      ∙ sym (pour_all zs z (omega (arith, F.count, F.room)))

pub ruleset fresh_laws = (fresh_small, fresh_room, fresh_put)
