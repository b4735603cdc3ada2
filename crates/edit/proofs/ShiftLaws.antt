-- Rows that are moved, from what the code knows.
use Prim.Native.Nat.{ℕ, suc, ◌+◌, ◌*◌, ◌-◌, ◌%◌, ◌≤◌, ◌<◌, ◌^◌}
use native.Mathlib.Omega.{arith}
use mathlib.Core.Path.{◌≡◌, sym, ◌∙◌, ap}
use mathlib.Core.Bool.{Bool, true, false, cond, ◌||◌}
use mathlib.Core.List.{List, [], ◌∷◌, ◌++◌, append_assoc}
use lib.Dec.{eqb}
use lib.ListN.{length, take, drop, length-append, length-take, length-drop, take-append-drop}
use lib.Seq.{take_at, drop_at, drop-drop}
use mir.Syntax.{w64}
use mir.Val.{Fits}
use Rattle.row.specs.declared.table.Row.{Row}
use Rattle.row.specs.Row.{width, row_bytes, row_in}
use Rattle.row.specs.steps.Pouring.{pour_at}
use Rattle.row.specs.Details.{spanned}
use Rattle.row.proofs.PourLaws.{length_row_bytes, length_pour_at, pour_none, pour_fits, pour_at_at}
use Rattle.row.specs.Field.{field_limit}
use Rattle.edit.specs.Edits.{move_on, shift}
use Rattle.text.proofs.Steps.{rest_of}
use Rattle.edit.specs.declared.moves.By.{By}
use Rattle.edit.specs.steps.Moving.{shift_by, moved_in}

-- ---- one row

pub move_yes : (t : Bool) (d x : ℕ) → t ≡ true → (x % field_limit + d) % field_limit ≡ cond t (move_on d x) x
move_yes t d x e = rw e (omega arith)

pub move_no : (t : Bool) (d x : ℕ) → t ≡ false → x ≡ cond t (move_on d x) x
move_no t d x e = rw e

pub ruleset move_laws = (move_yes, move_no)

pub q_moves : (t : Bool) (k : ℕ) → t ≡ spanned k → (t || eqb k 90) ≡ (spanned k || eqb k 90)
q_moves t k e = rw e

pub shift_all : (r : Row) (b : By) {s e l p q : ℕ} {tp tq : Bool} → s ≡ move_on b.places r.start → e ≡ move_on b.places r.end
    → l ≡ move_on b.lines r.line → tp ≡ spanned r.kind → p ≡ cond tp (move_on b.places r.p) r.p
    → tq ≡ (spanned r.kind || eqb r.kind 90) → q ≡ cond tq (move_on b.places r.q) r.q
    → record { kind = r.kind; start = s; end = e; line = l; p = p; q = q; bits = r.bits } ≡ shift_by b r
unfolding shift
shift_all r b es ee el et ep eu eq = rw (es, ee, el, ep, eq, et, eu)

-- ---- rows moved where they stand: the first i of n are

pub record MovedTo (b : By) (n : ℕ) (u : List ℕ) (i : ℕ) (t : List ℕ) : Type 0 where
  pub rows : take (i * width) t ++ moved_in b (n - i) (drop (i * width) t) ≡ moved_in b n u
  pub inside : n * width ≤ length t
  pub same : length t ≡ length u

pub moved_start : (b : By) (n : ℕ) (t : List ℕ) → n * width ≤ length t → MovedTo b n t 0 t
moved_start b n t h = let z : n - 0 ≡ n = omega arith in record { rows = rw z; inside = h; same = omega arith }

put_at : (t : List ℕ) (x : Row) (i : ℕ) → i * width + width ≤ length t → pour_at i (x ∷ []) t ≡ (take (i * width) t ++ row_bytes x) ++ drop (i * width + width) t
put_at t x i h =
    pour_at_at i (x ∷ []) t (omega arith)
    ∙ ap (λ (z : List ℕ). take (i * width) t ++ z) (pour_fits x [] (drop (i * width) t) (rw length-drop (omega arith)) ∙ rw (pour_none, drop-drop width (i * width) t))
    ∙ sym (append_assoc (take (i * width) t) (row_bytes x) (drop (i * width + width) t))

module _ (b : By) (n : ℕ) (w : List ℕ) (i : ℕ) (t : List ℕ) (M : MovedTo b n w i t) where
  pub moved_end : n ≤ i → t ≡ moved_in b n w
  unfolding moved_in
  moved_end h = let z : n - i ≡ 0 = omega arith in rw (z, take-append-drop) at M.rows

  module _ (h : i < n) where
    pub moved_within : i * width ≤ length t
    moved_within = omega (arith, M.inside)

    pub moved_place : length t < 2 ^ 64 → Fits w64 (i * width)
    moved_place l = record { fits = omega (arith, M.inside) }

    pub moved_row : width ≤ length (take (length t - i * width) (drop (i * width) t))
    moved_row = rw (rest_of t (i * width), length-drop) (omega (arith, M.inside))

    pub moved_on : {r x : Row} {u : List ℕ} → r ≡ row_in (take (length t - i * width) (drop (i * width) t)) → x ≡ shift_by b r → u ≡ pour_at i (x ∷ []) t
        → MovedTo b n w (i + 1) u
    unfolding moved_in
    moved_on {r} {x} {u} er ex eu =
        let A = take (i * width) t ++ row_bytes x in
        let C = drop (i * width + width) t in
        let eu2 : u ≡ A ++ C = eu ∙ put_at t x i (omega (arith, M.inside)) in
        let la : length A ≡ (i + 1) * width = rw (length-append, length-take, length_row_bytes) (omega (arith, M.inside)) in
        let ta : take ((i + 1) * width) u ≡ A = ap (take ((i + 1) * width)) eu2 ∙ take_at A C ((i + 1) * width) la in
        let da : drop ((i + 1) * width) u ≡ C = ap (drop ((i + 1) * width)) eu2 ∙ drop_at A C ((i + 1) * width) la in
        let x-is : x ≡ shift_by b (row_in (drop (i * width) t)) = ex ∙ ap (shift_by b) (er ∙ ap row_in (rest_of t (i * width))) in
        let c : n - i ≡ suc (n - (i + 1)) = omega arith in
        let s : moved_in b (n - i) (drop (i * width) t) ≡ row_bytes x ++ moved_in b (n - (i + 1)) C =
        ap (λ (j : ℕ). moved_in b j (drop (i * width) t)) c ∙ ap (λ (z : List ℕ). row_bytes (shift_by b (row_in (drop (i * width) t))) ++ moved_in b (n - (i + 1)) z) (drop-drop width (i * width) t)
        ∙ ap (λ (z : Row). row_bytes z ++ moved_in b (n - (i + 1)) C) (sym x-is) in
        let lu : length u ≡ length t = ap length eu ∙ length_pour_at i (x ∷ []) t in
        record {
          rows = rw (ta, da) (append_assoc (take (i * width) t) (row_bytes x) (moved_in b (n - (i + 1)) C) ∙ ap (λ (z : List ℕ). take (i * width) t ++ z) (sym s) ∙ M.rows);
          inside = omega (arith, M.inside);
          same = lu ∙ M.same;
        }

pub ruleset moved_laws = (moved_start, moved_end, moved_within, moved_place, moved_row, moved_on)
