-- The call on a ledger's own rows does what recovering reading of the new ledger does; and so for any sequence of
-- calls.
use Rattle.text.specs.Refusals.{refused_with}
use Rattle.std.specs.Prelude.{Err, Ok}
use Prim.Native.Nat.{ℕ, ◌+◌, ◌*◌, ◌-◌, ◌≤◌}
use native.Mathlib.Omega.{arith}
use mathlib.Core.Path.{◌≡◌, refl, sym, ◌∙◌, ap}
use mathlib.Core.Bool.{Bool, true, false, cond, ◌||◌, ◌&&◌}
use mathlib.Core.List.{List, [], ◌∷◌, ◌++◌, map}
use borrow.Author.Tests.{le-leb, le-ltb, ltb-false}
use lib.Dec.{ltb, leb}
use lib.ListN.{length, take, drop, length-append, length-take, length-drop, take-append-drop}
use lib.Seq.{length-take-le, take_at}
use Rattle.text.proofs.TestLaws.{and_left, and_right}
use Rattle.text.specs.Permitted.{size_limit}
use Rattle.row.specs.declared.table.Row.{Row}
use Rattle.row.specs.Row.{width, rows_bytes, rows_in, room}
use Rattle.ledger.specs.Plain.{Reading, accepted, denied}
use Rattle.ledger.specs.Answers.{answer, left}
use Rattle.ledger.specs.declared.scan.Profile.TheVariants.{Plain}
use Rattle.recovery.specs.Recovering.{recover_from, recovered}
use Rattle.row.proofs.PourLaws.{length_rows_bytes}
use Rattle.recovery.proofs.CallLaws.{recovered_is}
use Rattle.edit.specs.Edits.{is_block, is_new, edited, grows, editing, edit_rows}
use Rattle.edit.specs.Afresh.{Edit, RowsOf, AfreshCall, AllAfresh}
use Rattle.edit.proofs.BlockTests.{block_bounds}
use Rattle.row.proofs.ReadBack.{wrapped, rows_front}
use Rattle.edit.proofs.EditedRows.{edit_bytes, rows_are}

-- the length of the new ledger
new_length : (s : List ℕ) (a e : ℕ) (y : List ℕ) → a ≤ e → e ≤ length s → length (edited s a e y) ≡ length s - (e - a) + length y
unfolding edited
new_length s a e y h l =
    omega (arith, length-append (take a s) (y ++ drop e s), length-take-le a s (omega arith), length-append y (drop e s), length-drop e s)

-- ---- one call

module _ (s : List ℕ) (k : ℕ) (u : List ℕ) (a e : ℕ) (y : List ℕ) (R : RowsOf s k u) (g : Edit s a e y) where
  abbrev old : List Row
  old = recover_from (length s) 0 0 s

  abbrev new : List Row
  new = recover_from (length (edited s a e y)) 0 0 (edited s a e y)

  abbrev E : List Row
  E = edit_rows s a e y (rows_in k u)

  enough : k ≤ room u
  enough = omega (arith, R.count, rw length-take at (ap length R.bytes), length_rows_bytes R.rows)

  not_large : grows s a e y ≡ false
  unfolding grows
  not_large =
      let b = block_bounds s a e g.block in
      rw (le-leb a e b.0, le-leb e (length s) b.1)
      (le-ltb size_limit (length s - (e - a) + length y) (omega (arith, g.new_size, new_length s a e y b.0 b.1)))

  editing_is : editing s u k a e y ≡ accepted E
  unfolding editing
  editing_is = rw (le-ltb size_limit (length s) g.size, not_large, g.block, le-leb k (room u) enough, g.bytes)

  given_rows : rows_in k u ≡ map wrapped old
  given_rows =
      ap (rows_in k) (sym (take-append-drop (k * width) u))
      ∙ ap (λ (z : List ℕ). rows_in k (z ++ drop (k * width) u)) R.bytes
      ∙ ap (λ (i : ℕ). rows_in i (rows_bytes R.rows ++ drop (k * width) u)) R.count
      ∙ rows_front R.rows (drop (k * width) u)
      ∙ ap (map wrapped) (sym (rows_are s R.rows g.size R.read))

  same_bytes : rows_bytes E ≡ rows_bytes new
  same_bytes = ap (λ (z : List Row). rows_bytes (edit_rows s a e y z)) given_rows ∙ edit_bytes s a e y g

  same_count : length E ≡ length new
  same_count = omega (arith, ap length same_bytes, length_rows_bytes E, length_rows_bytes new)

  new_is : recovered (edited s a e y) ≡ accepted new
  new_is = recovered_is Plain (edited s a e y) g.new_size

  same_answer : (room : ℕ) → answer (editing s u k a e y) room ≡ answer (recovered (edited s a e y)) room
  unfolding answer
  same_answer room = rw (editing_is, new_is, same_count)

  same_left : (t : List ℕ) → left (editing s u k a e y) t ≡ left (recovered (edited s a e y)) t
  unfolding left
  same_left t = rw (editing_is, new_is, same_bytes, same_count)

pub afresh_call : AfreshCall
afresh_call s k u a e y R g = (same_answer s k u a e y R g, same_left s k u a e y R g)

-- ---- a call that is accepted is an edit

pub some_rows : (r : Reading) (room n : ℕ) → answer r room ≡ Ok n → (rs : List Row) × (r ≡ accepted rs)
unfolding answer
some_rows (accepted rs) room n e = (rs, refl)
some_rows (denied k p) room n e = absurd (let w : ◌≡◌ {A = ℕ} 0 1 = cc in omega arith)

module _ (s : List ℕ) (k : ℕ) (u : List ℕ) (a e : ℕ) (y : List ℕ) where
  not_denied : (m p : ℕ) (rs : List Row) → denied m p ≡ accepted rs → Edit s a e y
  not_denied m p rs q = absurd (let w : ◌≡◌ {A = ℕ} 0 1 = cc in omega arith)

  from_tests : (o g b : Bool) → ltb size_limit (length s) ≡ o → grows s a e y ≡ g → (is_block s a e && (leb k (room u) && is_new s a e y)) ≡ b
      → (w : Reading) (rs : List Row) → cond (o || g) (denied 1 0) (cond b w (denied 10 0)) ≡ accepted rs → Edit s a e y
  unfolding grows
  from_tests true g b eo eg eb w rs q = not_denied 1 0 rs q
  from_tests false true b eo eg eb w rs q = not_denied 1 0 rs q
  from_tests false false false eo eg eb w rs q = not_denied 10 0 rs q
  from_tests false false true eo eg eb w rs q =
      let block = and_left (is_block s a e) _ eb in
      let c = block_bounds s a e block in
      let size : length s - (e - a) + length y ≤ size_limit = ltb-false size_limit (length s - (e - a) + length y) (rw (le-leb a e c.0, le-leb e (length s) c.1) at eg) in
      record {
        block = block;
        bytes = and_right (leb k (room u)) _ (and_right (is_block s a e) _ eb);
        size = ltb-false size_limit (length s) eo;
        new_size = omega (arith, new_length s a e y c.0 c.1);
      }

  pub is_edit : (rs : List Row) → editing s u k a e y ≡ accepted rs → Edit s a e y
  unfolding editing
  is_edit rs q = from_tests _ _ _ refl refl refl _ rs q

-- ---- any sequence of calls

-- a table that recovering reading has left, with its n rows
pub rows_of : (z : List ℕ) (n : ℕ) (t v : List ℕ) (rs : List Row) → recovered z ≡ accepted rs → answer (accepted rs) (room t) ≡ Ok n
    → v ≡ left (accepted rs) t → RowsOf z n v
unfolding answer left
rows_of z n t v rs is e ev = go (leb (length rs) (room t)) e ev
  where
    go : (b : Bool) → cond b (Ok (length rs)) (Err (refused_with 9 0 (length rs))) ≡ Ok n
        → v ≡ cond b (rows_bytes rs ++ drop (length rs * width) t) t → RowsOf z n v
    go true e ev =
        let c : n ≡ length rs = cc in
        record {
          rows = rs;
          read = is;
          count = c;
          bytes = rw (ev, c) (take_at (rows_bytes rs) (drop (length rs * width) t) (length rs * width) (length_rows_bytes rs));
        }
    go false e ev = absurd (let w : ◌≡◌ {A = ℕ} 0 1 = cc in omega arith)

-- so the table that a call leaves has the new ledger's rows
rows_left : (s : List ℕ) (k : ℕ) (u : List ℕ) (a e : ℕ) (y t : List ℕ) (n : ℕ) → RowsOf s k u
    → answer (editing s u k a e y) (room t) ≡ Ok n → RowsOf (edited s a e y) n (left (editing s u k a e y) t)
rows_left s k u a e y t n R q =
    let some = some_rows (editing s u k a e y) (room t) n q in
    let g = is_edit s k u a e y some.0 some.1 in
    let is = recovered_is Plain (edited s a e y) g.new_size in
    rows_of (edited s a e y) n t (left (editing s u k a e y) t) (recover_from (length (edited s a e y)) 0 0 (edited s a e y)) is
    (sym (ap (λ (r : Reading). answer r (room t)) is) ∙ sym (same_answer s k u a e y R g (room t)) ∙ q)
    (same_left s k u a e y R g t ∙ ap (λ (r : Reading). left r t) is)

pub all_afresh : AllAfresh
all_afresh [] s k t z m v R (ez, em, ev) = rw (ez, em, ev) R
all_afresh (c ∷ cs) s k t z m v R (n, q, rest) =
    all_afresh cs (edited s c.start c.end c.new) n (left (editing s t k c.start c.end c.new) c.table) z m v
    (rows_left s k t c.start c.end c.new c.table n R q) rest
