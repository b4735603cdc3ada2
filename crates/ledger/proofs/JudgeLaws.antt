-- Strict reading's judgement: over lists of rows, of rows further on, and of the rows of an entry.
use Rattle.std.specs.Prelude.{None, Option, Some}
use Prim.Native.Nat.{ℕ, ◌+◌, ◌-◌, ◌≤◌}
use native.Mathlib.Omega.{arith}
use mathlib.Core.Path.{◌≡◌, refl, ap}
use mathlib.Core.Bool.{Bool, true, false, cond, not, ◌||◌}
use mathlib.Core.List.{List, [], ◌∷◌, ◌++◌, map}
use borrow.Author.Tests.{ne_eqb}
use lib.Dec.{eqb}
use lib.ListN.{get_or, take, drop}
use lib.Seq.{drop-drop, get_or-drop, get_or-take}
use Rattle.text.specs.Bytes.{is_small, between}
use Rattle.text.specs.Run.{blanks}
use Rattle.amount.specs.declared.detail.Detail.{Detail}
use Rattle.amount.specs.Details.{span}
use Rattle.amount.proofs.RowCounts.{flag_kind, unflagged, Rising}
use Rattle.row.specs.declared.table.Row.{Row}
use Rattle.row.specs.Row.{row_of}
use Rattle.posting.specs.Postings.{is_flag}
use Rattle.transaction.proofs.Openings.{flag_rows, Opened}
use Rattle.entry.specs.Forms.{Form}
use Rattle.entry.specs.Entry.{detail_row, rows_of, got, entry_of}
use Rattle.ledger.specs.Strict.{lost_line, other_flag, objection}
use Rattle.entry.specs.steps.Settled.{kind_of}
use Rattle.ledger.specs.steps.Objections.{objection_of, flag_passes, lost_of, flag_of, entry_objection}
use Rattle.ledger.specs.declared.strict.Objection.{Objection}
use Rattle.entry.proofs.EntryForms.{entry_form}
use Rattle.entry.proofs.EntryTold.{Told, line, txn, keyworded, worded, form_told}
use Rattle.posting.proofs.FlagLaws.{flag_not_small}
use Rattle.ledger.specs.Plain.{move, moved, Reading, denied}
use Rattle.ledger.specs.Strict.{first_refused}

pub bad_append : (s : List ℕ) (xs ys : List Row) (w : Reading) → first_refused s (xs ++ ys) w ≡ first_refused s xs (first_refused s ys w)
unfolding first_refused
bad_append s [] ys w = refl
bad_append s (r ∷ xs) ys w = ap (λ z. cond (eqb (objection s r) 0) z (denied (objection s r) r.start)) (bad_append s xs ys w)

-- a row further on is judged as in what is left of the text
pub move_objection : (t : List ℕ) (a l : ℕ) (r : Row) → objection t (move a l r) ≡ objection (drop a t) r
unfolding objection move
move_objection t a l r =
    let e : a + r.end - (a + r.start) ≡ r.end - r.start = omega arith in
    rw (e, drop-drop r.start a t)

-- the same judgement, with places a further on
unfoldable pub bad_from : ℕ → List ℕ → List Row → Reading → Reading
bad_from a s [] w = w
bad_from a s (r ∷ rs) w = cond (eqb (objection s r) 0) (bad_from a s rs w) (denied (objection s r) (a + r.start))

move_start : (a l : ℕ) (r : Row) → (move a l r).start ≡ a + r.start
unfolding move
move_start a l r = refl

pub bad_moved : (t : List ℕ) (a l : ℕ) (rs : List Row) (w : Reading) → first_refused t (moved a l rs) w ≡ bad_from a (drop a t) rs w
unfolding first_refused bad_from
bad_moved t a l [] w = refl
bad_moved t a l (r ∷ rs) w = rw (move_objection t a l r, move_start a l r, bad_moved t a l rs w)

-- ---- the rows of an entry

pub quiet_row : (s : List ℕ) (r : Row) → (r.kind ≡ 1 → ⊥) → (r.kind ≡ flag_kind → ⊥) → objection s r ≡ 0
unfolding objection
quiet_row s r h g = rw (ne_eqb r.kind 1 h, ne_eqb r.kind flag_kind g)

-- details of which none is a flag's
quiet_rows : (a : ℕ) (s u : List ℕ) (k j : ℕ) (ds : List Detail) (w : Reading) → Rising unflagged s k j ds → bad_from a s (map (detail_row u) ds) w ≡ w
unfolding bad_from detail_row row_of
quiet_rows a s u k j [] w h = refl
quiet_rows a s u k j (d ∷ ds) w h =
    rw (quiet_row s (detail_row u d) (λ e. omega (arith, h.0)) (λ e. omega (arith, h.0))) (quiet_rows a s u d.start j ds w h.2)

-- an objection of an entry at place a, or w
abbrev pub held_by : ℕ → Option Objection → Reading → Reading
held_by a None w = w
held_by a (Some o) w = denied o.number (a + o.place)

module _ (a : ℕ) (s : List ℕ) (n : ℕ) (f : Form) (w : Reading) where
  line_bad : f.kind ≡ 1 → f.details ≡ [] → bad_from a s (rows_of s n f) w ≡ held_by a (entry_objection f.kind n s) w
  unfolding bad_from rows_of row_of objection entry_objection lost_of
  line_bad k d = rw (k, d) (go (lost_line (between s 0 n)))
    where
      go : (t : Bool) → cond (eqb (cond t 16 0) 0) w (denied (cond t 16 0) (a + 0)) ≡ held_by a (cond t (Some (objection_of 16 0)) None) w
      go true = refl
      go false = refl

  other_bad : (f.kind ≡ 1 → ⊥) → (f.kind ≡ 6 → ⊥) → f.kind ≤ 13 → Rising unflagged s 1 n f.details
      → bad_from a s (rows_of s n f) w ≡ held_by a (entry_objection f.kind n s) w
  unfolding bad_from rows_of row_of objection entry_objection
  other_bad h k l q =
      rw (ne_eqb f.kind 1 h, ne_eqb f.kind flag_kind (λ z. omega arith), ne_eqb f.kind 6 k) (quiet_rows a s (take n s) 1 n f.details w q)

flag_text_lem : (s : List ℕ) (g : ℕ) → other_flag (between s g (g + 1)) ≡ not (eqb (get_or s g 0) 42 || eqb (get_or s g 0) 33)
unfolding other_flag
flag_text_lem s g =
    let e : g + 1 - g ≡ 1 = omega arith in
    let i : g + 0 ≡ g = omega arith in
    rw (e, get_or-take 1 (drop g s) 0 0 (omega arith), get_or-drop g s 0 0, i)

small_passes : (b : ℕ) → is_small b ≡ true → flag_passes b ≡ true
unfolding flag_passes
small_passes b e = rw e (go (eqb b 42 || eqb b 33))
  where
    go : (x : Bool) → (x || true) ≡ true
    go true = refl
    go false = refl

module _ (a : ℕ) (s u : List ℕ) (k j : ℕ) (others : List Detail) (w : Reading) (q : Rising unflagged s k j others) where
  abbrev G : ℕ
  G = blanks s 10

  abbrev B : ℕ
  B = get_or s G 0

  flag_bad : is_flag B ≡ true → bad_from a s (map (detail_row u) (span flag_kind G (G + 1) ∷ others)) w ≡ held_by a (cond (flag_passes B) None (Some (objection_of 17 G))) w
  unfolding bad_from detail_row row_of objection flag_passes
  flag_bad p = rw (flag_text_lem s G, flag_not_small B p, quiet_rows a s u k j others w q) (go (eqb B 42 || eqb B 33))
    where
      go : (x : Bool) → cond (eqb (cond (not x) 17 0) 0) w (denied (cond (not x) 17 0) (a + blanks s 10)) ≡ held_by a (cond (x || false) None (Some (objection_of 17 (blanks s 10)))) w
      go true = refl
      go false = refl

  opened_bad : (is_flag B ≡ false → is_small B ≡ true) → bad_from a s (map (detail_row u) (flag_rows s G ++ others)) w ≡ held_by a (flag_of s) w
  unfolding flag_of
  opened_bad sm = go (is_flag B) refl
    where
      go : (t : Bool) → is_flag (get_or s (blanks s 10) 0) ≡ t
          → bad_from a s (map (detail_row u) (cond t (span flag_kind (blanks s 10) (blanks s 10 + 1) ∷ []) [] ++ others)) w
          ≡ held_by a (cond (flag_passes (get_or s (blanks s 10) 0)) None (Some (objection_of 17 (blanks s 10)))) w
      go true p = flag_bad p
      go false p = rw (small_passes (get_or s (blanks s 10) 0) (sm p)) (quiet_rows a s u k j others w q)

module _ (a : ℕ) (s : List ℕ) (n : ℕ) (w : Reading) where
  txn_bad : (f : Form) → f.kind ≡ 6 → Opened s (blanks s 10) n f.details → bad_from a s (rows_of s n f) w ≡ held_by a (entry_objection f.kind n s) w
  unfolding bad_from rows_of row_of objection entry_objection
  txn_bad f k o = rw (k, o.rows) (opened_bad a s (take n s) (blanks s 10 + 1) n o.others w o.placed.0 o.small)

  told_bad : {f : Form} → Told s n f → bad_from a s (rows_of s n f) w ≡ held_by a (entry_objection f.kind n s) w
  told_bad (line f k d h) = line_bad a s n f w k d
  told_bad (txn f k h t) = txn_bad f k t.opened
  told_bad (keyworded f k l p) = other_bad a s n f w (λ z. omega arith) (λ z. omega arith) l p.0
  told_bad (worded f k l m p) = other_bad a s n f w (λ z. omega arith) (λ z. omega arith) (omega arith) p.0

  -- what the code works out of an entry is what strict reading has against its rows
  pub entry_bad : (rs : List Row) → entry_of s ≡ got n rs → bad_from a s rs w ≡ held_by a (entry_objection (kind_of rs) n s) w
  unfolding kind_of rows_of row_of
  entry_bad rs e =
      let z = entry_form s n rs e in
      rw z.2 (told_bad (form_told s n z.0 z.1))
