-- Rows and their bytes: what stands in a table is each field modulo its width, and has the same bytes; moved, it has
-- those of the row moved. A row that is read off its bytes has those bytes.
use Prim.Native.Nat.{ℕ, zero, suc, ◌+◌, ◌-◌, ◌/◌, ◌%◌, ◌≤◌, ◌<◌}
use native.Mathlib.Omega.{arith}
use mathlib.Core.Path.{◌≡◌, refl, sym, ◌∙◌, ap, subst}
use mathlib.Core.Bool.{Bool, true, false, cond, ◌||◌}
use mathlib.Core.List.{List, [], ◌∷◌, ◌++◌, map, append-nil}
use lib.Dec.{eqb}
use lib.ListN.{length, get_or, take, drop, length-take, length-drop}
use lib.Seq.{drop-drop, get_or-drop, take-add}
use Rattle.text.specs.Every.{Every}
use Rattle.amount.proofs.RowCounts.{refusal_kind}
use Rattle.row.specs.declared.table.Row.{Row}
use Rattle.row.specs.Field.{le, un, field_limit}
use Rattle.row.specs.Row.{at_kind, at_start, at_end, at_line, at_p, at_q, at_value, fields_width, field_bytes, fields_in, width, row_bytes, rows_bytes, row_in, rows_in, bytes_of}
use Rattle.row.specs.Details.{spanned}
use Rattle.row.proofs.FieldLaws.{length_le, un_le, le_un}
use Rattle.row.proofs.SameBytes.{mod_four, both, bytes_same}
use Rattle.row.proofs.ReadBack.{wrapped, rows_front, four_back}
use Rattle.entry.proofs.EntryLines.{OnLine}
use Rattle.edit.specs.Edits.{move_on, shift}
use Rattle.edit.specs.Afresh.{KeepsBytes}
use Rattle.edit.proofs.MoveLaws.{move_all}

-- ---- rows as their bytes say

pub rows_in_lem : (rs : List Row) → rows_in (length rs) (rows_bytes rs) ≡ map wrapped rs
rows_in_lem rs = ap (rows_in (length rs)) (sym (append-nil (rows_bytes rs))) ∙ rows_front rs []

byte_low : (k x i : ℕ) → get_or (le k x) i 0 < 256
byte_low zero x i = omega arith
byte_low (suc k) x zero = omega arith
byte_low (suc k) x (suc i) = byte_low k (x / 256) i

le_same : (k x : ℕ) → le k (un (le k x)) ≡ le k x
le_same k x = subst (λ (n : ℕ). le n (un (le k x)) ≡ le k x) (length_le k x) (le_un (le k x) (byte_low k x))

wrapped_bytes : (r : Row) → row_bytes (wrapped r) ≡ row_bytes r
unfolding wrapped
wrapped_bytes r =
    bytes_same (wrapped r) r (le_same 4 r.kind) (le_same 4 r.start) (le_same 4 r.end) (le_same 4 r.line) (le_same 4 r.p) (le_same 4 r.q) (le_same 8 r.bits)

pub all_wrapped : (rs : List Row) → rows_bytes (map wrapped rs) ≡ rows_bytes rs
unfolding bytes_of
all_wrapped [] = refl
all_wrapped (r ∷ rs) = rw (wrapped_bytes r, all_wrapped rs)

-- ---- moved: what was at a place from a on and at line l is b and m on now

mod_in : (x d : ℕ) → ((x % field_limit + d) % field_limit) % field_limit ≡ (x + d) % field_limit
mod_in x d = omega arith

mod_add : (x y z : ℕ) → x % field_limit ≡ y % field_limit → (x + z) % field_limit ≡ (y + z) % field_limit
mod_add x y z h = omega arith

shift_field : (a b d z : ℕ) → (a + d) % field_limit ≡ b % field_limit → le 4 (move_on d (un (le 4 (a + z)))) ≡ le 4 (b + z)
shift_field a b d z h =
    let e : a + z + d ≡ a + d + z = omega arith in
    rw (un_le 4 (a + z))
    (mod_four (((a + z) % field_limit + d) % field_limit) (b + z) (mod_in (a + z) d ∙ ap (λ (i : ℕ). i % field_limit) e ∙ mod_add (a + d) b z h))

module _ (a b d l m j : ℕ) (hd : (a + d) % field_limit ≡ b % field_limit) (hj : (l + j) % field_limit ≡ m % field_limit) where
  shift_bytes : (r : Row) → r.kind < suc refusal_kind → row_bytes (shift d j (wrapped (move_all a l r))) ≡ row_bytes (move_all b m r)
  unfolding shift wrapped move_all
  shift_bytes r h =
      bytes_same _ _ (le_same 4 r.kind) (shift_field a b d r.start hd) (shift_field a b d r.end hd) (shift_field l m j r.line hj)
      (rw (four_back r.kind (omega arith)) (some (spanned r.kind) r.p))
      (rw (four_back r.kind (omega arith)) (some (spanned r.kind || eqb r.kind refusal_kind) r.q))
      (le_same 8 r.bits)
    where
      some : (t : Bool) (z : ℕ) → le 4 (cond t (move_on d (un (le 4 (cond t (a + z) z)))) (un (le 4 (cond t (a + z) z)))) ≡ le 4 (cond t (b + z) z)
      some true z = shift_field a b d z hd
      some false z = le_same 4 z

  pub all_shifted : (c k : ℕ) (t : List ℕ) (rs : List Row) → Every (OnLine (suc refusal_kind) c k t) rs
      → rows_bytes (map (shift d j) (map wrapped (map (move_all a l) rs))) ≡ rows_bytes (map (move_all b m) rs)
  unfolding bytes_of
  all_shifted c k t [] e = refl
  all_shifted c k t (r ∷ rs) (e, es) = rw (shift_bytes r e.kind, all_shifted c k t rs es)

-- ---- a row that is kept has the bytes that stood there

bytes_low : (n i : ℕ) (b : List ℕ) → ((j : ℕ) → get_or b j 0 < 256) → (j : ℕ) → get_or (take n (drop i b)) j 0 < 256
bytes_low n i b h j = low n (drop i b) (λ (k : ℕ). rw get_or-drop (h (i + k))) j
  where
    low : (n : ℕ) (c : List ℕ) → ((k : ℕ) → get_or c k 0 < 256) → (j : ℕ) → get_or (take n c) j 0 < 256
    low zero c g j = omega arith
    low (suc n) [] g j = omega arith
    low (suc n) (x ∷ c) g zero = g 0
    low (suc n) (x ∷ c) g (suc j) = low n c (λ k. g (suc k)) j

module _ (b : List ℕ) (l : width ≤ length b) (h : (i : ℕ) → get_or b i 0 < 256) where
  field_kept : (n i : ℕ) → i + n ≤ width → le n (un (take n (drop i b))) ≡ take n (drop i b)
  field_kept n i g =
      let c = take n (drop i b) in
      let k : length c ≡ n = rw (length-take, length-drop) (omega arith) in
      subst (λ (m : ℕ). le m (un c) ≡ c) k (le_un c (bytes_low n i b h))

  -- the field at i, and what stands behind it
  then : (i m n : ℕ) (v : List ℕ) → i + m ≤ width → v ≡ take n (drop (i + m) b) → le m (un (take m (drop i b))) ++ v ≡ take (m + n) (drop i b)
  then i m n v g e =
      both (field_kept m i g) e ∙ ap (λ (z : List ℕ). take m (drop i b) ++ take n z) (sym (drop-drop m i b)) ∙ sym (take-add m n (drop i b))

  fields_kept : field_bytes (fields_in b) ≡ take fields_width b
  unfolding field_bytes fields_in
  fields_kept =
      then at_kind 4 (fields_width - at_start) _ (omega arith)
      (then at_start 4 (fields_width - at_end) _ (omega arith)
      (then at_end 4 (fields_width - at_line) _ (omega arith)
      (then at_line 4 (fields_width - at_p) _ (omega arith)
      (then at_p 4 (fields_width - at_q) _ (omega arith)
      (then at_q 4 (fields_width - at_value) _ (omega arith) (field_kept 8 at_value (omega arith)))))))

  row_kept : row_bytes (row_in b) ≡ take width b
  unfolding row_bytes row_in
  row_kept = fields_kept

pub keeps_bytes : KeepsBytes
keeps_bytes b l h = row_kept b l h
