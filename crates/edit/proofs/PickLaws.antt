-- Rows that are picked, from what the code knows.
use Prim.Native.Nat.{ℕ, zero, suc, ◌+◌, ◌*◌, ◌-◌, ◌≤◌, ◌<◌}
use native.Mathlib.Omega.{arith}
use native.Mathlib.Nat.{add-zero}
use mathlib.Core.Path.{◌≡◌, refl, sym, ◌∙◌, ap}
use mathlib.Core.Bool.{Bool, true, false, cond}
use mathlib.Core.List.{List, [], ◌∷◌, ◌++◌}
use lib.Dec.{ltb, leb}
use lib.ListN.{length, take, drop, length-append}
use lib.Seq.{drop-drop}
use Rattle.row.specs.declared.table.Row.{Row}
use Rattle.row.specs.Row.{width, row_in}
use Rattle.row.specs.steps.Pouring.{pour, pour_at}
use Rattle.row.proofs.PourLaws.{length_pour_at, pour_at_none, pour_at_zero, pour_at_append}
use Rattle.text.proofs.Steps.{rest_of}
use Rattle.edit.specs.declared.moves.By.{By}
use Rattle.edit.specs.declared.pick.Pick.{Pick}
use Rattle.edit.specs.steps.Moving.{shift_by, picks, picked, picked_rows, Given}

-- ---- one row

module _ (p : Pick) (s : ℕ) where
  pub pick_behind : p.behind ≡ true → leb p.bound s ≡ picks p s
  unfolding picks
  pick_behind e = rw e

  pub pick_before : p.behind ≡ false → ltb s p.bound ≡ picks p s
  unfolding picks
  pick_before e = rw e

  module _ (g : Bool) (eg : g ≡ picks p s) where
    pub one_yes : g ≡ true → ◌≡◌ {A = ℕ} 1 (cond (picks p s) 1 0)
    one_yes e = rw (← eg, e)

    pub one_no : g ≡ false → ◌≡◌ {A = ℕ} 0 (cond (picks p s) 1 0)
    one_no e = rw (← eg, e)

pub ruleset pick_laws = (pick_behind, pick_before, one_yes, one_no)

pub as_moved : (t : Bool) (b : By) (r x : Row) → t ≡ true → x ≡ shift_by b r → x ≡ cond t (shift_by b r) r
as_moved t b r x e q = q ∙ rw e

pub as_given : (t : Bool) (b : By) (r : Row) → t ≡ false → r ≡ cond t (shift_by b r) r
as_given t b r e = rw e

pub ruleset as_laws = (as_moved, as_given)

-- row n of a table is written, if it is picked
module _ (t : List ℕ) (p : Pick) (g : Bool) (s : ℕ) (es : s ≡ (row_in t).start) (eg : g ≡ picks p s) (n : ℕ) (z : List ℕ) where
  is_one : picked p (row_in t) ≡ cond g (cond p.behind (shift_by p.by (row_in t)) (row_in t) ∷ []) []
  unfolding picked
  is_one = rw (← es, ← eg)

  pub put_no_count : g ≡ false → n ≡ n + length (picked p (row_in t))
  put_no_count e = rw (is_one, e) (sym (add-zero n))

  pub put_no_table : g ≡ false → z ≡ pour_at n (picked p (row_in t)) z
  put_no_table e = rw (is_one, e) (sym (pour_at_none n z))

  module _ (e : g ≡ true) (r x : Row) (er : r ≡ row_in t) (ex : x ≡ cond p.behind (shift_by p.by r) r) where
    pub put_yes_count : n + 1 ≡ n + length (picked p (row_in t))
    put_yes_count = rw (is_one, e)

    pub put_yes_table : (v : List ℕ) → v ≡ pour_at n (x ∷ []) z → v ≡ pour_at n (picked p (row_in t)) z
    put_yes_table v ev = ev ∙ rw (is_one, e, ex, er)

pub given_row : (p : Pick) (t : List ℕ) → Given p 1 t → width ≤ length t
given_row p t G = omega (arith, G.there)

pub ruleset put_laws = (given_row, put_no_count, put_no_table, put_yes_count, put_yes_table)

-- ---- row by row: `left` rows from place i on are left

module _ (p : Pick) (t : List ℕ) (left i : ℕ) (h : 0 < left) where
  one_left : picked_rows p left (drop i t) ≡ picked p (row_in (take (length t - i) (drop i t))) ++ picked_rows p (left - 1) (drop (i + width) t)
  unfolding picked_rows
  one_left =
      let c : left ≡ suc (left - 1) = omega arith in
      ap (λ (j : ℕ). picked_rows p j (drop i t)) c
      ∙ ap (λ (z : List ℕ). picked p (row_in (drop i t)) ++ picked_rows p (left - 1) z) (drop-drop width i t)
      ∙ ap (λ (z : List ℕ). picked p (row_in z) ++ picked_rows p (left - 1) (drop (i + width) t)) (sym (rest_of t i))

none_left : (p : Pick) (left : ℕ) (t : List ℕ) → left ≤ 0 → picked_rows p left t ≡ []
unfolding picked_rows
none_left p zero t h = refl
none_left p (suc left) t h = absurd (omega arith)

-- ---- rows that are counted

pub record Counting (p : Pick) (k : ℕ) (t : List ℕ) (left i n : ℕ) : Type 0 where
  pub count : length (picked_rows p k t) ≡ n + length (picked_rows p left (drop i t))
  pub inside : i + left * width ≤ length t
  pub few : n * width + left * width ≤ length t

pub counting_start : (p : Pick) (k : ℕ) (t : List ℕ) → Given p k t → Counting p k t k 0 0
counting_start p k t G = record { count = omega arith; inside = omega (arith, G.there); few = omega (arith, G.there) }

one_counts : (p : Pick) (r : Row) → length (picked p r) ≡ cond (picks p r.start) 1 0
unfolding picked
one_counts p r = go (picks p r.start)
  where
    go : (b : Bool) → length (cond b (cond p.behind (shift_by p.by r) r ∷ []) []) ≡ cond b 1 0
    go true = refl
    go false = refl

module _ (p : Pick) (k : ℕ) (t : List ℕ) (left i n : ℕ) (C : Counting p k t left i n) where
  pub counted_all : left ≤ 0 → n ≡ length (picked_rows p k t)
  counted_all h = omega (arith, C.count, ap length (none_left p left (drop i t) h))

  module _ (h : 0 < left) where
    module _ (s m : ℕ) (es : s ≡ (row_in (take (length t - i) (drop i t))).start) (em : m ≡ cond (picks p s) 1 0) where
      pub counting_on : Counting p k t (left - 1) (i + width) (n + m)
      counting_on =
          let R = row_in (take (length t - i) (drop i t)) in
          let c : length (picked p R) ≡ m = one_counts p R ∙ ap (λ (j : ℕ). cond (picks p j) 1 0) (sym es) ∙ sym em in
          record {
            count = omega (arith, C.count, ap length (one_left p t left i h), length-append (picked p R) (picked_rows p (left - 1) (drop (i + width) t)));
            inside = omega (arith, C.inside);
            few = omega (arith, C.few, one (picks p s) em);
          }
        where
          one : (b : Bool) → m ≡ cond b 1 0 → m ≤ 1
          one true e = omega arith
          one false e = omega arith

-- the same row by row: so many rows were counted
pub counting_past : (p : Pick) (k : ℕ) (t : List ℕ) (row n : ℕ) → Counting p k t (k - row) (row * width) n → row < k → (s m : ℕ)
    → s ≡ (row_in (take (length t - row * width) (drop (row * width) t))).start → m ≡ cond (picks p s) 1 0
    → Counting p k t (k - (row + 1)) ((row + 1) * width) (n + m)
counting_past p k t row n C h s m es em =
    let a : k - row - 1 ≡ k - (row + 1) = omega arith in
    let b : row * width + width ≡ (row + 1) * width = omega arith in
    rw (a, b) at (counting_on p k t (k - row) (row * width) n C (omega arith) s m es em)

pub ruleset counting_laws = (counting_start, counted_all, counting_past)

-- ---- rows that are put to the front of a table, which was u

pub record Putting (p : Pick) (k : ℕ) (t u : List ℕ) (left i n : ℕ) (z : List ℕ) : Type 0 where
  pub rows : pour (picked_rows p k t) u ≡ pour_at n (picked_rows p left (drop i t)) z
  pub inside : i + left * width ≤ length t
  pub few : n * width + left * width ≤ length t
  pub same : length z ≡ length u

pub putting_start : (p : Pick) (k : ℕ) (t u : List ℕ) → Given p k t → Putting p k t u k 0 0 u
putting_start p k t u G =
    record { rows = sym (pour_at_zero (picked_rows p k t) u); inside = omega (arith, G.there); few = omega (arith, G.there); same = refl }

module _ (p : Pick) (k : ℕ) (t u : List ℕ) (left i n : ℕ) (z : List ℕ) (C : Putting p k t u left i n z) where
  pub putting_end : left ≤ 0 → z ≡ pour (picked_rows p k t) u
  putting_end h = sym (C.rows ∙ ap (λ (rs : List Row). pour_at n rs z) (none_left p left (drop i t) h) ∙ pour_at_none n z)

  module _ (h : 0 < left) where
    pub putting_on : (m : ℕ) (v : List ℕ) → m ≡ n + length (picked p (row_in (take (length t - i) (drop i t))))
        → v ≡ pour_at n (picked p (row_in (take (length t - i) (drop i t)))) z → Putting p k t u (left - 1) (i + width) m v
    putting_on m v em ev =
        let one = picked p (row_in (take (length t - i) (drop i t))) in
        let rest = picked_rows p (left - 1) (drop (i + width) t) in
        record {
          rows =
              C.rows
              ∙ ap (λ (j : List Row). pour_at n j z) (one_left p t left i h)
              ∙ pour_at_append one rest n z
              ∙ ap (λ (j : ℕ). pour_at j rest (pour_at n one z)) (sym em)
              ∙ ap (pour_at m rest) (sym ev);
          inside = omega (arith, C.inside);
          few = omega (arith, C.few, one_counts p (row_in (take (length t - i) (drop i t))), low (picks p (row_in (take (length t - i) (drop i t))).start));
          same = ap length ev ∙ length_pour_at n one z ∙ C.same;
        }
      where
        low : (b : Bool) → cond b 1 0 ≤ 1
        low true = omega arith
        low false = omega arith

-- the same row by row: so many rows were looked at
pub putting_past : (p : Pick) (k : ℕ) (t u : List ℕ) (row n : ℕ) (z : List ℕ) → Putting p k t u (k - row) (row * width) n z → row < k → (m : ℕ) (v : List ℕ)
    → m ≡ n + length (picked p (row_in (take (length t - row * width) (drop (row * width) t))))
    → v ≡ pour_at n (picked p (row_in (take (length t - row * width) (drop (row * width) t)))) z
    → Putting p k t u (k - (row + 1)) ((row + 1) * width) m v
putting_past p k t u row n z C h m v em ev =
    let a : k - row - 1 ≡ k - (row + 1) = omega arith in
    let b : row * width + width ≡ (row + 1) * width = omega arith in
    rw (a, b) at (putting_on p k t u (k - row) (row * width) n z C (omega arith) m v em ev)

pub ruleset putting_laws = (putting_start, putting_end, putting_past)
