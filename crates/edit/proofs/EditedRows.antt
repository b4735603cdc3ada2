-- The rows of an edit are those of recovering reading done afresh.
use Prim.Native.Nat.{ℕ, suc, ◌+◌, ◌-◌, ◌*◌, ◌%◌, ◌≤◌, ◌<◌}
use native.Mathlib.Nat.{add-zero, zero-add}
use native.Mathlib.Omega.{arith}
use mathlib.Core.Path.{◌≡◌, refl, sym, ◌∙◌, ap, subst}
use mathlib.Core.Bool.{Bool, true, false, cond, ◌||◌, ◌&&◌}
use mathlib.Core.Logic.{◌⊎◌, ⊎_elim}
use mathlib.Core.List.{List, [], ◌∷◌, ◌++◌, map, append-nil}
use borrow.Author.Tests.{eqb-true, eqb-false, lt-ltb, le-ltb, le-leb, lt-leb, ne_eqb}
use lib.Dec.{eqb, ltb, leb}
use lib.ListN.{length, get_or, take, drop, length-append, length-drop, take-append-drop, drop_of_length-le}
use lib.Seq.{length-take-le, drop-drop, get_or-take, take_at}
use Rattle.text.proofs.TestLaws.{and_left, and_right}
use Rattle.text.proofs.Steps.{head_drop}
use Rattle.text.specs.Permitted.{size_limit}
use Rattle.text.proofs.EveryLaws.{every_append, every_map}
use Rattle.text.specs.Every.{Every}
use Rattle.amount.proofs.RowCounts.{refusal_kind, mid_line}
use Rattle.row.specs.declared.table.Row.{Row}
use Rattle.row.specs.Row.{width, rows_bytes, feeds}
use Rattle.text.specs.Boundaries.{is_start, cuts}
use Rattle.row.proofs.PourLaws.{le_or_lt}
use Rattle.row.proofs.LineLaws.{feeds_le}
use Rattle.row.specs.Field.{field_limit}
use Rattle.entry.proofs.EntryLines.{OnLine}
use Rattle.entry.proofs.EntryCut.{Ends}
use Rattle.ledger.specs.Plain.{accepted}
use Rattle.ledger.specs.declared.scan.Profile.TheVariants.{Plain}
use Rattle.recovery.specs.Recovering.{block_length, recover_from, recovered}
use Rattle.recovery.specs.Demand3.{starts_tail, ends_line}
use Rattle.recovery.proofs.BlockLaws.{block_le, cut_is, block_boundary, Boundary, recover_nil}
use Rattle.recovery.proofs.BlocksLaws.{recover_kept}
use Rattle.row.proofs.PourLaws.{length_rows_bytes}
use Rattle.recovery.proofs.FrontLaws.{rows_append}
use Rattle.recovery.proofs.CallLaws.{starts_is, ends_is, recovered_is}
use Rattle.edit.specs.Edits.{is_new, edited, distance, shift, before, from, edit_rows}
use Rattle.edit.specs.Afresh.{Edit, edited_rows, Afresh, BeforeStay}
use Rattle.edit.proofs.BlockTests.{or_cases, block_starts, block_ends, block_bounds}
use Rattle.edit.proofs.MoveLaws.{move_all, recover_all, Joined, joined_rows}
use Rattle.row.proofs.ReadBack.{wrapped}
use Rattle.ledger.proofs.PlainLaws.{accepted_same}
use Rattle.edit.proofs.RowBytes.{rows_in_lem, all_wrapped, all_shifted}
use Rattle.edit.proofs.SuchLaws.{such_append, such_all, such_none, such_wrapped}

-- ---- a row of a text that ends in a line feed starts before its end

ends_mid : (p : List ℕ) → Ends p → mid_line p (length p) ≡ 0
unfolding mid_line
ends_mid [] g = refl
ends_mid (b ∷ p) g = rw (ne_eqb (length (b ∷ p)) 0 (λ z. omega arith), g (omega arith)) refl

before_end : (p : List ℕ) → Ends p → (i : ℕ) → i ≤ length p → i < length p + mid_line p i → i < length p
before_end p g i h e =
    ⊎_elim
    (λ (z : length p ≤ i). absurd (let q : i ≡ length p = omega arith in omega (arith, subst (λ (n : ℕ). n < length p + mid_line p n) q e, ends_mid p g)))
    (λ (z : i < length p). z)
    (le_or_lt (length p) i)

-- ---- three texts side by side

three : (p x t : List ℕ) → Joined p (x ++ t) → Joined x t
    → recover_from (length (p ++ (x ++ t))) 0 0 (p ++ (x ++ t))
    ≡ recover_from (length p) 0 0 p
    ++ (recover_from (length x) (length p) (feeds p) x ++ map (move_all (length p + length x) (feeds p + feeds x)) (recover_from (length t) 0 0 t))
three p x t j k =
    let P = recover_from (length p) 0 0 p in
    let n : length (p ++ (x ++ t)) ≡ length p + length (x ++ t) = length-append p (x ++ t) in
    let m : length (x ++ t) ≡ length x + length t = length-append x t in
    let first : recover_from (length (p ++ (x ++ t))) 0 0 (p ++ (x ++ t)) ≡ P ++ recover_from (length (x ++ t)) (length p) (feeds p) (x ++ t) =
    rw (zero-add (length p), zero-add (feeds p)) at (joined_rows (length (p ++ (x ++ t))) (length p) (length (x ++ t)) 0 0 p (x ++ t) j (omega arith) (omega arith) (omega arith)) in
    let second = joined_rows (length (x ++ t)) (length x) (length t) (length p) (feeds p) x t k (omega arith) (omega arith) (omega arith) in
    let third : recover_from (length t) (length p + length x) (feeds p + feeds x) t ≡ map (move_all (length p + length x) (feeds p + feeds x)) (recover_from (length t) 0 0 t) =
    rw (add-zero (length p + length x), add-zero (feeds p + feeds x)) at (recover_all (length t) (length p + length x) (feeds p + feeds x) 0 0 t) in
    first ∙ ap (λ (z : List Row). P ++ z) (second ∙ ap (λ (z : List Row). recover_from (length x) (length p) (feeds p) x ++ z) third)

-- ---- an edit

module _ (s : List ℕ) (a e : ℕ) (y : List ℕ) (g : Edit s a e y) where
  abbrev n : ℕ
  n = e - a

  abbrev p : List ℕ
  p = take a s

  abbrev x : List ℕ
  x = take n (drop a s)

  abbrev t : List ℕ
  t = drop e s

  starts : (a ≡ 0) ⊎ (cuts (get_or s (a - 1) 0) (get_or s a 0) ≡ true)
  starts = block_starts s a e g.block

  bounds : (n ≡ block_length (drop a s)) × ((a + n ≡ e) × (e ≤ length s))
  bounds = let b = block_bounds s a e g.block in (omega (arith, block_ends s a e g.block), (omega (arith, b.0), b.1))

  len_p : length p ≡ a
  len_p = length-take-le a s (omega (arith, bounds.1))

  len_x : length x ≡ n
  len_x = length-take-le n (drop a s) (omega (arith, block_le (drop a s), bounds.0))

  t_is : drop n (drop a s) ≡ t
  t_is = drop-drop n a s ∙ ap (λ (i : ℕ). drop i s) bounds.1.0

  x_t : x ++ t ≡ drop a s
  x_t = ap (λ (z : List ℕ). x ++ z) (sym t_is) ∙ take-append-drop n (drop a s)

  whole : p ++ (x ++ t) ≡ s
  whole = ap (λ (z : List ℕ). p ++ z) x_t ∙ take-append-drop a s

  p_ends : Ends p
  p_ends h =
      ⊎_elim (λ (z : a ≡ 0). absurd (omega (arith, len_p)))
      (λ (z : cuts (get_or s (a - 1) 0) (get_or s a 0) ≡ true).
      let q : a - 1 < a = omega (arith, len_p) in
      rw (len_p, get_or-take a s (a - 1) 0 q) (cut_is (get_or s (a - 1) 0) (get_or s a 0) z).0)
      starts

  -- where something stands behind the block, a boundary stands between
  boundary : 0 < length t → Boundary x t
  boundary h =
      let b = bounds.0 in
      let d : drop (block_length (drop a s)) (drop a s) ≡ t = ap (λ (i : ℕ). drop i (drop a s)) (sym b) ∙ t_is in
      let k = block_boundary (drop a s) (subst (λ (z : List ℕ). 0 < length z) (sym d) h) in
      (subst (λ (i : ℕ). Ends (take i (drop a s))) (sym b) k.0, subst (λ (z : List ℕ). is_start (get_or z 0 0) ≡ true) d k.1)

  first_old : Joined p (x ++ t)
  first_old h k =
      ⊎_elim (λ (z : a ≡ 0). absurd (omega (arith, len_p)))
      (λ (z : cuts (get_or s (a - 1) 0) (get_or s a 0) ≡ true).
      (p_ends, subst (λ (w : List ℕ). is_start (get_or w 0 0) ≡ true) (sym x_t) (rw (head_drop s a) (cut_is (get_or s (a - 1) 0) (get_or s a 0) z).1)))
      starts

  second_old : Joined x t
  second_old h k = boundary k

  new_is : 0 < length y → ((eqb a 0 || starts_tail y) ≡ true) × ((eqb e (length s) || ends_line y) ≡ true)
  unfolding is_new
  new_is h =
      ⊎_elim (λ (z : eqb (length y) 0 ≡ true). absurd (omega (arith, eqb-true (length y) 0 z)))
      (λ (z : ((eqb a 0 || starts_tail y) && (eqb e (length s) || ends_line y)) ≡ true). (and_left _ _ z, and_right (eqb a 0 || starts_tail y) _ z))
      (or_cases (eqb (length y) 0) _ g.bytes)

  first_new : Joined p (y ++ t)
  first_new = go y refl
    where
      go : (w : List ℕ) → w ≡ y → Joined p (w ++ t)
      go [] q h k = (p_ends, (boundary k).1)
      go (c ∷ w) q h k =
          let v : 0 < length y = subst (λ (z : List ℕ). 0 < length z) q (omega arith) in (
            p_ends,
            ⊎_elim (λ (z : eqb a 0 ≡ true). absurd (omega (arith, eqb-true a 0 z, len_p)))
                (λ (z : starts_tail y ≡ true). subst (λ (i : List ℕ). is_start (get_or i 0 0) ≡ true) (sym q) (starts_is y z))
                (or_cases (eqb a 0) (starts_tail y) (new_is v).0),
          )

  second_new : Joined y t
  second_new h k = (
    ⊎_elim (λ (z : eqb e (length s) ≡ true). absurd (omega (arith, eqb-true e (length s) z, length-drop e s)))
        (λ (z : ends_line y ≡ true). ends_is y z)
        (or_cases (eqb e (length s)) (ends_line y) (new_is h).1),
    (boundary k).1,
  )

  -- ---- the rows

  abbrev l : ℕ
  l = feeds p

  abbrev P : List Row
  P = recover_from (length p) 0 0 p

  abbrev X : List Row
  X = recover_from (length x) (length p) l x

  abbrev Y : List Row
  Y = recover_from (length y) (length p) l y

  abbrev T₀ : List Row
  T₀ = recover_from (length t) 0 0 t

  abbrev T : List Row
  T = map (move_all (length p + length x) (l + feeds x)) T₀

  abbrev T₁ : List Row
  T₁ = map (move_all (length p + length y) (l + feeds y)) T₀

  old_rows : recover_from (length s) 0 0 s ≡ P ++ (X ++ T)
  old_rows = ap (λ (z : List ℕ). recover_from (length z) 0 0 z) (sym whole) ∙ three p x t first_old second_old

  new_rows_lem : recover_from (length (edited s a e y)) 0 0 (edited s a e y) ≡ P ++ (Y ++ T₁)
  unfolding edited
  new_rows_lem = three p y t first_new second_new

  -- ---- where they start

  T-is : recover_from (length t) (length p + length x) (l + feeds x) t ≡ T
  T-is = rw (add-zero (length p + length x), add-zero (l + feeds x)) at (recover_all (length t) (length p + length x) (l + feeds x) 0 0 t)

  abbrev Lies : ℕ → ℕ → List ℕ → Row → Type 0
  Lies b k z r = OnLine (suc refusal_kind) b (k + 1) z r

  P-lies : Every (λ r. r.start < a) P
  P-lies =
      every_map (λ (r : Row) (h : Lies 0 0 p r). omega (arith, h.place, before_end p p_ends h.into h.inside h.early, len_p)) P
      (recover_kept Plain (length p) 0 0 p).lines

  X-lies : Every (Lies (length p) l x) X
  X-lies = (recover_kept Plain (length x) (length p) l x).lines

  T-lies : Every (λ r. e ≤ r.start) T
  T-lies =
      every_map (λ (r : Row) (h : Lies (length p + length x) (l + feeds x) t r). omega (arith, h.place, len_p, len_x, bounds.1.0)) T
      (subst (Every (Lies (length p + length x) (l + feeds x) t)) T-is (recover_kept Plain (length t) (length p + length x) (l + feeds x) t).lines)

  all_low : Every (λ r. r.start < field_limit) (P ++ (X ++ T))
  all_low =
      every_map (λ (r : Row) (h : Lies 0 0 s r). omega (arith, h.place, h.inside, g.size)) (P ++ (X ++ T))
      (subst (Every (Lies 0 0 s)) old_rows (recover_kept Plain (length s) 0 0 s).lines)

  before_is : before a (P ++ (X ++ T)) ≡ P
  before_is =
      such_append (λ r. ltb r.start a) P (X ++ T)
      ∙ ap (λ (z : List Row). before a P ++ z) (such_none (λ r. ltb r.start a) (X ++ T) none)
      ∙ append-nil (before a P)
      ∙ such_all (λ r. ltb r.start a) P (every_map (λ (r : Row) (h : r.start < a). lt-ltb r.start a h) P P-lies)
    where
      none : Every (λ r. ltb r.start a ≡ false) (X ++ T)
      none =
          every_append (λ r. ltb r.start a ≡ false) X T
          (every_map (λ (r : Row) (h : Lies (length p) l x r). le-ltb r.start a (omega (arith, h.place, len_p))) X X-lies)
          (every_map (λ (r : Row) (h : e ≤ r.start). le-ltb r.start a (omega (arith, bounds.1.0))) T T-lies)

  from_is : 0 < length t → from e (P ++ (X ++ T)) ≡ T
  from_is w =
      such_append (λ r. leb e r.start) P (X ++ T)
      ∙ ap (λ (z : List Row). z ++ from e (X ++ T))
      (such_none (λ r. leb e r.start) P (every_map (λ (r : Row) (h : r.start < a). lt-leb e r.start (omega (arith, bounds.1.0))) P P-lies))
      ∙ such_append (λ r. leb e r.start) X T
      ∙ ap (λ (z : List Row). z ++ from e T) (such_none (λ r. leb e r.start) X (every_map early X X-lies))
      ∙ such_all (λ r. leb e r.start) T (every_map (λ (r : Row) (h : e ≤ r.start). le-leb e r.start h) T T-lies)
    where
      early : (r : Row) → Lies (length p) l x r → leb e r.start ≡ false
      early r h =
          lt-leb e r.start (omega (arith, h.place, before_end x (boundary w).0 h.into h.inside h.early, len_p, len_x, bounds.1.0))

  -- ---- the bytes

  last_none : eqb e (length s) ≡ true → T₀ ≡ []
  last_none z =
      let w : t ≡ [] = drop_of_length-le s {i = e} (omega (arith, eqb-true e (length s) z)) in
      ap (λ (i : List ℕ). recover_from (length i) 0 0 i) w ∙ recover_nil Plain 0 0 0

  abbrev shifts : Row → Row
  shifts r = shift (distance n (length y)) (distance (feeds x) (feeds y)) r

  abbrev tail : Bool → List Row
  tail q = cond q [] (map shifts (from e (map wrapped (P ++ (X ++ T)))))

  tail_bytes : rows_bytes (tail (eqb e (length s))) ≡ rows_bytes T₁
  tail_bytes = go (eqb e (length s)) refl
    where
      go : (q : Bool) → eqb e (length s) ≡ q → rows_bytes (tail q) ≡ rows_bytes T₁
      go true q = rw (last_none q)
      go false q =
          let w : 0 < length t = rw length-drop (omega (arith, eqb-false e (length s) q, bounds.1.1)) in
          let hx : length x ≤ field_limit = omega (arith, len_x, bounds, g.size) in
          let hd : (length p + length x + distance n (length y)) % field_limit ≡ (length p + length y) % field_limit = omega (arith, len_x) in
          let hj : (l + feeds x + distance (feeds x) (feeds y)) % field_limit ≡ (l + feeds y) % field_limit = omega (arith, feeds_le x) in
          ap (λ (z : List Row). rows_bytes (map shifts z)) (such_wrapped (λ i. leb e i) (P ++ (X ++ T)) all_low ∙ ap (map wrapped) (from_is w))
          ∙ all_shifted (length p + length x) (length p + length y) (distance n (length y)) (l + feeds x) (l + feeds y) (distance (feeds x) (feeds y)) hd hj
          0 (0 + 1) t T₀ (recover_kept Plain (length t) 0 0 t).lines

  pub edit_bytes : rows_bytes (edit_rows s a e y (map wrapped (recover_from (length s) 0 0 s))) ≡ rows_bytes (recover_from (length (edited s a e y)) 0 0 (edited s a e y))
  unfolding edit_rows
  edit_bytes =
      let C = tail (eqb e (length s)) in
      let Z = recover_from (length y) a l y in
      let z : Z ≡ Y = ap (λ (i : ℕ). recover_from (length y) i l y) (sym len_p) in
      let kept : before a (map wrapped (P ++ (X ++ T))) ≡ map wrapped P = such_wrapped (λ i. ltb i a) (P ++ (X ++ T)) all_low ∙ ap (map wrapped) before_is in
      rw (old_rows, kept)
      (rows_append (map wrapped P) (Z ++ C)
      ∙ ap (λ (i : List ℕ). i ++ rows_bytes (Z ++ C)) (all_wrapped P)
      ∙ ap (λ (i : List ℕ). rows_bytes P ++ i) (rows_append Z C ∙ ap (λ (i : List Row). rows_bytes i ++ rows_bytes C) z ∙ ap (λ (i : List ℕ). rows_bytes Y ++ i) tail_bytes ∙ sym (rows_append Y T₁))
      ∙ sym (rows_append P (Y ++ T₁))
      ∙ ap rows_bytes (sym new_rows_lem))

  front_is : (rs : List Row) → take (length P * width) (rows_bytes (P ++ rs)) ≡ rows_bytes P
  front_is rs = ap (take (length P * width)) (rows_append P rs) ∙ take_at (rows_bytes P) (rows_bytes rs) (length P * width) (length_rows_bytes P)

  pub front_stays : take (length (before a (recover_from (length s) 0 0 s)) * width) (rows_bytes (recover_from (length (edited s a e y)) 0 0 (edited s a e y)))
      ≡ take (length (before a (recover_from (length s) 0 0 s)) * width) (rows_bytes (recover_from (length s) 0 0 s))
  front_stays = rw (old_rows, new_rows_lem, before_is) (front_is (Y ++ T₁) ∙ sym (front_is (X ++ T)))

-- ---- the claims on lists

-- the rows of recovering reading
pub rows_are : (s : List ℕ) (rs : List Row) → length s ≤ size_limit → recovered s ≡ accepted rs → recover_from (length s) 0 0 s ≡ rs
rows_are s rs h e = accepted_same (recover_from (length s) 0 0 s) rs (sym (recovered_is Plain s h) ∙ e)

pub afresh : Afresh
afresh s a e y rs g h =
    let was = recover_from (length s) 0 0 s in
    let q : was ≡ rs = rows_are s rs g.size h in (
      recover_from (length (edited s a e y)) 0 0 (edited s a e y),
      recovered_is Plain (edited s a e y) g.new_size,
      ap (λ (z : List Row). rows_bytes (edited_rows s a e y z)) (sym q) ∙ ap (λ (z : List Row). rows_bytes (edit_rows s a e y z)) (rows_in_lem was) ∙ edit_bytes s a e y g,
    )

pub before_stay : BeforeStay
before_stay s a e y rs ns g h k = rw (← rows_are s rs g.size h, ← rows_are (edited s a e y) ns g.new_size k) (front_stays s a e y g)
