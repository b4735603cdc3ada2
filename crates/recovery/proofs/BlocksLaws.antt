-- Recovering reading, block by block: its rows stand on their lines, and what the code has done when it has reached a
-- place.
use Prim.Native.Nat.{ℕ, zero, suc, ◌+◌, ◌-◌, ◌≤◌, ◌<◌}
use native.Mathlib.Omega.{arith}
use mathlib.Core.Path.{◌≡◌, refl, sym, ◌∙◌, ap, subst}
use mathlib.Core.List.{List, [], ◌∷◌, ◌++◌, map, map-append, append_assoc, append-nil}
use mir.Syntax.{w64}
use mir.Val.{Fits}
use borrow.Rule.Slice.PartMut.{put_mid}
use lib.ListN.{length, take, drop, length-append, length-map, length-take, length-drop, take-append-drop, drop_of_length-le}
use lib.Seq.{take_all, drop-drop, length-take-le}
use Rattle.text.specs.Permitted.{size_limit}
use Rattle.amount.proofs.RowCounts.{refusal_kind}
use Rattle.row.specs.declared.table.Row.{Row}
use Rattle.row.specs.Row.{feeds, bytes_of}
use Rattle.row.specs.steps.Pouring.{place_of}
use Rattle.ledger.specs.Strict.{part_by}
use Rattle.ledger.specs.declared.scan.Profile.{Profile}
use Rattle.ledger.specs.steps.Scan.{with_line}
use Rattle.ledger.proofs.PlainLaws.{Kept, kept_append}
use Rattle.recovery.specs.Recovering.{block_length, block_rows, recover_by}
use Rattle.recovery.specs.steps.Front.{unlined_block, unlined, Front}
use Rattle.recovery.proofs.BlockLaws.{block_le, block_some, recover_nil, recover_step as block_step}
use Rattle.recovery.proofs.BlockRows.{block_kept, block_unlined}
use Rattle.recovery.proofs.FrontLaws.{front_then}

-- ---- one block of a reading

-- the block at the front of a text, and what is left behind it
abbrev first_block : List ℕ → List ℕ
first_block s = take (block_length s) s

abbrev behind : List ℕ → List ℕ
behind s = drop (block_length s) s

length_block : (s : List ℕ) → length (first_block s) ≡ block_length s
length_block s = length-take-le (block_length s) s (block_le s)

module _ (K : Profile) where
  pub recover_step : (f a l : ℕ) (s : List ℕ) → 0 < length s
      → recover_by K (suc f) a l s ≡ block_rows a l (length (first_block s)) (part_by K (first_block s)) ++ recover_by K f (a + block_length s) (l + feeds (first_block s)) (behind s)
  recover_step f a l s h = rw (length_block s) (block_step K f a l s h)

  kept_step : (f a l : ℕ) (s : List ℕ) → 0 < length s → ((b m : ℕ) (z : List ℕ) → Kept (suc refusal_kind) b (m + 1) z (recover_by K f b m z))
      → Kept (suc refusal_kind) a (l + 1) s (recover_by K (suc f) a l s)
  kept_step f a l s h ih =
      let x = first_block s in
      let n : length x ≡ block_length s = length_block s in
      let m : l + 1 + feeds x ≡ l + feeds x + 1 = omega arith in
      let ys = recover_by K f (a + block_length s) (l + feeds x) (behind s) in
      rw (recover_step f a l s h)
      (subst (λ z. Kept (suc refusal_kind) a (l + 1) z (block_rows a l (length x) (part_by K x) ++ ys)) (take-append-drop (block_length s) s)
      (kept_append (suc refusal_kind) a (l + 1) x (behind s) (block_rows a l (length x) (part_by K x)) ys (block_kept K a l x (omega (arith, block_some s h)))
      (rw (n, m) (ih (a + block_length s) (l + feeds x) (behind s)))))

  pub recover_kept : (f a l : ℕ) (s : List ℕ) → Kept (suc refusal_kind) a (l + 1) s (recover_by K f a l s)
  unfolding recover_by
  recover_kept zero a l s = record { few = omega arith; order = omega arith; lines = tt }
  recover_kept (suc f) a l [] = record { few = omega arith; order = omega arith; lines = tt }
  recover_kept (suc f) a l (c ∷ s) = kept_step f a l (c ∷ s) (omega arith) (λ b m z. recover_kept f b m z)

  -- ---- a reading that has reached a place: n rows stand at the front of the table t, which was u

  pub record Cut (s u : List ℕ) (at n : ℕ) (t : List ℕ) : Type 0 where
    pub fuel : ℕ
    pub line : ℕ
    pub rows : List Row
    pub enough : length s ≤ at + fuel
    pub count : n ≡ length rows
    pub few : n ≤ at
    pub inside : at ≤ length s
    pub table : Front (map (with_line 0) rows) u t
    pub rest : recover_by K (length s) 0 0 s ≡ rows ++ recover_by K fuel at line (drop at s)

  pub cut_start : (s t : List ℕ) → Cut s t 0 0 t
  unfolding bytes_of
  cut_start s t =
      record {
        fuel = length s;
        line = 0;
        rows = [];
        enough = omega arith;
        count = refl;
        few = omega arith;
        inside = omega arith;
        table = λ h. refl;
        rest = refl;
      }

  -- the end is reached
  module _ (s u : List ℕ) (at n : ℕ) (t : List ℕ) (g : Cut s u at n t) (h : length s ≤ at) where
    all_rows : map (with_line 0) g.rows ≡ unlined K s
    unfolding unlined
    all_rows =
        ap (map (with_line 0))
        (sym (append-nil g.rows)
        ∙ ap (λ ys. g.rows ++ ys) (sym (ap (recover_by K g.fuel at g.line) (drop_of_length-le s {i = at} h) ∙ recover_nil K g.fuel at g.line))
        ∙ sym g.rest)

    pub cut_count : n ≡ length (unlined K s)
    cut_count = g.count ∙ sym (length-map g.rows (with_line 0)) ∙ ap length all_rows

    pub cut_table : Front (unlined K s) u t
    cut_table = subst (λ rs. Front rs u t) all_rows g.table

  -- a turn: j is the length of the block at the place, q the number of its rows, m the rest of the table from row n on
  module _ (s u : List ℕ) (at n : ℕ) (t : List ℕ) (g : Cut s u at n t) (h : at < length s) (j : ℕ)
      (ej : j ≡ block_length (take (length s - at) (drop at s))) where
    left_of : take (length s - at) (drop at s) ≡ drop at s
    left_of = take_all (length s - at) (drop at s) (rw length-drop (omega arith))

    block_length_lem : j ≡ block_length (drop at s)
    block_length_lem = ej ∙ ap block_length left_of

    block_bounds : (0 < j) × (at + j ≤ length s)
    block_bounds =
        let some : 0 < length (drop at s) = rw length-drop (omega arith) in
        omega (arith, block_length_lem, block_some (drop at s) some, block_le (drop at s), length-drop at s)

    -- what the code lends on is the block
    lent_block : take (at + j - at) (drop at s) ≡ first_block (drop at s)
    lent_block = let i : at + j - at ≡ block_length (drop at s) = omega (arith, block_length_lem) in ap (λ k. take k (drop at s)) i

    pub turn_falls : length s - (at + j) < length s - at
    turn_falls = omega (arith, block_bounds)

    pub turn_inside : at + j ≤ length s
    turn_inside = block_bounds.1

    pub turn_from : at ≤ at + j
    turn_from = omega arith

    pub turn_place : length s ≤ size_limit → Fits w64 (at + j)
    turn_place l = record { fits = omega (arith, block_bounds) }

    pub turn_small : length s ≤ size_limit → at + length (take (at + j - at) (drop at s)) ≤ size_limit
    turn_small l = rw (length-take, length-drop) (omega (arith, block_bounds))

    module _ (q : ℕ) (eq : q ≡ length (unlined_block K at (take (at + j - at) (drop at s)))) where
      abbrev new : List Row
      new = block_rows at g.line (length (first_block (drop at s))) (part_by K (first_block (drop at s)))

      new_unlined : map (with_line 0) new ≡ unlined_block K at (take (at + j - at) (drop at s))
      new_unlined = block_unlined K at g.line (first_block (drop at s)) ∙ ap (unlined_block K at) (sym lent_block)

      new_count : q ≡ length new
      new_count = eq ∙ ap length (sym new_unlined) ∙ length-map new (with_line 0)

      new_few : q ≤ j
      new_few =
          let l = length_block (drop at s) in
          omega (arith, new_count, block_length_lem, block_bounds, (block_kept K at g.line (first_block (drop at s)) (omega (arith, block_bounds, block_length_lem))).few)

      pub turn_count : length s ≤ size_limit → Fits w64 (n + q)
      turn_count l = record { fits = omega (arith, g.few, g.inside, new_few, block_bounds) }

      pub turn_cut : (k : ℕ) (m : List ℕ) → k ≡ place_of n (length t) → length t ≡ length u
          → Front (unlined_block K at (take (at + j - at) (drop at s))) (take (length t - k) (drop k t)) m
          → Cut s u (at + j) (n + q) (put_mid k (length t - k) t m)
      turn_cut k m ek lt w =
          let f = g.fuel - 1 in
          let b : g.fuel ≡ suc f = omega (arith, g.enough) in
          let some : 0 < length (drop at s) = rw length-drop (omega arith) in
          let y = subst (λ rs. Front rs (take (length t - k) (drop k t)) m) (sym new_unlined) w in
          let nx : n ≡ length (map (with_line 0) g.rows) = g.count ∙ sym (length-map g.rows (with_line 0)) in
          let x = block_length (drop at s) in
          let line = g.line + feeds (first_block (drop at s)) in
          record {
            fuel = f;
            line = line;
            rows = g.rows ++ new;
            enough = omega (arith, g.enough, block_bounds);
            count = rw length-append (omega (arith, g.count, new_count));
            few = omega (arith, g.few, new_few);
            inside = block_bounds.1;
            table =
                subst (λ rs. Front rs u (put_mid k (length t - k) t m)) (sym (map-append (with_line 0) g.rows new))
                (front_then (map (with_line 0) g.rows) (map (with_line 0) new) n u t m nx lt ek g.table y);
            rest =
                g.rest
                ∙ ap (λ z. g.rows ++ recover_by K z at g.line (drop at s)) b
                ∙ ap (λ z. g.rows ++ z) (recover_step f at g.line (drop at s) some)
                ∙ sym (append_assoc g.rows new (recover_by K f (at + x) line (drop x (drop at s))))
                ∙ ap (λ z. (g.rows ++ new) ++ recover_by K f (at + x) line z) (drop-drop x at s)
                ∙ ap (λ z. (g.rows ++ new) ++ recover_by K f (at + z) line (drop (at + z) s)) (sym block_length_lem);
          }

  pub ruleset blocks_laws = (cut_start, cut_count, cut_table, turn_falls, turn_inside, turn_from, turn_place, turn_small, turn_count, turn_cut)
