-- The three parts of the answer, put one behind the other.
use Prim.Native.Nat.{ℕ, zero, suc, ◌+◌, ◌*◌, ◌-◌, ◌≤◌, ◌<◌, ◌^◌}
use native.Mathlib.Omega.{arith}
use mathlib.Core.Path.{◌≡◌, refl, sym, ◌∙◌, ap}
use mathlib.Core.Bool.{Bool, true, false, cond}
use mathlib.Core.List.{List, [], ◌∷◌, ◌++◌, append-nil}
use borrow.Rule.Slice.PartMut.{put_mid}
use lib.ListN.{length, take, drop, length-append, length-drop, drop_of_length-le}
use mir.Syntax.{w64}
use mir.Val.{Fits}
use Rattle.text.specs.Permitted.{size_limit}
use Rattle.row.specs.declared.table.Row.{Row}
use Rattle.row.specs.Row.{width, row_in}
use Rattle.row.specs.steps.Pouring.{pour, pour_at}
use Rattle.row.proofs.PourLaws.{length_pour, length_pour_at, pour_append, pour_at_at, pour_at_append}
use Rattle.text.proofs.Steps.{rest_of}
use Rattle.edit.specs.declared.pick.Pick.{Pick}
use Rattle.edit.specs.declared.reread.Plan.{Plan}
use Rattle.edit.specs.declared.reread.Counts.{Counts}
use Rattle.edit.specs.steps.Moving.{shift_by, picks, picked, picked_rows, before_rows, new_rows, behind_rows, plan_rows, Ready, Fresh, Counted}
use Rattle.edit.proofs.FreshLaws.{few, length_at}

few_picked : (p : Pick) (k : ℕ) (t : List ℕ) → length (picked_rows p k t) ≤ k
unfolding picked_rows picked
few_picked p zero t = omega arith
few_picked p (suc k) t = go (picks p (row_in t).start) (few_picked p k (drop width t))
  where
    go : (b : Bool) → length (picked_rows p k (drop width t)) ≤ k
        → length (cond b (cond p.behind (shift_by p.by (row_in t)) (row_in t) ∷ []) [] ++ picked_rows p k (drop width t)) ≤ suc k
    go true h = omega arith
    go false h = omega arith

-- rows put into the rest of a table from row n on
part_poured : (n i : ℕ) (rs : List Row) (z m : List ℕ) → i ≡ n * width → i ≤ length z → m ≡ pour rs (take (length z - i) (drop i z))
    → put_mid i (length z - i) z m ≡ pour_at n rs z
part_poured n i rs z m ei l em =
    let none : drop (length z - i) (drop i z) ≡ [] = drop_of_length-le (drop i z) {i = length z - i} (rw length-drop (omega arith)) in
    ap (λ (j : List ℕ). take i z ++ (m ++ j)) none
    ∙ ap (λ (j : List ℕ). take i z ++ j) (append-nil m ∙ em ∙ ap (pour rs) (rest_of z i))
    ∙ ap (λ (j : ℕ). take j z ++ pour rs (drop j z)) ei
    ∙ sym (pour_at_at n rs z (omega arith))

module _ (p : Plan) (t y : List ℕ) (R : Ready p t y) (c : Counts) (C : Counted p t y c) where
  pub plan_length : length (plan_rows p t y) ≡ c.before + c.new + c.behind
  unfolding plan_rows
  plan_length =
      omega (
        arith,
        length-append (before_rows p t) (new_rows p y ++ behind_rows p t),
        length-append (new_rows p y) (behind_rows p t),
        length_at y R.new p.start p.lines,
        C.before,
        C.new,
        C.behind,
      )

  low : (c.before ≤ p.given) × (c.new ≤ size_limit) × (c.behind ≤ p.rest)
  low = (
    omega (arith, C.before, few_picked p.before p.given t),
    omega (arith, C.new, few y R.new),
    omega (arith, C.behind, few_picked p.behind p.rest t),
  )

  -- their sum has room in 64 bits
  module _ (l : length t < 2 ^ 64) where
    pub sum_two : Fits w64 (c.before + c.new)
    sum_two = record { fits = omega (arith, low, R.before.there) }

    pub sum_three : (m : ℕ) → m ≡ c.before + c.new → Fits w64 (m + c.behind)
    sum_three m em = record { fits = omega (arith, low, R.before.there, R.behind.there) }

  module _ (z : List ℕ) (room : (c.before + c.new + c.behind) * width ≤ length z) where
    pub place_new : length z < 2 ^ 64 → Fits w64 (c.before * width)
    place_new l = record { fits = omega arith }

    pub size_new : length z < 2 ^ 64 → Fits w64 (c.new * width)
    size_new l = record { fits = omega arith }

    pub place_behind : length z < 2 ^ 64 → Fits w64 (c.before * width + c.new * width)
    place_behind l = record { fits = omega arith }

    module _ (z1 : List ℕ) (e1 : z1 ≡ pour (before_rows p t) z) where
      long : length z1 ≡ length z
      long = ap length e1 ∙ length_pour (before_rows p t) z

      pub new_inside : c.before * width ≤ length z1
      new_inside = omega (arith, long)

      pub new_fresh : Fresh y c.new p.start p.lines (take (length z1 - c.before * width) (drop (c.before * width) z1))
      new_fresh =
          record {
            size = R.new;
            count = C.new;
            room = rw (rest_of z1 (c.before * width), length-drop) (omega (arith, long));
            start = R.start;
            feeds = R.lines;
          }

      module _ (v : List ℕ) (ev : v ≡ pour (new_rows p y) (take (length z1 - c.before * width) (drop (c.before * width) z1))) where
        abbrev z2 : List ℕ
        z2 = put_mid (c.before * width) (length z1 - c.before * width) z1 v

        two : z2 ≡ pour_at c.before (new_rows p y) z1
        two = part_poured c.before (c.before * width) (new_rows p y) z1 v refl new_inside ev

        long_two : length z2 ≡ length z
        long_two = ap length two ∙ length_pour_at c.before (new_rows p y) z1 ∙ long

        pub behind_inside : c.before * width + c.new * width ≤ length z2
        behind_inside = omega (arith, long_two)

        pub all_put : (m : List ℕ) → m ≡ pour (behind_rows p t) (take (length z2 - (c.before * width + c.new * width)) (drop (c.before * width + c.new * width) z2))
            → put_mid (c.before * width + c.new * width) (length z2 - (c.before * width + c.new * width)) z2 m ≡ pour (plan_rows p t y) z
        unfolding plan_rows
        all_put m em =
            let A = before_rows p t in
            let B = new_rows p y in
            let D = behind_rows p t in
            let i = c.before * width + c.new * width in
            let three : put_mid i (length z2 - i) z2 m ≡ pour_at (c.before + c.new) D z2 = part_poured (c.before + c.new) i D z2 m (omega arith) behind_inside em in
            let new_count : c.new ≡ length B = C.new ∙ sym (length_at y R.new p.start p.lines) in
            three
            ∙ ap (pour_at (c.before + c.new) D) (two ∙ ap (pour_at c.before B) e1)
            ∙ ap (λ (j : ℕ). pour_at (j + c.new) D (pour_at j B (pour A z))) C.before
            ∙ ap (λ (j : ℕ). pour_at (length A + j) D (pour_at (length A) B (pour A z))) new_count
            ∙ sym (pour_append A (B ++ D) z ∙ pour_at_append B D (length A) (pour A z))

pub ruleset parts_laws = (place_new, size_new, place_behind, new_inside, new_fresh, behind_inside, all_put)
