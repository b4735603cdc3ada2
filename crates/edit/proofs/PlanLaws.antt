-- What the answer is made of, and that it is what the call is to answer.
use Rattle.text.specs.declared.stop.Refused.{Refused}
use Rattle.ledger.proofs.ReadLaws.{too_short_by}
use Rattle.text.specs.Refusals.{refused_with}
use Rattle.std.specs.Prelude.{Err, Ok, Result}
use Prim.Native.Nat.{ℕ, zero, suc, ◌+◌, ◌*◌, ◌-◌, ◌≤◌, ◌<◌}
use native.Mathlib.Omega.{arith}
use mathlib.Core.Path.{◌≡◌, refl, sym, ◌∙◌, ap}
use mathlib.Core.Bool.{Bool, true, false, cond}
use mathlib.Core.List.{List, [], ◌∷◌, ◌++◌, map}
use borrow.Author.Tests.{le-leb, lt-leb}
use lib.Dec.{eqb, ltb, leb}
use lib.ListN.{length, take, drop, length-take}
use Rattle.row.specs.declared.table.Row.{Row}
use Rattle.row.specs.Row.{width, row_in, rows_in, feeds, room}
use Rattle.row.specs.steps.Pouring.{pour}
use Rattle.row.proofs.PourLaws.{pour_all}
use Rattle.row.proofs.LineLaws.{feeds_le}
use Rattle.row.specs.Field.{field_limit}
use Rattle.ledger.specs.Plain.{accepted}
use Rattle.ledger.specs.Answers.{answer, left}
use Rattle.edit.specs.Edits.{such, before, from, edit_rows, editing}
use Rattle.edit.specs.declared.moves.By.{By}
use Rattle.edit.specs.declared.pick.Pick.{Pick}
use Rattle.edit.specs.declared.reread.Plan.{Plan}
use Rattle.edit.specs.declared.reread.Counts.{Counts}
use Rattle.edit.specs.steps.Moving.{shift_by, picks, picked, picked_rows, Within, by, by_of, plan_of, plan_rows, Ready, Counted, allowed}
use Rattle.edit.proofs.JudgeLaws.{good_from, bad_answer, bad_left}
use Rattle.edit.proofs.PartsLaws.{plan_length, sum_two, sum_three}

-- ---- what the answer is made of

module _ (s y : List ℕ) (a e : ℕ) (w : Within s a e y) where
  pub block_feeds : (m : ℕ) → (m ≡ feeds (take (e - a) (drop a s))) × (m ≤ length (take (e - a) (drop a s))) → m ≤ field_limit
  block_feeds m em = omega (arith, em.1, length-take (e - a) (drop a s), w.inside, w.size)

  pub block_size : e - a ≤ field_limit
  block_size = omega (arith, w.inside, w.size)

  pub by_all : (m j : ℕ) → m ≡ feeds (take (e - a) (drop a s)) → j ≡ feeds y
      → record { places = length y + (field_limit - (e - a)); lines = j + (field_limit - m) } ≡ by_of s a e y
  by_all m j em ej = rw (em, ej)

  pub plan_all : (k r l : ℕ) (b : By) → b ≡ by_of s a e y → l ≡ feeds (take (a - 0) (drop 0 s)) → r ≡ cond (eqb e (length s)) 0 k
      → record {
        before = record { behind = false; bound = a; by = record { places = 0; lines = 0 } };
        given = k;
        start = a;
        lines = l;
        behind = record { behind = true; bound = e; by = b };
        rest = r;
      }
      ≡ plan_of s k a e y
  unfolding plan_of
  plan_all k r l b eb el er = let z : a - 0 ≡ a = omega arith in rw (eb, el, er, z)

pub ruleset by_laws = (block_feeds, block_size, by_all)

-- ---- they are the rows of the answer

before_rows_lem : (a k : ℕ) (b : By) (t : List ℕ) → picked_rows (record { behind = false; bound = a; by = b }) k t ≡ before a (rows_in k t)
unfolding picked_rows picked picks such rows_in
before_rows_lem a zero b t = refl
before_rows_lem a (suc k) b t = go (ltb (row_in t).start a) (before_rows_lem a k b (drop width t))
  where
    go : (q : Bool) → picked_rows (record { behind = false; bound = a; by = b }) k (drop width t) ≡ before a (rows_in k (drop width t))
        → cond q (row_in t ∷ []) [] ++ picked_rows (record { behind = false; bound = a; by = b }) k (drop width t)
        ≡ cond q (row_in t ∷ before a (rows_in k (drop width t))) (before a (rows_in k (drop width t)))
    go true h = ap (λ (z : List Row). row_in t ∷ z) h
    go false h = h

behind_rows_lem : (e k : ℕ) (b : By) (t : List ℕ) → picked_rows (record { behind = true; bound = e; by = b }) k t ≡ map (shift_by b) (from e (rows_in k t))
unfolding picked_rows picked picks such rows_in
behind_rows_lem e zero b t = refl
behind_rows_lem e (suc k) b t = go (leb e (row_in t).start) (behind_rows_lem e k b (drop width t))
  where
    go : (q : Bool) → picked_rows (record { behind = true; bound = e; by = b }) k (drop width t) ≡ map (shift_by b) (from e (rows_in k (drop width t)))
        → cond q (shift_by b (row_in t) ∷ []) [] ++ picked_rows (record { behind = true; bound = e; by = b }) k (drop width t)
        ≡ map (shift_by b) (cond q (row_in t ∷ from e (rows_in k (drop width t))) (from e (rows_in k (drop width t))))
    go true h = ap (λ (z : List Row). shift_by b (row_in t) ∷ z) h
    go false h = h

none_given : (p : Pick) (q : Bool) (k : ℕ) (t : List ℕ) → picked_rows p (cond q 0 k) t ≡ cond q [] (picked_rows p k t)
unfolding picked_rows
none_given p true k t = refl
none_given p false k t = refl

module _ (s t : List ℕ) (k a e : ℕ) (y : List ℕ) where
  plan_rows_lem : plan_rows (plan_of s k a e y) t y ≡ edit_rows s a e y (rows_in k t)
  unfolding plan_rows plan_of edit_rows
  plan_rows_lem =
      rw (
        before_rows_lem a k (by 0 0) t,
        none_given (record { behind = true; bound = e; by = by_of s a e y }) (eqb e (length s)) k t,
        behind_rows_lem e k (by_of s a e y) t,
      )

  module _ (f : Result Unit Refused) (ef : f ≡ allowed s t k a e y) (z : f ≡ Ok tt) where
    pub good_within : Within s a e y
    good_within = (good_from s t k a e y f ef z).within

    module _ (p : Plan) (ep : p ≡ plan_of s k a e y) where
      pub good_ready : Ready p t y
      unfolding plan_of
      good_ready =
          let g = good_from s t k a e y f ef z in
          let w = g.within in
          rw ep
          (record {
            before = record { there = g.count; small = record { places = omega arith; lines = omega arith } };
            behind = record {
              there = rest_there (eqb e (length s)) g.count;
              small = record {
                places = omega (arith, w.new);
                lines = omega (arith, feeds_le y, w.new);
              };
            };
            new = w.new;
            start = omega (arith, w.first, w.inside, w.size);
            lines = omega (arith, feeds_le (take a s), length-take a s, w.size);
          })
        where
          rest_there : (q : Bool) → k * width ≤ length t → cond q 0 k * width ≤ length t
          rest_there true h = omega arith
          rest_there false h = h

      module _ (c : Counts) (C : Counted p t y c) (u : List ℕ) where
        abbrev E : List Row
        E = edit_rows s a e y (rows_in k t)

        count_is : c.before + c.new + c.behind ≡ length E
        count_is = sym (plan_length p t y good_ready c C) ∙ ap length (ap (λ (q : Plan). plan_rows q t y) ep ∙ plan_rows_lem)

        rows_are : editing s t k a e y ≡ accepted E
        rows_are = (good_from s t k a e y f ef z).rows

        module _ (h : room u < c.before + c.new + c.behind) where
          short : leb (length E) (room u) ≡ false
          short = lt-leb (length E) (room u) (omega (arith, count_is))

          pub short_answer : Err (refused_with 9 0 (c.before + c.new + c.behind)) ≡ answer (editing s t k a e y) (room u)
          unfolding answer
          short_answer = ap (λ (n : ℕ). too_short_by n) count_is ∙ rw (rows_are, short)

          pub short_left : u ≡ left (editing s t k a e y) u
          unfolding left
          short_left = rw (rows_are, short)

        module _ (h : c.before + c.new + c.behind ≤ room u) where
          full : leb (length E) (room u) ≡ true
          full = le-leb (length E) (room u) (omega (arith, count_is))

          pub full_room : (c.before + c.new + c.behind) * width ≤ length u
          full_room = omega arith

          pub full_answer : Ok (c.before + c.new + c.behind) ≡ answer (editing s t k a e y) (room u)
          unfolding answer
          full_answer = ap Ok count_is ∙ rw (rows_are, full)

          pub full_left : (v : List ℕ) → v ≡ pour (plan_rows p t y) u → v ≡ left (editing s t k a e y) u
          unfolding left
          full_left v ev =
              ev
              ∙ ap (λ (q : Plan). pour (plan_rows q t y) u) ep
              ∙ ap (λ (rs : List Row). pour rs u) plan_rows_lem
              ∙ pour_all E u (omega (arith, count_is))
              ∙ rw (rows_are, full)

pub ruleset edit_laws = (bad_answer, bad_left, good_within, good_ready, sum_two, sum_three, short_answer, short_left, full_room, full_answer, full_left)
