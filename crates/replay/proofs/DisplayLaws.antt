-- One step of the display's reader, whose two buffers stand one behind the other: the row's is lent in a spare one.
use Rattle.replay.specs.declared.call.Reply.{Reply}
use Rattle.std.specs.Prelude.{None, Option, Some}
use Prim.Native.Nat.{ℕ, ◌-◌, ◌≤◌, ◌<◌}
use native.Mathlib.Omega.{arith}
use mathlib.Core.Path.{◌≡◌, ◌∙◌, ap}
use mathlib.Core.List.{List, [], ◌++◌, append-nil}
use borrow.Author.Tests.{le-leb, lt-leb}
use borrow.Rule.Slice.PartMut.{put_mid}
use lib.ListN.{length, take, drop, length-drop, drop_of_length-le}
use lib.Seq.{take_at, drop_at, take_all, length-take-le}
use Rattle.lumbrisse.specs.Promises.{StepPromise}
use Rattle.lumbrisse.specs.declared.reply as box
use Rattle.replay.specs.Replies.{of_handed, stepped, stepped_left}

-- a row's buffer that would be longer than both
module _ (a b : ℕ) (s t : List ℕ) where
  pub step_unknown : length t < b → None ≡ stepped a b s t
  step_unknown h = rw (lt-leb b (length t) h)

  pub left_unknown_step : length t < b → t ≡ stepped_left a b s t
  left_unknown_step h = rw (lt-leb b (length t) h)

-- t is what was lent, w the spare buffer with the row's part in its front, row and text what the step leaves in its
-- parts
module _ (a b : ℕ) (s t x w row text : List ℕ) (h : b ≤ length t) (ew : w ≡ take b t ++ drop b x) where
  abbrev rows : List ℕ
  rows = take (b - 0) (drop 0 w)

  abbrev texts : List ℕ
  texts = take (length t - b) (drop b t)

  rows_are : rows ≡ take b t
  rows_are = let k : b - 0 ≡ b = omega arith in rw (k, ew) (take_at (take b t) (drop b x) b (length-take-le b t h))

  texts_are : texts ≡ drop b t
  texts_are = take_all (length t - b) (drop b t) (rw length-drop (omega arith))

  module _ (r : box.Handed.Handed) (p : StepPromise s a rows texts r row text) where
    pub step_told : (o : Option Reply) → o ≡ Some (of_handed r) → o ≡ stepped a b s t
    step_told o e = e ∙ rw (le-leb b (length t) h, p.answer, rows_are, texts_are)

    -- both parts are put back as they are left
    pub step_left : length row ≡ length rows → (u : List ℕ)
        → u ≡ take b (drop 0 (put_mid 0 (b - 0) w row)) ++ drop b (put_mid b (length t - b) t text) → u ≡ stepped_left a b s t
    step_left n u e =
        let k : length row ≡ b = n ∙ ap length rows_are ∙ length-take-le b t h in
        let none : drop (length t - b) (drop b t) ≡ [] = drop_of_length-le (drop b t) {i = length t - b} (rw length-drop (omega arith)) in
        e
        ∙ rw (
          take_at row (drop (b - 0) w) b k,
          drop_at (take b t) (text ++ drop (length t - b) (drop b t)) b (length-take-le b t h),
          none,
          append-nil text,
          le-leb b (length t) h,
          p.row,
          p.text,
          rows_are,
          texts_are,
        )

pub ruleset display_laws = (step_unknown, left_unknown_step, step_told, step_left)
