-- That each turn of the engine leaves less to do.
use Rattle.decimal.specs.Faults.{Value}
use Prim.Native.Nat.{ℕ, ◌+◌, ◌-◌, ◌*◌, ◌≤◌, ◌<◌}
use mathlib.Core.Path.{◌≡◌, refl, sym}
use mathlib.Core.Bool.{Bool, true, false, cond}
use mathlib.Core.List.{List}
use native.Mathlib.Omega.{arith}
use lib.Dec.{eqb}
use lib.ListN.{get_or, length}
use borrow.Author.Tests.{eqb-true}
use Rattle.text.specs.Bytes.{is_blank}
use Rattle.text.specs.Run.{blanks}
use Rattle.text.specs.Answer.{Ans, To, Miss, Hard}
use Rattle.text.proofs.Joins.{Reach}
use Rattle.text.proofs.Steps.{byte_within, run_from_lem}
use Rattle.amount.specs.Literal.{literal}
use Rattle.amount.specs.Expression.{Arithmetic, is_plus, is_times}
use Rattle.amount.proofs.ExpressionEnds.{literal_reach}
use Rattle.engine.specs.declared.Frame.{Frame}
use Rattle.engine.specs.declared.Next.{Next}
use Rattle.engine.specs.declared.Next.TheVariants.{Start, Operand, Group, Done, Missed}
use Rattle.engine.specs.steps.Turns.{first_frame, total_of, after_of, step_of, settle_of, open_of, begin_of, taken, start_of, operand_of, shut_of}

-- what is left to do, in a text of n bytes
unfoldable pub weight : ℕ → Next → ℕ
weight n (Start p) = 2 * (n - p) + 1
weight n (Operand f p) = 2 * (n - p) + 1
weight n (Group f p) = 2 * (n - p)
weight n (Done e v) = 2 * (n - e) + 1
weight n (Missed f) = 0

-- what holds of both holds of either
pub either_holds : (P : Next → Type 0) (b : Bool) (x y : Next) → P x → P y → P (cond b x y)
either_holds P true x y p q = p
either_holds P false x y p q = q

pub up : (s : List ℕ) (i : ℕ) → i ≤ blanks s i
up s i = run_from_lem is_blank s i (blanks s i) refl

module _ (calc : Arithmetic) (s : List ℕ) where
  abbrev N : ℕ
  N = length s

  step_light : (f : Frame) (e : ℕ) (v : Value) (t r : Bool) → is_times (get_or s (blanks s e) 0) ≡ t → is_plus (get_or s (blanks s e) 0) ≡ r → weight N (step_of calc s f e v) ≤ 2 * (N - e) + 1
  unfolding weight step_of after_of total_of
  step_light f e v true r h l = rw h (omega (arith, up s e, up s (blanks s e + 1)))
  step_light f e v false true h l = rw (h, l) (omega (arith, up s e, up s (blanks s e + 1)))
  step_light f e v false false h l = rw (h, l) (omega arith)

  settle_light : (f : Frame) (e : ℕ) (v : Value) → weight N (settle_of calc s f e v) ≤ 2 * (N - e) + 1
  unfolding settle_of weight
  settle_light f e v = either_holds (λ x. weight N x ≤ 2 * (N - e) + 1) f.negated _ _ (omega arith) (step_light f e v _ _ refl refl)

  open_light : (f : Frame) (at : ℕ) (b : Bool) → eqb (get_or s at 0) 40 ≡ b → weight N (open_of s f at) ≤ 2 * (N - at)
  unfolding open_of weight
  open_light f at true h = rw h (omega arith)
  open_light f at false h = rw h (omega arith)

  begin_light : (at : ℕ) (b : Bool) → eqb (get_or s at 0) 45 ≡ b → weight N (begin_of s at) ≤ 2 * (N - at)
  unfolding begin_of
  begin_light at true h = rw h (omega (arith, up s (at + 1), open_light (first_frame true) (blanks s (at + 1)) _ refl))
  begin_light at false h = rw h (open_light (first_frame false) at _ refl)

  taken_light : (at : ℕ) (a : Ans Value) (k : ℕ → Value → Next) (m : Next) → Reach N (at + 1) a → ((e : ℕ) (v : Value) → weight N (k e v) ≤ 2 * (N - e) + 1) → weight N m ≤ 2 * (N - at) → weight N (taken a k m) < 2 * (N - at) + 1
  unfolding taken
  taken_light at (To e v) k m r p q = let w = p e v in omega arith
  taken_light at Miss k m r p q = omega arith
  taken_light at (Hard i j) k m r p q = omega arith

  pub start_light : (at : ℕ) → weight N (start_of calc s at) < 2 * (N - at) + 1
  unfolding start_of
  start_light at = taken_light at (literal s at) _ _ (literal_reach s at) (λ e v. settle_light (first_frame false) e v) (begin_light at _ refl)

  pub operand_light : (f : Frame) (at : ℕ) → weight N (operand_of calc s f at) < 2 * (N - at) + 1
  unfolding operand_of
  operand_light f at = taken_light at (literal s at) _ _ (literal_reach s at) (λ e v. settle_light f e v) (open_light f at _ refl)

  pub shut_light : (f : Frame) (e : ℕ) (v : Value) (b : Bool) → eqb (get_or s (blanks s e) 0) 41 ≡ b → weight N (shut_of calc s f e v) < 2 * (N - e) + 1
  unfolding shut_of weight
  shut_light f e v true h =
      rw h
      (let i = byte_within s (blanks s e) 41 (sym (eqb-true _ 41 h)) (omega arith) in
      let w = settle_light f (blanks s e + 1) v in
      omega (arith, up s e))
  shut_light f e v false h = rw h (omega arith)
