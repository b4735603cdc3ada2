-- The answers of the engine's small functions, each from what the code knows where it gives it.
use Rattle.text.specs.steps.Told.{Reading}
use Rattle.text.specs.declared.stop.Stop.{Stop}
use Rattle.std.specs.Prelude.{Err, Ok}
use Rattle.decimal.specs.Faults.{Value}
use Prim.Native.Nat.{ℕ, ◌+◌, ◌^◌, ◌<◌}
use mathlib.Core.Path.{◌≡◌, refl, sym, ap}
use mathlib.Core.Bool.{Bool, true, false, cond, ◌||◌}
use mathlib.Core.List.{List}
use lib.ListN.{get_or, length}
use borrow.Author.Tests.{ne_eqb}
use mir.Syntax.{w64}
use mir.Val.{Fits}
use Rattle.text.specs.Run.{blanks}
use Rattle.amount.specs.Literal.{literal}
use Rattle.amount.specs.Expression.{Arithmetic, negated_value}
use Rattle.amount.specs.steps.Answers.{answer_of, operator_of}
use Rattle.amount.proofs.Forms.{was_read, was_miss, was_hard, byte_fits, operator_fits}
use Rattle.engine.specs.declared.Pending.{Pending}
use Rattle.engine.specs.declared.Pending.TheVariants.{Nothing, With}
use Rattle.engine.specs.declared.Frame.{Frame}
use Rattle.engine.specs.declared.Next.{Next}
use Rattle.engine.specs.declared.Next.TheVariants.{Operand, Group, Done, Missed}
use Rattle.engine.specs.steps.Turns.{first_frame, joined, falls_to, fallback, total_of, waiting_of, after_of, step_of, settle_of, open_of, begin_of, taken, start_of, operand_of, shut_of}

module _ (calc : Arithmetic) (p : Pending) (v : Value) where
  pub join_nothing : p ≡ Nothing → v ≡ joined calc p v
  unfolding joined
  join_nothing e = rw e

  pub join_with : (op : ℕ) (u r : Value) → p ≡ With op u → r ≡ calc op u v → r ≡ joined calc p v
  unfolding joined
  join_with op u r e q = rw e q

pub ruleset join_laws = (join_nothing, join_with)

module _ (calc : Arithmetic) (f : Frame) (v : Value) where
  pub totalled : (w u : Value) → w ≡ joined calc f.product v → u ≡ joined calc f.sum w → u ≡ total_of calc f v
  unfolding total_of
  totalled w u p q = rw (← p) q

  -- g is what is pending then
  module _ (t : Bool) (b e : ℕ) (g : Frame) where
    pub after_times : (w : Value) → t ≡ true → w ≡ joined calc f.product v → g ≡ waiting_of f.sum (With b w) e → g ≡ after_of calc f t b v e
    unfolding after_of
    after_times w h p q = rw (h, ← p) q

    pub after_plus : (u : Value) → t ≡ false → u ≡ total_of calc f v → g ≡ waiting_of (With b u) Nothing e → g ≡ after_of calc f t b v e
    unfolding after_of
    after_plus u h p q = rw (h, ← p) q

pub ruleset after_laws = (totalled, after_times, after_plus)

module _ (calc : Arithmetic) (f : Frame) where
  pub fall_product : (op : ℕ) (v r : Value) → f.product ≡ With op v → r ≡ joined calc f.sum v → Ok (f.end, r) ≡ answer_of (fallback calc f)
  unfolding answer_of fallback falls_to
  fall_product op v r e q = rw (e, q)

  pub fall_sum : (op : ℕ) (u : Value) → f.product ≡ Nothing → f.sum ≡ With op u → Ok (f.end, u) ≡ answer_of (fallback calc f)
  unfolding answer_of fallback falls_to
  fall_sum op u e q = rw (e, q)

  pub fall_none : f.product ≡ Nothing → f.sum ≡ Nothing → (Err Stop.Miss) ≡ answer_of (fallback calc f)
  unfolding answer_of fallback falls_to
  fall_none e q = rw (e, q)

pub ruleset fall_laws = (fall_product, fall_sum, fall_none)

module _ (calc : Arithmetic) (s : List ℕ) (f : Frame) (e : ℕ) (v : Value) where
  pub settle_negated : (r : Value) → f.negated ≡ true → r ≡ negated_value v → Done e r ≡ settle_of calc s f e v
  unfolding settle_of
  settle_negated r h q = rw (h, q)

  unnegated : f.negated ≡ false → step_of calc s f e v ≡ settle_of calc s f e v
  unfolding settle_of
  unnegated h = ap (λ m. cond m (Done e (negated_value v)) (step_of calc s f e v)) (sym h)

  -- b is the byte after blanks
  module _ (h : f.negated ≡ false) (i b : ℕ) (t r : Bool) (p : i ≡ blanks s e) (q : b ≡ get_or s i 0) (l : t ≡ operator_of true b) (m : r ≡ operator_of false b) where
    pub settle_on : (g : Frame) (j : ℕ) → (t || r) ≡ true → g ≡ after_of calc f t b v e → j ≡ blanks s (i + 1) → Operand g j ≡ settle_of calc s f e v
    unfolding step_of operator_of
    settle_on g j k u o = rw (← p, ← q, ← l, ← m, k, ← u, ← o) at (unnegated h)

    pub settle_done : (w : Value) → (t || r) ≡ false → w ≡ total_of calc f v → Done e w ≡ settle_of calc s f e v
    unfolding step_of operator_of
    settle_done w k u = rw (← p, ← q, ← l, ← m, k, ← u) at (unnegated h)

-- t and r tell of which class the operator b is
pub either_fits : (s : List ℕ) (i b : ℕ) → length s < 2 ^ 64 → b ≡ get_or s i 0 → (t r : Bool) → t ≡ operator_of true b → r ≡ operator_of false b → (t || r) ≡ true → Fits w64 (i + 1)
either_fits s i b h p true r l m k = operator_fits s i b h p true true l refl
either_fits s i b h p false r l m k = operator_fits s i b h p false r m k

pub ruleset settle_laws = (either_fits, settle_negated, settle_on, settle_done)

-- b is the byte at the place
module _ (s : List ℕ) (at b : ℕ) (p : b ≡ get_or s at 0) where
  pub opens : (f : Frame) → b ≡ 40 → Group f at ≡ open_of s f at
  unfolding open_of
  opens f h = rw (← p, h)

  pub opens_not : (f : Frame) → (b ≡ 40 → ⊥) → Missed f ≡ open_of s f at
  unfolding open_of
  opens_not f h = rw (← p, ne_eqb b 40 h)

  pub begins_minus : (j : ℕ) (f : Frame) (o : Next) → b ≡ 45 → j ≡ blanks s (at + 1) → f ≡ first_frame true → o ≡ open_of s f j → o ≡ begin_of s at
  unfolding begin_of
  begins_minus j f o h q l m = rw (← p, h, ← q, ← l) m

  pub begins_other : (f : Frame) (o : Next) → (b ≡ 45 → ⊥) → f ≡ first_frame false → o ≡ open_of s f at → o ≡ begin_of s at
  unfolding begin_of
  begins_other f o h l m = rw (← p, ne_eqb b 45 h, ← l) m

pub ruleset open_laws = (byte_fits, opens, opens_not, begins_minus, begins_other)

-- r is the answer of the literal
module _ (calc : Arithmetic) (s : List ℕ) (at : ℕ) (r : Reading Value) (p : r ≡ answer_of (literal s at)) (o : Next) where
  pub starts_read : (f : Frame) (e : ℕ) (v : Value) → r ≡ Ok (e, v) → f ≡ first_frame false → o ≡ settle_of calc s f e v → o ≡ start_of calc s at
  unfolding start_of taken
  starts_read f e v q l m = rw (was_read (literal s at) r e v p q, ← l) m

  pub starts_stop : (stop : Stop) → r ≡ Err stop → o ≡ begin_of s at → o ≡ start_of calc s at
  unfolding start_of taken
  starts_stop Stop.Miss q m = rw (was_miss (literal s at) r p q) m
  starts_stop (Stop.Hard k i) q m = rw (was_hard (literal s at) r k i p q) m

  pub operand_read : (f : Frame) (e : ℕ) (v : Value) → r ≡ Ok (e, v) → o ≡ settle_of calc s f e v → o ≡ operand_of calc s f at
  unfolding operand_of taken
  operand_read f e v q m = rw (was_read (literal s at) r e v p q) m

  pub operand_stop : (f : Frame) (stop : Stop) → r ≡ Err stop → o ≡ open_of s f at → o ≡ operand_of calc s f at
  unfolding operand_of taken
  operand_stop f Stop.Miss q m = rw (was_miss (literal s at) r p q) m
  operand_stop f (Stop.Hard k i) q m = rw (was_hard (literal s at) r k i p q) m

pub ruleset look_laws = (starts_read, starts_stop, operand_read, operand_stop)

-- b is the byte after blanks
module _ (calc : Arithmetic) (s : List ℕ) (f : Frame) (e i b : ℕ) (v : Value) (p : i ≡ blanks s e) (q : b ≡ get_or s i 0) where
  pub shuts : (o : Next) → b ≡ 41 → o ≡ settle_of calc s f (i + 1) v → o ≡ shut_of calc s f e v
  unfolding shut_of
  shuts o h m = rw (← p, ← q, h) m

  pub shuts_not : (b ≡ 41 → ⊥) → Missed f ≡ shut_of calc s f e v
  unfolding shut_of
  shuts_not h = rw (← p, ← q, ne_eqb b 41 h)

pub ruleset shut_laws = (byte_fits, shuts, shuts_not)
