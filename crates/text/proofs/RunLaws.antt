-- The answers of the loop that takes a run.
use Prim.Native.Nat.{ℕ, ◌+◌, ◌≤◌, ◌<◌}
use mathlib.Core.Path.{◌≡◌, sym, ◌∙◌}
use mathlib.Core.Bool.{Bool, true, false}
use mathlib.Core.List.{List}
use lib.ListN.{length, get_or}
use Rattle.text.specs.Run.{run_to}
use Rattle.text.specs.steps.Classes.{in_class}
use Rattle.text.specs.declared.run.Class.{Class}
use Rattle.text.proofs.Steps.{run_on, run_stops, run_ends}

-- a class by its name
pub in_class_lem : (k m : Class) (b : ℕ) (r : Bool) → k ≡ m → r ≡ in_class m b → r ≡ in_class k b
in_class_lem k m b r e u = rw e u

-- The invariant is that the answer a is the end of the run that is left at i; r is what the code's test gave.
module _ (a : ℕ) (p : ℕ → Bool) (s : List ℕ) (i : ℕ) (v : a ≡ run_to p s i) where
  pub in_run : (r : Bool) → i < length s → r ≡ p (get_or s i 0) → r ≡ true → a ≡ run_to p s (i + 1)
  in_run r h e t = v ∙ run_on p s i h (sym e ∙ t)

  pub out_run : (r : Bool) → i < length s → r ≡ p (get_or s i 0) → r ≡ false → i ≡ a
  out_run r h e t = sym (v ∙ run_stops p s i h (sym e ∙ t))

  pub end_run : length s ≤ i → i ≡ a
  end_run h = sym (v ∙ run_ends p s i h)

pub ruleset name_laws = in_class_lem

pub ruleset run_laws = (in_run, out_run, end_run)
