-- Rows that strict reading does not refuse: of a text, and of two that it is cut into.
use Prim.Native.Nat.{ℕ, ◌-◌, ◌≤◌, ◌<◌}
use native.Mathlib.Omega.{arith}
use mathlib.Core.Path.{◌≡◌, refl, sym, ◌∙◌, ap}
use mathlib.Core.Bool.{Bool, true, false, cond}
use mathlib.Core.Logic.{⊎_elim}
use mathlib.Core.List.{List, [], ◌∷◌, ◌++◌}
use borrow.Author.Tests.{eqb-true}
use lib.Dec.{eqb}
use lib.ListN.{length, drop, length-drop}
use lib.Seq.{take-append-le, drop-append-le, drop-append_seam}
use Rattle.text.specs.Every.{Every}
use Rattle.text.specs.Bytes.{between}
use Rattle.row.specs.declared.table.Row.{Row}
use Rattle.row.proofs.PourLaws.{le_or_lt}
use Rattle.entry.proofs.EntryLines.{OnLine}
use Rattle.ledger.specs.Plain.{moved, Reading, accepted, denied}
use Rattle.ledger.specs.Strict.{objection, first_refused}
use Rattle.ledger.specs.Strictness.{Passes}
use Rattle.ledger.proofs.JudgeLaws.{move_objection}

pub passes_all : (s : List ℕ) (rs : List Row) (w : Reading) → Passes s rs → first_refused s rs w ≡ w
unfolding first_refused
passes_all s [] w h = refl
passes_all s (r ∷ rs) w (h, hs) = rw h (passes_all s rs w hs)

pub all_pass : (s : List ℕ) (rs : List Row) (w : Reading) (xs : List Row) → first_refused s rs w ≡ accepted xs → Passes s rs
unfolding first_refused
all_pass s [] w xs e = tt
all_pass s (r ∷ rs) w xs e = go (eqb (objection s r) 0) refl e (λ f. all_pass s rs w xs f)
  where
    go : (b : Bool) → eqb (objection s r) 0 ≡ b → cond b (first_refused s rs w) (denied (objection s r) r.start) ≡ accepted xs
        → (first_refused s rs w ≡ accepted xs → Passes s rs) → (objection s r ≡ 0) × Passes s rs
    go true q e ih = (eqb-true (objection s r) 0 q, ih e)
    go false q e ih = absurd (let z : ◌≡◌ {A = ℕ} 0 1 = cc in omega arith)

pub passes_parts : (s : List ℕ) (xs ys : List Row) → Passes s (xs ++ ys) → Passes s xs × Passes s ys
passes_parts s [] ys h = (tt, h)
passes_parts s (x ∷ xs) ys (h, hs) = let k = passes_parts s xs ys hs in ((h, k.0), k.1)

-- what follows a text does not count
between_append : (x y : List ℕ) (a e : ℕ) → e ≤ length x → between (x ++ y) a e ≡ between x a e
between_append x y a e h =
    ⊎_elim
    (λ (l : a ≤ e). rw (drop-append-le a x y (omega arith)) (take-append-le (e - a) (drop a x) y (rw length-drop (omega arith))))
    (λ (l : e < a). let z : e - a ≡ 0 = omega arith in rw z)
    (le_or_lt a e)

same_text : (x y : List ℕ) (r : Row) → r.end ≤ length x → objection (x ++ y) r ≡ objection x r
unfolding objection
same_text x y r h = rw (between_append x y r.start r.end h)

pub passes_first : (top l : ℕ) (x y : List ℕ) (rs : List Row) → Every (OnLine top 0 l x) rs → Passes (x ++ y) rs → Passes x rs
passes_first top l x y [] e h = tt
passes_first top l x y (r ∷ rs) (e, es) (h, hs) = (sym (same_text x y r (omega (arith, e.ends))) ∙ h, passes_first top l x y rs es hs)

pub passes_second : (x y : List ℕ) (l : ℕ) (rs : List Row) → Passes (x ++ y) (moved (length x) l rs) → Passes y rs
passes_second x y l [] h = tt
passes_second x y l (r ∷ rs) (h, hs) =
    (ap (λ z. objection z r) (sym (drop-append_seam x y)) ∙ sym (move_objection (x ++ y) (length x) l r) ∙ h, passes_second x y l rs hs)
