-- Loops that write the one row of a reader, turn by turn. The code's reader answered x.
use Rattle.text.specs.declared.stop.Stop.{Stop}
use Rattle.std.specs.Prelude.{Err, Ok}
use Rattle.text.specs.steps.Told.{Reading}
use Rattle.text.specs.declared.stop.Cause.{Cause}
use Prim.Native.Nat.{ℕ, ◌-◌, ◌≤◌, ◌<◌}
use mathlib.Core.Path.{◌≡◌, refl, ◌∙◌, ap}
use mathlib.Core.List.{List, [], ◌∷◌}
use lib.ListN.{length}
use Rattle.amount.specs.Details.{Rows}
use Rattle.amount.specs.steps.Answers.{one_of}
use Rattle.amount.specs.declared.detail.Detail.{Detail}
use Rattle.amount.proofs.OneRows.{OneRow, one_read, one_miss, one_hard}
use Rattle.row.specs.steps.Pouring.{pour_at}
use Rattle.row.specs.steps.Writing.{laid, noted, Did}
use Rattle.row.specs.declared.writer.Out.{Out}
use Rattle.row.proofs.PourLaws.{length_pour_at}
use Rattle.row.proofs.DidLaws.{did_emit, did_miss, did_hard}
use Rattle.row.proofs.ManyLaws.{Stepping, Runs, runs_room, runs_done, runs_less, runs_turn, runs_stop, runs_halt}

-- a reader for such a loop, which makes one row where it reads
pub record Single (n : ℕ) (f : ℕ → Rows) : Type 0 where
  pub stepping : Stepping n f
  pub row : (i : ℕ) → OneRow (f i)

module _ (base n : ℕ) (f : ℕ → Rows) (a₀ : Rows) (o₀ : Out) (t₀ : List ℕ) (i : ℕ) (o : Out) (t : List ℕ) (R : Runs base n f a₀ o₀ t₀ i o t) (S : Single n f) where
  pub single_done : n ≤ i → Did base a₀ o₀ t₀ t (Ok (i, o))
  single_done = runs_done base n f a₀ o₀ t₀ i o t R S.stepping

  module _ (x : Reading Detail) (p : x ≡ one_of (f i)) where
    module _ (e : ℕ) (d : Detail) (q : x ≡ Ok (e, d)) (m : Out) (v : List ℕ) (k : m ≡ noted o d) (l : v ≡ pour_at o.rows (laid base d ∷ []) t) where
      turned : Did base (f i) o t v (Ok (e, m))
      turned = rw (one_read x e d (S.row i) p q) (did_emit base o t e d d m v k l refl)

      pub single_less : n - e < n - i
      single_less = runs_less base n f a₀ o₀ t₀ i o t R S.stepping v (Ok (e, m)) turned e m refl

      pub single_turn : Runs base n f a₀ o₀ t₀ e m v
      single_turn =
          runs_turn base n f a₀ o₀ t₀ i o t R S.stepping v (Ok (e, m)) turned e m refl
          (ap (λ (z : List ℕ). length z) l ∙ length_pour_at o.rows (laid base d ∷ []) t)

    pub single_stop : x ≡ (Err Stop.Miss) → Did base a₀ o₀ t₀ t (Ok (i, o))
    single_stop q = runs_stop base n f a₀ o₀ t₀ i o t R S.stepping t (Err Stop.Miss) (did_miss base o t (f i) (one_miss x (S.row i) p q)) refl

    pub single_halt : (k : Cause) (j : ℕ) (u : List ℕ) → x ≡ Err (Stop.Hard k j) → Did base a₀ o₀ t₀ u (Err (Stop.Hard k j))
    single_halt k j u q =
        runs_halt base n f a₀ o₀ t₀ i o t R S.stepping t (Err (Stop.Hard k j)) (did_hard base o t (f i) k j t (one_hard (f i) x k j p q)) k j u refl

pub ruleset single_laws = (runs_room, single_done, single_less, single_turn, single_stop, single_halt)
