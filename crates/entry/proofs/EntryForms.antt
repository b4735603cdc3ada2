-- What an entry that reads was read from, and how long it is.
use Rattle.text.specs.declared.stop.Cause.{Cause}
use Rattle.decimal.specs.Faults.{Value, number_of}
use Rattle.std.specs.Prelude.{Err, Ok}
use Prim.Native.Nat.{ℕ, ◌≤◌, ◌<◌}
use native.Mathlib.Omega.{arith}
use mathlib.Core.Path.{◌≡◌, refl, subst}
use mathlib.Core.List.{List, [], ◌∷◌}
use lib.ListN.{length}
use Rattle.text.specs.Answer.{Ans, To, Miss, Hard}
use Rattle.text.proofs.Joins.{Reach}
use Rattle.amount.specs.declared.detail.Detail.{Detail}
use Rattle.row.specs.declared.table.Row.{Row}
use Rattle.row.specs.Details.{value_place}
use Rattle.entry.specs.Forms.{Form, form_of}
use Rattle.entry.specs.Entry.{rows_of, Reads, got, refuse, judged, settled, entry_of}
use Rattle.entry.proofs.EntryEnds.{form_reach}

-- values only refuse
pub judged_got : (ds : List Detail) (r : Reads) (n : ℕ) (rs : List Row) → judged ds r ≡ got n rs → r ≡ got n rs
unfolding judged
judged_got [] r n rs e = e
judged_got (d ∷ ds) r n rs e = go d.value e (judged_got ds r n rs)
  where
    go : (v : Value) → elim v as (λ _. Reads) [ Ok x ↦ judged ds r | Err m ↦ refuse (number_of m) (value_place d) ] ≡ got n rs
        → (judged ds r ≡ got n rs → r ≡ got n rs) → r ≡ got n rs
    go (Ok x) e ih = ih e
    go (Err m) e ih = absurd (let z : ◌≡◌ {A = ℕ} 0 1 = cc in omega arith)

pub entry_form : (s : List ℕ) (n : ℕ) (rs : List Row) → entry_of s ≡ got n rs → (f : Form) × (form_of s ≡ To n f) × (rs ≡ rows_of s n f)
unfolding entry_of settled
entry_form s n rs e = go (form_of s) refl e
  where
    same : (k : ℕ) (f : Form) → got k (rows_of s k f) ≡ got n rs → (k ≡ n) × (rs ≡ rows_of s k f)
    same k f e = (cc, cc)

    go : (a : Ans Form) → form_of s ≡ a → settled s a ≡ got n rs → (f : Form) × (form_of s ≡ To n f) × (rs ≡ rows_of s n f)
    go (To k f) p q =
        let j = same k f (judged_got f.details (got k (rows_of s k f)) n rs q) in
        (f, subst (λ m. form_of s ≡ To m f) j.0 p, subst (λ m. rs ≡ rows_of s m f) j.0 j.1)
    go Miss p q = absurd (let z : ◌≡◌ {A = ℕ} 0 1 = cc in omega arith)
    go (Hard k m) p q = absurd (let z : ◌≡◌ {A = ℕ} 0 1 = cc in omega arith)

-- a byte at least, and no more than there are
pub entry_sound : (s : List ℕ) (n : ℕ) (rs : List Row) → entry_of s ≡ got n rs → (0 < n) × (n ≤ length s)
entry_sound s n rs e = let f = entry_form s n rs e in (subst (Reach (length s) 1) f.1 (form_reach s)).ends
