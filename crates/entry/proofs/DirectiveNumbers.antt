-- What refuses a value of a directive's rows has number 6, 7 or 8, and so has what its reader holds of the first.
use Rattle.std.specs.Prelude.{Ok}
use Prim.Native.Nat.{ℕ}
use mathlib.Core.Path.{◌≡◌, refl, sym, ap, ◌∙◌, subst}
use mathlib.Core.List.{List}
use Rattle.text.specs.Answer.{Ans, To, Miss, Hard, ◌else◌}
use Rattle.text.specs.steps.Told.{Reading}
use Rattle.text.proofs.TestLaws.{ok_pair}
use Rattle.amount.proofs.ValueSizes.{NumberedRows}
use Rattle.amount.proofs.RowCounts.{any_kinds, placed_numbered}
use Rattle.row.specs.declared.writer.Out.{Out}
use Rattle.row.proofs.OutLaws.{Known, outs_known}
use Rattle.entry.specs.declared.directive.Formed.{Formed}
use Rattle.entry.specs.Forms.{Form, directive, form_of}
use Rattle.entry.specs.steps.Formed.{DidForm}
use Rattle.entry.proofs.EntryTold.{form_placed}
use Rattle.entry.proofs.UndatedLaws.{form_else}

module _ (s : List ℕ) where
  directive_first : (n : ℕ) (f : Form) → directive s ≡ To n f → form_of s ≡ To n f
  unfolding ◌else◌
  directive_first n f e = form_else s ∙ rw e refl

  pub directive_numbered : (n : ℕ) (f : Form) → directive s ≡ To n f → NumberedRows f.details
  directive_numbered n f e = placed_numbered any_kinds s 1 n f.details (form_placed s n f (directive_first n f e))

  pub directive_known : (base : ℕ) (o : Out) (t u : List ℕ) (r : Reading Formed) (n : ℕ) (y : Formed) → DidForm base (directive s) o t u r → r ≡ Ok (n, y)
      → Known o → Known y.out
  directive_known base o t u r n y w q k = go (directive s) refl w
    where
      go : (a : Ans Form) → directive s ≡ a → DidForm base a o t u r → Known y.out
      go (To j f) e w =
          let z = ok_pair (sym w.0 ∙ q) in
          subst Known (ap (λ (x : Formed). x.out) z.1) (outs_known f.details o k (directive_numbered j f e))
      go Miss e w = cc
      go (Hard i p) e w = cc
