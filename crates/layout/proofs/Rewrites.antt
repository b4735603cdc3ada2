-- M-103: every entry is renewed, and so the claim.
use Prim.Native.Nat.{ℕ}
use mathlib.Core.Logic.{◌⊎◌, inl, inr}
use mathlib.Core.Path.{sym, ◌∙◌, ◌≡◌, ap, subst}
use mathlib.Core.Bool.{false, cond}
use mathlib.Core.List.{List, []}
use lib.ListN.{drop}
use Rattle.text.specs.Answer.{To, Miss}
use Rattle.text.proofs.Inversions.{else_inv}
use Rattle.text.specs.Every.{Every}
use Rattle.text.specs.Bytes.{between}
use Rattle.entry.specs.Forms.{Form, directive, blank, form_of}
use Rattle.layout.specs.Claim.{holds_quote, Claim}
use Rattle.layout.proofs.Texts.{Tidy}
use Rattle.layout.proofs.Readings.{Fine}
use Rattle.layout.proofs.Choices.{tried, tried_was}
use Rattle.layout.proofs.Compose.{Renewed, claim, Renewal, blank_text}
use Rattle.layout.proofs.Fronts.{ends_boundary}
use Rattle.layout.proofs.Wordings.{form_tried, from_wordings, wordings}
use Rattle.layout.proofs.Renews.{directive_renewed}
use Rattle.layout.proofs.Blanks.{blank_was, blank_renewed}

renew : (s : List ℕ) (n : ℕ) (f : Form) → form_of s ≡ To n f → Every Fine f.details → Tidy s → (f.kind ≡ 1 → holds_quote (between s 0 n) ≡ false) → Renewal s n f
renew s n f h fine T q = go (else_inv (directive s) _ n f (sym (form_tried s) ∙ h))
  where
    kept : directive s ≡ Miss → Every (λ c. c.reads s 0 ≡ Miss) wordings → blank s ≡ To n f → Renewal s n f
    kept d m h =
        let K = blank_was s n f h in
        subst (Renewal s n) (sym K.form)
        (subst (λ b. Renewed s (record { kind = 1; text = cond b (between s 0 n) []; other = []; number = 0; bits = 0 }) [] (drop n s)) (sym blank_text)
        (blank_renewed s n f K (q (ap (λ z. z.kind) K.form)) T d m))

    go : (directive s ≡ To n f) ⊎ ((directive s ≡ Miss) × (tried 0 s 0 wordings (blank s) ≡ To n f)) → Renewal s n f
    go (inl h) = directive_renewed s n f h fine T
    go (inr h) = tried_was s 0 0 n f (Renewal s n f) wordings (blank s) (from_wordings s n T f fine) (kept h.0) h.1

-- For a ledger that plain reading accepts and whose blank entries hold no quote, reading the output gives the same, and
-- writing it again the same bytes.
pub m_103 : Claim
m_103 = claim ends_boundary renew
