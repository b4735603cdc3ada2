-- The payee and the narration of a head.
use Prim.Native.Nat.{ℕ, ◌+◌, ◌-◌}
use native.Mathlib.Omega.{arith}
use mathlib.Core.Path.{◌≡◌, refl, sym, ◌∙◌, ap, ap₂, subst}
use mathlib.Core.Bool.{false}
use mathlib.Core.List.{List, [], ◌∷◌, ◌++◌, append_assoc}
use mathlib.Core.Logic.{◌⊎◌, inl, inr}
use lib.Dec.{eqb}
use Rattle.text.specs.Answer.{To, Miss, ◌and◌, more, maybe}
use Rattle.text.specs.Leaves.{gap, string}
use Rattle.text.proofs.Ats.{At}
use Rattle.text.proofs.Inversions.{and_inv, else_inv, to_inv}
use Rattle.amount.specs.Details.{Rows, span}
use Rattle.text.specs.Bytes.{between}
use Rattle.amount.specs.declared.detail.Detail.{Detail}
use Rattle.row.specs.Details.{spanned}
use Rattle.transaction.specs.Transaction.{texts}
use Rattle.layout.specs.Meaning.{Item, texted}
use Rattle.layout.specs.Written.{quotes, detail_text, printed}
use Rattle.layout.proofs.Texts.{Tidy}
use Rattle.layout.proofs.Values.{line_blank, shown}
use Rattle.layout.proofs.Neats.{Phrase, Neat, neat_none, neat_join, neat_space, neat_quotes}
use Rattle.layout.proofs.Readings.{item_d, items, text_item, Reads, row_reads, skip_reads, maybe_reads, maybe_none, There, first_reads, second_reads, span_item, span_fine, TextKind}
use Rattle.layout.proofs.Readings.{maybe_was}
use Rattle.layout.proofs.Marks.{gap_reads, gap_misses, string_misses}
use Rattle.layout.proofs.Parts.{gap_was, string_was, string_is}
use Rattle.layout.proofs.Bodies.{print_detail, quote_blank}
use Rattle.layout.proofs.Metas.{content_between}
use Rattle.layout.proofs.HeadMarks.{Marked, a_link, a_tag, marks_text, no_marks}

pub data Told : List Item → Type 0 where
  untold : Told []
  told : (w : List ℕ) → Phrase w → Told (text_item 22 w ∷ [])
  paid : (p w : List ℕ) → Phrase p → Phrase w → Told (text_item 21 p ∷ text_item 22 w ∷ [])

unfoldable pub told_text : {ms : List Item} → Told ms → List ℕ
told_text untold = []
told_text (told w C) = 32 ∷ quotes w
told_text (paid p w D C) = 32 ∷ (quotes p ++ (32 ∷ quotes w))

told_kinds : TextKind 21 × TextKind 22
unfolding texted spanned
told_kinds = ((refl, refl), (refl, refl))

texts_was : (s : List ℕ) (i j : ℕ) (t : List ℕ) (rs : List Detail) → Tidy s → At s i t → texts s i ≡ To j rs → There s j rs Told
unfolding texts
texts_was s i j t rs T A h =
    let a = and_inv (gap s i) _ j rs h in
    let G = gap_was A a.3 in
    let b = and_inv (string s a.0) _ j a.2 a.4 in
    let S = string_was T G.1 b.3 in
    let p : rs ≡ b.2 = a.5 ∙ ap (λ z. z ++ a.2) G.0 ∙ b.5 ∙ ap (λ z. z ++ b.2) S.3 in
    let R = go a.0 b.0 b.2 S.0 S.1 S.2 (else_inv _ _ j b.2 b.4) in
    record { rest = R.rest; place = R.place; is = subst (λ z. Told (items s z)) (sym p) R.is }
  where
    go : (x e : ℕ) (zs : List Detail) (u : List ℕ) → At s e u → Phrase (between s (x + 1) (e - 1))
        → ((gap s e and λ b. string s b and λ f. To f (span 21 (x + 1) (e - 1) ∷ span 22 (b + 1) (f - 1) ∷ [])) ≡ To j zs) ⊎
        (((gap s e and λ b. string s b and λ f. To f (span 21 (x + 1) (e - 1) ∷ span 22 (b + 1) (f - 1) ∷ [])) ≡ Miss) × (To e (span 22 (x + 1) (e - 1) ∷ []) ≡ To j zs))
        → There s j zs Told
    go x e zs u B P (inl h) =
        let a = and_inv (gap s e) _ j zs h in
        let G = gap_was B a.3 in
        let b = and_inv (string s a.0) _ j a.2 a.4 in
        let S = string_was T G.1 b.3 in
        let c = to_inv b.0 j _ b.2 b.4 in
        let p = a.5 ∙ ap (λ z. z ++ a.2) G.0 ∙ b.5 ∙ ap (λ z. z ++ b.2) S.3 ∙ c.1 ∙ ap (λ z. span 21 (x + 1) (e - 1) ∷ span 22 (a.0 + 1) (z - 1) ∷ []) c.0 in
        record {
          rest = S.0;
          place = subst (λ z. At s z S.0) c.0 S.1;
          is = subst Told (sym (ap (items s) p ∙ ap₂ (λ y z. y ∷ z ∷ []) (span_item s 21 (x + 1) (e - 1) told_kinds.0) (span_item s 22 (a.0 + 1) (j - 1) told_kinds.1)))
              (paid (between s (x + 1) (e - 1)) (between s (a.0 + 1) (j - 1)) P (subst (λ z. Phrase (between s (a.0 + 1) (z - 1))) c.0 S.2));
        }
    go x e zs u B P (inr h) =
        let c = to_inv e j _ zs h.1 in
        record {
          rest = u;
          place = subst (λ z. At s z u) c.0 B;
          is = subst Told (sym (ap (items s) c.1 ∙ ap (λ y. y ∷ []) (span_item s 22 (x + 1) (e - 1) told_kinds.1))) (told (between s (x + 1) (e - 1)) P);
        }

pub maybe_texts_was : (s : List ℕ) (i j : ℕ) (t : List ℕ) (rs : List Detail) → Tidy s → At s i t → maybe i (texts s i) ≡ To j rs → There s j rs Told
maybe_texts_was s i j t rs T A h = maybe_was Told i j (texts s i) rs untold A h (λ h. texts_was s i j t rs T A h)

at_sign : (s : List ℕ) (i j : ℕ) (rs : List Detail) (t : List ℕ) (c : ℕ) (f : ℕ → ℕ → Rows) → gap s i ≡ To j rs → eqb c 34 ≡ false → At s j (c ∷ t)
    → (gap s i and λ b. string s b and λ e. f b e) ≡ Miss
unfolding ◌and◌ more
at_sign s i j rs t c f e q A = rw (e, string_misses q A)

-- no string after the gap, if there is one
no_string : {s : List ℕ} {i : ℕ} {ms : List Item} (M : Marked ms) (t : List ℕ) (f : ℕ → ℕ → Rows) → At s i (marks_text M ++ (10 ∷ t)) → (gap s i and λ b. string s b and λ e. f b e) ≡ Miss
unfolding marks_text ◌and◌
no_string {s} {i} no_marks t f A = rw (gap_misses line_blank A)
no_string {s} {i} (a_tag w H M) t f A = let G = gap_reads (shown 35 (omega arith)) A in at_sign s i G.to G.rows _ 35 f G.eq refl G.rest
no_string {s} {i} (a_link w H M) t f A = let G = gap_reads (shown 94 (omega arith)) A in at_sign s i G.to G.rows _ 94 f G.eq refl G.rest

phrase_row : {s : List ℕ} (k i j : ℕ) (w post : List ℕ) → TextKind k → At s i (quotes w ++ post) → At s j post → item_d s (span k (i + 1) (j - 1)) ≡ text_item k w
phrase_row {s} k i j w post K A B = span_item s k (i + 1) (j - 1) K ∙ ap (text_item k) (content_between w post A B)

pub texts_is : {s : List ℕ} {i : ℕ} {ts ms : List Item} (T : Told ts) (M : Marked ms) (t : List ℕ) → At s i (told_text T ++ (marks_text M ++ (10 ∷ t)))
    → Reads s (maybe i (texts s i)) ts (marks_text M ++ (10 ∷ t))
unfolding told_text texts
texts_is {s} {i} untold M t A = maybe_none (no_string M t _ A) A
texts_is {s} {i} (told w C) M t A =
    let x = marks_text M ++ (10 ∷ t) in
    maybe_reads i (skip_reads (gap_reads (quote_blank w x) A) (λ a B. skip_reads (string_is w x C B) (λ e E.
    second_reads (no_string M t _ E) (row_reads (phrase_row 22 a e w x told_kinds.1 B E) (span_fine s 22 (a + 1) (e - 1)) E))))
texts_is {s} {i} (paid p w D C) M t A =
    let x = marks_text M ++ (10 ∷ t) in
    let A' : At s i (32 ∷ (quotes p ++ (32 ∷ (quotes w ++ x)))) = subst (λ z. At s i (32 ∷ z)) (append_assoc (quotes p) (32 ∷ quotes w) x) A in
    maybe_reads i (skip_reads (gap_reads (quote_blank p _) A') (λ a B. skip_reads (string_is p (32 ∷ (quotes w ++ x)) D B) (λ e E.
    first_reads _ (skip_reads (gap_reads (quote_blank w x) E) (λ b G. skip_reads (string_is w x C G) (λ f F. record {
      to = f;
      rows = span 21 (a + 1) (e - 1) ∷ span 22 (b + 1) (f - 1) ∷ [];
      eq = refl;
      rest = F;
      same = ap₂ (λ y z. y ∷ z ∷ []) (phrase_row 21 a e p (32 ∷ (quotes w ++ x)) told_kinds.0 B E) (phrase_row 22 b f w x told_kinds.1 G F);
      fine = (span_fine s 21 (a + 1) (e - 1), (span_fine s 22 (b + 1) (f - 1), tt));
    }))))))

pub told_neat : {ts : List Item} (T : Told ts) → Neat (told_text T)
unfolding told_text
told_neat untold = neat_none
told_neat (told w C) = neat_space _ (neat_quotes w C.neat)
told_neat (paid p w D C) = neat_space _ (neat_join (quotes p) _ (neat_quotes p D.neat) (neat_space _ (neat_quotes w C.neat)))

pub told_last : {ts : List Item} → Item → Told ts → Item
told_last prev untold = prev
told_last prev (told w C) = text_item 22 w
told_last prev (paid p w D C) = text_item 22 w

pub told_print : {ts : List Item} (T : Told ts) (k : ℕ) (prev : Item) (ds : List Item) → printed k prev (ts ++ ds) ≡ told_text T ++ printed k (told_last prev T) ds
unfolding told_text told_last detail_text
told_print untold k prev ds = refl
told_print (told w C) k prev ds = print_detail k prev (text_item 22 w) ds refl
told_print (paid p w D C) k prev ds =
    print_detail k prev (text_item 21 p) (text_item 22 w ∷ ds) refl ∙ ap (λ z. 32 ∷ (quotes p ++ z)) (print_detail k (text_item 21 p) (text_item 22 w) ds refl)
    ∙ ap (λ z. 32 ∷ z) (sym (append_assoc (quotes p) (32 ∷ quotes w) _))
