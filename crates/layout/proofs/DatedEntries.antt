-- An entry that a date starts is renewed, if what is written behind the date reads again.
use Prim.Native.Nat.{ℕ, ◌<◌}
use native.Mathlib.Omega.{arith}
use mathlib.Core.Bool.{true, false}
use mathlib.Core.List.{List, [], ◌∷◌, ◌++◌, append_assoc}
use mathlib.Core.Path.{◌≡◌, sym, ◌∙◌, ap, subst}
use lib.Dec.{ltb}
use lib.ListN.{length, get_or}
use Rattle.text.specs.Bytes.{is_digit, is_blank}
use Rattle.text.proofs.Ats.{At, at_start_lem}
use Rattle.text.proofs.TestLaws.{absurd_bool}
use Rattle.entry.specs.Forms.{dateless, form_of}
use Rattle.layout.specs.Meaning.{Item, texted}
use Rattle.layout.specs.Written.{kind_of, printed, date_text, closing, no_item}
use Rattle.layout.proofs.Texts.{Tidy}
use Rattle.text.proofs.DayLaws.{Day}
use Rattle.layout.proofs.Days.{date_first_lem}
use Rattle.layout.proofs.Neats.{neat_space, neat_date, neat_none}
use Rattle.layout.proofs.Choices.{Made}
use Rattle.layout.proofs.Directives.{dated_form}
use Rattle.layout.proofs.Compose.{Boundary, Renewed, own_item}
use Rattle.layout.proofs.Fronts.{sharp_digit, sharp_boundary, digit_tag}

-- what is written behind the date p and a space, of an entry of kind k before r: its text, up to what follows the entry
pub record Behind (k p : ℕ) (ks : List Item) (r : List ℕ) : Type 0 where
  pub line : List ℕ → List ℕ
  pub goes_on : (v : List ℕ) → line [] ++ v ≡ line v
  pub tidy : (v : List ℕ) → Tidy v → Tidy (line v)
  pub blank : (v : List ℕ) → is_blank (get_or (line v) 0 0) ≡ false
  pub prints : (j : ℕ) (prev : Item) (ds : List Item) → ltb (kind_of ds) 20 ≡ true → printed j prev (own_item k p ∷ (ks ++ ds)) ≡ closing j ++ (date_text p ++ (32 ∷ line (printed 0 no_item ds)))
  pub reads : (u v : List ℕ) (g : ℕ) → Boundary r v → At u g (line v) → Made u (dateless p u g) k p ks v

module _ (s : List ℕ) (k p : ℕ) (D : Day p) (no_text : texted k ≡ false) (first : is_digit (get_or s 0 0) ≡ true) (ks : List Item) (r : List ℕ) (L : Behind k p ks r) where
  text : List ℕ
  text = date_text p ++ (32 ∷ L.line [])

  text_some : 0 < length text
  unfolding text date_text
  text_some = omega arith

  text_is : (v : List ℕ) → text ++ v ≡ date_text p ++ (32 ∷ L.line v)
  unfolding text
  text_is v = append_assoc (date_text p) (32 ∷ L.line []) v ∙ ap (λ z. date_text p ++ (32 ∷ z)) (L.goes_on v)

  text_first : (v : List ℕ) → is_digit (get_or (text ++ v) 0 0) ≡ true
  text_first v = rw (text_is v) (date_first_lem p (32 ∷ L.line v))

  reads_again : (v : List ℕ) → Boundary r v → Made (text ++ v) (form_of (text ++ v)) k p ks v
  reads_again v B = dated_form (text ++ v) p D (L.line v) (L.blank v) (subst (At (text ++ v) 0) (text_is v) (at_start_lem (text ++ v))) (λ g G. L.reads (text ++ v) v g B G)

  pub dated_renewed : Renewed s (own_item k p) ks r
  dated_renewed = record {
    text = text;
    some = text_some;
    own = rw no_text;
    prints = λ j prev ds e. L.prints j prev ds e ∙ ap (λ z. closing j ++ z) (sym (text_is (printed 0 no_item ds)));
    reads = reads_again;
    front = λ v B. sharp_boundary s (text ++ v) (sharp_digit _ (text_first v)) (λ h. absurd_bool (sym h ∙ digit_tag (get_or s 0 0) first));
    tidy = λ v h. subst Tidy (sym (text_is v)) ((neat_date p).before _ ((neat_space [] neat_none).before _ (L.tidy v h)));
  }
