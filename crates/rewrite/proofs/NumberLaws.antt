-- Digits, values and dates.
use Prim.Native.Nat.{ℕ, zero, suc, ◌+◌, ◌-◌, ◌/◌, ◌%◌, ◌≤◌, ◌<◌, ◌^◌}
use native.Mathlib.Omega.{arith}
use mathlib.Core.Path.{◌≡◌, refl, sym, ◌∙◌, ap, subst}
use mathlib.Core.Bool.{false, and-false}
use mathlib.Core.List.{List, [], ◌∷◌, ◌++◌}
use borrow.Author.Tests.{le-leb, lt-leb, lt-ltb, le-ltb, ne_eqb}
use lib.Dec.{eqb}
use lib.ListN.{length, get_or, take}
use lib.Seq.{take-suc, take-length}
use Rattle.decimal.specs.Exact.{word_limit, largest, minus_from}
use Rattle.text.specs.Bytes.{between}
use Rattle.layout.specs.Written.{digit, whole_text, zeros, trimmed, six, fraction_text, size_text, value_text, date_text}
use Rattle.rewrite.specs.steps.Putting.{Put, Kept}
use Rattle.rewrite.proofs.PutLaws.{put_none, join}

-- ---- a whole number

module _ (k n b : ℕ) (e : b ≡ digit n) where
  pub whole_none : {t u : List ℕ} {at r : ℕ} → k ≡ 0 → Put t at (b ∷ []) u r → Put t at (whole_text k n) u r
  unfolding whole_text
  whole_none h p = rw (h, ← e) p

  pub whole_small : {t u : List ℕ} {at r : ℕ} → n < 10 → Put t at (b ∷ []) u r → Put t at (whole_text k n) u r
  unfolding whole_text
  whole_small {t} {u} {at} {r} h p = go k
    where
      go : (j : ℕ) → Put t at (whole_text j n) u r
      go zero = rw (← e) p
      go (suc j) = rw (lt-ltb n 10 h, ← e) p

  pub whole_more : {t u v : List ℕ} {at r q : ℕ} → (k ≡ 0 → ⊥) → 10 ≤ n → Put t at (whole_text (k - 1) (n / 10)) u r → Put u r (b ∷ []) v q → Put t at (whole_text k n) v q
  unfolding whole_text
  whole_more {t} {u} {v} {at} {r} {q} z h p w =
      let y : k ≡ suc (k - 1) = omega arith in
      subst (λ (j : ℕ). Put t at (whole_text j n) v q) (sym y) (rw (le-ltb n 10 h, ← e) (join p w))

pub ruleset whole_laws = (whole_none, whole_small, whole_more)

-- ---- trailing zeros

zeros_zero : (l : List ℕ) → zeros (l ++ (48 ∷ [])) ≡ zeros l
unfolding zeros
zeros_zero [] = refl
zeros_zero (b ∷ l) = rw (zeros_zero l)

trimmed_zero : (l : List ℕ) → trimmed (l ++ (48 ∷ [])) ≡ trimmed l
unfolding trimmed zeros
trimmed_zero [] = refl
trimmed_zero (b ∷ l) = rw (zeros_zero l, trimmed_zero l)

zeros_other : (l : List ℕ) (b : ℕ) → (b ≡ 48 → ⊥) → zeros (l ++ (b ∷ [])) ≡ false
unfolding zeros
zeros_other [] b h = rw (ne_eqb b 48 h)
zeros_other (c ∷ l) b h = rw (zeros_other l b h) (and-false (eqb c 48))

trimmed_other : (l : List ℕ) (b : ℕ) → (b ≡ 48 → ⊥) → trimmed (l ++ (b ∷ [])) ≡ l ++ (b ∷ [])
unfolding trimmed zeros
trimmed_other [] b h = rw (ne_eqb b 48 h)
trimmed_other (c ∷ l) b h = rw (zeros_other l b h, and-false (eqb c 48), trimmed_other l b h)

-- e digits are looked at still
unfoldable pub Looked : List ℕ → ℕ → Type 0
Looked d e = (trimmed d ≡ trimmed (take e d)) × (zeros d ≡ zeros (take e d))

pub kept_start : (d : List ℕ) → Looked d (length d)
unfolding Looked
kept_start d = let e : take (length d) d ≡ d = take-length d in (rw e, rw e)

pub kept_end : (d : List ℕ) (e : ℕ) → Looked d e → e ≤ 0 → Kept d 0
unfolding Looked trimmed zeros
kept_end d e l h = let z : e ≡ 0 = omega arith in record { front = rw z at l.0; none = rw z at l.1 }

module _ (d : List ℕ) (i : ℕ) (l : Looked d (i + 1)) (m : i < length d) where
  last_is : take (i + 1) d ≡ take i d ++ (get_or d i 0 ∷ [])
  last_is = let y : i + 1 ≡ suc i = omega arith in ap (λ (j : ℕ). take j d) y ∙ take-suc d i 0 m

  pub kept_on : get_or d i 0 ≡ 48 → Looked d i
  unfolding Looked
  kept_on f = (l.0 ∙ rw (last_is, f) (trimmed_zero (take i d)), l.1 ∙ rw (last_is, f) (zeros_zero (take i d)))

  pub kept_stop : (get_or d i 0 ≡ 48 → ⊥) → Kept d (i + 1)
  unfolding Looked
  kept_stop f =
      record {
        front = l.0 ∙ ap trimmed last_is ∙ trimmed_other (take i d) (get_or d i 0) f ∙ sym last_is;
        none = l.1 ∙ ap zeros last_is ∙ zeros_other (take i d) (get_or d i 0) f ∙ sym (ne_eqb (i + 1) 0 (λ z. omega arith));
      }

pub ruleset kept_laws = (kept_start, kept_end, kept_on, kept_stop)

-- ---- a fraction

pub six_is : (n a b c d e f : ℕ) → a ≡ digit (n / 100000) → b ≡ digit (n / 10000) → c ≡ digit (n / 1000) → d ≡ digit (n / 100) → e ≡ digit (n / 10) → f ≡ digit n
    → a ∷ b ∷ c ∷ d ∷ e ∷ f ∷ [] ≡ six n
unfolding six
six_is n a b c d e f ea eb ec ed ee ef = rw (ea, eb, ec, ed, ee, ef)

pub fraction_whole : (n : ℕ) (t : List ℕ) (at : ℕ) → n ≡ 0 → Put t at (fraction_text n) t at
unfolding fraction_text six zeros
fraction_whole n t at e = rw e (put_none t at)

module _ (l : List ℕ) (n e : ℕ) (s : l ≡ six n) (k : Kept l e) where
  pub fraction_none : (t : List ℕ) (at : ℕ) → e ≡ 0 → Put t at (fraction_text n) t at
  unfolding fraction_text
  fraction_none t at z = rw (← s, k.none, z) (put_none t at)

  pub fraction_some : {t u v : List ℕ} {at r q : ℕ} → (e ≡ 0 → ⊥) → Put t at (46 ∷ []) u r → Put u r (between l 0 e) v q → Put t at (fraction_text n) v q
  unfolding fraction_text
  fraction_some {t} {u} {v} {at} {r} {q} z p w =
      let y : e - 0 ≡ e = omega arith in
      rw (← s, k.none, ne_eqb e 0 z, k.front) (join p (subst (λ (j : ℕ). Put u r (take j l) v q) y w))

pub ruleset fraction_laws = (six_is, fraction_whole, fraction_none, fraction_some)

-- ---- values

pub size_put : (n : ℕ) {t u v : List ℕ} {at r q : ℕ} → Put t at (whole_text 8 (n / 1000000)) u r → Put u r (fraction_text (n % 1000000)) v q → Put t at (size_text n) v q
unfolding size_text
size_put n p k = join p k

pub value_plus : (x : ℕ) {t u : List ℕ} {at r : ℕ} → x < minus_from → Put t at (size_text x) u r → Put t at (value_text x) u r
unfolding value_text
value_plus x h p = rw (lt-leb minus_from x h) p

pub value_minus : (x : ℕ) {t u v : List ℕ} {at r q : ℕ} → minus_from ≤ x → x < 2 ^ 64 → Put t at (45 ∷ []) u r → Put u r (size_text (largest - x + 1)) v q → Put t at (value_text x) v q
unfolding value_text
value_minus x {t} {u} {v} {at} {r} {q} h l p k =
    let y : largest - x + 1 ≡ word_limit - x = omega arith in
    rw (le-leb minus_from x h) (join p (subst (λ (j : ℕ). Put u r (size_text j) v q) y k))

pub ruleset value_laws = (size_put, value_plus, value_minus)

-- ---- dates

pub pair_put : (n a b : ℕ) {t v : List ℕ} {at q : ℕ} → a ≡ digit (n / 10) → b ≡ digit n → Put t at (a ∷ b ∷ []) v q → Put t at (digit (n / 10) ∷ digit n ∷ []) v q
pair_put n a b ea eb p = rw (← ea, ← eb) p

pub hyphen_put : {a b : ℕ} {t u v : List ℕ} {at r q : ℕ} → Put t at (45 ∷ []) u r → Put u r (a ∷ b ∷ []) v q → Put t at (45 ∷ a ∷ b ∷ []) v q
hyphen_put p k = join p k

pub date_put : (n : ℕ) {t u v w x : List ℕ} {at i j k l : ℕ} → Put t at (digit (n / 1000000 / 10) ∷ digit (n / 1000000) ∷ []) u i
    → Put u i (digit (n / 10000 / 10) ∷ digit (n / 10000) ∷ []) v j
    → Put v j (45 ∷ digit (n / 100 / 10) ∷ digit (n / 100) ∷ []) w k
    → Put w k (45 ∷ digit (n / 10) ∷ digit n ∷ []) x l
    → Put t at (date_text n) x l
unfolding date_text
date_put n p q r s =
    let a : n / 1000000 / 10 ≡ n / 10000000 = omega arith in
    let b : n / 10000 / 10 ≡ n / 100000 = omega arith in
    let c : n / 100 / 10 ≡ n / 1000 = omega arith in
    rw (← a, ← b, ← c) (join p (join q (join r s)))

pub ruleset date_laws = (pair_put, hyphen_put, date_put)
