-- The answers at prices and costs, each from what the code knows where it gives it.
use Rattle.text.proofs.TestLaws.{tried}
use Rattle.text.specs.declared.stop.Stop.{Stop}
use Rattle.text.specs.steps.Told.{Reading}
use Rattle.text.specs.declared.stop.Cause.{Cause}
use Rattle.std.specs.Prelude.{None, Option, Some, Err, Ok}
use Prim.Native.Nat.{ℕ, ◌+◌, ◌≤◌}
use native.Mathlib.Omega.{arith}
use mathlib.Core.Path.{◌≡◌, refl, sym, ◌∙◌}
use mathlib.Core.List.{List, [], ◌∷◌}
use borrow.Author.Tests.{ne_eqb, le-ltb}
use lib.ListN.{length, get_or}
use Rattle.text.specs.Bytes.{is_blank}
use Rattle.text.specs.Run.{blanks}
use Rattle.text.specs.Answer.{Ans, To, Miss, Hard, ◌then◌, ◌else◌, ◌and◌}
use Rattle.text.specs.Leaves.{token, dated, gap, currency, date, byte, comma}
use Rattle.text.specs.Lines.{gap_at, comma_at}
use Rattle.text.specs.Dates.{date_at}
use Rattle.text.specs.Currencies.{currency_at}
use Rattle.text.proofs.Steps.{get_d_past, byte_within, run_stops}
use Rattle.text.proofs.Joins.{else_none}
use Rattle.amount.specs.Details.{Rows, valued}
use Rattle.amount.specs.Expression.{expression}
use Rattle.amount.specs.Amounts.{amount}
use Rattle.amount.specs.steps.Answers.{one_of}
use Rattle.amount.specs.declared.detail.Detail.{Detail}
use Rattle.posting.specs.Costs.{price, Lot, lot, inside}
use Rattle.posting.specs.declared.cost.Inside.{Inside}
use Rattle.posting.specs.steps.Lots.{brace_at, lot_row, inside_with, lot_of, gap_amount, on_date, after_comma, amount_date, with_date, date_amount, alone, lot_else, date_first}
use Rattle.amount.proofs.OneRows.{OneRow, row, none, hard, token_to, token_miss, byte_at, byte_token, token_row, byte_row, else_row, then_row}

-- ---- amounts and prices

pub amount_row : (k : ℕ) (s : List ℕ) (at : ℕ) → 1 ≤ k → OneRow (amount k s at)
unfolding amount gap currency
amount_row k s at h =
    then_row (expression s at) _ (λ e v. token_row (gap_at s e) _ (λ c. token_row (currency_at s c) _ (λ d. row d (valued k at e c d v) h)))

module _ (k : ℕ) (s : List ℕ) (at : ℕ) (x : Option ℕ) (p : x ≡ gap_at s at) where
  pub gap_amount_on : (j : ℕ) (o : Reading Detail) → x ≡ Some j → o ≡ one_of (amount k s j) → o ≡ one_of (gap_amount k s at)
  unfolding gap_amount gap
  gap_amount_on j o q w = rw (token_to x (gap_at s at) p (amount k s) j q) w

  pub gap_amount_miss : x ≡ None → (Err Stop.Miss) ≡ one_of (gap_amount k s at)
  unfolding gap_amount gap one_of
  gap_amount_miss q = rw (token_miss x (gap_at s at) p (amount k s) q)

-- no gap starts with another byte
gap_not : (s : List ℕ) (at : ℕ) → get_or s at 0 ≡ 64 → gap_at s at ≡ None
unfolding gap_at is_blank
gap_not s at e =
    rw (run_stops is_blank s at (byte_within s at 64 (sym e) (omega arith)) (rw e), le-ltb at at (omega arith))

module _ (s : List ℕ) (at : ℕ) where
  -- one `@`, and two
  abbrev single : Rows
  single = byte 64 s at and gap_amount 29 s

  abbrev total : Rows
  total = byte 64 s at and λ i. byte 64 s i and gap_amount 30 s

  price_is : price s at ≡ (single else total)
  unfolding price gap_amount
  price_is = refl

  byte_here : (i : ℕ) (g : ℕ → Rows) → get_or s i 0 ≡ 64 → (byte 64 s i and g) ≡ g (i + 1)
  unfolding byte_at
  byte_here i g e = rw (byte_token 64 s i) (token_to (Some (i + 1)) (byte_at 64 s i) (rw e) g (i + 1) refl)

  byte_gone : (i : ℕ) (g : ℕ → Rows) → (get_or s i 0 ≡ 64 → ⊥) → (byte 64 s i and g) ≡ Miss
  unfolding byte_at
  byte_gone i g e = rw (byte_token 64 s i) (token_miss None (byte_at 64 s i) (rw (ne_eqb (get_or s i 0) 64 e)) g refl)

  pub price_total : (b : ℕ) (o : Reading Detail) → get_or s at 0 ≡ 64 → b ≡ get_or s (at + 1) 0 → b ≡ 64 → o ≡ one_of (gap_amount 30 s (at + 2)) → o ≡ one_of (price s at)
  unfolding ◌else◌ gap_amount gap
  price_total b o e p q w =
      let f : get_or s (at + 1) 0 ≡ 64 = sym p ∙ q in
      let two : at + 1 + 1 ≡ at + 2 = omega arith in
      let no : gap_amount 29 s (at + 1) ≡ Miss = token_miss (gap_at s (at + 1)) (gap_at s (at + 1)) refl (amount 29 s) (gap_not s (at + 1) f) in
      rw (price_is, byte_here at (gap_amount 29 s) e, no, byte_here at (λ i. byte 64 s i and gap_amount 30 s) e, byte_here (at + 1) (gap_amount 30 s) f, two) w

  pub price_single : (b : ℕ) (o : Reading Detail) → get_or s at 0 ≡ 64 → b ≡ get_or s (at + 1) 0 → (b ≡ 64 → ⊥) → o ≡ one_of (gap_amount 29 s (at + 1)) → o ≡ one_of (price s at)
  price_single b o e p q w =
      rw (
        price_is,
        byte_here at (gap_amount 29 s) e,
        byte_here at (λ i. byte 64 s i and gap_amount 30 s) e,
        byte_gone (at + 1) (gap_amount 30 s) (λ f. q (p ∙ f)),
        else_none (gap_amount 29 s (at + 1)),
      )
      w

  pub price_no : (get_or s at 0 ≡ 64 → ⊥) → (Err Stop.Miss) ≡ one_of (price s at)
  unfolding ◌else◌ one_of
  price_no e = rw (price_is, byte_gone at (gap_amount 29 s) e, byte_gone at (λ i. byte 64 s i and gap_amount 30 s) e)

  pub price_past : length s ≤ at → (Err Stop.Miss) ≡ one_of (price s at)
  price_past h = price_no (λ q. omega (arith, get_d_past s at h))

  pub price_row : OneRow (price s at)
  unfolding price gap
  price_row =
      else_row _ _ (byte_row 64 s at _ (λ i. token_row (gap_at s i) _ (λ g. amount_row 29 s g (omega arith))))
      (byte_row 64 s at _ (λ i. byte_row 64 s i _ (λ j. token_row (gap_at s j) _ (λ g. amount_row 30 s g (omega arith)))))

-- ---- blanks and a byte: b is past the blanks

module _ (s : List ℕ) (at b : ℕ) (p : b ≡ blanks s at) where
  pub brace_read : get_or s b 0 ≡ 125 → Some (b + 1) ≡ brace_at s at
  unfolding brace_at
  brace_read q = rw (← p, q)

  pub brace_no : (get_or s b 0 ≡ 125 → ⊥) → None ≡ brace_at s at
  unfolding brace_at
  brace_no q = rw (← p, ne_eqb (get_or s b 0) 125 q)

  pub brace_past : length s ≤ b → None ≡ brace_at s at
  brace_past h = brace_no (λ q. omega (arith, get_d_past s b h))

-- ---- the five forms, by the arms of the matches

module _ (s : List ℕ) (a : Reading Detail) where
  module _ (e : ℕ) (n : Detail) (p : a ≡ Ok (e, n)) (c : Option ℕ) (q : c ≡ comma_at s e) where
    module _ (f : ℕ) (u : c ≡ Some f) (d : Option (ℕ × ℕ)) (v : d ≡ date_at s f) where
      pub amount_date_read : (g y w : ℕ) (i : Inside) → d ≡ Some (g, y) → w ≡ y → i ≡ inside_with w (Some n) → Ok (g, i) ≡ amount_date s a
      unfolding amount_date after_comma on_date
      amount_date_read g y w i k m z = rw (p, ← q, u, ← v, k, z, m)

      pub amount_date_open : d ≡ None → Err Stop.Miss ≡ amount_date s a
      unfolding amount_date after_comma on_date
      amount_date_open k = rw (p, ← q, u, ← v, k)

    pub amount_date_bare : c ≡ None → Err Stop.Miss ≡ amount_date s a
    unfolding amount_date after_comma
    amount_date_bare u = rw (p, ← q, u)

  pub amount_date_stop : (stop : Stop) → a ≡ Err stop → Err stop ≡ amount_date s a
  unfolding amount_date
  amount_date_stop stop p = rw p

module _ (s : List ℕ) (d : Option (ℕ × ℕ)) where
  module _ (e y : ℕ) (p : d ≡ Some (e, y)) (c : Option ℕ) (q : c ≡ comma_at s e) where
    module _ (f : ℕ) (u : c ≡ Some f) (a : Reading Detail) (v : a ≡ one_of (amount 26 s f)) where
      pub date_amount_read : (g w : ℕ) (n : Detail) (i : Inside) → a ≡ Ok (g, n) → w ≡ y → i ≡ inside_with w (Some n) → Ok (g, i) ≡ date_amount s d
      unfolding date_amount after_comma with_date
      date_amount_read g w n i k m z = rw (p, ← q, u, ← v, k, z, m)

      pub date_amount_stop : (stop : Stop) → a ≡ Err stop → Err stop ≡ date_amount s d
      unfolding date_amount after_comma with_date
      date_amount_stop stop w = rw (p, ← q, u, ← v, w)

    pub date_amount_bare : c ≡ None → Err Stop.Miss ≡ date_amount s d
    unfolding date_amount after_comma
    date_amount_bare u = rw (p, ← q, u)

  pub date_amount_miss : d ≡ None → Err Stop.Miss ≡ date_amount s d
  unfolding date_amount
  date_amount_miss p = rw p

module _ (at : ℕ) (a : Reading Detail) (d : Option (ℕ × ℕ)) where
  pub alone_amount : (e : ℕ) (n : Detail) → a ≡ Ok (e, n) → Ok (e, inside_with 0 (Some n)) ≡ alone at a d
  unfolding alone
  alone_amount e n p = rw p

  pub alone_hard : (k : Cause) (i : ℕ) → a ≡ Err (Stop.Hard k i) → Err (Stop.Hard k i) ≡ alone at a d
  unfolding alone
  alone_hard k i p = rw p

  module _ (f : Stop) (g : a ≡ Err f) (h : f ≡ Stop.Miss) where
    missed : a ≡ Err Stop.Miss
    missed = rw (g, h)

    pub alone_date : (e y w : ℕ) (i : Inside) → d ≡ Some (e, y) → w ≡ y → i ≡ inside_with w None → Ok (e, i) ≡ alone at a d
    unfolding alone
    alone_date e y w i q v z = rw (missed, q, z, v)

    pub alone_none : d ≡ None → Ok (at, inside_with 0 None) ≡ alone at a d
    unfolding alone
    alone_none q = rw (missed, q)

-- x is what the first form gave
module _ (s : List ℕ) (at : ℕ) (a : Reading Detail) (d : Option (ℕ × ℕ)) (x : Reading Inside) (v : d ≡ date_at s at) (p : x ≡ date_amount s d) where
  pub first_read : (y : ℕ × Inside) → x ≡ Ok y → x ≡ date_first s at a
  unfolding date_first lot_else
  first_read y q = rw (← v, ← p, q)

  pub first_next : (o : Reading Inside) → x ≡ Err Stop.Miss → o ≡ alone at a d → o ≡ date_first s at a
  unfolding date_first lot_else
  first_next o q w = rw (← v, ← p, q) w

  pub first_hard : (k : Cause) (i : ℕ) → x ≡ Err (Stop.Hard k i) → Err (Stop.Hard k i) ≡ date_first s at a
  unfolding date_first lot_else
  first_hard k i q = rw (← v, ← p, q)

-- ---- the five forms of the rule are those of the code

lot_else_lem : (a b : Ans Lot) {x y : Reading Inside} → lot_of a ≡ x → lot_of b ≡ y → lot_of (a else b) ≡ lot_else x y
unfolding ◌else◌ lot_of lot_else
lot_else_lem (To e l) b p q = rw (← p)
lot_else_lem Miss b p q = rw (← p) q
lot_else_lem (Hard k i) b p q = rw (← p)

on_date_lem : (f : ℕ) (n : Detail) (d : Option (ℕ × ℕ)) → lot_of (dated d then λ e y. To e (lot y (n ∷ []))) ≡ on_date f n d
unfolding dated ◌then◌ lot_of lot_row on_date
on_date_lem f n (Some (g, y)) = refl
on_date_lem f n None = refl

with_date_lem : (y : ℕ) (a : Rows) → OneRow a → lot_of (a then λ e rs. To e (lot y rs)) ≡ with_date y (one_of a)
unfolding ◌then◌ lot_of lot_row with_date one_of
with_date_lem y a (row j d h) = refl
with_date_lem y a none = refl
with_date_lem y a (hard k p) = refl

module _ (s : List ℕ) where
  then_date : (n : Detail) (c : Option ℕ) → lot_of (token {A = Detail} c then λ j _. date s j then λ e y. To e (lot y (n ∷ []))) ≡ after_comma c (λ f. on_date f n (date_at s f))
  unfolding token ◌then◌ after_comma date lot_of
  then_date n (Some f) = on_date_lem f n (date_at s f)
  then_date n None = refl

  then_amount : (y : ℕ) (c : Option ℕ)
      → lot_of (token {A = Detail} c then λ j _. amount 26 s j then λ e rs. To e (lot y rs)) ≡ after_comma c (λ f. with_date y (one_of (amount 26 s f)))
  unfolding token ◌then◌ after_comma lot_of
  then_amount y (Some f) = with_date_lem y (amount 26 s f) (amount_row 26 s f (omega arith))
  then_amount y None = refl

  is_amount_date : (a : Rows) → OneRow a → lot_of (a then λ i rs. comma {A = Detail} s i then λ j _. date s j then λ e y. To e (lot y rs)) ≡ amount_date s (one_of a)
  unfolding comma ◌then◌ amount_date one_of lot_of
  is_amount_date a (row j d h) = then_date d (comma_at s j)
  is_amount_date a none = refl
  is_amount_date a (hard k p) = refl

  is_date_amount : (d : Option (ℕ × ℕ)) → lot_of (dated d then λ i y. comma {A = Detail} s i then λ j _. amount 26 s j then λ e rs. To e (lot y rs)) ≡ date_amount s d
  unfolding comma dated ◌then◌ date_amount lot_of
  is_date_amount (Some (i, y)) = then_amount y (comma_at s i)
  is_date_amount None = refl

is_alone : (at : ℕ) (a : Rows) (d : Option (ℕ × ℕ)) → OneRow a
    → lot_of ((a then λ e rs. To e (lot 0 rs)) else (dated d then λ e y. To e (lot y [])) else To at (lot 0 [])) ≡ alone at (one_of a) d
unfolding dated ◌then◌ ◌else◌ alone one_of lot_of lot_row
is_alone at a d (row j n h) = refl
is_alone at a (Some (e, y)) none = refl
is_alone at a None none = refl
is_alone at a d (hard k p) = refl

inside_is : (s : List ℕ) (at : ℕ) → lot_of (inside s at) ≡ lot_else (amount_date s (one_of (amount 26 s at))) (date_first s at (one_of (amount 26 s at)))
unfolding inside date date_first
inside_is s at =
    let h = amount_row 26 s at (omega arith) in
    lot_else_lem _ _ (is_amount_date s (amount 26 s at) h) (lot_else_lem _ _ (is_date_amount s (date_at s at)) (is_alone at (amount 26 s at) (date_at s at) h))

module _ (s : List ℕ) (at : ℕ) (a : Reading Detail) (x : Reading Inside) (v : a ≡ one_of (amount 26 s at)) (p : x ≡ amount_date s a) where
  pub inside_read : (y : ℕ × Inside) → x ≡ Ok y → x ≡ lot_of (inside s at)
  unfolding lot_else
  inside_read y q = rw (inside_is s at, ← v, ← p, q)

  pub inside_next : (o : Reading Inside) → x ≡ Err Stop.Miss → o ≡ date_first s at a → o ≡ lot_of (inside s at)
  unfolding lot_else
  inside_next o q w = rw (inside_is s at, ← v, ← p, q) w

  pub inside_hard : (k : Cause) (i : ℕ) → x ≡ Err (Stop.Hard k i) → Err (Stop.Hard k i) ≡ lot_of (inside s at)
  unfolding lot_else
  inside_hard k i q = rw (inside_is s at, ← v, ← p, q)

pub ruleset gap_amount_laws = (tried, gap_amount_on, gap_amount_miss)

pub ruleset price_laws = (price_total, price_single, price_no, price_past)

pub ruleset brace_laws = (brace_read, brace_no, brace_past)

pub ruleset amount_date_laws = (tried, amount_date_read, amount_date_open, amount_date_bare, amount_date_stop)

pub ruleset date_amount_laws = (tried, date_amount_read, date_amount_stop, date_amount_bare, date_amount_miss)

pub ruleset alone_laws = (alone_amount, alone_date, alone_none, alone_hard)

pub ruleset first_laws = (first_read, first_next, first_hard)

pub ruleset inside_laws = (inside_read, inside_next, inside_hard)
