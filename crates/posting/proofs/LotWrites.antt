-- Prices and costs as they are written, each answer from what the code knows where it gives it.
use Rattle.text.proofs.TestLaws.{ok_pair, tried}
use Rattle.text.specs.declared.stop.Stop.{Stop}
use Rattle.text.specs.steps.Told.{Reading}
use Rattle.text.specs.declared.stop.Cause.{Cause}
use Rattle.std.specs.Prelude.{None, Option, Some, Err, Ok}
use Prim.Native.Nat.{ℕ, ◌+◌, ◌≤◌}
use native.Mathlib.Omega.{arith}
use mathlib.Core.Path.{◌≡◌, refl, ◌∙◌, ap, sym}
use mathlib.Core.List.{List, [], ◌∷◌, map}
use borrow.Author.Tests.{ne_eqb}
use lib.ListN.{length, get_or}
use Rattle.text.specs.Run.{blanks}
use Rattle.text.specs.Answer.{Ans, To, Miss, Hard, ◌then◌, ◌else◌, ◌and◌, maybe}
use Rattle.text.specs.Leaves.{gap, date, byte, comma}
use Rattle.text.specs.Lines.{gap_at}
use Rattle.text.proofs.Steps.{get_d_past}
use Rattle.amount.specs.Details.{Rows, named}
use Rattle.amount.specs.Amounts.{amount}
use Rattle.amount.specs.steps.Answers.{one_of}
use Rattle.amount.specs.declared.detail.Detail.{Detail}
use Rattle.row.specs.steps.Pouring.{pour_at}
use Rattle.row.specs.steps.Writing.{laid, some_row, noted, outs, Did}
use Rattle.row.specs.declared.writer.Out.{Out}
use Rattle.row.proofs.DidLaws.{did_read, did_miss, did_hard, did_none, did_emit, maybe_kept, maybe_miss, maybe_hard}
use Rattle.posting.specs.Costs.{price, Lot, lot, inside, cost}
use Rattle.posting.specs.declared.cost.Inside.{Inside}
use Rattle.posting.specs.steps.Lots.{brace_at, lot_row, lot_of, optional_price, optional_cost}
use Rattle.amount.proofs.OneRows.{OneRow, row, none, hard, one_read, one_miss, one_hard, token_to, token_miss, byte_at, byte_token}
use Rattle.posting.proofs.LotLaws.{amount_row, price_row}

-- ---- an optional price: g is the gap's answer, x the price's

module _ (base : ℕ) (s : List ℕ) (at : ℕ) (o : Out) (t : List ℕ) (g : Option ℕ) (p : g ≡ gap_at s at) where
  pub price_bare : g ≡ None → Did base (optional_price s at) o t t (Ok (at, o))
  unfolding optional_price gap maybe
  price_bare q = rw (token_miss g (gap_at s at) p (price s) q) (did_none base o t at)

  module _ (j : ℕ) (q : g ≡ Some j) (x : Reading Detail) (v : x ≡ one_of (price s j)) where
    pub price_read : (e : ℕ) (d : Detail) (m : Out) (u : List ℕ) → x ≡ Ok (e, d) → m ≡ noted o d → u ≡ pour_at o.rows (laid base d ∷ []) t
        → Did base (optional_price s at) o t u (Ok (e, m))
    unfolding optional_price gap maybe
    price_read e d m u k w z = rw (token_to g (gap_at s at) p (price s) j q, one_read x e d (price_row s j) v k) (did_emit base o t e d d m u w z refl)

    pub price_miss : x ≡ (Err Stop.Miss) → Did base (optional_price s at) o t t (Ok (at, o))
    unfolding optional_price gap maybe
    price_miss k = rw (token_to g (gap_at s at) p (price s) j q, one_miss x (price_row s j) v k) (did_none base o t at)

    pub price_hard : (n : Cause) (i : ℕ) (u : List ℕ) → x ≡ Err (Stop.Hard n i) → Did base (optional_price s at) o t u (Err (Stop.Hard n i))
    unfolding optional_price gap maybe
    price_hard n i u k = rw (token_to g (gap_at s at) p (price s) j q, one_hard (price s j) x n i v k) refl

-- ---- a lot has one row of a kind that is not 0, or none

data Lotted : Ans Lot → Type 0 where
  bare : (e y : ℕ) → Lotted (To e (lot y []))
  full : (e y : ℕ) (d : Detail) → 1 ≤ d.kind → Lotted (To e (lot y (d ∷ [])))
  missed : Lotted Miss
  refused : (k : Cause) (p : ℕ) → Lotted (Hard k p)

else_lotted : (a b : Ans Lot) → Lotted a → Lotted b → Lotted (a else b)
unfolding ◌else◌
else_lotted a b (bare e y) h = bare e y
else_lotted a b (full e y d k) h = full e y d k
else_lotted a b missed h = h
else_lotted a b (refused k p) h = refused k p

then_lotted : {A : Type 0} (a : Ans A) (f : ℕ → A → Ans Lot) → ((j : ℕ) (x : A) → Lotted (f j x)) → Lotted (a then f)
unfolding ◌then◌
then_lotted (To j x) f h = h j x
then_lotted Miss f h = missed
then_lotted (Hard k p) f h = refused k p

row_lotted : (a : Rows) (f : ℕ → List Detail → Ans Lot) → OneRow a → ((j : ℕ) (d : Detail) → 1 ≤ d.kind → Lotted (f j (d ∷ []))) → Lotted (a then f)
unfolding ◌then◌
row_lotted a f (row j d k) h = h j d k
row_lotted a f none h = missed
row_lotted a f (hard k p) h = refused k p

inside_lotted : (s : List ℕ) (at : ℕ) → Lotted (inside s at)
unfolding inside
inside_lotted s at =
    let A = amount_row 26 s at (omega arith) in
    else_lotted _ _ (row_lotted (amount 26 s at) _ A (λ i n k. then_lotted (comma s i) _ (λ j _. then_lotted (date s j) _ (λ e y. full e y n k))))
    (else_lotted _ _
    (then_lotted (date s at) _ (λ i y. then_lotted (comma s i) _ (λ j _. row_lotted (amount 26 s j) _ (amount_row 26 s j (omega arith)) (λ e n k. full e y n k))))
    (else_lotted _ _ (row_lotted (amount 26 s at) _ A (λ e n k. full e 0 n k))
    (else_lotted _ _ (then_lotted (date s at) _ (λ e y. bare e y)) (bare at 0))))

-- what the code's lot r tells of the rule's
lot_read : {a : Ans Lot} (r : Reading Inside) (e : ℕ) (l : Inside) → Lotted a → r ≡ lot_of a → r ≡ Ok (e, l) → a ≡ To e (lot l.date (some_row l.amount))
unfolding lot_of lot_row some_row
lot_read r e l (bare f z) p q = let i = ok_pair (sym p ∙ q) in rw (← i.1, i.0)
lot_read r e l (full f z d k) p q = let i = ok_pair (sym p ∙ q) in rw (← i.1, i.0)
lot_read r e l missed p q = cc
lot_read r e l (refused k i) p q = cc

lot_miss : (a : Ans Lot) (r : Reading Inside) → r ≡ lot_of a → r ≡ Err Stop.Miss → a ≡ Miss
unfolding lot_of
lot_miss (To e l) r p q = cc
lot_miss Miss r p q = refl
lot_miss (Hard k i) r p q = cc

lot_hard : (a : Ans Lot) (r : Reading Inside) (k : Cause) (i : ℕ) → r ≡ lot_of a → r ≡ Err (Stop.Hard k i) → a ≡ Hard k i
unfolding lot_of
lot_hard (To e l) r k i p q = cc
lot_hard Miss r k i p q = cc
lot_hard (Hard n j) r k i p q = cc

-- ---- a cost: b is past the blanks after `{`, x what stands inside, c the answer of blanks and `}`

module _ (s : List ℕ) (at : ℕ) where
  -- after what stands inside
  abbrev closes : ℕ → Lot → Rows
  closes e l = byte 125 s (blanks s e) and λ f. To f (named 28 at f l.when 0 ∷ l.rows)

  cost_in : (b : ℕ) → get_or s at 0 ≡ 123 → b ≡ blanks s (at + 1) → cost s at ≡ (inside s b then closes)
  unfolding cost byte_at
  cost_in b h p =
      rw (byte_token 123 s at, token_to (Some (at + 1)) (byte_at 123 s at) (rw h) (λ i. inside s (blanks s i) then closes) (at + 1) refl, p)

  cost_out : (get_or s at 0 ≡ 123 → ⊥) → cost s at ≡ Miss
  unfolding cost byte_at
  cost_out h =
      rw (byte_token 123 s at) (token_miss None (byte_at 123 s at) (rw (ne_eqb (get_or s at 0) 123 h)) (λ i. inside s (blanks s i) then closes) refl)

  module _ (e : ℕ) (l : Lot) (c : Option ℕ) (w : c ≡ brace_at s e) where
    closes_to : (f : ℕ) → c ≡ Some f → closes e l ≡ To f (named 28 at f l.when 0 ∷ l.rows)
    unfolding brace_at byte_at
    closes_to f q = rw (byte_token 125 s (blanks s e)) (token_to c (byte_at 125 s (blanks s e)) w (λ f. To f (named 28 at f l.when 0 ∷ l.rows)) f q)

    closes_miss : c ≡ None → closes e l ≡ Miss
    unfolding brace_at byte_at
    closes_miss q = rw (byte_token 125 s (blanks s e)) (token_miss c (byte_at 125 s (blanks s e)) w (λ f. To f (named 28 at f l.when 0 ∷ l.rows)) q)

  module _ (base : ℕ) (o : Out) (t : List ℕ) where
    pub cost_no : (get_or s at 0 ≡ 123 → ⊥) → Did base (cost s at) o t t (Err Stop.Miss)
    cost_no h = did_miss base o t (cost s at) (cost_out h)

    pub cost_past : length s ≤ at → Did base (cost s at) o t t (Err Stop.Miss)
    cost_past h = cost_no (λ q. omega (arith, get_d_past s at h))

    module _ (h : get_or s at 0 ≡ 123) (b : ℕ) (p : b ≡ blanks s (at + 1)) (x : Reading Inside) (v : x ≡ lot_of (inside s b)) where
      pub cost_stop : (stop : Stop) → x ≡ Err stop → Did base (cost s at) o t t (Err stop)
      unfolding ◌then◌
      cost_stop Stop.Miss q = did_miss base o t (cost s at) (cost_in b h p ∙ ap (λ (a : Ans Lot). a then closes) (lot_miss (inside s b) x v q))
      cost_stop (Stop.Hard k i) q = did_hard base o t (cost s at) k i t (cost_in b h p ∙ ap (λ (a : Ans Lot). a then closes) (lot_hard (inside s b) x k i v q))

      module _ (e : ℕ) (l : Inside) (q : x ≡ Ok (e, l)) (c : Option ℕ) (w₀ : c ≡ brace_at s e) where
        abbrev held : Lot
        held = lot l.date (some_row l.amount)

        cost_closes : cost s at ≡ closes e held
        unfolding ◌then◌
        cost_closes = cost_in b h p ∙ ap (λ (a : Ans Lot). a then closes) (lot_read x e l (inside_lotted s b) v q)

        pub cost_open : c ≡ None → Did base (cost s at) o t t (Err Stop.Miss)
        cost_open k = did_miss base o t (cost s at) (cost_closes ∙ closes_miss e held c w₀ k)

        pub cost_read : (f : ℕ) (z : Detail) (m : Out) (u : List ℕ) → c ≡ Some f → z ≡ named 28 at f l.date 0 → m ≡ outs o (z ∷ some_row l.amount)
            → u ≡ pour_at o.rows (map (laid base) (z ∷ some_row l.amount)) t → Did base (cost s at) o t u (Ok (f, m))
        cost_read f z m u k d w r = did_read base o t (cost s at) f (z ∷ some_row l.amount) m u (rw d (cost_closes ∙ closes_to e held c w₀ f k)) (w, r)

-- ---- an optional cost: g is the gap's answer, r the cost's

module _ (base : ℕ) (s : List ℕ) (at : ℕ) (o : Out) (t : List ℕ) (g : Option ℕ) (p : g ≡ gap_at s at) where
  pub cost_bare : g ≡ None → Did base (optional_cost s at) o t t (Ok (at, o))
  unfolding optional_cost gap maybe
  cost_bare q = rw (token_miss g (gap_at s at) p (cost s) q) (did_none base o t at)

  module _ (j : ℕ) (q : g ≡ Some j) (v : List ℕ) (r : Reading Out) (d : Did base (cost s j) o t v r) where
    pub cost_there : (x : ℕ × Out) → r ≡ Ok x → Did base (optional_cost s at) o t v r
    unfolding optional_cost gap
    cost_there x k = rw (token_to g (gap_at s at) p (cost s) j q) (maybe_kept base o t v r at (cost s j) d x k)

    pub cost_gone : r ≡ (Err Stop.Miss) → Did base (optional_cost s at) o t v (Ok (at, o))
    unfolding optional_cost gap
    cost_gone k = rw (token_to g (gap_at s at) p (cost s) j q) (maybe_miss base o t v r at (cost s j) d k)

    pub cost_refused : (n : Cause) (i : ℕ) (u : List ℕ) → r ≡ Err (Stop.Hard n i) → Did base (optional_cost s at) o t u (Err (Stop.Hard n i))
    unfolding optional_cost gap
    cost_refused n i u k = rw (token_to g (gap_at s at) p (cost s) j q) (maybe_hard base o t v r at (cost s j) d n i u k)

pub ruleset optional_price_laws = (price_bare, price_read, price_miss, price_hard)

pub ruleset cost_laws = (tried, cost_no, cost_past, cost_stop, cost_open, cost_read)

pub ruleset optional_cost_laws = (cost_bare, cost_there, cost_gone, cost_refused)
