-- What opens a transaction: the row of its flag comes first, or none where `txn` opens it; no other row is a flag's.
use Rattle.std.specs.Prelude.{None, Some}
use Prim.Native.Nat.{ℕ, ◌+◌, ◌≤◌}
use native.Mathlib.Omega.{arith}
use mathlib.Core.Path.{◌≡◌, refl, sym, ◌∙◌, ap}
use mathlib.Core.Bool.{Bool, true, false, cond}
use mathlib.Core.List.{List, [], ◌∷◌, ◌++◌}
use borrow.Author.Tests.{eqb-true}
use lib.Dec.{eqb}
use lib.ListN.{length, get_or, drop}
use Rattle.text.specs.Bytes.{bytes, is_small}
use Rattle.text.specs.Words.{starts_with, word_at}
use Rattle.text.specs.Answer.{To, Miss, Hard, ◌and◌, ◌else◌, more}
use Rattle.text.specs.Leaves.{token, word}
use Rattle.text.proofs.Steps.{head_drop}
use Rattle.text.proofs.TestLaws.{absurd_bool, and_left}
use Rattle.text.proofs.Joins.{Reach}
use Rattle.amount.specs.declared.detail.Detail.{Detail}
use Rattle.amount.specs.Details.{Rows, span}
use Rattle.amount.proofs.RowCounts.{flag_kind, any_kinds, unflagged, span_filled, Placed, placed_wide, Fits, and_fits}
use Rattle.posting.specs.Postings.{is_flag, flag, body}
use Rattle.posting.proofs.PostingFew.{body_fits}
use Rattle.transaction.specs.Transaction.{opening, transaction}
use Rattle.transaction.specs.steps.Heads.{texted_of}
use Rattle.transaction.proofs.TransactionEnds.{opening_reach}
use Rattle.transaction.proofs.ChainLaws.{opening_is, texted_reach, texted_unflagged}

-- ---- behind what opens it

texted_fits : (s : List ℕ) (at : ℕ) → at ≤ length s → Fits s at (texted_of s at and body s)
texted_fits s a q = and_fits (length s) a a (texted_of s a) _ (texted_reach s a q) (texted_unflagged s a q) (λ e p q. body_fits s e q)

-- ---- the flag of a transaction that starts at g

abbrev pub flag_rows : List ℕ → ℕ → List Detail
flag_rows s g = cond (is_flag (get_or s g 0)) (span flag_kind g (g + 1) ∷ []) []

-- where there is none, `txn` stands, which starts with a small letter
abbrev Unflagging : List ℕ → ℕ → Type 0
Unflagging s g = is_flag (get_or s g 0) ≡ false → is_small (get_or s g 0) ≡ true

abbrev Opening : List ℕ → ℕ → Rows → Type 0
Opening s g (To j xs) = (xs ≡ flag_rows s g) × (g + 1 ≤ j) × Unflagging s g
Opening s g Miss = Unit {0}
Opening s g (Hard k p) = Unit {0}

txn_head : (u : List ℕ) → starts_with (bytes "txn") u ≡ true → is_small (get_or u 0 0) ≡ true
unfolding starts_with bytes is_small
txn_head [] h = absurd_bool h
txn_head (b ∷ u) h = rw (eqb-true b 116 (and_left (eqb b 116) _ h))

opening_was : (s : List ℕ) (g : ℕ) → Opening s g (opening s g)
unfolding opening flag ◌and◌ ◌else◌ more word token word_at bytes
opening_was s g = go (is_flag (get_or s g 0)) (starts_with (bytes "txn") (drop g s)) refl refl
  where
    go : (t w : Bool) → is_flag (get_or s g 0) ≡ t → starts_with (bytes "txn") (drop g s) ≡ w
        → Opening s g ((cond t (To (g + 1) []) Miss and λ e. To e (span flag_kind g e ∷ [])) else token (cond w (Some (g + length (bytes "txn"))) None))
    go true w p q = (rw p, omega arith, λ f. absurd_bool (sym f ∙ p))
    go false true p q = (rw p, omega arith, λ _. ap is_small (sym (head_drop s g)) ∙ txn_head (drop g s) q)
    go false false p q = tt

-- ---- a transaction that starts at g and ends at n

pub record Opened (s : List ℕ) (g n : ℕ) (ds : List Detail) : Type 0 where
  pub others : List Detail
  pub rows : ds ≡ flag_rows s g ++ others
  pub placed : Placed unflagged s (g + 1) n others
  pub small : Unflagging s g

abbrev pub Opens : List ℕ → ℕ → Rows → Type 0
Opens s g (To n ds) = Opened s g n ds
Opens s g Miss = Unit {0}
Opens s g (Hard k p) = Unit {0}

pub transaction_opens : (s : List ℕ) (g : ℕ) → g ≤ length s → Opens s g (transaction s g)
unfolding ◌and◌ more
transaction_opens s g h = rw (opening_is s g) (on (opening s g) (opening_was s g) (opening_reach s g h))
  where
    behind : (j : ℕ) (xs : List Detail) (a : Rows) → Opening s g (To j xs) → Fits s j a → Opens s g (more xs a)
    behind j xs (To n ys) o r =
        record { others = ys; rows = ap (λ z. z ++ ys) o.0; placed = placed_wide _ _ s j n (g + 1) n ys (omega arith) o.1 (omega arith) r.rows; small = o.2 }
    behind j xs Miss o r = tt
    behind j xs (Hard k p) o r = tt

    on : (a : Rows) → Opening s g a → Reach (length s) g a → Opens s g (a and λ j. texted_of s j and body s)
    on (To j xs) o r = behind j xs (texted_of s j and body s) o (texted_fits s j r.ends.1)
    on Miss o r = tt
    on (Hard k p) o r = tt

-- all of its rows
pub opened_placed : (s : List ℕ) (g n : ℕ) (ds : List Detail) → Opened s g n ds → Placed any_kinds s g n ds
opened_placed s g n ds o = rw o.rows (go (is_flag (get_or s g 0)))
  where
    others : Placed any_kinds s g n o.others
    others = placed_wide unflagged any_kinds s (g + 1) n g n o.others (omega arith) (omega arith) (omega arith) o.placed

    go : (t : Bool) → Placed any_kinds s g n (cond t (span flag_kind g (g + 1) ∷ []) [] ++ o.others)
    go true = ((omega (arith, o.placed.1), span_filled, others.0), omega (arith, o.placed.1))
    go false = others
