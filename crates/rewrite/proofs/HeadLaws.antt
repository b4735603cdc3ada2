-- What the row of an entry writes, by its kind.
use Prim.Native.Nat.{ℕ, ◌≤◌, ◌<◌}
use native.Mathlib.Omega.{arith}
use mathlib.Core.Path.{◌≡◌}
use mathlib.Core.Bool.{cond}
use mathlib.Core.List.{List, [], ◌∷◌}
use borrow.Author.Tests.{le-leb, lt-leb, ne_eqb}
use Rattle.text.specs.Bytes.{bytes}
use Rattle.row.specs.declared.table.Row.{Row}
use Rattle.row.specs.Details.{spanned}
use Rattle.layout.specs.Meaning.{item_for, item_of}
use Rattle.layout.specs.Written.{date_text, head_text, closing}
use Rattle.rewrite.specs.steps.Putting.{Put}
use Rattle.rewrite.specs.steps.Pieces.{dated_text}
use Rattle.rewrite.proofs.PutLaws.{put_none, join}

-- ---- behind the date

module _ (k next : ℕ) (t u : List ℕ) (at r : ℕ) where
  pub dated_flag : k ≡ 6 → next ≡ 20 → Put t at (dated_text k next) t at
  unfolding dated_text
  dated_flag e f = rw (e, f) (put_none t at)

  pub dated_txn : k ≡ 6 → (next ≡ 20 → ⊥) → Put t at (bytes " txn") u r → Put t at (dated_text k next) u r
  unfolding dated_text
  dated_txn e f p = rw (e, ne_eqb next 20 f) p

  -- of a kind that is known
  pub dated_word : (n : ℕ) (w : List ℕ) → k ≡ n → dated_text n next ≡ w → Put t at w u r → Put t at (dated_text k next) u r
  dated_word n w e f p = rw (e, f) p

  pub dated_event : (k ≡ 6 → ⊥) → (k ≡ 7 → ⊥) → (k ≡ 8 → ⊥) → (k ≡ 9 → ⊥) → (k ≡ 10 → ⊥) → (k ≡ 11 → ⊥) → (k ≡ 12 → ⊥) → Put t at (bytes " event") u r
      → Put t at (dated_text k next) u r
  unfolding dated_text
  dated_event a b c d e f g p = rw (ne_eqb k 6 a, ne_eqb k 7 b, ne_eqb k 8 c, ne_eqb k 9 d, ne_eqb k 10 e, ne_eqb k 11 f, ne_eqb k 12 g) p

pub ruleset dated_laws = (dated_flag, dated_txn, dated_word, dated_event)

-- ---- an entry's row

-- p of an entry is its date
entry_number : (k p : ℕ) → k < 20 → cond (spanned k) 0 p ≡ p
unfolding spanned
entry_number k p h =
    rw (ne_eqb k 26 (λ z. omega arith), ne_eqb k 29 (λ z. omega arith), ne_eqb k 30 (λ z. omega arith), ne_eqb k 35 (λ z. omega arith), ne_eqb k 36 (λ z. omega arith), ne_eqb k 37 (λ z. omega arith))

module _ (s : List ℕ) (x : Row) (next : ℕ) (t u : List ℕ) (at r : ℕ) where
  -- of a kind that is known
  pub head_word : (n : ℕ) (w : List ℕ) → x.kind ≡ n → head_text (item_for s n x.start x.end x.p x.q x.bits) next ≡ w → Put t at w u r
      → Put t at (head_text (item_of s x) next) u r
  unfolding item_of
  head_word n w e f p = rw (e, f) p

  pub head_dated : {v : List ℕ} {q : ℕ} → x.kind < 20 → (x.kind ≡ 1 → ⊥) → (x.kind ≡ 2 → ⊥) → (x.kind ≡ 3 → ⊥) → (x.kind ≡ 4 → ⊥) → (x.kind ≡ 5 → ⊥)
      → Put t at (date_text x.p) u r → Put u r (dated_text x.kind next) v q → Put t at (head_text (item_of s x) next) v q
  unfolding head_text dated_text item_of
  head_dated h a b c d e p k =
      rw (ne_eqb x.kind 1 a, ne_eqb x.kind 2 b, ne_eqb x.kind 3 c, ne_eqb x.kind 4 d, ne_eqb x.kind 5 e, entry_number x.kind x.p h) (join p k)

pub ruleset head_laws = (head_word, head_dated)

-- ---- an entry's end

module _ (k : ℕ) (t u : List ℕ) (at r : ℕ) where
  pub close_none : k ≤ 1 → Put t at (closing k) t at
  unfolding closing
  close_none h = rw (le-leb k 1 h) (put_none t at)

  pub close_push : k ≡ 4 → Put t at (closing k) t at
  unfolding closing
  close_push e = rw e (put_none t at)

  pub close_pop : k ≡ 5 → Put t at (closing k) t at
  unfolding closing
  close_pop e = rw e (put_none t at)

  pub close_feed : 1 < k → (k ≡ 4 → ⊥) → (k ≡ 5 → ⊥) → Put t at (10 ∷ []) u r → Put t at (closing k) u r
  unfolding closing
  close_feed h a b p = rw (lt-leb k 1 h, ne_eqb k 4 a, ne_eqb k 5 b) p

pub ruleset close_laws = (close_none, close_push, close_pop, close_feed)
