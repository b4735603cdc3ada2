-- Readers that make exactly one row where they read, of a kind that is not 0: what the code's answer tells of the
-- rule's, and the joins of such readers.
use Rattle.text.proofs.TestLaws.{ok_pair}
use Rattle.text.specs.declared.stop.Stop.{Stop}
use Rattle.text.specs.steps.Told.{Reading}
use Rattle.text.specs.declared.stop.Cause.{Cause}
use Rattle.std.specs.Prelude.{None, Option, Some, Err, Ok}
use Prim.Native.Nat.{ℕ, ◌+◌, ◌≤◌}
use mathlib.Core.Path.{◌≡◌, refl, sym, ◌∙◌}
use mathlib.Core.Bool.{Bool, true, false, cond}
use mathlib.Core.List.{List, [], ◌∷◌}
use lib.Dec.{eqb}
use lib.ListN.{get_or}
use Rattle.text.specs.Answer.{Ans, To, Miss, Hard, ◌then◌, ◌else◌, more, ◌and◌}
use Rattle.text.specs.Leaves.{token, byte}
use Rattle.amount.specs.Details.{Rows}
use Rattle.amount.specs.steps.Answers.{one_of}
use Rattle.amount.specs.declared.detail.Detail.{Detail}

-- ---- exactly one row

pub data OneRow : Rows → Type 0 where
  row : (j : ℕ) (d : Detail) → 1 ≤ d.kind → OneRow (To j (d ∷ []))
  none : OneRow Miss
  hard : (k : Cause) (p : ℕ) → OneRow (Hard k p)

-- what the arms of a match on such a reader's answer tell
pub one_read : {a : Rows} (r : Reading Detail) (j : ℕ) (d : Detail) → OneRow a → r ≡ one_of a → r ≡ Ok (j, d) → a ≡ To j (d ∷ [])
unfolding one_of
one_read r j d (row i c h) p q = let e = ok_pair (sym p ∙ q) in rw (e.0, e.1)
one_read r j d none p q = cc
one_read r j d (hard k n) p q = cc

pub one_miss : {a : Rows} (r : Reading Detail) → OneRow a → r ≡ one_of a → r ≡ (Err Stop.Miss) → a ≡ Miss
unfolding one_of
one_miss r (row i c h) p q = cc
one_miss r none p q = refl
one_miss r (hard k n) p q = cc

pub one_hard : (a : Rows) (r : Reading Detail) (k : Cause) (p : ℕ) → r ≡ one_of a → r ≡ Err (Stop.Hard k p) → a ≡ Hard k p
unfolding one_of
one_hard (To j []) r k p e q = cc
one_hard (To j (d ∷ ds)) r k p e q = cc
one_hard Miss r k p e q = cc
one_hard (Hard i n) r k p e q = cc

-- ---- a token, and then another reader

pub more_none : (a : Rows) → more [] a ≡ a
unfolding more
more_none (To j xs) = refl
more_none Miss = refl
more_none (Hard k p) = refl

-- x is the token's answer, v the rule's
module _ (x v : Option ℕ) (p : x ≡ v) (g : ℕ → Rows) where
  pub token_to : (j : ℕ) → x ≡ Some j → (token v and g) ≡ g j
  unfolding token ◌and◌
  token_to j e = rw (← p, e) (more_none (g j))

  pub token_miss : x ≡ None → (token v and g) ≡ Miss
  unfolding token ◌and◌
  token_miss e = rw (← p, e)

-- a byte is a token
unfoldable pub byte_at : ℕ → List ℕ → ℕ → Option ℕ
byte_at b s at = cond (eqb (get_or s at 0) b) (Some (at + 1)) None

pub byte_token : (b : ℕ) (s : List ℕ) (at : ℕ) → byte b s at ≡ token {A = Detail} (byte_at b s at)
unfolding byte byte_at token
byte_token b s at = go (eqb (get_or s at 0) b)
  where
    go : (t : Bool) → cond t (To (at + 1) []) Miss ≡ token {A = Detail} (cond t (Some (at + 1)) None)
    go true = refl
    go false = refl

-- ---- joins that make one row

pub token_row : (x : Option ℕ) (g : ℕ → Rows) → ((j : ℕ) → OneRow (g j)) → OneRow (token x and g)
unfolding token ◌and◌
token_row (Some j) g h = rw (more_none (g j)) (h j)
token_row None g h = none

pub byte_row : (b : ℕ) (s : List ℕ) (at : ℕ) (g : ℕ → Rows) → ((j : ℕ) → OneRow (g j)) → OneRow (byte b s at and g)
byte_row b s at g h = rw (byte_token b s at) (token_row (byte_at b s at) g h)

-- a token after the row
pub row_token : (a : Rows) (x : ℕ → Option ℕ) → OneRow a → OneRow (a and λ e. token (x e))
unfolding ◌and◌ more token
row_token a x (row j d h) = go (x j)
  where
    go : (y : Option ℕ) → OneRow (more (d ∷ []) (token y))
    go (Some k) = row k d h
    go None = none
row_token a x none = none
row_token a x (hard k p) = hard k p

pub else_row : (a b : Rows) → OneRow a → OneRow b → OneRow (a else b)
unfolding ◌else◌
else_row a b (row j d k) h = row j d k
else_row a b none h = h
else_row a b (hard k p) h = hard k p

pub then_row : {A : Type 0} (a : Ans A) (f : ℕ → A → Rows) → ((j : ℕ) (x : A) → OneRow (f j x)) → OneRow (a then f)
unfolding ◌then◌
then_row (To j x) f h = h j x
then_row Miss f h = none
then_row (Hard k p) f h = hard k p
