-- What a miss says of the parts of a reader that is put together.
use Rattle.text.specs.declared.stop.Cause.{Cause}
use Prim.Native.Nat.{ℕ, zero, suc, ◌+◌, ◌<◌}
use native.Mathlib.Omega.{arith}
use mathlib.Core.Path.{◌∙◌, sym, ◌≡◌, refl}
use mathlib.Core.List.{List, []}
use mathlib.Core.Bool.{Bool, true, false}
use borrow.Author.Tests.{eqb-true, lt-ltb}
use lib.ListN.{length, get_or}
use lib.Dec.{eqb}
use Rattle.text.specs.Answer.{To, Miss, Hard, ◌and◌, more, maybe, many, Ans, ◌else◌, must}
use Rattle.text.specs.Run.{blanks}
use Rattle.text.specs.Lines.{comment_end, eol_at, line_end_at, empty_at}
use Rattle.text.specs.Leaves.{token, empty_line}
use Rattle.amount.specs.Details.{Rows}
use Rattle.amount.specs.declared.detail.Detail.{Detail}
use Rattle.entry.specs.Forms.{as_entry}

pub to_miss : {A B : Type 0} {j : ℕ} {x : A} → To j x ≡ Miss → B
to_miss e = absurd (let z : ◌≡◌ {A = ℕ} 0 1 = cc in omega arith)

pub hard_miss : {A B : Type 0} {k : Cause} {p : ℕ} → ◌≡◌ {A = Ans A} (Hard k p) Miss → B
hard_miss e = absurd (let z : ◌≡◌ {A = ℕ} 0 1 = cc in omega arith)

pub no_maybe : (i : ℕ) (a : Rows) → maybe i a ≡ Miss → ⊥
unfolding maybe
no_maybe i (To k y) e = to_miss e
no_maybe i Miss e = to_miss e
no_maybe i (Hard k p) e = hard_miss e

pub no_must : (n : Cause) (i : ℕ) (a : Rows) → must n i a ≡ Miss → ⊥
unfolding must
no_must n i (To k y) e = to_miss e
no_must n i Miss e = hard_miss e
no_must n i (Hard k p) e = hard_miss e

pub no_miss : (f : ℕ → Rows) (d i : ℕ) → many f d i ≡ Miss → ⊥
unfolding many
no_miss f zero i e = to_miss e
no_miss f (suc d) i e = no_maybe i (f i and many f d) e

pub more_miss : {A : Type 0} (x : List A) (a : Ans (List A)) → more x a ≡ Miss → a ≡ Miss
unfolding more
more_miss x (To k y) e = to_miss e
more_miss x Miss e = refl
more_miss x (Hard k p) e = hard_miss e

-- a chain misses where its first part does, if the second never does
pub first_misses : (a : Rows) (g : ℕ → Rows) → ((j : ℕ) → g j ≡ Miss → ⊥) → (a and g) ≡ Miss → a ≡ Miss
unfolding ◌and◌
first_misses (To j x) g n e = absurd (n j (more_miss x (g j) e))
first_misses Miss g n e = refl
first_misses (Hard k p) g n e = hard_miss e

pub else_miss : {A : Type 0} (a b : Ans A) → (a else b) ≡ Miss → (a ≡ Miss) × (b ≡ Miss)
unfolding ◌else◌
else_miss (To k y) b e = to_miss e
else_miss Miss b e = (refl, e)
else_miss (Hard k p) b e = hard_miss e

pub miss_inv : (k d : ℕ) (a : Rows) → as_entry k d a ≡ Miss → a ≡ Miss
unfolding as_entry
miss_inv k d (To n x) e = to_miss e
miss_inv k d Miss e = refl
miss_inv k d (Hard n p) e = hard_miss e

-- an empty line reads where a line feed stands past blanks
feed_reads : (s : List ℕ) (i : ℕ) → i < length s → get_or s (blanks s i) 0 ≡ 10 → empty_line {A = Detail} s i ≡ To (blanks s i + 1) []
unfolding empty_line empty_at line_end_at comment_end eol_at token
feed_reads s i h g = rw (lt-ltb i (length s) h, g) (rw g)

pub blank_line : (s : List ℕ) (i : ℕ) → i < length s → empty_line {A = Detail} s i ≡ Miss → eqb (get_or s (blanks s i) 0) 10 ≡ false
blank_line s i h e = go (eqb (get_or s (blanks s i) 0) 10) refl
  where
    go : (b : Bool) → eqb (get_or s (blanks s i) 0) 10 ≡ b → b ≡ false
    go false f = refl
    go true f = let g = feed_reads s i h (eqb-true _ 10 f) in to_miss (sym g ∙ e)
