-- Laws of answers that are no miss.
use Rattle.text.specs.declared.stop.Cause.{Cause}
use Prim.Native.Nat.{ℕ, zero, suc}
use mathlib.Core.List.{List}
use Rattle.text.specs.Answer.{To, Miss, Hard, must, ◌else◌, more, ◌and◌, maybe, many}
use Rattle.amount.specs.Details.{Rows}
use Rattle.amount.specs.declared.detail.Detail.{Detail}

pub data Sure : Rows → Type 0 where
  sure_to : {e : ℕ} {ds : List Detail} → Sure (To e ds)
  sure_hard : {k : Cause} {p : ℕ} → Sure (Hard k p)

pub sure_must : (n : Cause) (i : ℕ) (a : Rows) → Sure (must n i a)
unfolding must
sure_must n i (To e ds) = sure_to
sure_must n i Miss = sure_hard
sure_must n i (Hard k p) = sure_hard

pub sure_maybe : (i : ℕ) (a : Rows) → Sure (maybe i a)
unfolding maybe
sure_maybe i (To e ds) = sure_to
sure_maybe i Miss = sure_to
sure_maybe i (Hard k p) = sure_hard

pub sure_many : (f : ℕ → Rows) (d i : ℕ) → Sure (many f d i)
unfolding many
sure_many f zero i = sure_to
sure_many f (suc d) i = sure_maybe i (f i and many f d)

pub sure_else : (a b : Rows) → Sure b → Sure (a else b)
unfolding ◌else◌
sure_else (To e ds) b h = sure_to
sure_else Miss b h = h
sure_else (Hard k p) b h = sure_hard

pub sure_more : (xs : List Detail) {a : Rows} → Sure a → Sure (more xs a)
unfolding more
sure_more xs sure_to = sure_to
sure_more xs sure_hard = sure_hard

pub sure_and : {a : Rows} (g : ℕ → Rows) → Sure a → ((e : ℕ) → Sure (g e)) → Sure (a and g)
unfolding ◌and◌
sure_and g (sure_to {e} {ds}) k = sure_more ds (k e)
sure_and g sure_hard k = sure_hard

pub ruleset sures = (
  sure_to,
  sure_hard,
  sure_must,
  sure_maybe,
  sure_many,
  sure_else,
  sure_more,
  sure_and,
)
