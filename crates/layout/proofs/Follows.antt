-- What misses where another reader does.
use Prim.Native.Nat.{ℕ}
use mathlib.Core.Path.{◌≡◌, refl}
use mathlib.Core.List.{List}
use Rattle.text.specs.Answer.{Ans, To, Miss, Hard, ◌then◌, ◌and◌, ◌else◌, more}
use Rattle.text.proofs.Alike.{Alike, both_to, both_miss, both_hard}
use Rattle.amount.specs.Details.{Rows}
use Rattle.entry.specs.Forms.{as_entry}
use Rattle.layout.proofs.Misses.{more_miss, hard_miss, to_miss}

abbrev pub Follow : {A B : Type 0} → Ans A → Ans B → Type 0
Follow a b = a ≡ Miss → b ≡ Miss

miss_more : {A : Type 0} (x : List A) {a : Ans (List A)} → a ≡ Miss → more x a ≡ Miss
unfolding more
miss_more x e = rw e

module _ {A : Type 0} {Q : Type 0} {K : ℕ → ℕ → Type 0} where
  pub alike_miss : {a b : Ans A} → Alike Q K a b → a ≡ Miss → b ≡ Miss
  alike_miss (both_to i j x y k t) e = to_miss e
  alike_miss both_miss e = refl
  alike_miss (both_hard k p q t) e = hard_miss e

  pub then_follow : {B : Type 0} {a b : Ans A} (g h : ℕ → A → Ans B) → Alike Q K a b → ((i j : ℕ) (x y : A) → K i j → Follow (g i x) (h j y)) → Follow (a then g) (b then h)
  unfolding ◌then◌
  then_follow g h (both_to i j x y k t) f = f i j x y k
  then_follow g h both_miss f = λ e. refl
  then_follow g h (both_hard k p q t) f = λ e. hard_miss e

  pub and_follow : {a b : Ans (List A)} (g h : ℕ → Ans (List A)) → Alike Q K a b → ((i j : ℕ) → K i j → Follow (g i) (h j)) → Follow (a and g) (b and h)
  unfolding ◌and◌
  and_follow g h (both_to i j x y k t) f = λ e. miss_more y (f i j k (more_miss x (g i) e))
  and_follow g h both_miss f = λ e. refl
  and_follow g h (both_hard k p q t) f = λ e. hard_miss e

pub else_follow : {A : Type 0} (a b c d : Ans A) → Follow a b → Follow c d → Follow (a else c) (b else d)
unfolding ◌else◌
else_follow (To k y) b c d f g e = to_miss e
else_follow Miss b c d f g e = rw (f refl) (g e)
else_follow (Hard k p) b c d f g e = hard_miss e

pub entry_follow : (k p q : ℕ) (a b : Rows) → Follow a b → Follow (as_entry k p a) (as_entry k q b)
unfolding as_entry
entry_follow k p q (To m x) b f e = to_miss e
entry_follow k p q Miss b f e = rw (f refl)
entry_follow k p q (Hard m x) b f e = hard_miss e
