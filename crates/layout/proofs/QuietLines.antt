-- Two texts that hold the same line, without a quote, and go on otherwise: they share the line, and no string starts
-- in it.
use Prim.Native.Nat.{ℕ, ◌+◌, ◌<◌}
use native.Mathlib.Omega.{arith}
use mathlib.Core.Path.{◌≡◌, refl, sym, ◌∙◌}
use mathlib.Core.Bool.{false}
use mathlib.Core.List.{List, [], ◌∷◌, ◌++◌}
use lib.Dec.{eqb}
use lib.ListN.{length, get_or, length-append}
use Rattle.text.specs.Answer.{Ans}
use Rattle.text.proofs.TestLaws.{absurd_bool}
use Rattle.text.proofs.Ats.{At, at_one, at_byte}
use Rattle.text.proofs.Alike.{Alike}
use Rattle.text.proofs.SharedLines.{Shared}

-- the rest of a line that holds no quote
pub data Line : List ℕ → Type 0 where
  last : Line (10 ∷ [])
  on : (x : ℕ) {u : List ℕ} → eqb x 10 ≡ false → eqb x 34 ≡ false → Line u → Line (x ∷ u)

pub line_some : {u : List ℕ} → Line u → 0 < length u
line_some last = omega arith
line_some (on x e f L) = omega arith

pub line_head : {u : List ℕ} → Line u → (r v : List ℕ) → get_or (u ++ r) 0 0 ≡ get_or (u ++ v) 0 0
line_head last r v = refl
line_head (on x e f L) r v = refl

-- places where the same of the line is left
pub record Spot (s z : List ℕ) (i j : ℕ) : Type 0 where
  pub u : List ℕ
  pub r : List ℕ
  pub v : List ℕ
  pub line : Line u
  pub here : At s i (u ++ r)
  pub there : At z j (u ++ v)

-- of places behind it nothing is said
abbrev pub Behind : ℕ → ℕ → Type 0
Behind i j = Unit {0}

-- two readings that leave such places; nothing is said of what they read
abbrev pub Twin : {A : Type 0} → (s z : List ℕ) → Ans A → Ans A → Type 0
Twin s z a b = Alike ⊥ (Spot s z) a b

abbrev pub LineTwin : {A : Type 0} → Ans A → Ans A → Type 0
LineTwin a b = Alike ⊥ Behind a b

module _ {s z : List ℕ} where
  pub spot_quote : {i j : ℕ} → Spot s z i j → eqb (get_or s i 0) 34 ≡ false
  spot_quote S = rw (at_byte S.here) (go S.line)
    where
      go : {u : List ℕ} → Line u → eqb (get_or (u ++ S.r) 0 0) 34 ≡ false
      go last = refl
      go (on x e f L) = f

  next : (i j : ℕ) (u r v : List ℕ) → Line u → At s i (u ++ r) → At z j (u ++ v) → eqb (get_or (u ++ r) 0 0) 10 ≡ false → Spot s z (i + 1) (j + 1)
  next i j u r v last A B e = absurd_bool (sym e)
  next i j u r v (on x {u = w} p q L) A B e = record { u = w; r = r; v = v; line = L; here = at_one A; there = at_one B }

  pub quiet : Shared ⊥ s z (Spot s z) Behind
  quiet = record {
    byte = λ i j S. at_byte S.there ∙ line_head S.line S.v S.r ∙ sym (at_byte S.here);
    next = λ i j S e. next i j S.u S.r S.v S.line S.here S.there (rw (at_byte S.here) at e);
    past = λ i j S e. tt;
    inside = λ i j S.
        (omega (arith, S.here.fits, length-append S.u S.r, line_some S.line), omega (arith, S.there.fits, length-append S.u S.v, line_some S.line));
    equal = λ i j S q. absurd q;
  }
