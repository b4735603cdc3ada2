-- Texts between two places, and texts every byte of which may stand.
use Prim.Native.Nat.{ℕ, ◌+◌, ◌-◌, ◌≤◌}
use native.Mathlib.Omega.{arith}
use mathlib.Core.Path.{◌≡◌}
use mathlib.Core.List.{List, ◌++◌}
use lib.ListN.{length}
use lib.Seq.{take-append_seam}
use Rattle.text.specs.Permitted.{clean}
use Rattle.text.proofs.Ats.{At, at_next, at_place}
use Rattle.text.specs.Bytes.{between}

pub at_text : {s : List ℕ} {i : ℕ} (xs ys : List ℕ) → At s i (xs ++ ys) → between s i (i + length xs) ≡ xs
at_text {s} {i} xs ys A =
    let e : i + length xs - i ≡ length xs = omega arith in
    rw (e, A.here) (take-append_seam xs ys)

-- a text from one place to another is what the two differ by
pub at_split : {s : List ℕ} {i : ℕ} (xs ys : List ℕ) (e : ℕ) → At s i (xs ++ ys) → e ≡ i + length xs → (between s i e ≡ xs) × At s e ys
at_split {s} {i} xs ys e A f = rw f (at_text xs ys A, at_next xs ys A)

pub at_between : {s : List ℕ} {i j : ℕ} (w post : List ℕ) → At s i (w ++ post) → At s j post → between s i j ≡ w
at_between {s} {i} {j} w post A B = rw (at_place w post A B) (at_text w post A)

-- every byte may stand
abbrev pub Tidy : List ℕ → Type 0
Tidy t = length t ≤ clean t
