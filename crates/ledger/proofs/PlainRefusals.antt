-- A refusal of plain reading, and of strict reading: its number is one of the call's list, its place stands within the
-- text.
use Prim.Native.Nat.{ℕ, zero, suc, ◌+◌, ◌≤◌, ◌<◌}
use native.Mathlib.Omega.{arith}
use mathlib.Core.Path.{◌≡◌, refl, sym, ◌∙◌, subst}
use mathlib.Core.Bool.{Bool, true, false, cond}
use mathlib.Core.Logic.{◌⊎◌, inl, inr}
use mathlib.Core.List.{List, [], ◌∷◌, ◌++◌}
use borrow.Author.Tests.{ltb-true}
use lib.Dec.{leb, ltb}
use lib.ListN.{length, take, drop, length-drop}
use Rattle.text.specs.Every.{Every, OneOf}
use Rattle.text.specs.Permitted.{clean, size_limit}
use Rattle.text.specs.Refusals.{Refusal}
use Rattle.text.proofs.EveryLaws.{every_right, one_has, one_left, one_right}
use Rattle.amount.proofs.RowCounts.{refusal_kind}
use Rattle.row.specs.declared.table.Row.{Row}
use Rattle.row.specs.Row.{feeds}
use Rattle.entry.specs.Entry.{Reads, got, refuse, entry_of}
use Rattle.entry.proofs.EntryForms.{entry_sound}
use Rattle.entry.proofs.EntryLines.{OnLine}
use Rattle.entry.proofs.EntryPlaces.{entry_numbers, entry_number, entry_place}
use Rattle.ledger.specs.Plain.{moved, Reading, accepted, denied, after, read_from, part_at, part, plain}
use Rattle.ledger.specs.Strict.{lost_line_number, flag_number, strictly, strict}
use Rattle.ledger.specs.Strictness.{Refused}
use Rattle.ledger.proofs.PlainLaws.{read_got, read_refuse, part_kept}
use Rattle.ledger.proofs.StrictProved.{plain_first, plain_part, strict_exactly}

-- ---- an entry refuses, in a text of m bytes

abbrev Denied : (ℕ → ℕ → Type 0) → Reading → Type 0
Denied P (accepted rs) = Unit {0}
Denied P (denied n p) = P n p

after_denied : (P : ℕ → ℕ → Type 0) (ds : List Row) (w : Reading) → Denied P w → Denied P (after ds w)
after_denied P ds (accepted rs) h = tt
after_denied P ds (denied n p) h = h

module _ (m : ℕ) where
  abbrev Met : ℕ → ℕ → Type 0
  Met n p = OneOf entry_numbers n × (p ≤ m)

  read_step : (f a l : ℕ) (s : List ℕ) → 0 < length s → a + length s ≤ m
      → ((b k : ℕ) (z : List ℕ) → b + length z ≤ m → Denied Met (read_from f b k z)) → Denied Met (read_from (suc f) a l s)
  read_step f a l s h g ih = go (entry_of s) refl
    where
      go : (r : Reads) → entry_of s ≡ r → Denied Met (read_from (suc f) a l s)
      go (got n rs) e =
          rw (read_got f a l s n rs h e)
          (after_denied Met (moved a l rs) (read_from f (a + n) (l + feeds (take n s)) (drop n s))
          (ih (a + n) (l + feeds (take n s)) (drop n s) (omega (arith, length-drop n s, entry_sound s n rs e))))
      go (refuse k p) e = rw (read_refuse f a l s k p h e) (entry_number s k p e, omega (arith, entry_place s k p e))

  read_met : (f a l : ℕ) (s : List ℕ) → a + length s ≤ m → Denied Met (read_from f a l s)
  unfolding read_from
  read_met zero a l s h = tt
  read_met (suc f) a l [] h = tt
  read_met (suc f) a l (c ∷ s) h = read_step f a l (c ∷ s) (omega arith) h (λ b k z. read_met f b k z)

-- ---- plain reading

abbrev pub plain_numbers : List ℕ
plain_numbers = 1 ∷ 2 ∷ entry_numbers

above_one : (n : ℕ) → OneOf entry_numbers n → 1 < n
above_one n h = one_has (λ m. 1 < m) entry_numbers n (omega arith) h

pub plain_refusal : (s : List ℕ) (n p : ℕ) → plain s ≡ denied n p → Refusal plain_numbers (length s) n p
unfolding plain part_at
plain_refusal s n p e = subst (Denied (Refusal plain_numbers (length s))) e (size (leb (length s) size_limit))
  where
    entries : (w : Reading) → Denied (Met (length s)) w → Denied (Refusal plain_numbers (length s)) w
    entries (accepted rs) h = tt
    entries (denied k q) (h, l) = record { listed = inr (inr h); within = l; front = λ z. absurd (omega (arith, above_one k h)) }

    bytes : (b : Bool) → ltb (clean s) (length s) ≡ b → Denied (Refusal plain_numbers (length s)) (cond b (denied 2 (0 + clean s)) (read_from (length s) 0 1 s))
    bytes true q = record { listed = inr (inl refl); within = omega (arith, ltb-true (clean s) (length s) q); front = λ z. absurd (omega arith) }
    bytes false q = entries (read_from (length s) 0 1 s) (read_met (length s) (length s) 0 1 s (omega arith))

    size : (b : Bool) → Denied (Refusal plain_numbers (length s)) (cond b (part s) (denied 1 0))
    size true = bytes (ltb (clean s) (length s)) refl
    size false = record { listed = inl refl; within = omega arith; front = λ z. refl }

-- ---- strict reading

abbrev judged_numbers : List ℕ
judged_numbers = lost_line_number ∷ flag_number ∷ []

abbrev pub strict_numbers : List ℕ
strict_numbers = plain_numbers ++ judged_numbers

pub strict_refusal : (s : List ℕ) (n p : ℕ) → strict s ≡ denied n p → Refusal strict_numbers (length s) n p
unfolding strictly
strict_refusal s n p e = go (plain s) refl
  where
    numbered : (n ≡ lost_line_number) ⊎ (n ≡ flag_number) → OneOf judged_numbers n
    numbered (inl k) = inl k
    numbered (inr k) = inr (inl k)

    row_place : (rs : List Row) → plain s ≡ accepted rs → Refused s rs n p → p ≤ length s
    row_place rs q r =
        let lines = (part_kept s rs (plain_part s rs q)).lines in
        let line = (every_right (OnLine refusal_kind 0 1 s) r.before (r.row ∷ r.behind) (subst (Every (OnLine refusal_kind 0 1 s)) r.split lines)).0 in
        omega (arith, r.place, line.place, line.inside)

    go : (w : Reading) → plain s ≡ w → Refusal strict_numbers (length s) n p
    go (accepted rs) q =
        let x = strict_exactly s rs q in
        let k = numbered (x.numbers n p e) in
        record {
          listed = one_right plain_numbers judged_numbers n k;
          within = row_place rs q (x.refused n p e);
          front = λ z. absurd (omega (arith, one_has (λ m. 1 < m) judged_numbers n (omega arith) k));
        }
    go (denied k i) q =
        let d = plain_refusal s n p (q ∙ (sym (plain_first s k i q) ∙ e)) in
        record { listed = one_left plain_numbers judged_numbers n d.listed; within = d.within; front = d.front }
