-- An entry that is read in a text x ++ y, none of whose strings holds the boundary between them, is read in x the same.
use Prim.Native.Nat.{ℕ, suc, ◌+◌, ◌-◌, ◌<◌, ◌≤◌}
use native.Mathlib.Omega.{arith}
use mathlib.Core.Path.{◌≡◌, refl, sym, ap, subst, ◌∙◌}
use mathlib.Core.Bool.{true, false}
use mathlib.Core.List.{List, [], ◌∷◌, ◌++◌, map}
use borrow.Author.Tests.{lt-ltb}
use lib.IntN.{pos}
use lib.ListN.{length, get_or, take, length-append, get_or-append}
use lib.Seq.{take-append-le, get_or-append_seam}
use Rattle.text.specs.Bytes.{is_digit, is_small}
use Rattle.text.specs.Answer.{To}
use Rattle.text.proofs.TestLaws.{absurd_bool}
use Rattle.row.specs.declared.table.Row.{Row}
use Rattle.row.specs.Row.{row_of}
use Rattle.text.specs.Boundaries.{is_start}
use Rattle.posting.proofs.Agree.{torn}
use Rattle.entry.specs.Forms.{Form, form_of}
use Rattle.entry.specs.Entry.{detail_row, rows_of, got, judged, settled, entry_of}
use Rattle.entry.specs.Strings.{lost_event, lost_strings, strings, NoneHolds}
use Rattle.entry.proofs.EntryForms.{entry_form}
use Rattle.entry.proofs.EntryTold.{form_kind_low}
use Rattle.entry.proofs.EntryAgree.{Clear, form_cut}
use Rattle.entry.proofs.StringsLaws.{none_parts, details_clear, lost_clear}

-- a text that is empty or ends in a line feed
abbrev pub Ends : List ℕ → Type 0
Ends u = 0 < length u → get_or u (length u - 1) 0 ≡ 10

last_split : (u : List ℕ) → 0 < length u → Ends u → (v : List ℕ) × (u ≡ v ++ (10 ∷ []))
last_split [] h e = absurd (omega arith)
last_split (c ∷ []) h e = ([], ap (λ z. z ∷ []) (e (omega arith)))
last_split (c ∷ d ∷ u) h e =
    let k = last_split (d ∷ u) (omega arith) (λ _. let p : suc (suc (length u)) - 1 ≡ suc (suc (length u) - 1) = omega arith in rw p at (e (omega arith))) in
    (c ∷ k.0, ap (λ z. c ∷ z) k.1)

start_split : (y : List ℕ) → is_start (get_or y 0 0) ≡ true → (b : ℕ) × (t : List ℕ) × (y ≡ b ∷ t) × (is_start b ≡ true)
unfolding is_digit is_small
start_split [] h = absurd_bool h
start_split (b ∷ t) h = (b, t, refl, h)

-- an entry is what its form and its rows make it
same_entry : (s u : List ℕ) (n : ℕ) (f : Form) → form_of s ≡ To n f → form_of u ≡ To n f → rows_of s n f ≡ rows_of u n f → entry_of s ≡ entry_of u
unfolding entry_of settled
same_entry s u n f p q e = rw (p, q) (ap (λ z. judged f.details (got n z)) e)

rows_cut : (x y : List ℕ) (n : ℕ) (f : Form) → n ≤ length x → rows_of (x ++ y) n f ≡ rows_of x n f
unfolding rows_of
rows_cut x y n f h = rw (take-append-le n x y h)

module _ (front t : List ℕ) (b : ℕ) (B : is_start b ≡ true) where
  abbrev X : List ℕ
  X = front ++ (10 ∷ [])

  abbrev S : List ℕ
  S = X ++ b ∷ t

  size : length X ≡ length front + 1
  size = length-append front (10 ∷ [])

  feed_there : get_or S (length front) 0 ≡ 10
  feed_there = get_or-append X (b ∷ t) 0 (length front) (omega (arith, size)) ∙ get_or-append_seam front 10 [] 0

  start_there : is_start (get_or S (length front + 1) 0) ≡ true
  start_there = rw (← size, get_or-append_seam X b t 0) B

  cut_form : (n : ℕ) (f : Form) → form_of S ≡ To n f → NoneHolds (strings S (rows_of S n f)) → (n ≤ length X) × (form_of X ≡ To n f)
  unfolding rows_of row_of
  cut_form n f e w =
      let r = row_of f.kind 0 n 0 f.date (length f.details) (pos 0) in
      let p = none_parts S r (map (detail_row (take n S)) f.details) w in
      let l : NoneHolds (lost_strings S) = rw (lt-ltb f.kind 20 (omega (arith, form_kind_low S n f e))) at p.1 in
      form_cut front t b B n f (omega (arith, size)) (subst (λ m. Clear m (lost_event S)) (sym size) (lost_clear S (length front) feed_there start_there l)) e
      (subst (λ m. torn m f.details ≡ false) (sym size) (details_clear S (length front) feed_there start_there (take n S) f.details p.2))

  cut_entry : (n : ℕ) (rs : List Row) → entry_of S ≡ got n rs → NoneHolds (strings S rs) → (n ≤ length X) × (entry_of X ≡ got n rs)
  cut_entry n rs e w =
      let F = entry_form S n rs e in
      let f = F.0 in
      let k = cut_form n f F.1 (subst (λ z. NoneHolds (strings S z)) F.2 w) in
      (k.0, same_entry X S n f k.1 F.1 (sym (rows_cut X (b ∷ t) n f k.0)) ∙ e)

-- The law that demand 3 rests on.
pub entry_cut : (x y : List ℕ) (n : ℕ) (rs : List Row) → 0 < length x → Ends x → is_start (get_or y 0 0) ≡ true → entry_of (x ++ y) ≡ got n rs → NoneHolds (strings (x ++ y) rs)
    → (n ≤ length x) × (entry_of x ≡ got n rs)
entry_cut x y n rs h e b =
    let u = last_split x h e in
    let v = start_split y b in
    rw (u.1, v.2) (cut_entry u.0 v.1 v.0 v.3 n rs)
