-- The first posting of each item of the totals starts within the ledger: it is a posting among plain reading's rows.
use Rattle.text.specs.Refusals.{refused_with}
use Rattle.text.specs.declared.stop.Refused.{Refused}
use Rattle.std.specs.Prelude.{Err}
use Prim.Native.Nat.{ℕ, ◌+◌, ◌≤◌}
use native.Mathlib.Omega.{arith}
use mathlib.Core.Path.{◌≡◌, ap, subst}
use mathlib.Core.Bool.{Bool, true, false, cond, ◌&&◌, not}
use mathlib.Core.List.{List, [], ◌∷◌, map}
use lib.Dec.{eqb, ltb}
use lib.ListN.{length}
use Rattle.text.specs.Every.{Every}
use Rattle.text.proofs.EveryLaws.{every_map}
use Rattle.amount.specs.Kinds.{first_detail, transaction_kind, amount_kind, posting_kind, refusal_kind}
use Rattle.row.specs.declared.table.Row.{Row}
use Rattle.ledger.specs.Plain.{accepted, plain}
use Rattle.ledger.specs.steps.Scan.{scanned}
use Rattle.ledger.proofs.PlainLaws.{Accepts, Kept, read_kept}
use Rattle.ledger.proofs.ReadLaws.{plain_reads}
use Rattle.walk.specs.Postings.{dated, stated, unstated, posting, postings_from, postings}
use Rattle.order.specs.Order.{Said, said, by}
use Rattle.order.specs.Sorted.{insert, sorted}
use Rattle.order.specs.Groups.{those, alike, heads, Item, item_of, listed, items, is_known, counted}
use Rattle.totals.specs.Totals.{totals_of}

-- ---- what holds of each of a list holds of each that is taken from it

module _ {A : Type 0} (P : A → Type 0) where
  every_those : (p : A → Bool) (xs : List A) → Every P xs → Every P (those p xs)
  unfolding those
  every_those p [] h = tt
  every_those p (x ∷ xs) h = go (p x) (every_those p xs h.1)
    where
      go : (b : Bool) → Every P (those p xs) → Every P (cond b (x ∷ those p xs) (those p xs))
      go true k = (h.0, k)
      go false k = k

  every_heads : (le : A → A → Bool) (xs : List A) → Every P xs → Every P (heads le xs)
  unfolding heads
  every_heads le [] h = tt
  every_heads le (x ∷ xs) h = (h.0, every_those (λ y. not (alike le x y)) (heads le xs) (every_heads le xs h.1))

  every_insert : (le : A → A → Bool) (x : A) (xs : List A) → P x → Every P xs → Every P (insert le x xs)
  unfolding insert
  every_insert le x [] p h = (p, tt)
  every_insert le x (y ∷ ys) p h = go (le x y) (every_insert le x ys p h.1)
    where
      go : (b : Bool) → Every P (insert le x ys) → Every P (cond b (x ∷ y ∷ ys) (y ∷ insert le x ys))
      go true k = (p, h)
      go false k = (h.0, k)

  every_sorted : (le : A → A → Bool) (xs : List A) → Every P xs → Every P (sorted le xs)
  unfolding sorted
  every_sorted le [] h = tt
  every_sorted le (x ∷ xs) h = every_insert le x (sorted le xs) h.0 (every_sorted le xs h.1)

  -- the first of each item
  firsts_of : (f : A → Said) (ys xs : List A) → Every P xs → Every (λ i. P i.first) (map (item_of f ys) xs)
  unfolding item_of
  firsts_of f ys [] h = tt
  firsts_of f ys (x ∷ xs) h = (h.0, firsts_of f ys xs h.1)

  every_first : (f : A → Said) (xs : List A) → Every P xs → Every (λ i. P i.first) (items f xs)
  unfolding items listed
  every_first f xs h =
      firsts_of f (sorted (by f) xs) (heads (by f) (sorted (by f) xs)) (every_heads (by f) (sorted (by f) xs) (every_sorted (by f) xs h))

-- ---- a posting starts where its row does

abbrev StartsBy : ℕ → Row → Type 0
StartsBy n r = r.start ≤ n

posting_starts : (n : ℕ) (r : Row) (rs : List Row) → StartsBy n r → StartsBy n (posting r rs)
unfolding posting stated unstated
posting_starts n r [] h = h
posting_starts n r (a ∷ rs) h = go (eqb a.kind amount_kind)
  where
    go : (b : Bool) → StartsBy n (cond b (stated r a) (unstated r))
    go true = h
    go false = h

postings_start : (n : ℕ) (wanted : ℕ → Bool) (w : Bool) (rs : List Row) → Every (StartsBy n) rs → Every (StartsBy n) (postings_from wanted w rs)
unfolding postings_from
postings_start n wanted w [] h = tt
postings_start n wanted w (r ∷ rs) h =
    go (eqb r.kind posting_kind) (cond (ltb r.kind first_detail) (eqb r.kind transaction_kind && wanted r.p) w) (λ v. postings_start n wanted v rs h.1)
  where
    go : (b still : Bool) → ((v : Bool) → Every (StartsBy n) (postings_from wanted v rs))
        → Every (StartsBy n) (cond (b && still) (posting r rs ∷ postings_from wanted still rs) (postings_from wanted still rs))
    go true true k = (posting_starts n r rs h.0, k true)
    go true false k = k false
    go false still k = k still

-- ---- in a ledger

rows_start : (s : List ℕ) (rs : List Row) → plain s ≡ accepted rs → Every (StartsBy (length s)) rs
unfolding scanned
rows_start s rs e =
    let k : Kept refusal_kind 0 1 s rs = subst (Accepts (Kept refusal_kind 0 1 s)) (plain_reads s rs e).2 (read_kept (length s) 0 1 s) in
    every_map (λ r h. omega (arith, h.place, h.inside)) rs k.lines

large_place : {A : Type 0} (place : A → ℕ) (n k a : ℕ) (is : List (Item A)) → Every (λ i. place i.first ≤ n) is → counted place k is ≡ Err (refused_with 6 a 0) → a ≤ n
unfolding counted
large_place place n k a [] h e = absurd (let z : ◌≡◌ {A = ℕ} 0 1 = cc in omega arith)
large_place place n k a (i ∷ is) h e = go (is_known i.sum) e (large_place place n (k + 1) a is h.1)
  where
    go : (b : Bool) → cond b (counted place (k + 1) is) (Err (refused_with 6 (place i.first) 0)) ≡ Err (refused_with 6 a 0) → (counted place (k + 1) is ≡ Err (refused_with 6 a 0) → a ≤ n) → a ≤ n
    go true f ih = ih f
    go false f ih =
        let refused : refused_with 6 (place i.first) 0 ≡ refused_with 6 a 0 = cc in
        omega (arith, h.0, ap (λ (x : Refused). x.place) refused)

pub large_within : (s : List ℕ) (y m : ℕ) (rs : List Row) (a : ℕ) → plain s ≡ accepted rs → counted (λ r. r.start) 0 (totals_of s y m rs) ≡ Err (refused_with 6 a 0) → a ≤ length s
unfolding totals_of
large_within s y m rs a e =
    large_place (λ r. r.start) (length s) 0 a (items (said s) (postings (dated y m) rs))
    (every_first (StartsBy (length s)) (said s) (postings (dated y m) rs) (postings_start (length s) (dated y m) false rs (rows_start s rs e)))
