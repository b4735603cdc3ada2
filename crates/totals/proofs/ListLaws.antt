-- Laws of the listing: what the items' number tells.
use Rattle.text.specs.declared.stop.Refused.{Refused}
use Rattle.text.specs.Refusals.{refused_with}
use Rattle.std.specs.Prelude.{Err, Ok, Result}
use Prim.Native.Nat.{ℕ, suc, ◌*◌, ◌≤◌, ◌<◌}
use native.Mathlib.Omega.{arith}
use mathlib.Core.Path.{◌≡◌, sym, ap, ◌∙◌}
use mathlib.Core.Bool.{Bool, true, false, cond, not}
use mathlib.Core.List.{List, [], ◌∷◌, ◌++◌, map}
use mir.Syntax.{w64}
use mir.Val.{Fits}
use borrow.Author.Tests.{le-leb, lt-leb}
use lib.ListN.{length, drop, length-map}
use Rattle.row.specs.Row.{field_bytes}
use Rattle.row.proofs.PouredLaws.{poured_all}
use Rattle.order.specs.Records.{record_width, records_bytes}
use Rattle.order.specs.steps.Buffers.{record_room, put_records, said_in, records_of}
use Rattle.order.specs.Order.{by}
use Rattle.order.specs.Groups.{those, alike, heads, Item, item_of, listed, counted}
use Rattle.order.proofs.RecordLaws.{length_records}
use Rattle.order.proofs.RunLaws.{place_in}
use Rattle.totals.specs.steps.Listing.{item_row_in, placed, items_put}
use Rattle.totals.proofs.JoinLaws.{counted_length}

-- ---- the number of the items

those_few : {A : Type 0} (p : A → Bool) (xs : List A) → length (those p xs) ≤ length xs
unfolding those
those_few p [] = omega arith
those_few p (x ∷ xs) = go (p x) (those_few p xs)
  where
    go : (b : Bool) → length (those p xs) ≤ length xs → length (cond b (x ∷ those p xs) (those p xs)) ≤ suc (length xs)
    go true h = omega arith
    go false h = omega arith

heads_few : {A : Type 0} (le : A → A → Bool) (xs : List A) → length (heads le xs) ≤ length xs
unfolding heads
heads_few le [] = omega arith
heads_few le (x ∷ xs) = omega (arith, those_few (λ y. not (alike le x y)) (heads le xs), heads_few le xs)

-- ---- the answer: c is what the count told

module _ (s t u : List ℕ) (c : Result ℕ Refused) (e : c ≡ counted place_in 0 (listed (said_in s) (records_of t))) where
  abbrev All : List (Item (List ℕ))
  All = listed (said_in s) (records_of t)

  module _ (x : Refused) (f : c ≡ Err x) where
    pub list_large : Err x ≡ placed (counted place_in 0 All) (length u)
    unfolding placed
    list_large = rw (← e, f)

    pub list_large_left : u ≡ items_put (counted place_in 0 All) (map item_row_in All) u
    unfolding items_put
    list_large_left = rw (← e, f)

  module _ (k : ℕ) (f : c ≡ Ok k) where
    number : k ≡ length All
    number = counted_length place_in 0 k All (sym e ∙ f) ∙ omega arith

    few : k ≤ record_room t
    unfolding listed
    few =
        omega (
          arith,
          number,
          length-map (heads (by (said_in s)) (records_of t)) (item_of (said_in s) (records_of t)),
          heads_few (by (said_in s)) (records_of t),
          length_records t 0 (record_room t),
        )

    pub list_small : Fits w64 (length t) → Fits w64 (k * record_width)
    list_small h = omega (arith, few)

    pub list_full : (r : Result ℕ Refused) → record_room u < k → r ≡ Err (refused_with 9 0 (k * record_width)) → r ≡ placed (counted place_in 0 All) (length u)
    unfolding placed
    list_full r h q = q ∙ rw (← e, f, lt-leb (k * record_width) (length u) (omega arith))

    pub list_full_left : record_room u < k → u ≡ items_put (counted place_in 0 All) (map item_row_in All) u
    unfolding items_put
    list_full_left h = rw (← e, f, lt-leb (k * record_width) (length u) (omega arith))

    pub list_items : k ≤ record_room u → Ok k ≡ placed (counted place_in 0 All) (length u)
    unfolding placed
    list_items h = rw (← e, f, le-leb (k * record_width) (length u) (omega arith))

    pub list_put : (v : List ℕ) → k ≤ record_room u → v ≡ put_records (map item_row_in All) u → v ≡ items_put (counted place_in 0 All) (map item_row_in All) u
    unfolding items_put
    list_put v h q =
        let n : length (map item_row_in All) ≡ k = length-map All item_row_in ∙ sym number in
        let p : put_records (map item_row_in All) u ≡ records_bytes (map item_row_in All) ++ drop (k * record_width) u =
        poured_all record_width field_bytes (map item_row_in All) u (rw n (omega arith)) ∙ ap (λ (j : ℕ). records_bytes (map item_row_in All) ++ drop (j * record_width) u) n in
        q ∙ p ∙ rw (← e, f, le-leb (k * record_width) (length u) (omega arith))

pub ruleset list_laws = (list_large, list_large_left, list_small, list_full, list_full_left, list_items, list_put)
