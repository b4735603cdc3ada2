-- Sorting, grouping and summing go by what is said of things alone, and what is listed does not go by their order.
use Prim.Native.Nat.{ℕ, zero, suc, ◌+◌, ◌-◌, ◌≤◌}
use native.Mathlib.Omega.{arith}
use mathlib.Core.Path.{◌≡◌, refl, sym, ap, ◌∙◌}
use mathlib.Core.Bool.{Bool, true, false, cond, not}
use mathlib.Core.List.{List, [], ◌∷◌, map, map-map, Permᴰ}
use borrow.Author.Tests.{lt-ltb, le-ltb}
use lib.ListN.{length-map}
use Rattle.decimal.specs.Exact.{limit, sized, twos_of, word_limit, minus_from}
use Rattle.order.specs.Order.{Said, may_precede, by}
use Rattle.order.specs.Sorted.{insert, sorted}
use Rattle.order.specs.Sums.{whole_from, summed}
use Rattle.order.specs.Groups.{those, alike, heads, Item, item_of, listed, items, counted, Line, line_of}
use Rattle.order.proofs.Orders.{by_either, by_through, same_key}
use Rattle.order.proofs.SortLaws.{perm_length, sorted_perm}
use Rattle.order.proofs.GroupLaws.{those_perm, sum_perm, alike_through}
use Rattle.order.proofs.PermLaws.{those_same, Likes, sorted_likes, heads_likes}

-- ---- of other things of which the same is said

-- an item of what its first stands for
unfoldable pub on_first : {A B : Type 0} → (A → B) → Item A → Item B
on_first g i = record { first = g i.first; count = i.count; sum = i.sum }

module _ {A B : Type 0} (f : B → Said) (g : A → B) where
  insert_map : (x : A) (ys : List A) → map g (insert (by (λ z. f (g z))) x ys) ≡ insert (by f) (g x) (map g ys)
  unfolding insert
  insert_map x [] = refl
  insert_map x (y ∷ ys) = go (by f (g x) (g y)) (insert_map x ys)
    where
      go : (b : Bool) → map g (insert (by (λ z. f (g z))) x ys) ≡ insert (by f) (g x) (map g ys)
          → map g (cond b (x ∷ y ∷ ys) (y ∷ insert (by (λ z. f (g z))) x ys)) ≡ cond b (g x ∷ g y ∷ map g ys) (g y ∷ insert (by f) (g x) (map g ys))
      go true k = refl
      go false k = ap (λ (l : List B). g y ∷ l) k

  pub sorted_map : (xs : List A) → map g (sorted (by (λ x. f (g x))) xs) ≡ sorted (by f) (map g xs)
  unfolding sorted
  sorted_map [] = refl
  sorted_map (x ∷ xs) = insert_map x (sorted (by (λ z. f (g z))) xs) ∙ ap (insert (by f) (g x)) (sorted_map xs)

  those_map : (p : B → Bool) (xs : List A) → map g (those (λ x. p (g x)) xs) ≡ those p (map g xs)
  unfolding those
  those_map p [] = refl
  those_map p (x ∷ xs) = go (p (g x)) (those_map p xs)
    where
      go : (b : Bool) → map g (those (λ x. p (g x)) xs) ≡ those p (map g xs)
          → map g (cond b (x ∷ those (λ x. p (g x)) xs) (those (λ x. p (g x)) xs)) ≡ cond b (g x ∷ those p (map g xs)) (those p (map g xs))
      go true e = ap (λ (l : List B). g x ∷ l) e
      go false e = e

  alike_map : (x : A) (ys : List A) → map g (those (alike (by (λ z. f (g z))) x) ys) ≡ those (alike (by f) (g x)) (map g ys)
  unfolding alike
  alike_map x ys = those_map (alike (by f) (g x)) ys

  heads_map : (xs : List A) → map g (heads (by (λ x. f (g x))) xs) ≡ heads (by f) (map g xs)
  unfolding heads alike
  heads_map [] = refl
  heads_map (x ∷ xs) =
      ap (λ (l : List B). g x ∷ l)
      (those_map (λ y. not (alike (by f) (g x) y)) (heads (by (λ z. f (g z))) xs)
      ∙ ap (those (λ y. not (alike (by f) (g x) y))) (heads_map xs))

  item_map : (xs : List A) (x : A) → on_first g (item_of (λ z. f (g z)) xs x) ≡ item_of f (map g xs) (g x)
  unfolding on_first item_of
  item_map xs x =
      let same = those (alike (by (λ z. f (g z))) x) xs in
      rw (← alike_map x xs, length-map same g, map-map (λ y. (f y).value) g same)

  each_map : (xs hs : List A) → map (on_first g) (map (item_of (λ z. f (g z)) xs) hs) ≡ map (item_of f (map g xs)) (map g hs)
  each_map xs [] = refl
  each_map xs (h ∷ hs) = rw (item_map xs h, each_map xs hs)

  pub listed_map : (xs : List A) → map (on_first g) (listed (λ x. f (g x)) xs) ≡ listed f (map g xs)
  unfolding listed
  listed_map xs = each_map xs (heads (by (λ z. f (g z))) xs) ∙ ap (map (item_of f (map g xs))) (heads_map xs)

  pub items_map : (xs : List A) → map (on_first g) (items (λ x. f (g x)) xs) ≡ items f (map g xs)
  unfolding items
  items_map xs = listed_map (sorted (by (λ z. f (g z))) xs) ∙ ap (listed f) (sorted_map xs)

pub counted_map : {A B : Type 0} (place : B → ℕ) (g : A → B) (k : ℕ) (is : List (Item A))
    → counted (λ x. place (g x)) k is ≡ counted place k (map (on_first g) is)
unfolding counted on_first
counted_map place g k [] = refl
counted_map place g k (i ∷ is) = rw (counted_map place g (k + 1) is)

-- ---- in any order

-- a line of what is said
abbrev said_line : Item Said → Line
said_line = line_of (λ a. a)

lines_said : {A : Type 0} (f : A → Said) (xs : List A) → map (line_of f) (items f xs) ≡ map said_line (items (λ a. a) (map f xs))
unfolding line_of on_first
lines_said f xs = sym (map-map said_line (on_first f) (items f xs)) ∙ ap (map said_line) (items_map (λ a. a) f xs)

module _ {xs ys : List Said} (h : Permᴰ xs ys) where
  line_same : (v w : Said) → alike may_precede v w ≡ true → said_line (item_of (λ a. a) xs v) ≡ said_line (item_of (λ a. a) ys w)
  unfolding line_of item_of summed
  line_same v w e =
      let k = those_perm (alike may_precede w) h in
      let q = same_key v w e in
      rw (
        those_same (alike may_precede v) (alike may_precede w) (λ z. alike_through may_precede (by_either (λ a. a)) (by_through (λ a. a)) v w z e) xs,
        perm_length k,
        sum_perm (λ (a : Said). a.value) k,
        q.0,
        q.1,
        q.2,
      )

  lines_same : (vs ws : List Said) → Likes may_precede (by_either (λ a. a)) (by_through (λ a. a)) vs ws
      → map said_line (map (item_of (λ a. a) xs) vs) ≡ map said_line (map (item_of (λ a. a) ys) ws)
  lines_same [] [] k = refl
  lines_same [] (w ∷ ws) k = absurd k
  lines_same (v ∷ vs) [] k = absurd k
  lines_same (v ∷ vs) (w ∷ ws) k = rw (line_same v w k.0, lines_same vs ws k.1)

said_perm : {xs ys : List Said} → Permᴰ xs ys → map said_line (items (λ a. a) xs) ≡ map said_line (items (λ a. a) ys)
unfolding items listed
said_perm {xs} {ys} h =
    let either = by_either (λ (a : Said). a) in
    let through = by_through (λ (a : Said). a) in
    let p : Permᴰ (sorted may_precede xs) (sorted may_precede ys) =
    mathlib.Core.List.Permᴰ.trans (sorted_perm may_precede xs) (mathlib.Core.List.Permᴰ.trans h (mathlib.Core.List.Permᴰ.symm (sorted_perm may_precede ys))) in
    lines_same p (heads may_precede (sorted may_precede xs)) (heads may_precede (sorted may_precede ys))
    (heads_likes may_precede either through (sorted may_precede xs) (sorted may_precede ys) (sorted_likes may_precede either through h))

-- the order of records never changes a sum or a count: where the same is said, up to order, the same is listed
pub lines_perm : {A B : Type 0} (f : A → Said) (g : B → Said) (xs : List A) (ys : List B) → Permᴰ (map f xs) (map g ys)
    → map (line_of f) (items f xs) ≡ map (line_of g) (items g ys)
lines_perm f g xs ys h = lines_said f xs ∙ said_perm h ∙ sym (lines_said g ys)

-- ---- two's complement, read back

pub whole_twos : (m : Bool) (n : ℕ) → n ≤ limit → whole_from (twos_of (sized m n)) ≡ sized m n
unfolding whole_from twos_of
whole_twos false n h = rw (lt-ltb n minus_from (omega arith))
whole_twos true zero h = refl
whole_twos true (suc n) h =
    let e : word_limit - (word_limit - suc n) ≡ suc n = omega arith in
    rw (le-ltb (word_limit - suc n) minus_from (omega arith), e)
