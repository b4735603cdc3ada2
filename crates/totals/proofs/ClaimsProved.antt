-- The claims about totals.
use mathlib.Core.Path.{◌≡◌, refl, sym, ap, ◌∙◌}
use mathlib.Core.List.{List, [], ◌∷◌, map}
use Rattle.text.specs.Every.{Every}
use Rattle.row.specs.declared.table.Row.{Row}
use Rattle.order.specs.Order.{Said, said, by}
use Rattle.order.specs.Sorted.{sorted}
use Rattle.order.specs.Groups.{heads, item_of, listed, items}
use Rattle.order.proofs.Orders.{by_either, by_through}
use Rattle.order.proofs.GroupLaws.{sorted_alike}
use Rattle.order.proofs.SaidLaws.{lines_perm}
use Rattle.walk.specs.Postings.{dated, postings}
use Rattle.totals.specs.Totals.{totals_of}
use Rattle.totals.specs.Claims.{OrderNeverCounts, SumsOfThePostings}

pub order_never_counts : OrderNeverCounts
unfolding totals_of
order_never_counts s z y m rs qs h = lines_perm (said s) (said z) (postings (dated y m) rs) (postings (dated y m) qs) h

module _ (f : Row → Said) (ps : List Row) where
  -- those that are like one stand in the sorted list as in the given one
  item_same : (x : Row) → item_of f (sorted (by f) ps) x ≡ item_of f ps x
  unfolding item_of
  item_same x = rw (sorted_alike (by f) (by_either f) (by_through f) x ps)

  first_is : (qs : List Row) (x : Row) → (item_of f qs x).first ≡ x
  unfolding item_of
  first_is qs x = refl

  each_item : (xs : List Row) → Every (λ i. i ≡ item_of f ps i.first) (map (item_of f (sorted (by f) ps)) xs)
  each_item [] = tt
  each_item (x ∷ xs) = (item_same x ∙ ap (item_of f ps) (sym (first_is (sorted (by f) ps) x)), each_item xs)

pub sums_of_the_postings : SumsOfThePostings
unfolding totals_of items listed
sums_of_the_postings s y m rs = let ps = postings (dated y m) rs in each_item (said s) ps (heads (by (said s)) (sorted (by (said s)) ps))
