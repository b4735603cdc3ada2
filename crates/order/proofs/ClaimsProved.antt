-- The claims, proved.
use Rattle.order.specs.Order.{by}
use Rattle.order.specs.Claims.{OrderCountsNothing, FirstStays, WholeBack}
use Rattle.order.proofs.Orders.{by_either, by_through}
use Rattle.order.proofs.GroupLaws.{sorted_alike}
use Rattle.order.proofs.SaidLaws.{lines_perm, whole_twos}

pub order_counts_nothing : OrderCountsNothing
order_counts_nothing A B f g xs ys h = lines_perm f g xs ys h

pub first_stays : FirstStays
first_stays A f x xs = sorted_alike (by f) (by_either f) (by_through f) x xs

pub whole_back : WholeBack
whole_back = whole_twos
