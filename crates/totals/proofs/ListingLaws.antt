-- Laws of the items of a sorted buffer, one after the other.
use Rattle.decimal.specs.Faults.{Value}
use Prim.Native.Nat.{ℕ, ◌+◌, ◌-◌, ◌≤◌, ◌<◌}
use native.Mathlib.Omega.{arith}
use mathlib.Core.Path.{◌≡◌, refl, sym, ap, ◌∙◌}
use mathlib.Core.List.{List, [], ◌∷◌, ◌++◌, map, map-append, append_assoc, append-nil}
use lib.ListN.{length, length-append, length-map}
use Rattle.decimal.specs.Exact.{twos_of}
use Rattle.row.specs.declared.table.Row.{Row}
use Rattle.row.specs.Details.{millionths}
use Rattle.row.specs.Row.{field_bytes, fields_in}
use Rattle.row.proofs.PouredLaws.{poured_none, poured_append, length_poured_at}
use Rattle.row.proofs.PourLaws.{length_field_bytes}
use Rattle.order.specs.Records.{record_width}
use Rattle.order.specs.steps.Buffers.{record_room, put_records, put_records_at, said_in, Ordered, record_at, records_from, records_of}
use Rattle.order.specs.Order.{by}
use Rattle.order.specs.Sums.{summed}
use Rattle.order.specs.Groups.{those, heads, Item, item_of, listed}
use Rattle.order.specs.steps.Runs.{run_end}
use Rattle.order.proofs.Orders.{by_either, by_through}
use Rattle.order.proofs.RecordLaws.{records_none}
use Rattle.order.proofs.GroupLaws.{Fresh}
use Rattle.order.proofs.SumLaws.{value_in}
use Rattle.order.proofs.RunLaws.{runs_follow, item_there, ordered_there, fresh_there}
use Rattle.totals.specs.Totals.{item_row}
use Rattle.totals.specs.steps.Listing.{head_row, item_row_in}

-- the fields of a first record, with a number and a sum
pub head_told : (b : List ℕ) (n : ℕ) (v : Value) (r : Row) (x : ℕ) → r ≡ fields_in b → x ≡ twos_of (millionths v)
    → record { kind = r.kind; start = r.start; end = r.end; line = n; p = r.p; q = r.q; bits = x } ≡ head_row b n v
unfolding head_row item_row
head_told b n v r x er ex = rw (er, ex)

pub ruleset head_laws = (head_told)

-- ---- the pass: the runs before record i are done, and k items were put

pub record Putting (s t u₀ u : List ℕ) (i k : ℕ) : Type 0 where
  pub done : List (Item (List ℕ))
  pub whole : listed (said_in s) (records_of t)
      ≡ done ++ map (item_of (said_in s) (records_of t)) (heads (by (said_in s)) (records_from t i (record_room t - i)))
  pub table : u ≡ put_records (map item_row_in done) u₀
  pub count : k ≡ length done
  pub ordered : Ordered (by (said_in s)) (records_from t i (record_room t - i))
  pub fresh : i < record_room t → Fresh (by (said_in s)) (by_either (said_in s)) (by_through (said_in s)) (record_at t i) (records_from t 0 i)
  pub few : k ≤ i
  pub within : i ≤ record_room t
  pub same : length u ≡ length u₀

pub putting_start : (s t u : List ℕ) → Ordered (by (said_in s)) (records_of t) → Putting s t u u 0 0
unfolding listed those records_from
putting_start s t u o =
    let e : record_room t - 0 ≡ record_room t = omega arith in
    record {
      done = [];
      whole = rw e;
      table = sym (poured_none record_width field_bytes u);
      count = refl;
      ordered = rw e o;
      fresh = λ h z l. refl;
      few = omega arith;
      within = omega arith;
      same = refl;
    }

module _ (s t u₀ u : List ℕ) (i k : ℕ) (g : Putting s t u₀ u i k) where
  all_done : record_room t ≤ i → listed (said_in s) (records_of t) ≡ g.done
  unfolding heads
  all_done h = g.whole ∙ rw (records_none t i (record_room t) h) (append-nil g.done)

  pub putting_end : record_room t ≤ i → u ≡ put_records (map item_row_in (listed (said_in s) (records_of t))) u₀
  putting_end h = g.table ∙ ap (λ (l : List (Item (List ℕ))). put_records (map item_row_in l) u₀) (sym (all_done h))

  -- the run at i goes to e, and has the sum x
  pub putting_on : (h : i < record_room t) (e : ℕ) (x : Value) (r : Row) (v : List ℕ) → e ≡ run_end s t i
      → x ≡ summed (map value_in (records_from t i (e - i))) → r ≡ head_row (record_at t i) (e - i) x → v ≡ put_records_at k (r ∷ []) u
      → i < e → e ≤ record_room t → Putting s t u₀ v e (k + 1)
  putting_on h e x r v ee ex er ev l m =
      let it : Item (List ℕ) = record { first = record_at t i; count = e - i; sum = x } in
      let rest = map (item_of (said_in s) (records_of t)) (heads (by (said_in s)) (records_from t e (record_room t - e))) in
      let q : map (item_of (said_in s) (records_of t)) (heads (by (said_in s)) (records_from t i (record_room t - i))) ≡ it ∷ rest =
      rw (runs_follow s t i h g.ordered, item_there s t i h g.ordered (g.fresh h) x (rw ee at ex), ee) in
      let rows = map item_row_in g.done in
      let f : map item_row_in (g.done ++ (it ∷ [])) ≡ rows ++ (r ∷ []) = rw (map-append item_row_in g.done (it ∷ []), er) in
      let c : k ≡ length rows = rw length-map g.count in
      record {
        done = g.done ++ (it ∷ []);
        whole = g.whole ∙ ap (λ (l : List (Item (List ℕ))). g.done ++ l) q ∙ sym (append_assoc g.done (it ∷ []) rest);
        table = ev
            ∙ ap (λ (n : ℕ). put_records_at n (r ∷ []) u) c
            ∙ ap (put_records_at (length rows) (r ∷ [])) g.table
            ∙ sym (poured_append record_width field_bytes length_field_bytes rows (r ∷ []) u₀)
            ∙ ap (λ (l : List Row). put_records l u₀) (sym f);
        count = rw (length-append g.done (it ∷ [])) (ap (λ (n : ℕ). n + 1) g.count);
        ordered = rw ee (ordered_there s t i h g.ordered);
        fresh = rw ee (fresh_there s t i h g.ordered (g.fresh h));
        few = omega (arith, g.few);
        within = m;
        same = ap length ev ∙ length_poured_at record_width field_bytes length_field_bytes k (r ∷ []) u ∙ g.same;
      }

pub ruleset putting_laws = (putting_start, putting_end, putting_on)
