-- Laws of the runs of a buffer.
use Rattle.text.specs.Refusals.{refused_with}
use Rattle.text.specs.declared.stop.Refused.{Refused}
use Rattle.std.specs.Prelude.{Err, Ok, Result}
use Rattle.std.specs.Result.{is_err}
use Rattle.decimal.specs.Faults.{Value}
use Prim.Native.Nat.{ℕ, suc, ◌+◌, ◌-◌, ◌*◌, ◌≤◌, ◌<◌}
use native.Mathlib.Nat.{add-zero, zero-add}
use native.Mathlib.Numerals.{add-one}
use native.Mathlib.Omega.{arith}
use mathlib.Core.Path.{◌≡◌, refl, sym, ap, ◌∙◌}
use mathlib.Core.Bool.{Bool, true, false, cond, not}
use mathlib.Core.List.{List, [], ◌∷◌, ◌++◌, append-nil, map}
use lib.ListN.{length, take, drop}
use lib.Seq.{take_at, drop_at}
use Rattle.row.specs.declared.table.Row.{Row}
use Rattle.row.specs.Row.{fields_in}
use Rattle.order.specs.Records.{record_width}
use Rattle.order.specs.steps.Buffers.{record_room, said_in, Ordered, record_at, records_from, records_of, joined}
use Rattle.std.specs.declared.cmp.Ordering.{Ordering}
use Rattle.std.specs.declared.cmp.Ordering.TheVariants.{Less, Equal, Greater}
use Rattle.order.specs.Order.{said, order_of, by}
use Rattle.order.specs.Sums.{summed}
use Rattle.order.specs.Groups.{those, alike, heads, item_of, listed, is_known, counted}
use Rattle.order.specs.steps.Runs.{leading, run_end}
use Rattle.order.proofs.Orders.{by_either, by_through, alike_same, alike_before, alike_after}
use Rattle.order.proofs.RecordLaws.{length_records, records_step, records_none, records_add, records_wide, joined_records, records_joined, length_joined}
use Rattle.order.proofs.GroupLaws.{Fresh, run_all, run_heads, fresh_run, ordered_drop, all_in_run}
use Rattle.order.proofs.SumLaws.{value_in}

-- where the row of a record's bytes starts
abbrev pub place_in : List ℕ → ℕ
place_in b = (fields_in b).start

-- ---- the loop: records i to j are alike

module _ (s t : List ℕ) (i j : ℕ) (v : run_end s t i ≡ j + leading (by (said_in s)) (record_at t i) (records_from t j (record_room t - j))) where
  pub run_done : record_room t ≤ j → j ≡ run_end s t i
  unfolding leading
  run_done h = sym (v ∙ rw (records_none t j (record_room t) h, add-zero))

  module _ (h : j < record_room t) (o : Ordering) (e : o ≡ order_of (said_in s (record_at t i)) (said_in s (record_at t j))) where
    pub run_before : o ≡ Less → j ≡ run_end s t i
    unfolding leading
    run_before f = sym (v ∙ rw (records_step t j (record_room t) h, alike_before (said_in s) (record_at t i) (record_at t j) (sym e ∙ f), add-zero))

    pub run_after : o ≡ Greater → j ≡ run_end s t i
    unfolding leading
    run_after f = sym (v ∙ rw (records_step t j (record_room t) h, alike_after (said_in s) (record_at t i) (record_at t j) (sym e ∙ f), add-zero))

    pub run_on : o ≡ Equal → run_end s t i ≡ j + 1 + leading (by (said_in s)) (record_at t i) (records_from t (j + 1) (record_room t - (j + 1)))
    unfolding leading
    run_on f = v ∙ rw (records_step t j (record_room t) h, alike_same (said_in s) (record_at t i) (record_at t j) (sym e ∙ f)) (omega arith)

pub run_start : (s t : List ℕ) (i : ℕ) → run_end s t i ≡ i + 1 + leading (by (said_in s)) (record_at t i) (records_from t (i + 1) (record_room t - (i + 1)))
unfolding run_end
run_start s t i = refl

pub ruleset run_laws = (run_start, run_done, run_before, run_after, run_on)

-- ---- the records of a part

leading_few : {A : Type 0} (le : A → A → Bool) (x : A) (ys : List A) → leading le x ys ≤ length ys
unfolding leading
leading_few le x [] = omega arith
leading_few le x (y ∷ ys) = go (alike le x y) (leading_few le x ys)
  where
    go : (b : Bool) → leading le x ys ≤ length ys → cond b (suc (leading le x ys)) 0 ≤ suc (length ys)
    go true h = omega arith
    go false h = omega arith

pub part_records : (t : List ℕ) (i e : ℕ) → i ≤ e → e * record_width ≤ length t → records_of (take (e * record_width - i * record_width) (drop (i * record_width) t)) ≡ records_from t i (e - i)
part_records t i e h l =
    let rs = records_from t i (e - i) in
    let w = records_wide t i (e - i) (omega arith) in
    let k : e * record_width - i * record_width ≡ (e - i) * record_width = omega arith in
    let n : record_room (joined rs) ≡ length rs = omega (arith, length_joined rs w) in
    rw (k, ← joined_records t i (e - i), n) (rw append-nil at (records_joined rs [] [] 0 w refl))

pub run_summed : (t : List ℕ) (i e : ℕ) (r : Value) → i < e → e ≤ record_room t
    → r ≡ summed (map value_in (records_of (take (e * record_width - i * record_width) (drop (i * record_width) t)))) → r ≡ summed (map value_in (records_from t i (e - i)))
run_summed t i e r h l f = f ∙ ap (λ (rs : List (List ℕ)). summed (map value_in rs)) (part_records t i e (omega arith) (omega arith))

pub ruleset part_laws = (run_summed)

take_records : (t : List ℕ) (i m k : ℕ) → k ≤ m → take k (records_from t i m) ≡ records_from t i k
take_records t i m k h =
    ap (λ (n : ℕ). take k (records_from t i n)) {x = m} {y = k + (m - k)} (omega arith)
    ∙ rw (records_add t i k (m - k)) (take_at (records_from t i k) (records_from t (i + k) (m - k)) k (length_records t i k))

drop_records : (t : List ℕ) (i m k : ℕ) → k ≤ m → drop k (records_from t i m) ≡ records_from t (i + k) (m - k)
drop_records t i m k h =
    ap (λ (n : ℕ). drop k (records_from t i n)) {x = m} {y = k + (m - k)} (omega arith)
    ∙ rw (records_add t i k (m - k)) (drop_at (records_from t i k) (records_from t (i + k) (m - k)) k (length_records t i k))

-- ---- a run of an ordered buffer has all records that are like its first, and the other runs follow

module _ (s t : List ℕ) (i : ℕ) (h : i < record_room t) (o : Ordered (by (said_in s)) (records_from t i (record_room t - i))) where
  left : ℕ
  left = record_room t - (i + 1)

  rest : List (List ℕ)
  rest = records_from t (i + 1) left

  behind : ℕ
  behind = leading (by (said_in s)) (record_at t i) rest

  few : behind ≤ left
  unfolding behind rest
  few = omega (arith, leading_few (by (said_in s)) (record_at t i) rest, length_records t (i + 1) left)

  first_rest : records_from t i (record_room t - i) ≡ record_at t i ∷ rest
  unfolding rest left
  first_rest = records_step t i (record_room t) h

  ends : run_end s t i ≡ i + 1 + behind
  unfolding run_end behind rest left
  ends = refl

  ordered : Ordered (by (said_in s)) (record_at t i ∷ rest)
  ordered = rw first_rest at o

  pub run_group : those (alike (by (said_in s)) (record_at t i)) (records_from t i (record_room t - i)) ≡ records_from t i (run_end s t i - i)
  unfolding behind rest
  run_group =
      let e : i + 1 + behind - (i + 1) ≡ behind = omega arith in
      rw (
        first_rest,
        run_all (by (said_in s)) (by_either (said_in s)) (by_through (said_in s)) (record_at t i) rest ordered,
        take_records t (i + 1) left behind few,
        ends,
        records_step t i (i + 1 + behind) (omega arith),
        e,
      )

  pub runs_follow : heads (by (said_in s)) (records_from t i (record_room t - i))
      ≡ record_at t i ∷ heads (by (said_in s)) (records_from t (run_end s t i) (record_room t - run_end s t i))
  unfolding behind rest left
  runs_follow =
      let e : record_room t - (i + 1 + behind) ≡ left - behind = omega arith in
      rw (first_rest, run_heads (by (said_in s)) (by_either (said_in s)) (by_through (said_in s)) (record_at t i) rest ordered, drop_records t (i + 1) left behind few, ends, e)

  -- behind the run
  dropped : drop (leading (by (said_in s)) (record_at t i) rest) rest ≡ records_from t (run_end s t i) (record_room t - run_end s t i)
  unfolding behind rest left
  dropped =
      let e : record_room t - (i + 1 + behind) ≡ left - behind = omega arith in
      rw (ends, e) (drop_records t (i + 1) left behind few)

  -- the run with what is before it
  passed : records_from t 0 (run_end s t i) ≡ records_from t 0 i ++ (record_at t i ∷ take (leading (by (said_in s)) (record_at t i) rest) rest)
  unfolding behind rest records_from
  passed =
      let e : i + 1 + behind ≡ i + suc behind = omega arith in
      rw (ends, e, records_add t 0 i (suc behind), zero-add, ← add-one i, ← take_records t (i + 1) left behind few)

  pub ordered_there : Ordered (by (said_in s)) (records_from t (run_end s t i) (record_room t - run_end s t i))
  ordered_there = rw (← dropped) (ordered_drop (by (said_in s)) (by_either (said_in s)) (by_through (said_in s)) (leading (by (said_in s)) (record_at t i) rest) rest ordered.1)

  -- none of the records before is like one that record i may precede
  module _ (f : Fresh (by (said_in s)) (by_either (said_in s)) (by_through (said_in s)) (record_at t i) (records_from t 0 i)) where
    pub item_there : (v : Value) → v ≡ summed (map value_in (records_from t i (run_end s t i - i)))
        → item_of (said_in s) (records_of t) (record_at t i) ≡ record { first = record_at t i; count = run_end s t i - i; sum = v }
    unfolding item_of said
    item_there v ev =
        let e : record_room t ≡ i + (record_room t - i) = omega arith in
        let q : those (alike (by (said_in s)) (record_at t i)) (records_of t) ≡ records_from t i (run_end s t i - i) =
        ap (λ (n : ℕ). those (alike (by (said_in s)) (record_at t i)) (records_from t 0 n)) e
        ∙ rw (records_add t 0 i (record_room t - i), zero-add)
        (all_in_run (by (said_in s)) (by_either (said_in s)) (by_through (said_in s)) (record_at t i) (records_from t 0 i) (records_from t i (record_room t - i)) f ∙ run_group) in
        rw (q, ev, length_records)

    pub fresh_there : run_end s t i < record_room t
        → Fresh (by (said_in s)) (by_either (said_in s)) (by_through (said_in s)) (record_at t (run_end s t i)) (records_from t 0 (run_end s t i))
    fresh_there l =
        let e = run_end s t i in
        rw passed
        (fresh_run (by (said_in s)) (by_either (said_in s)) (by_through (said_in s)) (record_at t i) (record_at t e) (records_from t 0 i) rest
        (records_from t (e + 1) (record_room t - (e + 1))) ordered (dropped ∙ records_step t e (record_room t) l) f)

-- ---- the pass: k runs were passed, and record i starts the next; a is what all of them come to

pub record Pass (s t : List ℕ) (a : Result ℕ Refused) (i k : ℕ) : Type 0 where
  pub whole : a ≡ counted place_in k (map (item_of (said_in s) (records_of t)) (heads (by (said_in s)) (records_from t i (record_room t - i))))
  pub ordered : Ordered (by (said_in s)) (records_from t i (record_room t - i))
  pub fresh : i < record_room t → Fresh (by (said_in s)) (by_either (said_in s)) (by_through (said_in s)) (record_at t i) (records_from t 0 i)
  pub few : k ≤ i
  pub within : i ≤ record_room t

pub pass_first : (s t : List ℕ) → Ordered (by (said_in s)) (records_of t) → Pass s t (counted place_in 0 (listed (said_in s) (records_of t))) 0 0
unfolding listed those records_from
pass_first s t o =
    let e : record_room t - 0 ≡ record_room t = omega arith in
    record { whole = rw e; ordered = rw e o; fresh = λ h z l. refl; few = omega arith; within = omega arith }

err_known : (v : Value) (b : Bool) → is_err v ≡ b → is_known v ≡ not b
unfolding is_known
err_known (Ok d) b e = rw (← e)
err_known (Err n) b e = rw (← e)

module _ (s t : List ℕ) (a : Result ℕ Refused) (i k : ℕ) (p : Pass s t a i k) where
  pub pass_last : record_room t ≤ i → Ok k ≡ a
  unfolding heads counted
  pass_last h = sym (p.whole ∙ rw (records_none t i (record_room t) h))

  -- the run at i goes to e, and has the sum v
  module _ (h : i < record_room t) (e : ℕ) (ee : e ≡ run_end s t i) (v : Value) (ev : v ≡ summed (map value_in (records_from t i (e - i)))) where
    pass_run : a ≡ cond (is_known v) (counted place_in (k + 1) (map (item_of (said_in s) (records_of t)) (heads (by (said_in s)) (records_from t e (record_room t - e)))))
        (Err (refused_with 6 (fields_in (record_at t i)).start 0))
    unfolding counted
    pass_run =
        p.whole ∙ rw (runs_follow s t i h p.ordered, item_there s t i h p.ordered (p.fresh h) v (rw ee at ev), ee)

    pub pass_large : (b : Bool) (r : Row) (n : ℕ) (x : Refused) → b ≡ is_err v → b ≡ true → n ≡ 6 → r ≡ fields_in (record_at t i) → x ≡ refused_with n r.start 0 → Err x ≡ a
    pass_large b r n x f q z g y = sym (pass_run ∙ rw (err_known v true (sym f ∙ q), y, z, g))

    pub pass_on : (b : Bool) → b ≡ is_err v → b ≡ false → i < e → e ≤ record_room t → Pass s t a e (k + 1)
    pass_on b f q l m =
        record {
          whole = pass_run ∙ rw (err_known v false (sym f ∙ q));
          ordered = rw ee (ordered_there s t i h p.ordered);
          fresh = rw ee (fresh_there s t i h p.ordered (p.fresh h));
          few = omega arith;
          within = m;
        }

pub ruleset pass_laws = (pass_first, pass_last, pass_large, pass_on)
