-- Laws of the exact sum.
use Rattle.std.specs.Prelude.{Err}
use Rattle.decimal.specs.Faults.{Value, large_fault}
use Prim.Native.Nat.{ℕ, ◌+◌, ◌-◌, ◌*◌, ◌%◌, ◌^◌, ◌≤◌, ◌<◌}
use native.Mathlib.Omega.{arith}
use native.Mathlib.Nat.{sub-zero}
use mathlib.Core.Path.{◌≡◌, sym, ap, ◌∙◌}
use mathlib.Core.Bool.{Bool, true, false}
use mathlib.Core.Logic.{⊎_elim}
use mir.Val.{bool_byte}
use Rattle.std.specs.Bool.{FalseIff}
use Rattle.row.proofs.PourLaws.{le_or_lt}
use mathlib.Core.List.{List, map}
use borrow.Author.Tests.{lt-ltb, le-ltb, le-leb, lt-leb}
use lib.IntN.{ℤ, pos, neg_ℤ, ◌+ℤ◌, ◌-ℤ◌, +ℤ_assoc, +ℤ_comm, +ℤ_idr, +ℤ_idl, +ℤ_invr, +ℤ-neg_ℤ_cancel}
use Rattle.decimal.specs.Exact.{exact, exactly, word_limit, largest, minus_from}
use Rattle.decimal.specs.steps.Judged.{judged_of, total}
use Rattle.decimal.proofs.Laws.{exact_large, ones_is}
use Rattle.decimal.proofs.Whole.{total_met}
use Rattle.row.specs.declared.table.Row.{Row}
use Rattle.row.specs.Row.{fields_in}
use Rattle.order.specs.steps.Buffers.{record_room, record_at, records_from, records_of}
use Rattle.order.specs.declared.sum.Wide.{Wide}
use Rattle.order.specs.Sums.{whole_from, sum_of, summed}
use Rattle.order.specs.steps.Wide.{size, held}
use Rattle.order.proofs.RecordLaws.{records_step, records_none}

-- the value in a record's bytes
abbrev pub value_in : List ℕ → ℤ
value_in b = whole_from (fields_in b).bits

-- ---- the number held in two words

add_in : (a d z s : ℤ) → (a +ℤ d) +ℤ (z +ℤ s) ≡ ((a +ℤ z) +ℤ d) +ℤ s
add_in a d z s =
    sym (+ℤ_assoc (a +ℤ d) z s)
    ∙ ap (λ (x : ℤ). x +ℤ s) (+ℤ_assoc a d z ∙ ap (λ (x : ℤ). a +ℤ x) (+ℤ_comm d z) ∙ sym (+ℤ_assoc a z d))

-- l is the lower word afterwards, and c what is carried or borrowed
module _ (w : Wide) (x l c : ℕ) where
  pub plus_wide : (b : Bool) → w.low < 2 ^ 64 → x < 2 ^ 64 → l ≡ (w.low + x) % 2 ^ 64 → FalseIff b (w.low + x < 2 ^ 64) → c ≡ bool_byte b
      → (size (record { high = w.high + c; low = l }) ≡ size w + x) × (w.high ≤ w.high + c) × (w.high + c ≤ w.high + 1)
  unfolding size
  plus_wide true h k e f g = let m : 2 ^ 64 ≤ w.low + x = ⊎_elim (λ (z : 2 ^ 64 ≤ w.low + x). z) (λ (z : w.low + x < 2 ^ 64). absurd (f z)) (le_or_lt (2 ^ 64) (w.low + x)) in (omega arith, omega arith, omega arith)
  plus_wide false h k e f g = (omega arith, omega arith, omega arith)

  pub less_wide : (b : Bool) → 1 ≤ w.high → w.low < 2 ^ 64 → x < 2 ^ 64 → l < 2 ^ 64 → (l + x) % 2 ^ 64 ≡ w.low → FalseIff b (x ≤ w.low) → c ≡ bool_byte b
      → (size (record { high = w.high - c; low = l }) + x ≡ size w) × (w.high - c ≤ w.high) × (w.high ≤ w.high - c + 1)
  unfolding size
  less_wide true n h k j e f g =
      let m : w.low < x = ⊎_elim (λ (z : x ≤ w.low). absurd (f z)) (λ (z : w.low < x). z) (le_or_lt x w.low) in
      let q : l + x ≡ w.low + word_limit = omega arith in
      let r : w.high * word_limit ≡ (w.high - c) * word_limit + word_limit = omega arith in
      (omega (arith, q, r), omega arith, omega arith)
  less_wide false n h k j e f g = (omega arith, omega arith, omega arith)

pub ruleset word_laws = (plus_wide, less_wide)

module _ (n : ℕ) (w r : Wide) (x : ℕ) (s : ℤ) where
  held_plus : size r ≡ size w + x → held n w +ℤ (pos x +ℤ s) ≡ held n r +ℤ s
  unfolding held
  held_plus e =
      let z = neg_ℤ (pos (n * word_limit)) in
      add_in (pos (size w)) z (pos x) s ∙ ap (λ (m : ℕ). (pos m +ℤ z) +ℤ s) (sym e)

  held_less : size r + x ≡ size w → held n w +ℤ (neg_ℤ (pos x) +ℤ s) ≡ held n r +ℤ s
  unfolding held
  held_less e =
      let z = neg_ℤ (pos (n * word_limit)) in
      add_in (pos (size w)) z (neg_ℤ (pos x)) s
      ∙ ap (λ (y : ℤ). (y +ℤ z) +ℤ s) (ap (λ (m : ℕ). pos m -ℤ pos x) (sym e) ∙ +ℤ-neg_ℤ_cancel (pos (size r)) (pos x))

module _ (n : ℕ) (w : Wide) (l : w.low < 2 ^ 64) where
  over : (r : Value) → n * word_limit ≤ size w → r ≡ exact false (size w - n * word_limit) 1 → r ≡ exactly (held n w) 1
  unfolding held total
  over r h e = total_met r false true (size w) (n * word_limit) (rw (le-leb (n * word_limit) (size w) h) e)

  under : (r : Value) → size w < n * word_limit → r ≡ exact true (n * word_limit - size w) 1 → r ≡ exactly (held n w) 1
  unfolding held total
  under r h e = total_met r false true (size w) (n * word_limit) (rw (lt-leb (n * word_limit) (size w) h) e)

  pub held_up : (r : Value) → w.high ≡ n → r ≡ judged_of false w.low 0 → r ≡ exactly (held n w) 1
  unfolding size
  held_up r h e =
      let d : size w - n * word_limit ≡ w.low = omega arith in
      over r (omega arith) (rw d (e ∙ ones_is false w.low))

  pub held_down : (r : Value) → w.high < n → n - w.high ≡ 1 → 0 < w.low → r ≡ judged_of true (largest - w.low + 1) 0 → r ≡ exactly (held n w) 1
  unfolding size
  held_down r h o k e =
      let d : n * word_limit - size w ≡ largest - w.low + 1 = omega arith in
      under r (omega arith) (rw d (e ∙ ones_is true (largest - w.low + 1)))

  pub far_up : (w.high ≡ n → ⊥) → n ≤ w.high → Err large_fault ≡ exactly (held n w) 1
  unfolding size
  far_up h k = over (Err large_fault) (omega arith) (sym (exact_large false (size w - n * word_limit) 1 (omega arith)))

  pub far_down : w.high < n → (n - w.high ≡ 1 → ⊥) → Err large_fault ≡ exactly (held n w) 1
  unfolding size
  far_down h k = under (Err large_fault) (omega arith) (sym (exact_large true (n * word_limit - size w) 1 (omega arith)))

  pub just_down : w.high < n → n - w.high ≡ 1 → w.low ≤ 0 → Err large_fault ≡ exactly (held n w) 1
  unfolding size
  just_down h o k = under (Err large_fault) (omega arith) (sym (exact_large true (n * word_limit - size w) 1 (omega arith)))

pub ruleset held_laws = (held_up, held_down, far_up, far_down, just_down)

-- ---- the loop: w holds the sum of the values of the records before record i

pub record Summing (t : List ℕ) (w : Wide) (i : ℕ) : Type 0 where
  pub whole : sum_of (map value_in (records_of t)) ≡ held (record_room t) w +ℤ sum_of (map value_in (records_from t i (record_room t - i)))
  pub most : w.high ≤ record_room t + i
  pub least : record_room t ≤ w.high + i
  pub within : i ≤ record_room t

pub sum_start : (t : List ℕ) (w : Wide) → w.high ≡ record_room t → w.low ≡ 0 → Summing t w 0
unfolding held size
sum_start t w h l =
    let n = record_room t in
    let e : size w ≡ n * word_limit = omega arith in
    let v = sum_of (map value_in (records_from t 0 n)) in
    record {
      whole = sym (ap (λ (m : ℕ). held n w +ℤ sum_of (map value_in (records_from t 0 m))) (sub-zero n)
          ∙ ap (λ (m : ℕ). (pos m -ℤ pos (n * word_limit)) +ℤ v) e ∙ ap (λ (z : ℤ). z +ℤ v) (+ℤ_invr (pos (n * word_limit))) ∙ +ℤ_idl v);
      most = omega arith;
      least = omega arith;
      within = omega arith;
    }

module _ (t : List ℕ) (w : Wide) (i : ℕ) (e : Summing t w i) where
  pub sum_end : (r : Value) (c : ℕ) → record_room t ≤ i → c ≡ record_room t → r ≡ exactly (held c w) 1 → r ≡ summed (map value_in (records_of t))
  unfolding summed sum_of
  sum_end r c h f k = (rw f at k) ∙ ap (λ (z : ℤ). exactly z 1) (sym (e.whole ∙ rw (records_none t i (record_room t) h) (+ℤ_idr (held (record_room t) w))))

  module _ (h : i < record_room t) (b : Row) (eb : b ≡ fields_in (record_at t i)) (n : ℕ) (en : n ≡ b.bits) where
    value_there : (z : ℤ) → whole_from n ≡ z
        → sum_of (map value_in (records_of t)) ≡ held (record_room t) w +ℤ (z +ℤ sum_of (map value_in (records_from t (i + 1) (record_room t - (i + 1)))))
    unfolding sum_of
    value_there z ez =
        let v : value_in (record_at t i) ≡ z = rw (← eb, ← en) ez in
        e.whole ∙ rw (records_step t i (record_room t) h, v)

    module _ (r : Wide) where
      pub sum_plus : n < minus_from → (size r ≡ size w + n) × (w.high ≤ r.high) × (r.high ≤ w.high + 1) → Summing t r (i + 1)
      unfolding whole_from
      sum_plus l k =
          record {
            whole = value_there (pos n) (rw (lt-ltb n minus_from l)) ∙ held_plus (record_room t) w r n _ k.0;
            most = omega arith;
            least = omega arith;
            within = omega arith;
          }

      pub sum_less : n < 2 ^ 64 → minus_from ≤ n → (size r + (largest - n + 1) ≡ size w) × (r.high ≤ w.high) × (w.high ≤ r.high + 1) → Summing t r (i + 1)
      unfolding whole_from
      sum_less b l k =
          let x : word_limit - n ≡ largest - n + 1 = omega arith in
          record {
            whole = value_there (neg_ℤ (pos (largest - n + 1))) (rw (le-ltb n minus_from l, x)) ∙ held_less (record_room t) w r (largest - n + 1) _ k.0;
            most = omega arith;
            least = omega arith;
            within = omega arith;
          }

pub ruleset sum_laws = (sum_start, sum_end, sum_plus, sum_less)
