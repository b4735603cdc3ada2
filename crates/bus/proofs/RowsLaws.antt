-- Writing row by row, from what the code knows.
use Rattle.text.specs.declared.stop.Refused.{Refused}
use Rattle.text.specs.Refusals.{refused_with}
use Rattle.std.specs.Prelude.{Err, Ok, Result}
use Prim.Native.Nat.{ℕ, suc, ◌+◌, ◌*◌, ◌-◌, ◌≤◌, ◌<◌, min}
use native.Mathlib.Nat.{zero-add}
use native.Mathlib.Omega.{arith}
use mathlib.Core.Path.{◌≡◌, refl, sym, ◌∙◌, ap}
use mathlib.Core.Bool.{Bool, true, false, cond}
use mathlib.Core.List.{List, ◌++◌}
use borrow.Author.Tests.{eqb-true}
use lib.Dec.{eqb}
use lib.ListN.{length, take, drop, length-append, length-drop}
use lib.Seq.{sets, drop-drop, length-sets}
use Rattle.decimal.specs.Exact.{largest}
use Rattle.row.proofs.FieldLaws.{sets_append}
use Rattle.bus.specs.Writing.{row_of, fault, row_fields, faults, packet}
use Rattle.bus.specs.steps.Measuring.{measured_by, row_measured, measured_from}
use Rattle.bus.specs.steps.Putting.{RowFits, RowsFit}
use Rattle.row.specs.Row.{width}
use Rattle.text.proofs.Steps.{rest_of}

-- ---- row by row: `left` rows are left, from byte i of the table on

min_min : (x y z : ℕ) → min (min (x + y) largest + z) largest ≡ min (x + (y + z)) largest
min_min x y z = omega arith

pub by_fault : (bad n : ℕ) (x : Refused) → measured_by bad n ≡ Err x → (eqb bad 0 ≡ false) × (x ≡ refused_with bad 0 0)
unfolding measured_by
by_fault bad n x e = go (eqb bad 0) e
  where
    go : (q : Bool) → cond q (Ok n) (Err (refused_with bad 0 0)) ≡ Err x → (q ≡ false) × (x ≡ refused_with bad 0 0)
    go true z = cc
    go false z = (refl, cc)

pub by_bytes : (bad n k : ℕ) → measured_by bad n ≡ Ok k → (bad ≡ 0) × (k ≡ n)
unfolding measured_by
by_bytes bad n k e = let h = go (eqb bad 0) e in (eqb-true bad 0 h.0, h.1)
  where
    go : (q : Bool) → cond q (Ok n) (Err (refused_with bad 0 0)) ≡ Ok k → (q ≡ true) × (k ≡ n)
    go true z = (refl, cc)
    go false z = absurd (let y : ◌≡◌ {A = ℕ} 0 1 = cc in omega arith)

module _ (s t : List ℕ) (left i : ℕ) (h : 0 < left) (m : i + left * width ≤ length t) where
  abbrev u : List ℕ
  u = take (length t - i) (drop i t)

  u_is : u ≡ drop i t
  u_is = rest_of t i

  pub rest_whole : width ≤ length u
  rest_whole = rw (u_is, length-drop) (omega arith)

  pub rest_inside : i + width + (left - 1) * width ≤ length t
  rest_inside = omega arith

  next_u : drop width (drop i t) ≡ drop (i + width) t
  next_u = drop-drop width i t

  left_is : left ≡ suc (left - 1)
  left_is = omega arith

  faults_step : faults s left (drop i t) ≡ cond (eqb (fault s (row_of (drop i t))) 0) (faults s (left - 1) (drop (i + width) t)) (fault s (row_of (drop i t)))
  unfolding faults
  faults_step = ap (λ (n : ℕ). faults s n (drop i t)) left_is ∙ rw next_u

  packet_step : packet s left (drop i t) ≡ row_fields s (drop i t) ++ packet s (left - 1) (drop (i + width) t)
  unfolding packet
  packet_step = ap (λ (n : ℕ). packet s n (drop i t)) left_is ∙ rw next_u

  packet_length : length (packet s left (drop i t)) ≡ length (row_fields s u) + length (packet s (left - 1) (drop (i + width) t))
  packet_length =
      ap length packet_step
      ∙ length-append (row_fields s (drop i t)) (packet s (left - 1) (drop (i + width) t))
      ∙ ap (λ (j : List ℕ). length (row_fields s j) + length (packet s (left - 1) (drop (i + width) t))) (sym u_is)

  module _ (w : Result ℕ Refused) (ew : w ≡ row_measured s u) where
    was : w ≡ measured_by (fault s (row_of (drop i t))) (length (row_fields s u))
    unfolding row_measured
    was = ew ∙ ap (λ (j : List ℕ). measured_by (fault s (row_of j)) (length (row_fields s u))) u_is

    pub measure_fault : (r : Result ℕ Refused) (total : ℕ) (x : Refused) → r ≡ measured_from s left (drop i t) total → w ≡ Err x → Err x ≡ r
    unfolding measured_from measured_by
    measure_fault r total x e z =
        let q = by_fault (fault s (row_of (drop i t))) (length (row_fields s u)) x (sym was ∙ z) in
        let a : faults s left (drop i t) ≡ fault s (row_of (drop i t)) = faults_step ∙ rw q.0 in
        sym (e ∙ rw (a, q.0, q.1))

    pub measure_on : (r : Result ℕ Refused) (total k next : ℕ) → r ≡ measured_from s left (drop i t) total → w ≡ Ok k → next ≡ min (total + k) largest
        → r ≡ measured_from s (left - 1) (drop (i + width) t) next
    unfolding measured_from
    measure_on r total k next e z en =
        let q = by_bytes (fault s (row_of (drop i t))) (length (row_fields s u)) k (sym was ∙ z) in
        let a : faults s left (drop i t) ≡ faults s (left - 1) (drop (i + width) t) = faults_step ∙ rw q.0 in
        let rest = packet s (left - 1) (drop (i + width) t) in
        let b : length (packet s left (drop i t)) ≡ k + length rest = packet_length ∙ ap (λ (j : ℕ). j + length rest) (sym q.1) in
        e ∙ rw (a, b, en, min_min total k (length rest))

-- the same row by row: k rows were measured
pub measure_next : (s t : List ℕ) (n k : ℕ) → k < n → n * width ≤ length t → (w : Result ℕ Refused) → w ≡ row_measured s (take (length t - k * width) (drop (k * width) t))
    → (r : Result ℕ Refused) (total size next : ℕ) → r ≡ measured_from s (n - k) (drop (k * width) t) total → w ≡ Ok size → next ≡ min (total + size) largest
    → r ≡ measured_from s (n - (k + 1)) (drop ((k + 1) * width) t) next
measure_next s t n k h m w ew r total size next e z en =
    let a : n - k - 1 ≡ n - (k + 1) = omega arith in
    let b : k * width + width ≡ (k + 1) * width = omega arith in
    rw (a, b) at (measure_on s t (n - k) (k * width) (omega arith) (omega arith) w ew r total size next e z en)

pub measure_end : (s u : List ℕ) (left total : ℕ) (r : Result ℕ Refused) → left ≤ 0 → total ≤ largest → r ≡ measured_from s left u total → Ok total ≡ r
unfolding measured_from measured_by faults packet
measure_end s u left total r h l e =
    let z : left ≡ 0 = omega arith in
    let k : min (total + 0) largest ≡ total = omega arith in
    sym (e ∙ rw (z, k))

pub capped : (a b k : ℕ) → k ≡ min (a + b) largest → k ≤ largest
capped a b k e = omega arith

pub ruleset measure_laws = (rest_whole, measure_fault, measure_next, measure_end, capped)

-- ---- putting row by row: b is the buffer now, b₀ what it was, and the next row goes to place `at`

pub record Putting (s t b₀ : List ℕ) (n : ℕ) (b : List ℕ) (left i at : ℕ) : Type 0 where
  pub goal : sets b₀ 0 (packet s n t) ≡ sets b at (packet s left (drop i t))
  pub inside : i + left * width ≤ length t
  pub sound : faults s left (drop i t) ≡ 0
  pub room : at + length (packet s left (drop i t)) ≤ length b₀
  pub same : length b ≡ length b₀

pub put_start : (s t b : List ℕ) (n : ℕ) → RowsFit s t n (length b) → Putting s t b n b n 0 0
put_start s t b n f =
    record { goal = refl; inside = rw (zero-add (n * width)) f.there; sound = f.sound; room = rw (zero-add (length (packet s n t))) f.room; same = refl }

module _ (s t b₀ b : List ℕ) (n left i at : ℕ) (p : Putting s t b₀ n b left i at) where
  pub put_end : left ≤ 0 → b ≡ sets b₀ 0 (packet s n t)
  unfolding packet
  put_end h = let z : left ≡ 0 = omega arith in sym (p.goal ∙ rw z)

  module _ (h : 0 < left) where
    abbrev row : List ℕ
    row = take (length t - i) (drop i t)

    none_here : fault s (row_of (drop i t)) ≡ 0
    none_here = go (eqb (fault s (row_of (drop i t))) 0) refl (sym (faults_step s t left i h p.inside) ∙ p.sound)
      where
        go : (q : Bool) → eqb (fault s (row_of (drop i t))) 0 ≡ q
            → cond q (faults s (left - 1) (drop (i + width) t)) (fault s (row_of (drop i t))) ≡ 0 → fault s (row_of (drop i t)) ≡ 0
        go true e z = eqb-true (fault s (row_of (drop i t))) 0 e
        go false e z = z

    pub put_here : RowFits s row at (length b)
    put_here =
        let l = p.room in
        let k = p.same in
        record {
          there = rest_whole s t left i h p.inside;
          sound = ap (λ (j : List ℕ). fault s (row_of j)) (u_is s t left i h p.inside) ∙ none_here;
          room = omega (arith, packet_length s t left i h p.inside);
        }

    pub put_on : (v : List ℕ) (next : ℕ) → next ≡ at + length (row_fields s row) → v ≡ sets b at (row_fields s row) → Putting s t b₀ n v (left - 1) (i + width) next
    put_on v next en ev =
        let l = p.room in
        let rest = packet s (left - 1) (drop (i + width) t) in
        record {
          goal = p.goal ∙ rw (packet_step s t left i h p.inside, ev, en, u_is s t left i h p.inside) (sets_append (row_fields s (drop i t)) rest b at);
          inside = rest_inside s t left i h p.inside;
          sound = sym (faults_step s t left i h p.inside ∙ rw none_here) ∙ p.sound;
          room = omega (arith, packet_length s t left i h p.inside);
          same = ap length ev ∙ length-sets b at (row_fields s row) ∙ p.same;
        }

-- the same row by row: k rows were put
pub put_next : (s t b₀ b : List ℕ) (n k at : ℕ) → Putting s t b₀ n b (n - k) (k * width) at → k < n → (v : List ℕ) (next : ℕ)
    → next ≡ at + length (row_fields s (take (length t - k * width) (drop (k * width) t))) → v ≡ sets b at (row_fields s (take (length t - k * width) (drop (k * width) t)))
    → Putting s t b₀ n v (n - (k + 1)) ((k + 1) * width) next
put_next s t b₀ b n k at p h v next en ev =
    let a : n - k - 1 ≡ n - (k + 1) = omega arith in
    let c : k * width + width ≡ (k + 1) * width = omega arith in
    rw (a, c) at (put_on s t b₀ b n (n - k) (k * width) at p (omega arith) v next en ev)

pub ruleset put_laws = (put_start, put_end, put_here, put_next)
