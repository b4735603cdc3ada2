-- Laws of line feeds, and of the code that counts them.
use Prim.Native.Nat.{ℕ, zero, suc, ◌+◌, ◌-◌, ◌^◌, ◌≤◌, ◌<◌, zero-le}
use native.Mathlib.Decide.{dec_lt}
use native.Mathlib.Nat.{add-zero, zero-add, add_assoc}
use native.Mathlib.Numerals.{add-one}
use native.Mathlib.Omega.{arith}
use mathlib.Core.Path.{◌≡◌, refl, sym, ◌∙◌, ap}
use mathlib.Core.Bool.{Bool, true, false, cond, not, ◌||◌, or_assoc, or-false}
use mathlib.Core.List.{List, [], ◌∷◌, ◌++◌}
use lib.Dec.{eqb, ltb}
use borrow.Author.Tests.{lt-ltb, not-true, not-false}
use lib.ListN.{length, get_or, take, drop, length-take}
use lib.Seq.{drop-cons, take-suc, take_all}
use mir.Syntax.{w8, w64}
use mir.Val.{Fits}
use Rattle.text.specs.Bytes.{in_line}
use Rattle.text.specs.Run.{run_to}
use Rattle.text.proofs.TestLaws.{or_left, or_right}
use Rattle.text.proofs.Steps.{run_on, run_ind, run_from_lem, run_within, run_out}
use Rattle.row.specs.Row.{feeds}

-- ---- eight bytes at a time

module _ (s : List ℕ) where
  -- whether a line feed stands in so many bytes
  abbrev within : ℕ → ℕ → Bool
  within k i = ltb 0 (feeds (take k (drop i s)))

  within_byte : (i k : ℕ) {j : ℕ} → j ≡ i + 1 → i < length s → within (suc k) i ≡ (eqb (get_or s i 0) 10 || within k j)
  unfolding feeds
  within_byte i k e h = rw (e, add-one, drop-cons s i 0 h) (go (eqb (get_or s i 0) 10) (feeds (take k (drop (suc i) s))))
    where
      go : (t : Bool) (n : ℕ) → ltb 0 (cond t 1 0 + n) ≡ (t || ltb 0 n)
      go true n = lt-ltb 0 (1 + n) (omega arith)
      go false n = rw zero-add

  -- the code's test of eight bytes
  pub within_eight : (i : ℕ) {a b c d e f g h : Bool} → i + 8 ≤ length s
      → a ≡ eqb (get_or s i 0) 10 → b ≡ eqb (get_or s (i + 1) 0) 10 → c ≡ eqb (get_or s (i + 2) 0) 10 → d ≡ eqb (get_or s (i + 3) 0) 10
      → e ≡ eqb (get_or s (i + 4) 0) 10 → f ≡ eqb (get_or s (i + 5) 0) 10 → g ≡ eqb (get_or s (i + 6) 0) 10 → h ≡ eqb (get_or s (i + 7) 0) 10
      → (a || b || c || d || e || f || g || h) ≡ ltb 0 (feeds (take 8 (drop i s)))
  unfolding feeds
  within_eight i l ea eb ec ed ee ef eg eh =
      rw (
        ea,
        eb,
        ec,
        ed,
        ee,
        ef,
        eg,
        eh,
        within_byte i 7 {j = i + 1} refl (omega arith),
        within_byte (i + 1) 6 {j = i + 2} (omega arith) (omega arith),
        within_byte (i + 2) 5 {j = i + 3} (omega arith) (omega arith),
        within_byte (i + 3) 4 {j = i + 4} (omega arith) (omega arith),
        within_byte (i + 4) 3 {j = i + 5} (omega arith) (omega arith),
        within_byte (i + 5) 2 {j = i + 6} (omega arith) (omega arith),
        within_byte (i + 6) 1 {j = i + 7} (omega arith) (omega arith),
        within_byte (i + 7) 0 {j = i + 8} (omega arith) (omega arith),
      )
      (simp (or_assoc, or-false))

  -- a line goes on over bytes without a line feed
  run_over : (k i : ℕ) → i + k ≤ length s → within k i ≡ false → run_to in_line s (i + k) ≡ run_to in_line s i
  unfolding in_line
  run_over zero i h e = rw add-zero
  run_over (suc k) i h e =
      let f : (eqb (get_or s i 0) 10 || within k (i + 1)) ≡ false = rw (within_byte i k {j = i + 1} refl (omega arith)) at e in
      let j : i + suc k ≡ i + 1 + k = omega arith in
      let o = run_on in_line s i (omega arith) (ap not (or_left (eqb (get_or s i 0) 10) (within k (i + 1)) f)) in
      rw (j, o) (run_over k (i + 1) (omega arith) (or_right (eqb (get_or s i 0) 10) (within k (i + 1)) f))

  pub skip_eight : (i : ℕ) (r : Bool) {a : ℕ} → run_to in_line s i ≡ a → i + 8 ≤ length s → r ≡ ltb 0 (feeds (take 8 (drop i s))) → r ≡ false
      → run_to in_line s (i + 8) ≡ a
  skip_eight i r v h e t = run_over 8 i h (sym e ∙ t) ∙ v

-- ---- up to a place

pub feeds_le : (s : List ℕ) → feeds s ≤ length s
unfolding feeds
feeds_le [] = zero-le
feeds_le (b ∷ s) = go (eqb b 10) (feeds_le s)
  where
    go : (t : Bool) → feeds s ≤ length s → cond t 1 0 + feeds s ≤ suc (length s)
    go true h = omega arith
    go false h = omega arith

pub feeds_append : (u v : List ℕ) → feeds (u ++ v) ≡ feeds u + feeds v
unfolding feeds
feeds_append [] v = rw zero-add
feeds_append (b ∷ u) v = rw (feeds_append u v, add_assoc)

module _ (s : List ℕ) where
  feeds_to : (i : ℕ) → i < length s → feeds (take (i + 1) s) ≡ feeds (take i s) + cond (eqb (get_or s i 0) 10) 1 0
  unfolding feeds
  feeds_to i h = rw (add-one, take-suc s i 0 h, feeds_append (take i s) (get_or s i 0 ∷ []), add-zero (cond (eqb (get_or s i 0) 10) 1 0))

  -- those of the first i bytes were counted
  module _ (i n : ℕ) (e : n ≡ feeds (take i s)) where
    pub feeds_on : {m : ℕ} → i < length s → m ≡ cond (eqb (get_or s i 0) 10) 1 0 → n + m ≡ feeds (take (i + 1) s)
    feeds_on h em = rw (e, em) (sym (feeds_to i h))

    pub feeds_room : {m : ℕ} → i < length s → length s ≤ 255 → m ≡ cond (eqb (get_or s i 0) 10) 1 0 → Fits w8 (n + m)
    feeds_room h l em = record { fits = omega (arith, feeds_on h em, feeds_le (take (i + 1) s), length-take (i + 1) s) }

    pub feeds_all : length s ≤ i → n ≡ feeds s
    feeds_all h = e ∙ ap feeds (take_all i s h)

  -- in a run of a line's bytes stands no line feed
  feeds_run : (i e : ℕ) → e ≡ run_to in_line s i → (k : ℕ) → i ≤ k → k ≤ e → feeds (take k s) ≡ feeds (take i s)
  unfolding in_line
  feeds_run =
      run_ind in_line s (λ (i e : ℕ). (k : ℕ) → i ≤ k → k ≤ e → feeds (take k s) ≡ feeds (take i s))
      (λ i h k a b. same i k (omega arith))
      (λ i h o k a b. same i k (omega arith))
      (λ i e h o u k a b.
      elim (dec_lt i k) [
        | yes l ↦ u k (omega arith) b ∙ feeds_to i h ∙ rw (not-true (eqb (get_or s i 0) 10) o, add-zero)
        | no l ↦ same i k (omega arith)
      ])
    where
      same : (i k : ℕ) → k ≡ i → feeds (take k s) ≡ feeds (take i s)
      same i k e = rw e

-- ---- a line of the text, as the code keeps it

module _ (s : List ℕ) (from stop number : ℕ) (h : from ≤ length s) (e : stop ≡ run_to in_line s from) (n : number ≡ 1 + feeds (take from s)) where
  -- the line of a start in it, and of one past the text
  pub line_here : {start : ℕ} → from ≤ start → start ≤ stop → number ≡ 1 + feeds (take start s)
  line_here {start} a b = omega (arith, feeds_run s from stop e start a b)

  pub line_last : {start : ℕ} → length s ≤ stop → stop < start → number ≡ 1 + feeds (take start s)
  line_last {start} a b =
      let w = run_within in_line s from stop e h in
      let f = run_from_lem in_line s from stop e in
      let p : take start s ≡ take stop s = take_all start s (omega arith) ∙ sym (take_all stop s a) in
      rw p (line_here f (omega arith))

  -- the next line
  pub line_next : stop < length s → number + 1 ≡ 1 + feeds (take (stop + 1) s)
  unfolding in_line
  line_next l =
      let f = run_from_lem in_line s from stop e in
      let o = rw (not-false (eqb (get_or s stop 0) 10) (run_out in_line s from stop e l)) at (feeds_to s stop l) in
      omega (arith, feeds_run s from stop e stop f (omega arith))

  -- its number has room, and what is left of the text falls
  pub line_below : stop < length s → number ≤ length s
  line_below l =
      omega (arith, run_from_lem in_line s from stop e, feeds_le (take from s), length-take from s)

  pub line_less : {next : ℕ} → stop < length s → next ≡ stop + 1 → length s - next < length s - from
  line_less l a = omega (arith, run_from_lem in_line s from stop e)

pub ruleset line_laws = (line_here, line_last, line_next, line_below, line_less)

pub none_counted : (s : List ℕ) → 0 ≡ feeds (take 0 s)
unfolding feeds
none_counted s = refl

pub ruleset counting = (none_counted, feeds_on, feeds_room, feeds_all)

-- part by part: n were counted before all that is left, of which u is the next part
module _ (s : List ℕ) (n : ℕ) (all : List ℕ) (e : n + feeds all ≡ feeds s) where
  module _ (u rest : List ℕ) (m : ℕ) (p : all ≡ u ++ rest) (em : m ≡ feeds u) where
    pub part_on : n + m + feeds rest ≡ feeds s
    part_on = rw add_assoc (rw (p, feeds_append u rest, ← em) at e)

    pub part_room : length s < 2 ^ 64 → Fits w64 (n + m)
    part_room w = record { fits = omega (arith, part_on, feeds_le s) }

  pub part_last : length all ≡ 0 → (n ≡ feeds s) × (n ≤ length s)
  part_last h = (omega (arith, feeds_le all), omega (arith, feeds_le s))

-- one byte
module _ (b : ℕ) (t : Bool) (e : t ≡ eqb b 10) where
  pub feed_yes : t ≡ true → ◌≡◌ {A = ℕ} 1 (cond (eqb b 10) 1 0)
  feed_yes h = rw (← e, h)

  pub feed_no : t ≡ false → ◌≡◌ {A = ℕ} 0 (cond (eqb b 10) 1 0)
  feed_no h = rw (← e, h)

pub ruleset one_feed = (feed_yes, feed_no)
