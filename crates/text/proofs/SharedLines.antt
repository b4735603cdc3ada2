-- Two texts that share a line: what reads a token or the end of a line reads the same in both.
use Rattle.text.specs.declared.stop.Cause.{Cause}
use Rattle.text.specs.declared.stop.Stop.{Stop}
use Rattle.std.specs.Prelude.{None, Some, Err}
use Prim.Native.Nat.{ℕ, zero, suc, ◌+◌, ◌-◌, ◌≤◌, ◌<◌}
use native.Mathlib.Omega.{arith}
use native.Mathlib.Decide.{dec_lt}
use mathlib.Core.Path.{◌≡◌, refl, sym, ◌∙◌, ap, subst}
use mathlib.Core.Bool.{Bool, true, false, cond, ◌||◌, ◌&&◌}
use mathlib.Core.List.{List, [], ◌∷◌}
use borrow.Author.Tests.{ne_eqb, lt-leb, le-ltb, lt-ltb}
use lib.Dec.{eqb, leb}
use lib.ListN.{length, drop, get_or}
use Rattle.text.specs.Bytes.{is_blank, is_capital, is_small, is_digit, in_comment, in_account, in_currency, in_tag, in_link, starts_part}
use Rattle.text.specs.Run.{run_to, blanks}
use Rattle.text.specs.Lines.{gap_at, comma_at, comment_end, eol_at, line_end_at, empty_at}
use Rattle.text.specs.Dates.{like_shape, date_shape, two, date_in, date_at}
use Rattle.text.specs.Currencies.{currency_at}
use Rattle.text.specs.Words.{starts_with, word_at}
use Rattle.text.specs.Tags.{marked_at}
use Rattle.text.specs.Refusals.{missing_part}
use Rattle.text.specs.Leaves.{token, dated, gap, comma, line_end, empty_line, currency, tag, link, date, word, byte, hard_gap}
use Rattle.text.specs.Accounts.{account}
use Rattle.text.specs.steps.Accounts.{part_follows, parts_from, account_at, account_answer}
use Rattle.text.proofs.TestLaws.{apart, or_left, or_right, and_left, and_right}
use Rattle.text.proofs.Steps.{drop_step, head_drop, run_on, run_stops}
use Rattle.text.proofs.InLine.{has_lf, no_lf}
use Rattle.text.proofs.AccountLaws.{account_answers}
use Rattle.text.proofs.Compared.{Compares, word_compares, shape_compares}
use Rattle.text.proofs.Alike.{Alike, both_to, both_miss, both_hard, alike_map, cond_alike, if_alike, must_alike}

-- What is known of two such texts.
--     K    places of s and z where the same of the line is left, its line feed at least: they are alike
--     P    places behind the line
--     Q    where it holds, alike places are equal
pub record Shared (Q : Type 0) (s z : List ℕ) (K P : ℕ → ℕ → Type 0) : Type 0 where
  pub byte : (i j : ℕ) → K i j → get_or z j 0 ≡ get_or s i 0
  pub next : (i j : ℕ) → K i j → eqb (get_or s i 0) 10 ≡ false → K (i + 1) (j + 1)
  pub past : (i j : ℕ) → K i j → eqb (get_or s i 0) 10 ≡ true → P (i + 1) (j + 1)
  pub inside : (i j : ℕ) → K i j → (i < length s) × (j < length z)
  pub equal : (i j : ℕ) → K i j → Q → i ≡ j

module _ {Q : Type 0} {s z : List ℕ} {K P : ℕ → ℕ → Type 0} (L : Shared Q s z K P) where
  pub byte_same : {i j : ℕ} → K i j → get_or z j 0 ≡ get_or s i 0
  byte_same S = L.byte _ _ S

  pub told : {i j : ℕ} → K i j → Q → i ≡ j
  told S = L.equal _ _ S

  -- behind a byte that passes a test which the line feed fails
  pub step : (p : ℕ → Bool) → p 10 ≡ false → {i j : ℕ} → K i j → p (get_or s i 0) ≡ true → K (i + 1) (j + 1)
  step p f {i} {j} S e = L.next i j S (ne_eqb (get_or s i 0) 10 (apart p f (get_or s i 0) e))

  -- ---- runs

  -- induction on the rest of the line
  line_ind : (R : ℕ → ℕ → Type 0) → ((i j : ℕ) → K i j → (K (i + 1) (j + 1) → R (i + 1) (j + 1)) → R i j) → (i j : ℕ) → K i j → R i j
  line_ind R f i j S = go (length s) i j S (omega arith)
    where
      go : (d i j : ℕ) → K i j → length s ≤ i + d → R i j
      go zero i j S h = absurd (omega (arith, L.inside i j S))
      go (suc d) i j S h = f i j S (λ T. go d (i + 1) (j + 1) T (omega arith))

  -- the byte before the place behind a byte
  behind : {i j : ℕ} → K i j → get_or z (j + 1 - 1) 0 ≡ get_or s (i + 1 - 1) 0
  behind {i} {j} S =
      let a : i + 1 - 1 ≡ i = omega arith in
      let b : j + 1 - 1 ≡ j = omega arith in
      rw (a, b) (byte_same S)

  -- and on a run, which ends at c and d: what holds of an empty one, and of one that is longer by the byte before it
  module _ (p : ℕ → Bool) (f : p 10 ≡ false) where
    pub run_both : (R : ℕ → ℕ → ℕ → ℕ → Type 0) → ((i j : ℕ) → K i j → R i j i j) → ((i j c d : ℕ) → K i j → R (i + 1) (j + 1) c d → R i j c d)
        → {i j : ℕ} → K i j → R i j (run_to p s i) (run_to p z j)
    run_both R none more {i} {j} S = line_ind (λ i j. R i j (run_to p s i) (run_to p z j)) (λ i j S u. go i j S u (p (get_or s i 0)) refl) i j S
      where
        go : (i j : ℕ) → K i j → (K (i + 1) (j + 1) → R (i + 1) (j + 1) (run_to p s (i + 1)) (run_to p z (j + 1))) → (b : Bool) → p (get_or s i 0) ≡ b → R i j (run_to p s i) (run_to p z j)
        go i j S u true e =
            let l = L.inside i j S in
            rw (run_on p s i l.0 e, run_on p z j l.1 (ap p (byte_same S) ∙ e)) (more i j _ _ S (u (step p f S e)))
        go i j S u false e =
            let l = L.inside i j S in
            rw (run_stops p s i l.0 e, run_stops p z j l.1 (ap p (byte_same S) ∙ e)) (none i j S)

    pub run_alike : {i j : ℕ} → K i j → K (run_to p s i) (run_to p z j)
    run_alike = run_both (λ i j c d. K c d) (λ i j S. S) (λ i j c d S u. u)

    -- as far in both
    run_far : {i j : ℕ} → K i j → run_to p s i + j ≡ run_to p z j + i
    run_far = run_both (λ i j c d. c + j ≡ d + i) (λ i j S. omega arith) (λ i j c d S u. omega arith)

    -- the byte before its end
    run_before : {i j : ℕ} → K i j → get_or z (j - 1) 0 ≡ get_or s (i - 1) 0 → get_or z (run_to p z j - 1) 0 ≡ get_or s (run_to p s i - 1) 0
    run_before = run_both (λ i j c d. get_or z (j - 1) 0 ≡ get_or s (i - 1) 0 → get_or z (d - 1) 0 ≡ get_or s (c - 1) 0) (λ i j S e. e) (λ i j c d S u e. u (behind S))

  pub blanks_alike : {i j : ℕ} → K i j → K (blanks s i) (blanks z j)
  blanks_alike = run_alike is_blank no_lf.blank

  -- ---- lines

  -- a gap, and where it ends
  pub gap_at_lem : {A : Type 0} {i j : ℕ} → K i j → Alike {A = List A} Q (λ a b. K a b × (a ≡ blanks s i)) (gap s i) (gap z j)
  unfolding gap gap_at token
  gap_at_lem {A} {i} {j} S =
      let far = run_far is_blank no_lf.blank S in
      elim (dec_lt i (blanks s i)) [
        | yes l ↦ rw (lt-ltb i (blanks s i) l, lt-ltb j (blanks z j) (omega arith)) (both_to (blanks s i) (blanks z j) [] [] (blanks_alike S, refl) (λ _. refl))
        | no l ↦ rw (le-ltb i (blanks s i) (omega arith), le-ltb j (blanks z j) (omega arith)) both_miss
      ]

  pub gap_alike : {A : Type 0} {i j : ℕ} → K i j → Alike {A = List A} Q K (gap s i) (gap z j)
  gap_alike S = alike_map (λ i j k. k.0) (gap_at_lem S)

  pub hard_gap_alike : {A : Type 0} (n : Cause) {i j : ℕ} → K i j → Alike {A = List A} Q K (hard_gap n s i) (hard_gap n z j)
  unfolding hard_gap
  hard_gap_alike n {i} {j} S = must_alike n i j (told S) (gap_alike S)

  -- a test of a byte m and the byte after it
  next_same : (m : ℕ) (q : ℕ → Bool) → eqb 10 m ≡ false → {i j : ℕ} → K i j
      → (eqb (get_or z j 0) m && q (get_or z (j + 1) 0)) ≡ (eqb (get_or s i 0) m && q (get_or s (i + 1) 0))
  next_same m q f {i} {j} S = rw (byte_same S) (go (eqb (get_or s i 0) m) refl)
    where
      go : (c : Bool) → eqb (get_or s i 0) m ≡ c → (c && q (get_or z (j + 1) 0)) ≡ (c && q (get_or s (i + 1) 0))
      go true e = ap q (byte_same (step (λ x. eqb x m) f S e))
      go false e = refl

  comment_alike : {i j : ℕ} → K i j → K (comment_end s i) (comment_end z j)
  unfolding comment_end
  comment_alike {i} {j} S = rw (byte_same S) (go (eqb (get_or s i 0) 59) refl)
    where
      go : (c : Bool) → eqb (get_or s i 0) 59 ≡ c → K (cond c (run_to in_comment s (i + 1)) i) (cond c (run_to in_comment z (j + 1)) j)
      go true e = run_alike in_comment no_lf.comment (step (λ x. eqb x 59) refl S e)
      go false e = S

  eol_alike : {A : Type 0} {i j : ℕ} → K i j → Alike {A = List A} Q P (token (eol_at s i)) (token (eol_at z j))
  unfolding eol_at token
  eol_alike {A} {i} {j} S =
      let l = L.inside i j S in
      rw (byte_same S, lt-leb (length s) i l.0, lt-leb (length z) j l.1) (go (eqb (get_or s i 0) 10) refl (eqb (get_or s i 0) 13) refl)
    where
      go : (b : Bool) → eqb (get_or s i 0) 10 ≡ b → (c : Bool) → eqb (get_or s i 0) 13 ≡ c
          → Alike {A = List A} Q P (token (cond b (Some (i + 1)) (cond (c && eqb (get_or s (i + 1) 0) 10) (Some (i + 2)) None)))
          (token (cond b (Some (j + 1)) (cond (c && eqb (get_or z (j + 1) 0) 10) (Some (j + 2)) None)))
      go true e c f = both_to (i + 1) (j + 1) [] [] (L.past i j S e) (λ _. refl)
      go false e false f = both_miss
      go false e true f =
          let T = L.next i j S e in
          let a : i + 1 + 1 ≡ i + 2 = omega arith in
          let b : j + 1 + 1 ≡ j + 2 = omega arith in
          rw (byte_same T) (cond_alike token token (eqb (get_or s (i + 1) 0) 10) (Some (i + 2)) (Some (j + 2)) None None
          (λ x. both_to (i + 2) (j + 2) [] [] (subst (λ y. P y (j + 2)) a (subst (P (i + 1 + 1)) b (L.past (i + 1) (j + 1) T x))) (λ _. refl)) (λ _. both_miss))

  pub line_alike : {A : Type 0} {i j : ℕ} → K i j → Alike {A = List A} Q P (line_end s i) (line_end z j)
  unfolding line_end line_end_at
  line_alike S = eol_alike (comment_alike (blanks_alike S))

  pub empty_alike : {A : Type 0} {i j : ℕ} → K i j → Alike {A = List A} Q P (empty_line s i) (empty_line z j)
  unfolding empty_line empty_at line_end
  empty_alike {A} {i} {j} S = let l = L.inside i j S in rw (lt-ltb i (length s) l.0, lt-ltb j (length z) l.1) (line_alike S)

  -- ---- accounts

  parts_alike : {i j : ℕ} → K i j → K (parts_from (drop i s) i) (parts_from (drop j z) j)
  unfolding parts_from in_account is_capital is_small is_digit
  parts_alike {i} {j} S = line_ind (λ i j. K (parts_from (drop i s) i) (parts_from (drop j z) j)) (λ i j S u. again i j S u) i j S
    where
      on : ℕ → ℕ → Bool
      on y x = in_account x || (eqb x 58 && starts_part y)

      go : (i j : ℕ) → K i j → (K (i + 1) (j + 1) → K (parts_from (drop (i + 1) s) (i + 1)) (parts_from (drop (j + 1) z) (j + 1)))
          → (b : Bool) → on (get_or s (i + 1) 0) (get_or s i 0) ≡ b → K (cond b (parts_from (drop (i + 1) s) (i + 1)) i) (cond b (parts_from (drop (j + 1) z) (j + 1)) j)
      go i j S u true e = u (step (on (get_or s (i + 1) 0)) refl S e)
      go i j S u false e = S

      again : (i j : ℕ) → K i j → (K (i + 1) (j + 1) → K (parts_from (drop (i + 1) s) (i + 1)) (parts_from (drop (j + 1) z) (j + 1)))
          → K (parts_from (drop i s) i) (parts_from (drop j z) j)
      again i j S u =
          let l = L.inside i j S in
          rw (drop_step s i l.0, drop_step z j l.1, head_drop s (i + 1), head_drop z (j + 1), next_same 58 starts_part refl S, byte_same S) (go i j S u _ refl)

  pub account_alike : {A : Type 0} {i j : ℕ} → K i j → Alike {A = List A} Q K (account s i) (account z j)
  unfolding account_at account_answer part_follows
  account_alike {A} {i} {j} S =
      rw (account_answers s i, account_answers z j, byte_same S) (cond_alike (account_answer) (account_answer) (starts_part (get_or s i 0)) _ _ (Err Stop.Miss) (Err Stop.Miss)
      (λ e.
      let T = run_alike in_account no_lf.account (step starts_part no_lf.part S e) in
      rw (next_same 58 starts_part refl T)
      (cond_alike (account_answer) (account_answer) (part_follows s (run_to in_account s (i + 1))) _ _ (Err (Stop.Hard missing_part i)) (Err (Stop.Hard missing_part j))
      (λ _. both_to _ _ [] [] (parts_alike T) (λ _. refl)) (λ _. both_hard missing_part i j (told S))))
      (λ _. both_miss))

  -- ---- the other tokens

  pub byte_alike : {A : Type 0} (c : ℕ) → eqb 10 c ≡ false → {i j : ℕ} → K i j → Alike {A = List A} Q K (byte c s i) (byte c z j)
  unfolding byte
  byte_alike c f {i} {j} S = rw (byte_same S) (if_alike (eqb (get_or s i 0) c) _ _ (λ e. both_to (i + 1) (j + 1) [] [] (step (λ x. eqb x c) f S e) (λ _. refl)))

  pub currency_alike : {A : Type 0} {i j : ℕ} → K i j → Alike {A = List A} Q K (currency s i) (currency z j)
  unfolding currency currency_at token
  currency_alike {A} {i} {j} S =
      rw (byte_same S) (cond_alike token token (is_capital (get_or s i 0)) _ _ None None
      (λ e.
      let T = step is_capital no_lf.capital S e in
      let c = no_lf.currency in
      rw (run_before in_currency c T (behind S))
      (cond_alike token token (starts_part (get_or s (run_to in_currency s (i + 1) - 1) 0)) _ _ None None
      (λ _. both_to _ _ [] [] (run_alike in_currency c T) (λ _. refl)) (λ _. both_miss)))
      (λ _. both_miss))

  -- a byte that starts a run, and the run
  pub started_alike : {A : Type 0} (h p : ℕ → Bool) → h 10 ≡ false → p 10 ≡ false → {i j : ℕ} → K i j
      → Alike {A = List A} Q K (token (cond (h (get_or s i 0)) (Some (run_to p s (i + 1))) None)) (token (cond (h (get_or z j 0)) (Some (run_to p z (j + 1))) None))
  unfolding token
  started_alike h p f g {i} {j} S =
      rw (byte_same S) (cond_alike token token (h (get_or s i 0)) _ _ None None (λ e. both_to _ _ [] [] (run_alike p g (step h f S e)) (λ _. refl)) (λ _. both_miss))

  pub comma_alike : {A : Type 0} {i j : ℕ} → K i j → Alike {A = List A} Q K (comma s i) (comma z j)
  unfolding comma comma_at
  comma_alike S = started_alike (λ x. eqb x 44) is_blank refl no_lf.blank (blanks_alike S)

  pub tag_alike : {A : Type 0} {i j : ℕ} → K i j → Alike {A = List A} Q K (tag s i) (tag z j)
  unfolding tag marked_at
  tag_alike S = started_alike (λ x. eqb x 35) in_tag refl no_lf.tag S

  pub link_alike : {A : Type 0} {i j : ℕ} → K i j → Alike {A = List A} Q K (link s i) (link z j)
  unfolding link marked_at
  link_alike S = started_alike (λ x. eqb x 94) in_link refl no_lf.link S

  -- ---- words and dates

  -- a comparison with bytes that hold no line feed; where they stand, each of them and the place behind them stands in
  -- the line
  module _ (m : List ℕ → List ℕ → Bool) (C : Compares m) where
    compared : (w : List ℕ) → has_lf w ≡ false → (i j : ℕ) → K i j → m w (drop j z) ≡ m w (drop i s)
    unfolding has_lf
    compared [] n i j S = C.none (drop j z) ∙ sym (C.none (drop i s))
    compared (c ∷ w) n i j S =
        let l = L.inside i j S in
        rw (drop_step s i l.0, drop_step z j l.1, C.step c w (get_or s i 0) (drop (i + 1) s), C.step c w (get_or z j 0) (drop (j + 1) z), byte_same S)
        (go (C.takes c (get_or s i 0)) refl (compared w (or_right (eqb c 10) (has_lf w) n) (i + 1) (j + 1)))
      where
        go : (b : Bool) → C.takes c (get_or s i 0) ≡ b → (K (i + 1) (j + 1) → m w (drop (j + 1) z) ≡ m w (drop (i + 1) s))
            → (b && m w (drop (j + 1) z)) ≡ (b && m w (drop (i + 1) s))
        go true e u = u (step (C.takes c) (C.no_lf c (or_left (eqb c 10) (has_lf w) n)) S e)
        go false e u = refl

    compared_far : (w : List ℕ) → has_lf w ≡ false → (i j : ℕ) → K i j → m w (drop i s) ≡ true → (k a b : ℕ) → k ≤ length w → a ≡ i + k → b ≡ j + k → K a b
    unfolding has_lf
    compared_far w n i j S e zero a b l p q = let x : a ≡ i = omega arith in let y : b ≡ j = omega arith in rw (x, y) S
    compared_far [] n i j S e (suc k) a b l p q = absurd (omega arith)
    compared_far (c ∷ w) n i j S e (suc k) a b l p q =
        let f = sym (C.step c w (get_or s i 0) (drop (i + 1) s)) ∙ sym (ap (m (c ∷ w)) (drop_step s i (L.inside i j S).0)) ∙ e in
        let T = step (C.takes c) (C.no_lf c (or_left (eqb c 10) (has_lf w) n)) S (and_left (C.takes c (get_or s i 0)) (m w (drop (i + 1) s)) f) in
        compared_far w (or_right (eqb c 10) (has_lf w) n) (i + 1) (j + 1) T (and_right (C.takes c (get_or s i 0)) (m w (drop (i + 1) s)) f) k a b (omega arith) (omega arith) (omega arith)

  pub word_alike : {A : Type 0} (w : List ℕ) → has_lf w ≡ false → {i j : ℕ} → K i j → Alike {A = List A} Q K (word w s i) (word w z j)
  unfolding word word_at token
  word_alike w f {i} {j} S =
      rw (compared starts_with word_compares w f i j S) (cond_alike token token (starts_with w (drop i s)) _ _ None None
      (λ e. both_to _ _ [] [] (compared_far starts_with word_compares w f i j S e (length w) _ _ (omega arith) refl refl) (λ _. refl)) (λ _. both_miss))

  date_lf : has_lf date_shape ≡ false
  unfolding has_lf
  date_lf = refl

  -- where the shape of a date stands
  module _ {i j : ℕ} (S : K i j) (e : like_shape date_shape (drop i s) ≡ true) where
    date_far : (k a b : ℕ) → k ≤ 10 → a ≡ i + k → b ≡ j + k → K a b
    date_far = compared_far like_shape shape_compares date_shape date_lf i j S e

    two_same : (k a b : ℕ) → k ≤ 9 → a ≡ i + k → b ≡ j + k → two z b ≡ two s a
    unfolding two
    two_same k a b l p q = rw (byte_same (date_far k a b (omega arith) p q), byte_same (date_far (k + 1) (a + 1) (b + 1) (omega arith) (omega arith) (omega arith)))

    date_in_alike : Alike Q K (dated (date_in s i)) (dated (date_in z j))
    unfolding date_in dated
    date_in_alike =
        let m = two s (i + 5) in
        let d = two s (i + 8) in
        rw (two_same 0 i j (omega arith) (omega arith) (omega arith), two_same 2 (i + 2) (j + 2) (omega arith) refl refl)
        (rw (two_same 5 (i + 5) (j + 5) (omega arith) refl refl, two_same 8 (i + 8) (j + 8) (omega arith) refl refl)
        (cond_alike dated dated (leb 1 m && leb m 12 && leb 1 d && leb d 31) (Some ((i + 10), _)) (Some ((j + 10), _)) None None
        (λ _. both_to (i + 10) (j + 10) _ _ (date_far 10 (i + 10) (j + 10) (omega arith) refl refl) (λ _. refl)) (λ _. both_miss)))

  pub date_alike : {i j : ℕ} → K i j → Alike Q K (date s i) (date z j)
  unfolding date date_at dated
  date_alike {i} {j} S =
      rw (compared like_shape shape_compares date_shape date_lf i j S)
      (cond_alike dated dated (like_shape date_shape (drop i s)) (date_in s i) (date_in z j) None None (λ e. date_in_alike S e) (λ _. both_miss))
