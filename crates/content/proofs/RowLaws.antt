-- Answers by the number of rows that they make, and what the code's answers tell of them.
use Rattle.text.proofs.TestLaws.{ok_pair}
use Rattle.text.specs.declared.stop.Stop.{Stop}
use Rattle.text.specs.steps.Told.{Reading}
use Rattle.text.specs.declared.stop.Cause.{Cause}
use Rattle.std.specs.Prelude.{None, Option, Some, Ok, Err}
use Prim.Native.Nat.{ℕ, ◌+◌, ◌≤◌}
use native.Mathlib.Omega.{arith}
use mathlib.Core.Path.{◌≡◌, refl, ◌∙◌, ap, subst, sym}
use mathlib.Core.List.{List, [], ◌∷◌, ◌++◌}
use lib.ListN.{length, length-append}
use Rattle.text.specs.Answer.{Ans, To, Miss, Hard, ◌then◌, must, more, ◌and◌, maybe}
use Rattle.text.specs.Leaves.{token}
use Rattle.text.proofs.Joins.{Reach}
use Rattle.amount.specs.Details.{Rows}
use Rattle.amount.specs.steps.Answers.{option_of, pair_of}
use Rattle.amount.specs.declared.detail.Detail.{Detail}
use Rattle.amount.proofs.RowCounts.{Fits, fits_at}
use Rattle.row.specs.steps.Writing.{some_row, Did}
use Rattle.row.specs.declared.writer.Out.{Out}
use Rattle.row.proofs.OutLaws.{rows_outs}
use Rattle.row.proofs.SureLaws.{Sure, sure_to, sure_hard}
use Rattle.row.proofs.DidLaws.{was_read, and_read, and_stop}
use Rattle.amount.proofs.OneRows.{OneRow, row, none, hard}

-- ---- an answer that makes n rows, and does not miss

pub data Makes : ℕ → Rows → Type 0 where
  makes : {n : ℕ} (j : ℕ) (ds : List Detail) → length ds ≡ n → Makes n (To j ds)
  refuses : {n : ℕ} (k : Cause) (p : ℕ) → Makes n (Hard k p)

pub makes_sure : {n : ℕ} {a : Rows} → Makes n a → Sure a
makes_sure (makes j ds h) = sure_to
makes_sure (refuses k p) = sure_hard

makes_more : (m n : ℕ) (xs : List Detail) {c : Rows} → length xs ≡ m → Makes n c → Makes (m + n) (more xs c)
unfolding more
makes_more m n xs h (makes l ys k) = let e : length (xs ++ ys) ≡ m + n = omega (arith, length-append xs ys, h, k) in makes l (xs ++ ys) e
makes_more m n xs h (refuses k p) = refuses k p

pub makes_and : (m n : ℕ) {a : Rows} (g : ℕ → Rows) → Makes m a → ((j : ℕ) → Makes n (g j)) → Makes (m + n) (a and g)
unfolding ◌and◌
makes_and m n g (makes j xs h) f = makes_more m n xs h (f j)
makes_and m n g (refuses k p) f = refuses k p

pub makes_token : (k : Cause) (i : ℕ) (x : Option ℕ) → Makes 0 (must k i (token x))
unfolding must token
makes_token k i (Some j) = makes j [] refl
makes_token k i None = refuses k i

pub makes_then : {A : Type 0} (n : ℕ) (m : Cause) (i : ℕ) (a : Ans A) (f : ℕ → A → Rows) → ((j : ℕ) (x : A) → Makes n (f j x)) → Makes n (must m i a then f)
unfolding must ◌then◌
makes_then n m i (To j x) f h = h j x
makes_then n m i Miss f h = refuses m i
makes_then n m i (Hard k p) f h = refuses k p

pub makes_one : (n : Cause) (i : ℕ) {a : Rows} → OneRow a → Makes 1 (must n i a)
unfolding must
makes_one n i (row j d h) = makes j (d ∷ []) refl
makes_one n i none = refuses n i
makes_one n i (hard k p) = refuses k p

-- ---- the code's answer to a reader that makes two rows

pub pair_read : {a : Rows} (r : Reading (Detail × Detail)) (j : ℕ) (d e : Detail) → Makes 2 a → r ≡ pair_of a → r ≡ Ok (j, (d, e)) → a ≡ To j (d ∷ e ∷ [])
unfolding pair_of
pair_read r j d e (makes i [] h) p q = absurd (omega (arith, h))
pair_read r j d e (makes i (x ∷ []) h) p q = absurd (omega (arith, h))
pair_read r j d e (makes i (x ∷ y ∷ []) h) p q = let z = ok_pair (sym p ∙ q) in let w : x ∷ y ∷ [] ≡ d ∷ e ∷ [] = rw (ap (λ (v : Detail × Detail). v.0) z.1, ap (λ (v : Detail × Detail). v.1) z.1) in rw (z.0, w)
pair_read r j d e (makes i (x ∷ y ∷ z ∷ ds) h) p q = absurd (omega (arith, h))
pair_read r j d e (refuses k n) p q = cc

pub pair_stop : {a : Rows} (r : Reading (Detail × Detail)) (stop : Stop) → Makes 2 a → r ≡ pair_of a → r ≡ Err stop → (k : Cause) × (p : ℕ) × (stop ≡ Stop.Hard k p) × (a ≡ Hard k p)
unfolding pair_of
pair_stop r stop (makes i [] h) e q = absurd (omega (arith, h))
pair_stop r stop (makes i (x ∷ []) h) e q = absurd (omega (arith, h))
pair_stop r stop (makes i (x ∷ y ∷ ds) h) e q = cc
pair_stop r stop (refuses m n) e q = (m, n, cc, refl)

-- ---- the code's answer to a reader of one row that may be missing

pub some_read : (i : ℕ) {a : Rows} (r : Reading (Option Detail)) (j : ℕ) (d : Option Detail) → OneRow a → r ≡ option_of (maybe i a) → r ≡ Ok (j, d) → maybe i a ≡ To j (some_row d)
unfolding maybe option_of some_row
some_read i r j d (row l c h) p q = let z = ok_pair (sym p ∙ q) in rw (← z.1, z.0)
some_read i r j d none p q = let z = ok_pair (sym p ∙ q) in rw (← z.1, z.0)
some_read i r j d (hard k n) p q = cc

pub some_stop : (i : ℕ) {a : Rows} (r : Reading (Option Detail)) (stop : Stop) → OneRow a → r ≡ option_of (maybe i a) → r ≡ Err stop
    → (k : Cause) × (p : ℕ) × (stop ≡ Stop.Hard k p) × (maybe i a ≡ Hard k p)
unfolding maybe option_of
some_stop i r stop (row l c h) p q = cc
some_stop i r stop none p q = cc
some_stop i r stop (hard k n) p q = (k, n, cc, refl)

-- ---- a chain c of a reader a that wrote, and of g, which never misses: r is the code's answer to a

module _ (base : ℕ) (o : Out) (t v : List ℕ) (r : Reading Out) (a c : Rows) (g : ℕ → Rows) (E : c ≡ (a and g)) (S : (e : ℕ) → Sure (g e)) (D : Did base a o t v r) where
  pub join_read : (e : ℕ) (m : Out) (u : List ℕ) (q : Reading Out) → r ≡ Ok (e, m) → Did base (g e) m v u q → Did base c o t u q
  join_read e m u q h k = rw E (and_read base o t v r a g D e m u q h k)

  pub join_stop : (stop : Stop) → r ≡ Err stop → Did base c o t v (Err stop)
  join_stop stop h = rw E (and_stop base o t v r a g D stop h)

-- ---- how many rows are there after a reader a that wrote

module _ (base : ℕ) (o : Out) (t v : List ℕ) (r : Reading Out) (a : Rows) (D : Did base a o t v r) (e : ℕ) (m : Out) (q : r ≡ Ok (e, m)) where
  -- after one row
  pub one_more_lem : Makes 1 a → m.rows ≡ o.rows + 1
  one_more_lem M =
      let z = was_read base o t v r a e m D q in
      let l = go a z.0 z.1 M in
      ap (λ (x : Out). x.rows) z.2.0 ∙ rows_outs z.0 o ∙ ap (λ (n : ℕ). o.rows + n) l
    where
      go : (b : Rows) (ds : List Detail) → b ≡ To e ds → Makes 1 b → length ds ≡ 1
      go b ds p (makes i xs h) = let w : xs ≡ ds = cc in rw (← w) h
      go b ds p (refuses k n) = absurd (let w : ◌≡◌ {A = ℕ} 0 1 = cc in omega arith)

  -- no more rows than bytes
  pub no_more : {s : List ℕ} (n i j : ℕ) → Reach n i a → Fits s j a → o.rows ≤ j → (e ≤ n) × (m.rows ≤ e)
  no_more n i j R F h =
      let z = was_read base o t v r a e m D q in
      let l = fits_at j e z.0 a F z.1 in
      let b = (subst (Reach n i) z.1 R).ends in
      (b.1, omega (arith, ap (λ (x : Out). x.rows) z.2.0, rows_outs z.0 o, l.1))
