-- Blocks: how long they are, where they end, and recovering reading block by block.
use Prim.Native.Nat.{ℕ, zero, suc, ◌+◌, ◌-◌, ◌<◌, ◌≤◌, zero-le}
use native.Mathlib.Nat.{add-zero}
use native.Mathlib.Omega.{arith}
use mathlib.Core.Path.{◌≡◌, refl, sym, ap, ◌∙◌}
use mathlib.Core.Bool.{Bool, true, false, cond}
use mathlib.Core.List.{List, [], ◌∷◌, ◌++◌, append_assoc}
use borrow.Author.Tests.{eqb-true}
use lib.Dec.{eqb}
use lib.ListN.{length, get_or, take, drop, length-append, length-take, length-drop, take-append-drop}
use lib.Seq.{take-append-le, drop-append-le, get_or-drop}
use Rattle.text.proofs.TestLaws.{absurd_bool, or_left, or_right}
use Rattle.row.specs.Row.{feeds}
use Rattle.text.specs.Boundaries.{is_start, cuts, holds}
use Rattle.entry.proofs.EntryCut.{Ends}
use Rattle.entry.proofs.StringsLaws.{start_zero}
use Rattle.ledger.specs.Strict.{part_by}
use Rattle.ledger.specs.declared.scan.Profile.{Profile}
use Rattle.row.proofs.LineLaws.{feeds_append}
use Rattle.recovery.specs.Recovering.{block_length, block_rows, recover_by}

-- ---- a block's length

none_or : (t : Bool) (n m : ℕ) → n ≤ m → cond t 0 n ≤ m
none_or true n m h = omega arith
none_or false n m h = h

pub block_le : (s : List ℕ) → block_length s ≤ length s
unfolding block_length
block_le [] = zero-le
block_le (b ∷ s) = omega (arith, none_or (cuts b (get_or s 0 0)) (block_length s) (length s) (block_le s))

pub block_some : (s : List ℕ) → 0 < length s → 0 < block_length s
unfolding block_length
block_some [] h = h
block_some (b ∷ s) h = omega arith

-- a text that holds no boundary is one block
pub block_whole : (s : List ℕ) → holds s ≡ false → block_length s ≡ length s
unfolding block_length holds
block_whole [] e = refl
block_whole (b ∷ s) e = rw (or_left (cuts b (get_or s 0 0)) (holds s) e, block_whole s (or_right (cuts b (get_or s 0 0)) (holds s) e))

-- ---- texts that are empty or end in a line feed

pub ends_drop : (n : ℕ) (u : List ℕ) → n ≤ length u → Ends u → Ends (drop n u)
ends_drop n u h e l =
    let k : 0 < length u - n = rw length-drop at l in
    let i : n + (length u - n - 1) ≡ length u - 1 = omega arith in
    rw (length-drop, get_or-drop, i) (e (omega arith))

pub ends_cons : (b : ℕ) (u : List ℕ) → 0 < length u → Ends u → Ends (b ∷ u)
ends_cons b [] h e l = absurd (omega arith)
ends_cons b (d ∷ v) h e l =
    let p : suc (suc (length v)) - 1 ≡ suc (suc (length v) - 1) = omega arith in
    rw p (e h)

-- ---- a block ends at a boundary, or with the text

abbrev pub Boundary : List ℕ → List ℕ → Type 0
Boundary x y = Ends x × (is_start (get_or y 0 0) ≡ true)

pub cut_is : (b n : ℕ) → cuts b n ≡ true → (b ≡ 10) × (is_start n ≡ true)
cut_is b n e = go (eqb b 10) refl e
  where
    go : (t : Bool) → eqb b 10 ≡ t → cond t (is_start n) false ≡ true → (b ≡ 10) × (is_start n ≡ true)
    go true q e = (eqb-true b 10 q, e)
    go false q e = absurd_bool e

boundary_at : (t : Bool) (b n : ℕ) (s : List ℕ) → cuts b (get_or s 0 0) ≡ t
    → (0 < length (drop n s) → (0 < length (take n s)) × Boundary (take n s) (drop n s))
    → 0 < length (drop (cond t 0 n) s) → Boundary (b ∷ take (cond t 0 n) s) (drop (cond t 0 n) s)
boundary_at true b n s e ih h = (λ _. (cut_is b (get_or s 0 0) e).0, (cut_is b (get_or s 0 0) e).1)
boundary_at false b n s e ih h = let i = ih h in (ends_cons b (take n s) i.0 i.1.0, i.1.1)

pub block_boundary : (s : List ℕ) → 0 < length (drop (block_length s) s) → Boundary (take (block_length s) s) (drop (block_length s) s)
unfolding block_length
block_boundary [] h = absurd (omega arith)
block_boundary (b ∷ s) h =
    boundary_at (cuts b (get_or s 0 0)) b (block_length s) s refl
    (λ k. (rw length-take (omega (arith, block_some s (omega (arith, rw length-drop at k)), rw length-drop at k)), block_boundary s k)) h

-- what stands behind a boundary does not change the first block before it
block_local : (p t : List ℕ) → 0 < length p → Ends p → is_start (get_or t 0 0) ≡ true → block_length (p ++ t) ≡ block_length p
unfolding block_length
block_local [] t h e b = absurd (omega arith)
block_local (c ∷ []) t h e b = let q : c ≡ 10 = e (omega arith) in rw (q, b, start_zero)
block_local (c ∷ d ∷ p) t h e b =
    ap (λ (n : ℕ). suc (cond (cuts c d) 0 n)) (block_local (d ∷ p) t (omega arith) (ends_drop 1 (c ∷ d ∷ p) (omega arith) e) b)

pub feeds_parts : (n : ℕ) (s : List ℕ) → feeds (take n s) + feeds (drop n s) ≡ feeds s
feeds_parts n s = sym (feeds_append (take n s) (drop n s)) ∙ ap feeds (take-append-drop n s)

-- ---- block by block, in a profile

module _ (K : Profile) where
  pub recover_nil : (f a l : ℕ) → recover_by K f a l [] ≡ []
  unfolding recover_by
  recover_nil zero a l = refl
  recover_nil (suc f) a l = refl

  pub recover_step : (f a l : ℕ) (s : List ℕ) → 0 < length s
      → recover_by K (suc f) a l s ≡ block_rows a l (block_length s) (part_by K (take (block_length s) s)) ++ recover_by K f (a + block_length s) (l + feeds (take (block_length s) s)) (drop (block_length s) s)
  unfolding recover_by
  recover_step f a l [] h = absurd (omega arith)
  recover_step f a l (b ∷ s) h = refl

  bound_step : (f g a l : ℕ) (s : List ℕ) → 0 < length s → length s ≤ suc f → length s ≤ suc g
      → ((n k : ℕ) (z : List ℕ) → length z ≤ f → length z ≤ g → recover_by K f n k z ≡ recover_by K g n k z) → recover_by K (suc f) a l s ≡ recover_by K (suc g) a l s
  bound_step f g a l s h hf hg ih =
      let n = block_length s in
      let x = take n s in
      let lf : length (drop n s) ≤ f = rw length-drop (omega (arith, block_some s h)) in
      let lg : length (drop n s) ≤ g = rw length-drop (omega (arith, block_some s h)) in
      rw (recover_step f a l s h, recover_step g a l s h) (ap (λ z. block_rows a l n (part_by K x) ++ z) (ih (a + n) (l + feeds x) (drop n s) lf lg))

  -- any bound on the blocks that is enough gives the same
  pub recover_bound : (f g a l : ℕ) (s : List ℕ) → length s ≤ f → length s ≤ g → recover_by K f a l s ≡ recover_by K g a l s
  recover_bound zero g a l [] hf hg = rw (recover_nil zero a l, recover_nil g a l)
  recover_bound (suc f) g a l [] hf hg = rw (recover_nil (suc f) a l, recover_nil g a l)
  recover_bound zero g a l (c ∷ s) hf hg = absurd (omega arith)
  recover_bound (suc f) zero a l (c ∷ s) hf hg = absurd (omega arith)
  recover_bound (suc f) (suc g) a l (c ∷ s) hf hg = bound_step f g a l (c ∷ s) (omega arith) hf hg (λ n k z p q. recover_bound f g n k z p q)

  -- ---- at a boundary the rows of both sides come one after the other

  pub append_none : (t : List ℕ) (f g h a l : ℕ) → length t ≤ f → length t ≤ h → recover_by K f a l t ≡ recover_by K g a l [] ++ recover_by K h (a + 0) (l + 0) t
  append_none t f g h a l hf hh = rw (recover_nil g a l, add-zero a, add-zero l) (recover_bound f h a l t hf hh)

  module _ (t : List ℕ) (b : is_start (get_or t 0 0) ≡ true) where
    append_step : (f g h a l : ℕ) (p : List ℕ) → 0 < length p → length p + length t ≤ suc f → length p ≤ suc g → Ends p
        → ((n k : ℕ) (z : List ℕ) → length z + length t ≤ f → length z ≤ g → Ends z
        → recover_by K f n k (z ++ t) ≡ recover_by K g n k z ++ recover_by K h (n + length z) (k + feeds z) t)
        → recover_by K (suc f) a l (p ++ t) ≡ recover_by K (suc g) a l p ++ recover_by K h (a + length p) (l + feeds p) t
    append_step f g h a l p some hf hg e ih =
        let n = block_length p in
        let nl : n ≤ length p = block_le p in
        let np : 0 < n = block_some p some in
        let z = drop n p in
        let k = l + feeds (take n p) in
        let lz : length z ≡ length p - n = length-drop n p in
        let ea : a + n + length z ≡ a + length p = omega arith in
        let el : k + feeds z ≡ l + feeds p = omega (arith, feeds_parts n p) in
        rw (
          recover_step f a l (p ++ t) (rw length-append (omega arith)),
          recover_step g a l p some,
          block_local p t some e b,
          take-append-le n p t nl,
          drop-append-le n p t nl,
          ← ea,
          ← el,
          ih (a + n) k z (omega arith) (omega arith) (ends_drop n p nl e),
        )
        (sym (append_assoc (block_rows a l n (part_by K (take n p))) (recover_by K g (a + n) k z) (recover_by K h (a + n + length z) (k + feeds z) t)))

    pub recover_append : (f g h a l : ℕ) (p : List ℕ) → length p + length t ≤ f → length p ≤ g → length t ≤ h → Ends p
        → recover_by K f a l (p ++ t) ≡ recover_by K g a l p ++ recover_by K h (a + length p) (l + feeds p) t
    unfolding feeds
    recover_append zero g h a l [] hf hg hh e = append_none t zero g h a l (omega arith) hh
    recover_append zero g h a l (c ∷ p) hf hg hh e = absurd (omega arith)
    recover_append (suc f) g h a l [] hf hg hh e = append_none t (suc f) g h a l (omega arith) hh
    recover_append (suc f) zero h a l (c ∷ p) hf hg hh e = absurd (omega arith)
    recover_append (suc f) (suc g) h a l (c ∷ p) hf hg hh e =
        append_step f g h a l (c ∷ p) (omega arith) hf hg e (λ n k z i j v. recover_append f g h n k z i j hh v)
