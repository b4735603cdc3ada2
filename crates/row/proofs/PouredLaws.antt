-- Laws of things that are poured into a table, over their width w and their bytes f.
use mathlib.Core.Path.{◌≡◌, refl, sym, ◌∙◌}
use mathlib.Core.Bool.{Bool, true, false}
use mathlib.Core.Logic.{◌⊎◌, inl, inr, ⊎_elim}
use mathlib.Core.List.{List, [], ◌∷◌, ◌++◌, append_assoc, append-nil}
use Prim.Native.Nat.{ℕ, zero, suc, ◌+◌, ◌-◌, ◌*◌, ◌<◌, ◌≤◌}
use native.Mathlib.Nat.{add-mul, one-mul, suc-mul, zero-mul, mul-zero, add-zero, zero-add}
use native.Mathlib.Omega.{arith}
use borrow.Author.Tests.{le-leb, lt-leb, leb-true, leb-false}
use borrow.Rule.Slice.PartMut.{put_mid}
use lib.Dec.{leb}
use lib.ListN.{length, take, drop, take-append-drop, drop_of_length-le, length-append, length-take, length-drop}
use lib.Seq.{take_all, take_at, drop_at, drop-drop}
use Rattle.row.specs.Row.{bytes_of}
use Rattle.row.specs.steps.Pouring.{place_at, poured, poured_at}

-- either a number is at most another, or it is past it
pub le_or_lt : (a b : ℕ) → (a ≤ b) ⊎ (b < a)
le_or_lt a b = go (leb a b) refl
  where
    go : (t : Bool) → leb a b ≡ t → (a ≤ b) ⊎ (b < a)
    go true e = inl (leb-true a b e)
    go false e = inr (leb-false a b e)

some_width : (n w l : ℕ) → l < n * w + w → 0 < w
some_width n zero l h = absurd (omega (arith, mul-zero n))
some_width n (suc w) l h = omega arith

module _ {A : Type 0} (w : ℕ) (f : A → List ℕ) where
  -- ---- from the front on

  pub poured_none : (t : List ℕ) → poured w f [] t ≡ t
  unfolding poured
  poured_none t = refl

  -- a table too short for one is left
  pub poured_short : (xs : List A) (t : List ℕ) → length t < w → poured w f xs t ≡ t
  unfolding poured
  poured_short [] t h = refl
  poured_short (x ∷ xs) t h = rw (lt-leb w (length t) h)

  pub poured_fits : (x : A) (xs : List A) (t : List ℕ) → w ≤ length t → poured w f (x ∷ xs) t ≡ f x ++ poured w f xs (drop w t)
  unfolding poured
  poured_fits x xs t h = rw (le-leb w (length t) h)

  -- those that all fit stand whole, and what is past them is as it was
  pub poured_all : (xs : List A) (t : List ℕ) → length xs * w ≤ length t → poured w f xs t ≡ bytes_of f xs ++ drop (length xs * w) t
  unfolding bytes_of
  poured_all [] t h = rw (poured_none, zero-mul w)
  poured_all (x ∷ xs) t h =
      let e : suc (length xs) * w ≡ w + length xs * w = omega (arith, suc-mul (length xs) w) in
      let l : w ≤ length t = omega (arith, e) in
      rw (poured_fits x xs t l, poured_all xs (drop w t) (rw length-drop (omega (arith, e))), drop-drop (length xs * w) w t, e)
      (sym (append_assoc (f x) (bytes_of f xs) (drop (w + length xs * w) t)))

  -- ---- from number n on

  pub poured_at_none : (n : ℕ) (t : List ℕ) → poured_at w f n [] t ≡ t
  unfolding poured_at
  poured_at_none n t = rw poured_none (take-append-drop (place_at w n (length t)) t)

  pub poured_at_zero : (xs : List A) (t : List ℕ) → poured_at w f 0 xs t ≡ poured w f xs t
  unfolding poured_at
  poured_at_zero xs t = let e : place_at w 0 (length t) ≡ 0 = rw (zero-mul w) (omega arith) in rw e

  -- past the room nothing is written
  pub poured_at_short : (n : ℕ) (xs : List A) (t : List ℕ) → length t < n * w + w → poured_at w f n xs t ≡ t
  unfolding poured_at
  poured_at_short n xs t h =
      rw (poured_short xs (drop (place_at w n (length t)) t) (rw length-drop (omega (arith, some_width n w (length t) h))))
      (take-append-drop (place_at w n (length t)) t)

  pub poured_at_at : (n : ℕ) (xs : List A) (t : List ℕ) → n * w ≤ length t → poured_at w f n xs t ≡ take (n * w) t ++ poured w f xs (drop (n * w) t)
  unfolding poured_at
  poured_at_at n xs t h = let e : place_at w n (length t) ≡ n * w = omega arith in rw e

  -- the rest of a table, lent on from number n
  pub poured_rest : (n : ℕ) (xs : List A) (t : List ℕ) {a : ℕ} {m : List ℕ} → a ≡ place_at w n (length t)
      → m ≡ poured w f xs (take (length t - a) (drop a t))
      → put_mid a (length t - a) t m ≡ poured_at w f n xs t
  unfolding poured_at
  poured_rest n xs t {a} ea em =
      rw (
        em,
        take_all (length t - a) (drop a t) (rw length-drop (omega arith)),
        drop_of_length-le (drop a t) {i = length t - a} (rw length-drop (omega arith)),
        append-nil,
        ea,
      )

  -- number n alone, lent on
  pub poured_lent : (n : ℕ) (x : A) (t : List ℕ) {e : ℕ} {m : List ℕ} → n * w + w ≤ length t → e ≡ n * w + w
      → m ≡ f x ++ drop w (take (e - n * w) (drop (n * w) t)) → put_mid (n * w) (e - n * w) t m ≡ poured_at w f n (x ∷ []) t
  poured_lent n x t h ee em =
      let y = drop (n * w) t in
      let k : n * w + w - n * w ≡ w = omega arith in
      let l : n * w ≤ length t = omega arith in
      let ly : w ≤ length y = rw length-drop (omega arith) in
      let z : drop w (take w y) ≡ [] = drop_of_length-le (take w y) {i = w} (rw length-take (omega arith)) in
      rw (em, ee, k, z, append-nil, poured_at_at n (x ∷ []) t l, poured_fits x [] y ly, poured_none)

  module _ (wide : (x : A) → length (f x) ≡ w) where
    pub length_bytes_of : (xs : List A) → length (bytes_of f xs) ≡ length xs * w
    unfolding bytes_of
    length_bytes_of [] = rw (zero-mul w)
    length_bytes_of (x ∷ xs) = rw (length-append, wide, length_bytes_of xs) (omega (arith, suc-mul (length xs) w))

    pub length_poured : (xs : List A) (t : List ℕ) → length (poured w f xs t) ≡ length t
    length_poured [] t = rw poured_none
    length_poured (x ∷ xs) t =
        ⊎_elim
        (λ h. rw (poured_fits x xs t h, length-append, wide, length_poured xs (drop w t), length-drop) (omega arith))
        (λ h. rw (poured_short (x ∷ xs) t h))
        (le_or_lt w (length t))

    pub length_poured_at : (n : ℕ) (xs : List A) (t : List ℕ) → length (poured_at w f n xs t) ≡ length t
    unfolding poured_at
    length_poured_at n xs t = rw (length-append, length_poured, length-take, length-drop) (omega arith)

    -- ---- some, and then those behind them

    cons_fits : (n : ℕ) (x : A) (xs : List A) (t : List ℕ) → n * w + w ≤ length t
        → poured_at w f (n + 1) xs (poured_at w f n (x ∷ []) t) ≡ poured_at w f n (x ∷ xs) t
    cons_fits n x xs t h =
        let k : (n + 1) * w ≡ n * w + w = omega (arith, add-mul n 1 w, one-mul w) in
        let a = take (n * w) t in
        let y = drop (n * w) t in
        let z = drop w y in
        let l : n * w ≤ length t = omega arith in
        let ly : w ≤ length y = rw length-drop (omega arith) in
        let la : length (a ++ f x) ≡ (n + 1) * w = rw (length-append, wide, length-take, k) (omega arith) in
        let e : poured_at w f n (x ∷ []) t ≡ (a ++ f x) ++ z =
        rw (poured_at_at n (x ∷ []) t l, poured_fits x [] y ly, poured_none) (sym (append_assoc a (f x) z)) in
        let lu : (n + 1) * w ≤ length ((a ++ f x) ++ z) = rw (length-append (a ++ f x) z, la) (omega arith) in
        rw (
          e,
          poured_at_at (n + 1) xs ((a ++ f x) ++ z) lu,
          take_at (a ++ f x) z ((n + 1) * w) la,
          drop_at (a ++ f x) z ((n + 1) * w) la,
          poured_at_at n (x ∷ xs) t l,
          poured_fits x xs y ly,
        )
        (append_assoc a (f x) (poured w f xs z))

    pub poured_at_cons : (n : ℕ) (x : A) (xs : List A) (t : List ℕ)
        → poured_at w f (n + 1) xs (poured_at w f n (x ∷ []) t) ≡ poured_at w f n (x ∷ xs) t
    poured_at_cons n x xs t =
        ⊎_elim
        (λ h. cons_fits n x xs t h)
        (λ (h : length t < n * w + w).
        let k : (n + 1) * w ≡ n * w + w = omega (arith, add-mul n 1 w, one-mul w) in
        rw (poured_at_short n (x ∷ []) t h, poured_at_short n (x ∷ xs) t h, poured_at_short (n + 1) xs t (omega (arith, k))))
        (le_or_lt (n * w + w) (length t))

    pub poured_at_append : (xs ys : List A) (n : ℕ) (t : List ℕ)
        → poured_at w f n (xs ++ ys) t ≡ poured_at w f (n + length xs) ys (poured_at w f n xs t)
    poured_at_append [] ys n t = rw (poured_at_none, add-zero)
    poured_at_append (x ∷ xs) ys n t =
        let e : n + suc (length xs) ≡ n + 1 + length xs = omega arith in
        rw (e, ← poured_at_cons n x xs t, ← poured_at_append xs ys (n + 1) (poured_at w f n (x ∷ []) t)) (sym (poured_at_cons n x (xs ++ ys) t))

    pub poured_append : (xs ys : List A) (t : List ℕ) → poured w f (xs ++ ys) t ≡ poured_at w f (length xs) ys (poured w f xs t)
    poured_append xs ys t = sym (poured_at_zero (xs ++ ys) t) ∙ poured_at_append xs ys 0 t ∙ rw (zero-add, poured_at_zero)

    -- ---- some over others: what those reach past them stays

    poured_over : (ys xs : List A) (t : List ℕ) → poured w f ys (poured w f xs t) ≡ poured w f (ys ++ drop (length ys) xs) t
    poured_over [] xs t = poured_none (poured w f xs t)
    poured_over (y ∷ ys) [] t = rw (poured_none t, append-nil ys)
    poured_over (y ∷ ys) (x ∷ xs) t =
        ⊎_elim
        (λ (h : w ≤ length t).
        let l : w ≤ length (f x ++ poured w f xs (drop w t)) = rw (length-append, wide) (omega arith) in
        rw (
          poured_fits x xs t h,
          poured_fits y ys (f x ++ poured w f xs (drop w t)) l,
          drop_at (f x) (poured w f xs (drop w t)) w (wide x),
          poured_over ys xs (drop w t),
          poured_fits y (ys ++ drop (length ys) xs) t h,
        ))
        (λ (h : length t < w).
        rw (poured_short (x ∷ xs) t h, poured_short (y ∷ ys) t h, poured_short (y ∷ ys ++ drop (length ys) xs) t h))
        (le_or_lt w (length t))

    pub poured_at_over : (n : ℕ) (ys xs : List A) (t : List ℕ)
        → poured_at w f n ys (poured_at w f n xs t) ≡ poured_at w f n (ys ++ drop (length ys) xs) t
    unfolding poured_at
    poured_at_over n ys xs t =
        let k = place_at w n (length t) in
        let a = take k t in
        let lk : length a ≡ k = rw length-take (omega arith) in
        let le : length (a ++ poured w f xs (drop k t)) ≡ length t = length_poured_at n xs t in
        rw (le, take_at a (poured w f xs (drop k t)) k lk, drop_at a (poured w f xs (drop k t)) k lk, poured_over ys xs (drop k t))

    -- a head that is written last, before those that stand behind it
    pub poured_head : (x : A) (xs : List A) (t : List ℕ) → poured w f (x ∷ []) (poured_at w f 1 xs t) ≡ poured w f (x ∷ xs) t
    poured_head x xs t =
        let o : 1 * w ≡ w = one-mul w in
        ⊎_elim
        (λ (h : w ≤ length t).
        let a = take w t in
        let y = poured w f xs (drop w t) in
        let la : length a ≡ w = rw length-take (omega arith) in
        let e : poured_at w f 1 xs t ≡ a ++ y = poured_at_at 1 xs t (rw o h) ∙ rw o in
        let lu : w ≤ length (poured_at w f 1 xs t) = rw length_poured_at h in
        rw (poured_fits x [] (poured_at w f 1 xs t) lu, poured_none, e, drop_at a y w la) (sym (poured_fits x xs t h)))
        (λ (h : length t < w). rw (poured_at_short 1 xs t (omega (arith, o)), poured_short (x ∷ []) t h, poured_short (x ∷ xs) t h))
        (le_or_lt w (length t))
