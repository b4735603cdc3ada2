-- Laws of little-endian fields, over the width.
use mathlib.Core.Path.{◌≡◌, refl, sym, ap, ◌∙◌}
use mathlib.Core.List.{List, [], ◌∷◌, ◌++◌}
use Prim.Native.Nat.{ℕ, zero, suc, ◌+◌, ◌-◌, ◌*◌, ◌/◌, ◌%◌, ◌^◌, ◌<◌, ◌≤◌}
use native.Mathlib.Nat.{zero-add, add-zero, add-suc, suc-add, pow-suc, pow-succ', one-le-pow, pow-le-pow_right, mod-one, div-one, div-div-eq-div-mul}
use native.Mathlib.Numerals.{add-one}
use native.Mathlib.Omega.{arith}
use lib.Arith.{mod-mul, digits_div, digits_mod}
use lib.Dec.{lit<}
use lib.ListN.{length, get_or, take, drop, set}
use lib.Seq.{sets, sets-eq, drop-cons, get_or-drop}
use mir.Syntax.{w8, w64}
use mir.Val.{Fits}
use Rattle.row.specs.Field.{le, un, field_limit}

pub length_le : (k x : ℕ) → length (le k x) ≡ k
length_le zero x = refl
length_le (suc k) x = ap suc (length_le k (x / 256))

-- one byte is stored, and what is left of the number behind it
put_byte : (t : List ℕ) (i k x : ℕ) {j y : ℕ} → j ≡ i + 1 → y ≡ x / 256 → sets (set t i (x % 256)) j (le k y) ≡ sets t i (le (suc k) x)
put_byte t i k x ej ey = rw (ej, ey, add-one)

-- a number of four bytes, byte by byte; a, b, c, d are what the code works out for each
pub put_bytes : (t : List ℕ) (at x : ℕ) {a b c d : ℕ} → a ≡ x % 256 → b ≡ x / 256 % 256 → c ≡ x / 65536 % 256 → d ≡ x / 16777216 % 256
    → set (set (set (set t at a) (at + 1) b) (at + 2) c) (at + 3) d ≡ sets t at (le 4 x)
put_bytes t at x ea eb ec ed =
    let t1 = set t at (x % 256) in
    let t2 = set t1 (at + 1) (x / 256 % 256) in
    let t3 = set t2 (at + 2) (x / 65536 % 256) in
    rw (ea, eb, ec, ed)
    (put_byte t3 (at + 3) 0 (x / 16777216) refl refl
    ∙ put_byte t2 (at + 2) 1 (x / 65536) (omega arith) (sym (div-div-eq-div-mul x 65536 256))
    ∙ put_byte t1 (at + 1) 2 (x / 256) (omega arith) (sym (div-div-eq-div-mul x 256 256))
    ∙ put_byte t at 3 x refl refl)

-- the bytes of a wider field are those of its low part, and those of the rest behind them
le_add : (k j x : ℕ) → le (k + j) x ≡ le k x ++ le j (x / 256 ^ k)
le_add zero j x = rw (zero-add j, div-one x)
le_add (suc k) j x =
    let e : x / 256 / 256 ^ k ≡ x / 256 ^ suc k = div-div-eq-div-mul x 256 (256 ^ k) ∙ ap (λ (n : ℕ). x / n) (sym (pow-succ' 256 k)) in
    rw (suc-add, le_add k j (x / 256), e)

pub sets_front : (w t : List ℕ) → length w ≤ length t → sets t 0 w ≡ w ++ drop (length w) t
sets_front w t h = rw (zero-add (length w)) at (sets-eq w t 0 (rw (zero-add (length w)) h))

pub sets_append : (vs ws t : List ℕ) (i : ℕ) → sets t i (vs ++ ws) ≡ sets (sets t i vs) (i + length vs) ws
sets_append [] ws t i = rw add-zero
sets_append (v ∷ vs) ws t i = rw (add-suc, sets_append vs ws (set t i v) (suc i), suc-add)

-- so a field may be stored in two parts
pub put_parts : (t : List ℕ) (at k j x : ℕ) {u v : List ℕ} → u ≡ sets t at (le k x) → v ≡ sets u (at + k) (le j (x / 256 ^ k))
    → v ≡ sets t at (le (k + j) x)
put_parts t at k j x eu ev = rw (ev, eu, le_add k j x, sets_append (le k x) (le j (x / 256 ^ k)) t at, length_le)

un_lt : (bs : List ℕ) → ((i : ℕ) → get_or bs i 0 < 256) → (k : ℕ) → un (take k bs) < 256 ^ k
un_lt bs h zero = omega arith
un_lt [] h (suc k) = one-le-pow (suc k) 256 (lit< tt)
un_lt (b ∷ bs) h (suc k) = rw pow-suc (omega (arith, un_lt bs (λ i. h (suc i)) k, h 0))

-- before the last of eight bytes is read, the number has room for it
un_lt_7 : (t : List ℕ) → ((i : ℕ) → Fits w8 (get_or t i 0)) → (a k : ℕ) → k ≤ 7 → un (take k (drop a t)) < 256 ^ 7
un_lt_7 t h a k l =
    omega (arith, un_lt (drop a t) (λ i. rw get_or-drop (omega (arith, h (a + i)))) k, pow-le-pow_right {n = 256} (lit< tt) l)

-- a byte below the number of those behind it
un_byte : (t : List ℕ) (i k : ℕ) {j : ℕ} → j ≡ i + 1 → i < length t → un (take (suc k) (drop i t)) ≡ un (take k (drop j t)) * 256 + get_or t i 0
un_byte t i k e h = rw (e, add-one, drop-cons t i 0 h)

-- the bytes from `left` on were read, and x is their number
module _ (t : List ℕ) (at width left x : ℕ) (e : x ≡ un (take (width - left) (drop (at + left) t))) where
  -- the byte before them comes below them
  pub get_byte : {b : ℕ} → b ≡ get_or t (at + (left - 1)) 0 → 0 < left → left ≤ width → at + width ≤ length t
      → x * 256 + b ≡ un (take (width - (left - 1)) (drop (at + (left - 1)) t))
  get_byte u h l r =
      let a : width - (left - 1) ≡ suc (width - left) = omega arith in
      rw (u, e, a, un_byte t (at + (left - 1)) (width - left) {j = at + left} (omega arith) (omega arith))

  module _ (h : (i : ℕ) → Fits w8 (get_or t i 0)) (g : 0 < left) (l : left ≤ width) (w : width ≤ 8) where
    below : x < 256 ^ 7
    below = rw e (un_lt_7 t h (at + left) (width - left) (omega arith))

    pub get_wide : Fits w64 (x * 256)
    get_wide = omega (arith, below)

    pub get_more : Fits w64 (x * 256 + get_or t (at + (left - 1)) 0)
    get_more = omega (arith, below, h (at + (left - 1)))

-- a number of four bytes, byte by byte
pub get_bytes : (t : List ℕ) (at : ℕ) {a b c d : ℕ} → at + 4 ≤ length t
    → a ≡ get_or t at 0 → b ≡ get_or t (at + 1) 0 → c ≡ get_or t (at + 2) 0 → d ≡ get_or t (at + 3) 0
    → a + 256 * (b + 256 * (c + 256 * d)) ≡ un (take 4 (drop at t))
get_bytes t at h ea eb ec ed =
    omega (
      arith,
      un_byte t at 3 {j = at + 1} refl (omega arith),
      un_byte t (at + 1) 2 {j = at + 2} (omega arith) (omega arith),
      un_byte t (at + 2) 1 {j = at + 3} (omega arith) (omega arith),
      un_byte t (at + 3) 0 {j = at + 4} (omega arith) (omega arith),
    )

-- a number of eight bytes, from its two halves
pub get_halves : (t : List ℕ) (at : ℕ) {a b : ℕ} → at + 8 ≤ length t → a ≡ un (take 4 (drop at t)) → b ≡ un (take 4 (drop (at + 4) t))
    → a + field_limit * b ≡ un (take 8 (drop at t))
get_halves t at h ea eb =
    omega (
      arith,
      un_byte t at 3 {j = at + 1} refl (omega arith),
      un_byte t (at + 1) 2 {j = at + 2} (omega arith) (omega arith),
      un_byte t (at + 2) 1 {j = at + 3} (omega arith) (omega arith),
      un_byte t (at + 3) 0 {j = at + 4} (omega arith) (omega arith),
      un_byte t at 7 {j = at + 1} refl (omega arith),
      un_byte t (at + 1) 6 {j = at + 2} (omega arith) (omega arith),
      un_byte t (at + 2) 5 {j = at + 3} (omega arith) (omega arith),
      un_byte t (at + 3) 4 {j = at + 4} (omega arith) (omega arith),
    )

module _ (t : List ℕ) (h : (i : ℕ) → Fits w8 (get_or t i 0)) (at : ℕ) where
  half_lt : (i : ℕ) → un (take 4 (drop i t)) < 256 ^ 4
  half_lt i = un_lt (drop i t) (λ j. rw get_or-drop (omega (arith, h (i + j)))) 4

  pub half_high : {b : ℕ} → b ≡ un (take 4 (drop (at + 4) t)) → Fits w64 (field_limit * b)
  half_high e = omega (arith, e, half_lt (at + 4))

  pub halves_fit : {a b : ℕ} → a ≡ un (take 4 (drop at t)) → b ≡ un (take 4 (drop (at + 4) t)) → Fits w64 (a + field_limit * b)
  halves_fit ea eb = omega (arith, ea, eb, half_lt at, half_lt (at + 4))

pub ruleset halves = (get_halves, half_high, halves_fit)

pub ruleset getting = (get_byte, get_wide, get_more)

-- what reading finds of what was written: the number's low bytes
pub un_le : (k x : ℕ) → un (le k x) ≡ x % 256 ^ k
un_le zero x = sym (mod-one x)
un_le (suc k) x =
    rw pow-suc (ap (λ (n : ℕ). n * 256 + x % 256) (un_le k (x / 256)) ∙ sym (mod-mul x (one-le-pow k 256 (lit< tt)) (lit< tt)))

-- and the bytes of what was read are those that stand there
pub le_un : (bs : List ℕ) → ((i : ℕ) → get_or bs i 0 < 256) → le (length bs) (un bs) ≡ bs
le_un [] h = refl
le_un (b ∷ bs) h =
    rw (digits_mod (un bs) (h 0), digits_div (un bs) (h 0)) (ap (λ (l : List ℕ). b ∷ l) (le_un bs (λ i. h (suc i))))
