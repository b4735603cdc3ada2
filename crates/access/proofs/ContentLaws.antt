-- How the code goes through string content: first it measures, then it copies.
use Rattle.text.specs.Refusals.{refused_with}
use Rattle.std.specs.Prelude.{Err, Ok, None, Option, Some}
use Prim.Native.Nat.{ℕ, suc, ◌+◌, ◌^◌, ◌≤◌, ◌<◌}
use native.Mathlib.Nat.{add-zero, zero-add}
use native.Mathlib.Numerals.{add-one}
use native.Mathlib.Omega.{arith}
use mathlib.Core.Path.{◌≡◌, refl, sym, ◌∙◌, ap}
use mathlib.Core.Bool.{Bool, true, false, cond, not, ◌&&◌}
use mathlib.Core.List.{List, [], ◌∷◌, ◌++◌}
use borrow.Author.Tests.{eq-eqb, ne_eqb, eqb-true, eqb-false, not-true, not-false, le-leb, lt-leb}
use lib.Dec.{eqb}
use lib.ListN.{length, get_or, set, drop, drop_of_length-le}
use lib.Seq.{sets, drop-drop}
use mir.Syntax.{w64}
use mir.Val.{Fits, bool_byte}
use Rattle.text.specs.Bytes.{is_ordinary, is_escaped}
use Rattle.text.specs.Strings.{str_from, esc_from, string_at}
use Rattle.text.proofs.Steps.{drop_step, head_drop, such_within}
use Rattle.text.proofs.TestLaws.{and_right}
use Rattle.row.proofs.FieldLaws.{sets_front}
use Rattle.access.specs.Contents.{ends_at, valid, unescaped, escaped_byte, content_answer, content_left}
use Rattle.access.specs.steps.Measuring.{taken, slash, measured_of}

-- a byte that is neither ordinary nor a quote
backslash : (b : ℕ) → is_ordinary b ≡ false → (b ≡ 34 → ⊥) → b ≡ 92
unfolding is_ordinary
backslash b e q = eqb-true b 92 (not-false (eqb b 92) (rw (ne_eqb b 34 q) at e))

-- ---- how many bytes stand for the next one

module _ (o : Bool) (b next : ℕ) where
  pub taken_one : (r : Bool) → r ≡ is_ordinary b → r ≡ true → Some 1 ≡ taken o b next
  unfolding taken
  taken_one r v t = rw (← v, t)

  module _ (r : Bool) (v : r ≡ is_ordinary b) (f : r ≡ false) where
    pub taken_first : o ≡ false → None ≡ taken o b next
    unfolding taken
    taken_first t = rw (← v, f, t)

    pub taken_quote : o ≡ true → (b ≡ 92 → ⊥) → None ≡ taken o b next
    unfolding taken
    taken_quote t n = rw (← v, f, t, ne_eqb b 92 n)

    module _ (t : o ≡ true) (n : b ≡ 92) (q : Bool) (w : q ≡ is_escaped next) where
      pub taken_two : q ≡ true → Some 2 ≡ taken o b next
      unfolding taken
      taken_two u = rw (← v, f, t, eq-eqb b 92 n, ← w, u)

      pub taken_other : q ≡ false → None ≡ taken o b next
      unfolding taken
      taken_other u = rw (← v, f, t, eq-eqb b 92 n, ← w, u)

pub ruleset taken_laws = (taken_one, taken_first, taken_quote, taken_two, taken_other)

-- ---- measuring

-- the answer from place i of the string on, where content c is left and n bytes were counted: valid if the string ends
-- at m
unfoldable pub left : Bool → List ℕ → ℕ → ℕ → ℕ → Option ℕ
left o c i m n = cond (ends_at m (str_from o (c ++ (34 ∷ [])) i)) (Some (n + length (unescaped c))) None

-- after the bytes that stand for the next one
unfoldable on : Option ℕ → List ℕ → ℕ → ℕ → ℕ → Option ℕ
on None c i m n = None
on (Some k) c i m n = left (eqb k 1) (drop k c) (i + k) m (n + 1)

after : (i n : ℕ) → i + suc n ≡ i + 1 + n
after i n = omega arith

two : (i : ℕ) → i + 1 + 1 ≡ i + 2
two i = omega arith

not_slash : (b : ℕ) → is_ordinary b ≡ true → eqb b 92 ≡ false
unfolding is_ordinary
not_slash b t = not-true (eqb b 92) (and_right (not (eqb b 34)) (not (eqb b 92)) t)

ordinary_turn : (o : Bool) (b : ℕ) (c : List ℕ) (i m n : ℕ) → is_ordinary b ≡ true → left o (b ∷ c) i m n ≡ on (taken o b (get_or c 0 0)) (b ∷ c) i m n
unfolding left on taken str_from unescaped
ordinary_turn o b c i m n t = rw (t, not_slash b t, after n (length (unescaped c)))

quote_turn : (o : Bool) (c : List ℕ) (i m n : ℕ) → i + 1 < m → left o (34 ∷ c) i m n ≡ on (taken o 34 (get_or c 0 0)) (34 ∷ c) i m n
unfolding left on taken is_ordinary str_from ends_at
quote_turn true c i m n l = rw (ne_eqb (i + 1) m (omega arith))
quote_turn false c i m n l = rw (ne_eqb (i + 1) m (omega arith))

closing : is_escaped 34 ≡ true
unfolding is_escaped
closing = refl

nothing : is_escaped 0 ≡ false
unfolding is_escaped
nothing = refl

slash_turn : (o : Bool) (c : List ℕ) (i m n : ℕ) → left o (92 ∷ c) i m n ≡ on (taken o 92 (get_or c 0 0)) (92 ∷ c) i m n
unfolding left on taken is_ordinary str_from esc_from ends_at unescaped escaped_byte
slash_turn false c i m n = refl
slash_turn true [] i m n = rw (closing, nothing)
slash_turn true (x ∷ c) i m n = go (is_escaped x) refl
  where
    go : (t : Bool) → is_escaped x ≡ t → left true (92 ∷ x ∷ c) i m n ≡ on (taken true 92 x) (92 ∷ x ∷ c) i m n
    go true e = rw (e, after n (length (unescaped c)), two i)
    go false e = rw e

turn : (o : Bool) (b : ℕ) (c : List ℕ) (i m n : ℕ) → i + 1 < m → left o (b ∷ c) i m n ≡ on (taken o b (get_or c 0 0)) (b ∷ c) i m n
turn o b c i m n l = go (is_ordinary b) refl (eqb b 34) refl
  where
    go : (t : Bool) → is_ordinary b ≡ t → (q : Bool) → eqb b 34 ≡ q → left o (b ∷ c) i m n ≡ on (taken o b (get_or c 0 0)) (b ∷ c) i m n
    go true e q f = ordinary_turn o b c i m n e
    go false e true f = rw (eqb-true b 34 f) (quote_turn o c i m n l)
    go false e false f = rw (backslash b e (eqb-false b 34 f)) (slash_turn o c i m n)

-- the same of content u that starts with b
turn_at : (o : Bool) (b : ℕ) (u c : List ℕ) (i m n : ℕ) (k : Option ℕ) → u ≡ b ∷ c → k ≡ taken o b (get_or c 0 0) → i + 1 < m → left o u i m n ≡ on k u i m n
turn_at o b u c i m n k e f l = rw (e, f) (turn o b c i m n l)

-- The loop that measures: the answer a is what is left at i, after n bytes; r tells how many stand for the next one.
module _ (a : Option ℕ) (c : List ℕ) (o : Bool) (i n : ℕ) (v : a ≡ left o (drop i c) (i + 1) (length c + 2) n) where
  pub measure_end : length c ≤ i → i ≤ length c → Some n ≡ a
  unfolding left str_from is_ordinary ends_at unescaped
  measure_end h l = sym (v ∙ rw (drop_of_length-le c h, eq-eqb (i + 1 + 1) (length c + 2) (omega arith), add-zero))

  module _ (h : i < length c) (x y : ℕ) (r : Option ℕ) (f : x ≡ get_or c i 0) (g : y ≡ get_or c (i + 1) 0) (e : r ≡ taken o x y) where
    next : a ≡ on r (drop i c) (i + 1) (length c + 2) n
    next =
        v ∙ turn_at o (get_or c i 0) (drop i c) (drop (i + 1) c) (i + 1) (length c + 2) n r (drop_step c i h) (rw (head_drop c (i + 1), ← f, ← g) e) (omega arith)

    pub measure_bad : r ≡ None → None ≡ a
    unfolding on
    measure_bad z = sym (next ∙ rw z)

    pub measure_on : (k : ℕ) → r ≡ Some k → a ≡ left (eqb k 1) (drop (i + k) c) (i + k + 1) (length c + 2) (n + 1)
    unfolding on
    measure_on k z = next ∙ rw (z, drop-drop k i c, order i k)
      where
        order : (i k : ℕ) → i + 1 + k ≡ i + k + 1
        order i k = omega arith

-- one at least, and they all stand in the content
module _ (c : List ℕ) (o : Bool) (i x y k : ℕ) (r : Option ℕ) (h : i < length c) (g : y ≡ get_or c (i + 1) 0) (e : r ≡ taken o x y) (s : r ≡ Some k) where
  within : (0 < k) × (i + k ≤ length c)
  unfolding taken
  within = go (is_ordinary x) (o && (eqb x 92 && is_escaped y)) refl (sym s ∙ e)
    where
      go : (t q : Bool) → (o && (eqb x 92 && is_escaped y)) ≡ q → Some k ≡ cond t (Some 1) (cond q (Some 2) None) → (0 < k) × (i + k ≤ length c)
      go true q f w = let z : k ≡ 1 = cc in (omega arith, omega arith)
      go false true f w =
          let z : k ≡ 2 = cc in
          let l = such_within is_escaped c (i + 1) y nothing g (and_right (eqb x 92) (is_escaped y) (and_right o (eqb x 92 && is_escaped y) f)) in
          (omega arith, omega arith)
      go false false f w = cc

  pub measure_some : 0 < k
  measure_some = within.0

  pub measure_within : i + k ≤ length c
  measure_within = within.1

  pub measure_fits : length c < 2 ^ 64 → Fits w64 (i + k)
  measure_fits l = let w = measure_within in record { fits = omega arith }

pub measure_start : (c : List ℕ) → measured_of c ≡ left false (drop 0 c) (0 + 1) (length c + 2) 0
unfolding measured_of valid string_at left
measure_start c = rw (zero-add (length (unescaped c)))

pub ruleset measure_laws = (measure_end, measure_bad, measure_on, measure_some, measure_within, measure_fits, measure_start)

-- ---- copying

pub slash_is : (b n : ℕ) → n ≡ bool_byte (eqb b 92) → n ≡ slash b
unfolding slash
slash_is b n e = e ∙ go (eqb b 92)
  where
    go : (t : Bool) → bool_byte t ≡ cond t 1 0
    go true = refl
    go false = refl

pub ruleset slash_laws = (slash_is)

-- the byte after m bytes is kept
module _ (c : List ℕ) (i m : ℕ) (h : i < length c) (e : m ≡ slash (get_or c i 0)) where
  kept : i + m < length c → unescaped (drop i c) ≡ get_or c (i + m) 0 ∷ unescaped (drop (i + m + 1) c)
  unfolding slash unescaped escaped_byte
  kept l = go (eqb (get_or c i 0) 92) refl e
    where
      go : (t : Bool) → eqb (get_or c i 0) 92 ≡ t → m ≡ cond t 1 0 → unescaped (drop i c) ≡ get_or c (i + m) 0 ∷ unescaped (drop (i + m + 1) c)
      go true f w = let l1 : i + 1 < length c = omega arith in rw (w, drop_step c i h, f, drop_step c (i + 1) l1)
      go false f w = rw (w, add-zero, drop_step c i h, f)

  none_kept : length c ≤ i + m → unescaped (drop i c) ≡ []
  unfolding slash unescaped escaped_byte
  none_kept l = go (eqb (get_or c i 0) 92) refl e
    where
      go : (t : Bool) → eqb (get_or c i 0) 92 ≡ t → m ≡ cond t 1 0 → unescaped (drop i c) ≡ []
      go true f w = let l1 : length c ≤ i + 1 = omega arith in rw (drop_step c i h, f, drop_of_length-le c l1)
      go false f w = absurd (omega arith)

-- The loop that copies: what is left at i is still to be stored into t, from n on, and has room there.
module _ (u t c : List ℕ) (i n : ℕ) (v : u ≡ sets t n (unescaped (drop i c))) where
  pub copy_end : length c ≤ i → t ≡ u
  unfolding unescaped
  copy_end h = sym (v ∙ rw (drop_of_length-le c h))

  module _ (m : ℕ) (h : i < length c) (e : m ≡ slash (get_or c i 0)) where
    pub copy_stop : length c ≤ i + m → t ≡ u
    copy_stop l = sym (v ∙ rw (none_kept c i m h e l))

    pub copy_on : i + m < length c → u ≡ sets (set t n (get_or c (i + m) 0)) (n + 1) (unescaped (drop (i + m + 1) c))
    copy_on l = v ∙ rw (kept c i m h e l, add-one n)

-- the buffer t is as long as u was
module _ (t u c : List ℕ) (i n m : ℕ) (q : length t ≡ length u) (r : n + length (unescaped (drop i c)) ≤ length u) (h : i < length c) (e : m ≡ slash (get_or c i 0)) (l : i + m < length c) where
  pub copy_room : n < length t
  copy_room = omega (arith, ap length (kept c i m h e l))

  pub copy_left : n + 1 + length (unescaped (drop (i + m + 1) c)) ≤ length u
  copy_left = omega (arith, ap length (kept c i m h e l))

pub slash_fits : (c : List ℕ) (i x m : ℕ) → length c < 2 ^ 64 → i < length c → m ≡ slash x → Fits w64 (i + m)
unfolding slash
slash_fits c i x m l h e = go (eqb x 92) e
  where
    go : (t : Bool) → m ≡ cond t 1 0 → Fits w64 (i + m)
    go true w = record { fits = omega arith }
    go false w = record { fits = omega arith }

pub ruleset copy_laws = (copy_end, copy_stop, copy_on, copy_room, copy_left, slash_fits)

-- ---- the call

module _ (c t : List ℕ) (r : Option ℕ) (p : r ≡ measured_of c) where
  was_bad : r ≡ None → valid c ≡ false
  unfolding measured_of
  was_bad q = go (valid c) (sym p ∙ q)
    where
      go : (b : Bool) → cond b (Some (length (unescaped c))) None ≡ None → b ≡ false
      go true f = cc
      go false f = refl

  was_bytes : (n : ℕ) → r ≡ Some n → (valid c ≡ true) × (n ≡ length (unescaped c))
  unfolding measured_of
  was_bytes n q = go (valid c) (sym p ∙ q)
    where
      go : (b : Bool) → cond b (Some (length (unescaped c))) None ≡ Some n → (b ≡ true) × (n ≡ length (unescaped c))
      go true f = (refl, cc)
      go false f = (cc, cc)

  pub bad_answer : r ≡ None → Err (refused_with 10 0 0) ≡ content_answer c (length t)
  unfolding content_answer
  bad_answer q = rw (was_bad q)

  pub bad_left : r ≡ None → t ≡ content_left c t
  unfolding content_left
  bad_left q = rw (was_bad q)

  module _ (n : ℕ) (q : r ≡ Some n) where
    pub short_answer : length t < n → Err (refused_with 9 0 n) ≡ content_answer c (length t)
    unfolding content_answer
    short_answer l = let w = was_bytes n q in rw (w.0, ← w.1, lt-leb n (length t) l)

    pub short_left : length t < n → t ≡ content_left c t
    unfolding content_left
    short_left l = let w = was_bytes n q in rw (w.0, ← w.1, lt-leb n (length t) l)

    pub room_there : n ≤ length t → length (unescaped c) ≤ length t
    room_there l = rw (← (was_bytes n q).1) l

    pub copied_answer : n ≤ length t → Ok n ≡ content_answer c (length t)
    unfolding content_answer
    copied_answer l = let w = was_bytes n q in rw (w.0, ← w.1, le-leb n (length t) l)

    pub copied_left : (u : List ℕ) → n ≤ length t → u ≡ sets t 0 (unescaped c) → u ≡ content_left c t
    unfolding content_left
    copied_left u l f =
        let w = was_bytes n q in
        f ∙ sets_front (unescaped c) t (room_there l) ∙ rw (w.0, le-leb (length (unescaped c)) (length t) (room_there l))

pub ruleset content_laws = (bad_answer, bad_left, short_answer, short_left, room_there, copied_answer, copied_left)
