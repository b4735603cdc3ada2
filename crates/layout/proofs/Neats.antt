-- Bytes that may stand, in the output too.
use Prim.Native.Nat.{ℕ, zero, suc, ◌/◌, ◌≤◌}
use native.Mathlib.Omega.{arith}
use mathlib.Core.Path.{◌≡◌, refl, sym, ◌∙◌, subst}
use mathlib.Core.Bool.{Bool, true, false, cond, ◌||◌, ◌&&◌}
use mathlib.Core.List.{List, [], ◌∷◌, ◌++◌, append_assoc}
use borrow.Author.Tests.{le-leb, leb-true, eqb-true, ne_eqb}
use lib.Dec.{eqb, leb}
use lib.ListN.{length, get_or, drop}
use Rattle.text.specs.Bytes.{is_digit, is_capital, is_small, starts_part, in_account, in_currency, in_tag, in_link}
use Rattle.text.specs.Permitted.{permitted, clean}
use Rattle.text.proofs.TestLaws.{absurd_bool, and_left, and_right}
use Rattle.text.proofs.Ats.{At}
use Rattle.amount.specs.Literal.{in_literal}
use Rattle.layout.specs.Written.{digit, size_text, value_text, date_text, quotes}
use Rattle.layout.proofs.Texts.{Tidy}
use Rattle.layout.proofs.Numbers.{All, digit_is, size_literal}
use Rattle.layout.proofs.Values.{Form}
use Rattle.layout.proofs.Tokens.{Currency, Account, Key, Content, in_parts}

tidy_tail : (b : ℕ) (t : List ℕ) → Tidy (b ∷ t) → Tidy t
unfolding clean
tidy_tail b t h = go (permitted b (get_or t 0 0)) h
  where
    go : (c : Bool) → suc (length t) ≤ cond c (suc (clean t)) 0 → length t ≤ clean t
    go true h = omega arith
    go false h = absurd (omega arith)

pub tidy_drop : (n : ℕ) (t : List ℕ) → Tidy t → Tidy (drop n t)
tidy_drop zero t h = h
tidy_drop (suc n) [] h = h
tidy_drop (suc n) (b ∷ t) h = tidy_drop n t (tidy_tail b t h)

-- a text that may stand before any that may
pub record Neat (xs : List ℕ) : Type 0 where
  pub before : (v : List ℕ) → Tidy v → Tidy (xs ++ v)

abbrev pub Free : ℕ → Type 0
Free b = (n : ℕ) → permitted b n ≡ true

pub tidy_cons : (b : ℕ) (v : List ℕ) → permitted b (get_or v 0 0) ≡ true → Tidy v → Tidy (b ∷ v)
unfolding clean
tidy_cons b v p h = rw p (omega arith)

pub tidy_head : (b : ℕ) (t : List ℕ) → Tidy (b ∷ t) → permitted b (get_or t 0 0) ≡ true
unfolding clean
tidy_head b t h = go (permitted b (get_or t 0 0)) h
  where
    go : (c : Bool) → suc (length t) ≤ cond c (suc (clean t)) 0 → c ≡ true
    go true h = refl
    go false h = absurd (omega arith)

pub neat_none : Neat []
neat_none = record { before = λ v h. h }

pub neat_cons : (b : ℕ) (xs : List ℕ) → Free b → Neat xs → Neat (b ∷ xs)
neat_cons b xs f N = record { before = λ v h. tidy_cons b (xs ++ v) (f (get_or (xs ++ v) 0 0)) (N.before v h) }

pub neat_join : (xs ys : List ℕ) → Neat xs → Neat ys → Neat (xs ++ ys)
neat_join xs ys N O = record { before = λ v h. subst Tidy (sym (append_assoc xs ys v)) (N.before (ys ++ v) (O.before v h)) }

-- ---- bytes

pub free_range : (b : ℕ) → 32 ≤ b → b ≤ 126 → Free b
unfolding permitted
free_range b l h n = rw (le-leb 32 b l, le-leb b 126 h)

pub free_feed : Free 10
unfolding permitted
free_feed n = refl

pub neat_all : (p : ℕ → Bool) → ((b : ℕ) → p b ≡ true → Free b) → (xs : List ℕ) → All p xs → Neat xs
neat_all p f [] h = neat_none
neat_all p f (x ∷ xs) h = neat_cons x xs (f x h.0) (neat_all p f xs h.1)

or_case : {X : Type 0} (a b : Bool) → (a || b) ≡ true → (a ≡ true → X) → (b ≡ true → X) → X
or_case true b e f g = f refl
or_case false b e f g = g e

ranged : (b x y : ℕ) → 32 ≤ x → y ≤ 126 → (leb x b && leb b y) ≡ true → Free b
ranged b x y l h e = free_range b (omega (arith, leb-true x b (and_left (leb x b) (leb b y) e))) (omega (arith, leb-true b y (and_right (leb x b) (leb b y) e)))

free_is : (b m : ℕ) → 32 ≤ m → m ≤ 126 → eqb b m ≡ true → Free b
free_is b m l h e = let f : b ≡ m = eqb-true b m e in free_range b (omega arith) (omega arith)

free_digit : (b : ℕ) → is_digit b ≡ true → Free b
unfolding is_digit
free_digit b e = ranged b 48 57 (omega arith) (omega arith) e

free_capital : (b : ℕ) → is_capital b ≡ true → Free b
unfolding is_capital
free_capital b e = ranged b 65 90 (omega arith) (omega arith) e

pub free_small : (b : ℕ) → is_small b ≡ true → Free b
unfolding is_small
free_small b e = ranged b 97 122 (omega arith) (omega arith) e

free_part : (b : ℕ) → starts_part b ≡ true → Free b
unfolding starts_part
free_part b e = or_case (is_capital b) (is_digit b) e (free_capital b) (free_digit b)

free_account : (b : ℕ) → in_account b ≡ true → Free b
unfolding in_account
free_account b e =
    or_case (is_capital b || is_small b || is_digit b) (eqb b 45) e (λ e. or_case (is_capital b || is_small b) (is_digit b) e
    (λ e. or_case (is_capital b) (is_small b) e (free_capital b) (free_small b)) (free_digit b)) (free_is b 45 (omega arith) (omega arith))

pub free_tag : (b : ℕ) → in_tag b ≡ true → Free b
unfolding in_tag
free_tag b e =
    or_case (is_capital b || is_small b || is_digit b || eqb b 45) (eqb b 95) e
    (λ e. or_case (is_capital b || is_small b || is_digit b) (eqb b 45) e
    (λ e. or_case (is_capital b || is_small b) (is_digit b) e (λ e. or_case (is_capital b) (is_small b) e (free_capital b) (free_small b)) (free_digit b))
    (free_is b 45 (omega arith) (omega arith))) (free_is b 95 (omega arith) (omega arith))

pub free_link : (b : ℕ) → in_link b ≡ true → Free b
unfolding in_link
free_link b e = or_case (in_tag b) (eqb b 46) e (free_tag b) (free_is b 46 (omega arith) (omega arith))

free_currency : (b : ℕ) → in_currency b ≡ true → Free b
unfolding in_currency
free_currency b e =
    or_case (is_capital b || is_digit b || eqb b 45 || eqb b 95 || eqb b 46) (eqb b 39) e
    (λ e. or_case (is_capital b || is_digit b || eqb b 45 || eqb b 95) (eqb b 46) e
    (λ e. or_case (is_capital b || is_digit b || eqb b 45) (eqb b 95) e
    (λ e. or_case (is_capital b || is_digit b) (eqb b 45) e (λ e. or_case (is_capital b) (is_digit b) e (free_capital b) (free_digit b)) (free_is b 45 (omega arith) (omega arith)))
    (free_is b 95 (omega arith) (omega arith))) (free_is b 46 (omega arith) (omega arith))) (free_is b 39 (omega arith) (omega arith))

free_literal : (b : ℕ) → in_literal b ≡ true → Free b
unfolding in_literal
free_literal b e =
    or_case (is_digit b || eqb b 46) (eqb b 44) e (λ e. or_case (is_digit b) (eqb b 46) e (free_digit b) (free_is b 46 (omega arith) (omega arith))) (free_is b 44 (omega arith) (omega arith))

-- ---- texts

pub neat_currency : (w : List ℕ) → Currency w → Neat w
neat_currency w C = subst Neat (sym C.is) (neat_cons C.head C.tail (free_capital C.head C.capital) (neat_all in_currency free_currency C.tail C.within))

free_parts : (b : ℕ) → in_parts b ≡ true → Free b
unfolding in_parts
free_parts b e = or_case (in_account b) (eqb b 58) e (free_account b) (free_is b 58 (omega arith) (omega arith))

pub neat_account : (w : List ℕ) → Account w → Neat w
neat_account w C =
    subst Neat (sym C.is) (neat_cons C.head _ (free_part C.head C.starts) (neat_join C.front _ (neat_all in_account free_account C.front C.within)
    (neat_cons 58 _ (free_range 58 (omega arith) (omega arith)) (neat_cons C.second C.back (free_part C.second C.joined) (neat_all in_parts free_parts C.back C.parts.within)))))

pub neat_quotes : (w : List ℕ) → Neat w → Neat (quotes w)
unfolding quotes
neat_quotes w N = neat_cons 34 _ (free_range 34 (omega arith) (omega arith)) (neat_join w (34 ∷ []) N (neat_cons 34 [] (free_range 34 (omega arith) (omega arith)) neat_none))

pub neat_space : (w : List ℕ) → Neat w → Neat (32 ∷ w)
neat_space w N = neat_cons 32 w (free_range 32 (omega arith) (omega arith)) N

pub neat_key : (w : List ℕ) → Key w → Neat w
neat_key w C = subst Neat (sym C.is) (neat_cons C.head C.tail (free_small C.head C.small) (neat_all in_tag free_tag C.tail C.within))

pub neat_value : (v : ℕ) → Form v → Neat (value_text v)
neat_value v F = subst Neat (sym F.text) (go F.minus)
  where
    size : Neat (size_text F.size)
    size = neat_all in_literal free_literal (size_text F.size) (size_literal F.size)

    go : (m : Bool) → Neat (cond m (45 ∷ size_text F.size) (size_text F.size))
    go true = neat_cons 45 (size_text F.size) (free_range 45 (omega arith) (omega arith)) size
    go false = size

pub neat_date : (p : ℕ) → Neat (date_text p)
unfolding date_text
neat_date p =
    let d : (n : ℕ) → Free (digit n) = λ n. free_digit (digit n) (digit_is n) in
    let m : Free 45 = free_range 45 (omega arith) (omega arith) in
    neat_cons _ _ (d (p / 10000000)) (neat_cons _ _ (d (p / 1000000))
    (neat_cons _ _ (d (p / 100000)) (neat_cons _ _ (d (p / 10000)) (neat_cons _ _ m (neat_cons _ _ (d (p / 1000)) (neat_cons _ _ (d (p / 100)) (neat_cons _ _ m
    (neat_cons _ _ (d (p / 10)) (neat_cons _ _ (d p) neat_none)))))))))

-- a text of a tidy one, before a byte that is no line feed
pub no_return : (b c : ℕ) → permitted b c ≡ true → (c ≡ 10 → ⊥) → Free b
unfolding permitted
no_return b c e f n = go (leb 32 b) (leb b 126) (eqb b 9) (eqb b 10) (eqb b 13) (eqb c 10) (eqb n 10) e (ne_eqb c 10 f)
  where
    go : (p q t l r x y : Bool) → cond p q (cond t true (cond l true (cond r x false))) ≡ true → x ≡ false → cond p q (cond t true (cond l true (cond r y false))) ≡ true
    go true q t l r x y e f = e
    go false q true l r x y e f = refl
    go false q false true r x y e f = refl
    go false q false false true x y e f = absurd_bool (sym f ∙ e)
    go false q false false false x y e f = e

pub neat_part : (w : List ℕ) (c : ℕ) (rest : List ℕ) → (c ≡ 10 → ⊥) → Tidy (w ++ (c ∷ rest)) → Neat w
neat_part [] c rest f h = neat_none
neat_part (b ∷ []) c rest f h = neat_cons b [] (no_return b c (tidy_head b (c ∷ rest) h) f) neat_none
neat_part (b ∷ d ∷ w) c rest f h = record {
  before = λ v k. tidy_cons b (d ∷ (w ++ v)) (tidy_head b (d ∷ (w ++ (c ∷ rest))) h) ((neat_part (d ∷ w) c rest f (tidy_tail b (d ∷ (w ++ (c ∷ rest))) h)).before v k);
}

-- a string's content, with what may stand
pub record Phrase (w : List ℕ) : Type 0 where
  pub content : Content false w
  pub neat : Neat w

-- what is left of a tidy text
pub tidy_at : {s : List ℕ} {i : ℕ} {t : List ℕ} → Tidy s → At s i t → Tidy t
tidy_at {s} {i} T A = subst Tidy A.here (tidy_drop i s T)

-- a line of a tidy text
pub neat_line : (xs rest : List ℕ) → Tidy (xs ++ (10 ∷ rest)) → Neat (xs ++ (10 ∷ []))
neat_line [] rest h = neat_cons 10 [] free_feed neat_none
neat_line (b ∷ []) rest h = record { before = λ v k. tidy_cons b (10 ∷ v) (tidy_head b (10 ∷ rest) h) (tidy_cons 10 v (free_feed (get_or v 0 0)) k) }
neat_line (b ∷ d ∷ xs) rest h = record {
  before = λ v k. tidy_cons b (d ∷ ((xs ++ (10 ∷ [])) ++ v)) (tidy_head b (d ∷ (xs ++ (10 ∷ rest))) h) ((neat_line (d ∷ xs) rest (tidy_tail b (d ∷ (xs ++ (10 ∷ rest))) h)).before v k);
}
