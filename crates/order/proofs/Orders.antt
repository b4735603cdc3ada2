-- What records say is in a total preorder: two can always be ordered, and what may precede passes through.
use Prim.Native.Nat.{ℕ, ◌<◌}
use native.Mathlib.Decide.{dec_lt}
use native.Mathlib.Omega.{arith}
use mathlib.Core.Path.{◌≡◌, refl, sym, ◌∙◌}
use mathlib.Core.Bool.{true, false, ◌&&◌}
use mathlib.Core.List.{List, [], ◌∷◌}
use borrow.Author.Tests.{lt-ltb, le-ltb}
use Rattle.text.proofs.TestLaws.{absurd_bool}
use Rattle.std.specs.declared.cmp.Ordering.{Ordering}
use Rattle.std.specs.Ordering.{nat_cmp}
use Rattle.std.specs.Cmp.{nat_cmp_is}
use Rattle.std.specs.declared.cmp.Ordering.TheVariants.{Less, Equal, Greater}
use Rattle.order.specs.Order.{◌next◌, numbers, texts, Said, order_of, up_to, may_precede, by}
use Rattle.order.specs.Groups.{alike}

-- ---- seen from the other side

unfoldable turned : Ordering → Ordering
turned Less = Greater
turned Equal = Equal
turned Greater = Less

turned_next : (a b : Ordering) → turned (a next b) ≡ turned a next turned b
unfolding turned ◌next◌
turned_next Less b = refl
turned_next Equal b = refl
turned_next Greater b = refl

-- ---- of three things: a is the order of the first and second, b of the second and third, c of the first and third

abbrev Chain : Ordering → Ordering → Ordering → Type 0
Chain Less Less c = c ≡ Less
Chain Less Equal c = c ≡ Less
Chain Less Greater c = Unit {0}
Chain Equal b c = c ≡ b
Chain Greater Less c = Unit {0}
Chain Greater Equal c = c ≡ Greater
Chain Greater Greater c = c ≡ Greater

chain_next : (a b c d e f : Ordering) → Chain a b c → Chain d e f → Chain (a next d) (b next e) (c next f)
unfolding ◌next◌
chain_next Less Less c d e f h k = rw h
chain_next Less Equal c d Less f h k = rw h
chain_next Less Equal c d Equal f h k = rw h
chain_next Less Equal c d Greater f h k = tt
chain_next Less Greater c d e f h k = tt
chain_next Equal Less c Less e f h k = rw h
chain_next Equal Less c Equal e f h k = rw h
chain_next Equal Less c Greater e f h k = tt
chain_next Equal Equal c d e f h k = rw h k
chain_next Equal Greater c Less e f h k = tt
chain_next Equal Greater c Equal e f h k = rw h
chain_next Equal Greater c Greater e f h k = rw h
chain_next Greater Less c d e f h k = tt
chain_next Greater Equal c d Less f h k = tt
chain_next Greater Equal c d Equal f h k = rw h
chain_next Greater Equal c d Greater f h k = rw h
chain_next Greater Greater c d e f h k = rw h

-- ---- numbers

data Three (a b : ℕ) : Type 0 where
  less : a < b → Three a b
  same : a ≡ b → Three a b
  more : b < a → Three a b

three : (a b : ℕ) → Three a b
three a b = elim (dec_lt a b) [ yes h ↦ less h | no h ↦ elim (dec_lt b a) [ yes k ↦ more k | no k ↦ same (omega arith) ] ]

module _ (a b : ℕ) where
  pub numbers_less : a < b → numbers a b ≡ Less
  unfolding numbers
  numbers_less h = rw (lt-ltb a b h)

  pub numbers_same : a ≡ b → numbers a b ≡ Equal
  unfolding numbers
  numbers_same h = rw (le-ltb a b (omega arith), le-ltb b a (omega arith))

  pub numbers_more : b < a → numbers a b ≡ Greater
  unfolding numbers
  numbers_more h = rw (le-ltb a b (omega arith), lt-ltb b a h)

pub cmp_numbers : (a b : ℕ) → nat_cmp a b ≡ numbers a b
cmp_numbers a b =
    elim (three a b) [
      | less h ↦ sym (nat_cmp_is a b Less h) ∙ sym (numbers_less a b h)
      | same h ↦ sym (nat_cmp_is a b Equal h) ∙ sym (numbers_same a b h)
      | more h ↦ sym (nat_cmp_is a b Greater h) ∙ sym (numbers_more a b h)
    ]

numbers_turned : (a b : ℕ) → numbers b a ≡ turned (numbers a b)
unfolding turned
numbers_turned a b =
    elim (three a b) [
      | less h ↦ rw (numbers_less a b h, numbers_more b a h)
      | same h ↦ rw (numbers_same a b h, numbers_same b a (sym h))
      | more h ↦ rw (numbers_more a b h, numbers_less b a h)
    ]

numbers_chain : (a b c : ℕ) → Chain (numbers a b) (numbers b c) (numbers a c)
numbers_chain a b c = go (three a b) (three b c)
  where
    go : Three a b → Three b c → Chain (numbers a b) (numbers b c) (numbers a c)
    go (less h) (less k) = rw (numbers_less a b h, numbers_less b c k, numbers_less a c (omega arith))
    go (less h) (same k) = rw (numbers_less a b h, numbers_same b c k, numbers_less a c (omega arith))
    go (less h) (more k) = rw (numbers_less a b h, numbers_more b c k) tt
    go (same h) k = rw (h, numbers_same b b refl)
    go (more h) (less k) = rw (numbers_more a b h, numbers_less b c k) tt
    go (more h) (same k) = rw (numbers_more a b h, numbers_same b c k, numbers_more a c (omega arith))
    go (more h) (more k) = rw (numbers_more a b h, numbers_more b c k, numbers_more a c (omega arith))

-- ---- texts

texts_turned : (x y : List ℕ) → texts y x ≡ turned (texts x y)
unfolding texts turned
texts_turned [] [] = refl
texts_turned [] (c ∷ y) = refl
texts_turned (b ∷ x) [] = refl
texts_turned (b ∷ x) (c ∷ y) = rw (numbers_turned b c, texts_turned x y) (sym (turned_next (numbers b c) (texts x y)))

texts_chain : (x y z : List ℕ) → Chain (texts x y) (texts y z) (texts x z)
unfolding texts
texts_chain [] [] z = refl
texts_chain [] (c ∷ y) [] = tt
texts_chain [] (c ∷ y) (d ∷ z) = go (numbers c d next texts y z)
  where
    go : (o : Ordering) → Chain Less o Less
    go Less = refl
    go Equal = refl
    go Greater = tt
texts_chain (b ∷ x) [] [] = refl
texts_chain (b ∷ x) [] (d ∷ z) = tt
texts_chain (b ∷ x) (c ∷ y) [] = go (numbers b c next texts x y)
  where
    go : (o : Ordering) → Chain o Greater Greater
    go Less = tt
    go Equal = refl
    go Greater = refl
texts_chain (b ∷ x) (c ∷ y) (d ∷ z) =
    chain_next (numbers b c) (numbers c d) (numbers b d) (texts x y) (texts y z) (texts x z) (numbers_chain b c d) (texts_chain x y z)

-- ---- what records say

module _ (a b : Said) where
  said_turned : order_of b a ≡ turned (order_of a b)
  unfolding order_of
  said_turned =
      let t = texts a.account b.account in
      let u = texts a.currency b.currency in
      rw (
        numbers_turned a.kind b.kind,
        texts_turned a.account b.account,
        texts_turned a.currency b.currency,
        turned_next (numbers a.kind b.kind) (t next u),
        turned_next t u,
      )

  said_chain : (c : Said) → Chain (order_of a b) (order_of b c) (order_of a c)
  unfolding order_of
  said_chain c =
      chain_next _ _ _ _ _ _ (numbers_chain a.kind b.kind c.kind)
      (chain_next _ _ _ _ _ _ (texts_chain a.account b.account c.account) (texts_chain a.currency b.currency c.currency))

  -- of two one may precede the other
  pub may_either : may_precede a b ≡ false → may_precede b a ≡ true
  unfolding may_precede up_to turned
  may_either e = rw said_turned (go (order_of a b) e)
    where
      go : (o : Ordering) → up_to o ≡ false → up_to (turned o) ≡ true
      go Less f = cc
      go Equal f = refl
      go Greater f = refl

  -- one may precede what another that it may precede may precede
  pub may_through : (c : Said) → may_precede a b ≡ true → may_precede b c ≡ true → may_precede a c ≡ true
  unfolding may_precede up_to
  may_through c e f = go (order_of a b) (order_of b c) (order_of a c) (said_chain c) e f
    where
      go : (o p q : Ordering) → Chain o p q → up_to o ≡ true → up_to p ≡ true → up_to q ≡ true
      go Less Less q h k l = rw h
      go Less Equal q h k l = rw h
      go Less Greater q h k l = cc
      go Equal p q h k l = rw h l
      go Greater p q h k l = cc

-- so it is of things, by what f says of them
module _ {A : Type 0} (f : A → Said) where
  pub by_either : (x y : A) → by f x y ≡ false → by f y x ≡ true
  by_either x y = may_either (f x) (f y)

  pub by_through : (x y z : A) → by f x y ≡ true → by f y z ≡ true → by f x z ≡ true
  by_through x y z = may_through (f x) (f y) (f z)

module _ {A : Type 0} (f : A → Said) (x y : A) where
  -- two are alike where their order is none
  told : (o : Ordering) → order_of (f x) (f y) ≡ o → alike (by f) x y ≡ (up_to o && up_to (turned o))
  unfolding alike may_precede
  told o e = rw (said_turned (f x) (f y), e)

  pub alike_same : order_of (f x) (f y) ≡ Equal → alike (by f) x y ≡ true
  unfolding up_to turned
  alike_same e = told Equal e

  pub alike_before : order_of (f x) (f y) ≡ Less → alike (by f) x y ≡ false
  unfolding up_to turned
  alike_before e = told Less e

  pub alike_after : order_of (f x) (f y) ≡ Greater → alike (by f) x y ≡ false
  unfolding up_to turned
  alike_after e = told Greater e

  same_alike : alike (by f) x y ≡ true → order_of (f x) (f y) ≡ Equal
  unfolding up_to turned
  same_alike e = go (order_of (f x) (f y)) refl
    where
      go : (o : Ordering) → order_of (f x) (f y) ≡ o → o ≡ Equal
      go Less g = absurd_bool (sym (told Less g) ∙ e)
      go Equal g = refl
      go Greater g = absurd_bool (sym (told Greater g) ∙ e)

-- ---- those that are alike say the same but for their values

next_same : (a b : Ordering) → a next b ≡ Equal → (a ≡ Equal) × (b ≡ Equal)
unfolding ◌next◌
next_same Less b e = (cc, cc)
next_same Equal b e = (refl, e)
next_same Greater b e = (cc, cc)

numbers_equal : (a b : ℕ) → numbers a b ≡ Equal → a ≡ b
numbers_equal a b e =
    elim (three a b) [
      | less h ↦ absurd (let z : ◌≡◌ {A = ℕ} 0 1 = (let d = sym (numbers_less a b h) ∙ e in cc) in omega arith)
      | same h ↦ h
      | more h ↦ absurd (let z : ◌≡◌ {A = ℕ} 0 1 = (let d = sym (numbers_more a b h) ∙ e in cc) in omega arith)
    ]

texts_equal : (x y : List ℕ) → texts x y ≡ Equal → x ≡ y
unfolding texts
texts_equal [] [] e = refl
texts_equal [] (c ∷ y) e = absurd (let z : ◌≡◌ {A = ℕ} 0 1 = cc in omega arith)
texts_equal (b ∷ x) [] e = absurd (let z : ◌≡◌ {A = ℕ} 0 1 = cc in omega arith)
texts_equal (b ∷ x) (c ∷ y) e =
    let w = next_same (numbers b c) (texts x y) e in
    rw (numbers_equal b c w.0, texts_equal x y w.1)

pub same_key : (a b : Said) → alike may_precede a b ≡ true → (a.kind ≡ b.kind) × (a.account ≡ b.account) × (a.currency ≡ b.currency)
unfolding order_of
same_key a b e =
    let t = texts a.account b.account in
    let u = texts a.currency b.currency in
    let w = next_same (numbers a.kind b.kind) (t next u) (same_alike (λ z. z) a b e) in
    let v = next_same t u w.1 in
    (numbers_equal a.kind b.kind w.0, texts_equal a.account b.account v.0, texts_equal a.currency b.currency v.1)
