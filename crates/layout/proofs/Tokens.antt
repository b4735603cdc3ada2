-- The texts of tokens: what was read once reads again before another text.
use Rattle.text.specs.Refusals.{missing_part}
use Rattle.text.specs.declared.stop.Stop.{Stop}
use Rattle.std.specs.Prelude.{None, Option, Some, Err, Ok, Result}
use Prim.Native.Nat.{ℕ, suc, ◌+◌, ◌-◌, ◌<◌}
use native.Mathlib.Omega.{arith}
use mathlib.Core.Path.{◌≡◌, refl, sym, ◌∙◌, ap, subst}
use mathlib.Core.Bool.{Bool, true, false, cond, ◌||◌, ◌&&◌, or-true}
use mathlib.Core.List.{List, [], ◌∷◌, ◌++◌, append_assoc}
use borrow.Author.Tests.{ne_eqb, eq-eqb, eqb-true}
use lib.Dec.{eqb}
use lib.ListN.{length, get_or, drop, length-append, get_or-append}
use Rattle.text.specs.Bytes.{is_digit, is_capital, is_small, is_ordinary, is_escaped, starts_part, in_account, in_currency, in_tag}
use Rattle.text.specs.Run.{run_from, run_to}
use Rattle.text.specs.Strings.{str_from, esc_from, string_at}
use Rattle.text.specs.steps.Accounts.{part_follows, parts_from, account_at}
use Rattle.text.specs.Currencies.{currency_at}
use Rattle.text.specs.Tags.{marked_at}
use Rattle.text.proofs.TestLaws.{absurd_bool, and_left, and_right}
use Rattle.text.proofs.Ats.{At, at_next, at_one, at_byte, at_far}
use Rattle.posting.specs.Metadata.{key_at}
use Rattle.text.proofs.AccountLaws.{colon_out, none_past, part_account}
use Rattle.layout.proofs.Texts.{at_split}
use Rattle.layout.proofs.Numbers.{All}
use Rattle.layout.proofs.Values.{run_at}

-- ---- runs

-- what a run goes through
pub record Ran (p : ℕ → Bool) (u : List ℕ) (i : ℕ) : Type 0 where
  pub xs : List ℕ
  pub ys : List ℕ
  pub cut : u ≡ xs ++ ys
  pub all : All p xs
  pub end : run_from p u i ≡ i + length xs

pub ran : (p : ℕ → Bool) (u : List ℕ) (i : ℕ) → Ran p u i
unfolding run_from
ran p [] i = record { xs = []; ys = []; cut = refl; all = tt; end = omega arith }
ran p (b ∷ u) i = go (p b) refl (ran p u (i + 1))
  where
    go : (c : Bool) → p b ≡ c → Ran p u (i + 1) → Ran p (b ∷ u) i
    go true e r = record { xs = b ∷ r.xs; ys = r.ys; cut = ap (λ z. b ∷ z) r.cut; all = (e, r.all); end = rw e (r.end ∙ omega arith) }
    go false e r = record { xs = []; ys = b ∷ u; cut = refl; all = tt; end = rw e (omega arith) }

-- a byte of a text there
pub at_head : {s : List ℕ} {i : ℕ} {t : List ℕ} (p : ℕ → Bool) → p 0 ≡ false → At s i t → p (get_or s i 0) ≡ true → (b : ℕ) × (u : List ℕ) × (t ≡ b ∷ u) × (p b ≡ true)
at_head {s} {i} {t} p z A h = go t (rw (at_byte A) at h)
  where
    go : (t : List ℕ) → p (get_or t 0 0) ≡ true → (b : ℕ) × (u : List ℕ) × (t ≡ b ∷ u) × (p b ≡ true)
    go [] h = absurd_bool (sym z ∙ h)
    go (b ∷ u) h = (b, u, refl, h)

-- ---- currencies

pub record Currency (w : List ℕ) : Type 0 where
  pub head : ℕ
  pub tail : List ℕ
  pub is : w ≡ head ∷ tail
  pub capital : is_capital head ≡ true
  pub within : All in_currency tail
  pub last : starts_part (get_or w (length tail) 0) ≡ true

-- what a token takes of a text
pub record Taken (Good : List ℕ → Type 0) (s t : List ℕ) (i e : ℕ) : Type 0 where
  pub word : List ℕ
  pub rest : List ℕ
  pub cut : t ≡ word ++ rest
  pub end : e ≡ i + length word
  pub good : Good word

-- a reading that is tested for
pub read_if : (c : Bool) (x : Option ℕ) (e : ℕ) → cond c x None ≡ Some e → (c ≡ true) × (x ≡ Some e)
read_if true x e h = (refl, h)
read_if false x e h = absurd (let z : ◌≡◌ {A = ℕ} 0 1 = cc in omega arith)

pub read_to : (j e : ℕ) → Some j ≡ Some e → e ≡ j
read_to j e h = cc

-- a first byte and a run
module _ {s : List ℕ} {i : ℕ} {t : List ℕ} (A : At s i t) (p q : ℕ → Bool) (z : p 0 ≡ false) (h : p (get_or s i 0) ≡ true) where
  pub record Headed : Type 0 where
    pub head : ℕ
    pub tail : List ℕ
    pub rest : List ℕ
    pub cut : t ≡ (head ∷ tail) ++ rest
    pub first : p head ≡ true
    pub all : All q tail
    pub end : run_to q s (i + 1) ≡ i + length (head ∷ tail)

  headed : Headed
  unfolding run_to
  headed =
      let k = at_head p z A h in
      let B = at_one (subst (At s i) k.2 A) in
      let r = ran q k.1 (i + 1) in
      record {
        head = k.0;
        tail = r.xs;
        rest = r.ys;
        cut = k.2 ∙ ap (λ y. k.0 ∷ y) r.cut;
        first = k.3;
        all = r.all;
        end = rw B.here (r.end ∙ omega arith);
      }

no_capital : is_capital 0 ≡ false
unfolding is_capital
no_capital = refl

last_byte : {s : List ℕ} {i : ℕ} {t : List ℕ} (A : At s i t) (w rest : List ℕ) (n j : ℕ) → t ≡ w ++ rest → j ≡ i + n → n < length w
    → starts_part (get_or s j 0) ≡ true → starts_part (get_or w n 0) ≡ true
last_byte {s} {i} {t} A w rest n j c e h b =
    subst (λ x. starts_part x ≡ true) (ap (λ z. get_or s z 0) e ∙ at_far n A ∙ ap (λ z. get_or z n 0) c ∙ get_or-append w rest 0 n h) b

pub currency_taken : {s : List ℕ} {i e : ℕ} {t : List ℕ} (A : At s i t) → currency_at s i ≡ Some e → Taken Currency s t i e
unfolding currency_at
currency_taken {s} {i} {e} {t} A h =
    let a = read_if (is_capital (get_or s i 0)) _ e h in
    let b = read_if (starts_part (get_or s (run_to in_currency s (i + 1) - 1) 0)) _ e a.1 in
    let k = headed A is_capital in_currency no_capital a.0 in
    let w = k.head ∷ k.tail in
    let n : run_to in_currency s (i + 1) - 1 ≡ i + length k.tail = omega (arith, k.end) in
    record {
      word = w;
      rest = k.rest;
      cut = k.cut;
      end = read_to (run_to in_currency s (i + 1)) e b.1 ∙ k.end;
      good = record {
        head = k.head;
        tail = k.tail;
        is = refl;
        capital = k.first;
        within = k.all;
        last = last_byte A w k.rest (length k.tail) (run_to in_currency s (i + 1) - 1) k.cut n (omega arith) b.0;
      };
    }

pub currency_again : {s : List ℕ} {i : ℕ} (w post : List ℕ) → Currency w → in_currency (get_or post 0 0) ≡ false → At s i (w ++ post) → currency_at s i ≡ Some (i + length w)
unfolding currency_at
currency_again {s} {i} w post C c A =
    let B = subst (λ z. At s i (z ++ post)) C.is A in
    let n = length C.tail in
    let r : run_to in_currency s (i + 1) ≡ i + length w = run_at s in_currency C.tail post (i + 1) (at_one B) C.within c ∙ (rw C.is (omega arith)) in
    let l : get_or s (i + length w - 1) 0 ≡ get_or w n 0 =
    ap (λ z. get_or s z 0) {x = i + length w - 1} {y = i + n} (omega (arith, ap length C.is)) ∙ at_far n A ∙ get_or-append w post 0 n (omega (arith, ap length C.is)) in
    rw (at_byte B, C.capital, r, l, C.last)

-- ---- tags, links, keys: a mark and a run

pub marked_taken : {s : List ℕ} {i e : ℕ} {t : List ℕ} (m : ℕ) (p : ℕ → Bool) → 0 < m → At s i t → marked_at m p s i ≡ Some e
    → (w : List ℕ) × (rest : List ℕ) × (t ≡ m ∷ (w ++ rest)) × (e ≡ i + 1 + length w) × All p w
unfolding marked_at
marked_taken {s} {i} {e} {t} m p h A r =
    let a = read_if (eqb (get_or s i 0) m) _ e r in
    let k = headed A (λ x. eqb x m) p (ne_eqb 0 m (λ z. absurd (omega arith))) a.0 in
    let f : k.head ≡ m = eqb-true k.head m k.first in
    (k.tail, k.rest, (rw f at k.cut), read_to (run_to p s (i + 1)) e a.1 ∙ k.end ∙ omega arith, k.all)

pub marked_again : {s : List ℕ} {i : ℕ} (m : ℕ) (p : ℕ → Bool) (w post : List ℕ) → All p w → p (get_or post 0 0) ≡ false → At s i (m ∷ (w ++ post))
    → marked_at m p s i ≡ Some (i + 1 + length w)
unfolding marked_at
marked_again {s} {i} m p w post h c A = rw (at_byte A, eq-eqb m m refl, run_at s p w post (i + 1) (at_one A) h c)

pub record Key (w : List ℕ) : Type 0 where
  pub head : ℕ
  pub tail : List ℕ
  pub is : w ≡ head ∷ tail
  pub small : is_small head ≡ true
  pub within : All in_tag tail

no_small : is_small 0 ≡ false
unfolding is_small
no_small = refl

pub key_taken : {s : List ℕ} {i e : ℕ} {t : List ℕ} (A : At s i t) → key_at s i ≡ Some e → Taken Key s t i e
unfolding key_at
key_taken {s} {i} {e} {t} A h =
    let a = read_if (is_small (get_or s i 0)) _ e h in
    let k = headed A is_small in_tag no_small a.0 in
    record {
      word = k.head ∷ k.tail;
      rest = k.rest;
      cut = k.cut;
      end = read_to (run_to in_tag s (i + 1)) e a.1 ∙ k.end;
      good = record { head = k.head; tail = k.tail; is = refl; small = k.first; within = k.all };
    }

pub key_again : {s : List ℕ} {i : ℕ} (w post : List ℕ) → Key w → in_tag (get_or post 0 0) ≡ false → At s i (w ++ post) → key_at s i ≡ Some (i + length w)
unfolding key_at
key_again {s} {i} w post C c A =
    let B = subst (λ z. At s i (z ++ post)) C.is A in
    rw (at_byte B, C.small, run_at s in_tag C.tail post (i + 1) (at_one B) C.within c)
    (ap Some {x = i + 1 + length C.tail} {y = i + length w} (rw C.is (omega arith)))

-- ---- strings: content and the closing quote

pub record Content (o : Bool) (xs : List ℕ) : Type 0 where
  pub again : (ys : List ℕ) (i : ℕ) → str_from o (xs ++ (34 ∷ ys)) i ≡ Some (i + length xs + 1)

pub record Escape (xs : List ℕ) : Type 0 where
  pub again : (ys : List ℕ) (i : ℕ) → esc_from (xs ++ (34 ∷ ys)) i ≡ Some (i + length xs + 1)

pub record Str (G : List ℕ → Type 0) (u : List ℕ) (i e : ℕ) : Type 0 where
  pub xs : List ℕ
  pub ys : List ℕ
  pub cut : u ≡ xs ++ (34 ∷ ys)
  pub end : e ≡ i + length xs + 1
  pub good : G xs

str_step : (b : ℕ) (u : List ℕ) (o : Bool) (i e : ℕ) → str_from o (b ∷ u) i ≡ Some e
    → (str_from true u (i + 1) ≡ Some e → Str (Content true) u (i + 1) e) → (esc_from u (i + 1) ≡ Some e → Str Escape u (i + 1) e)
    → Str (Content o) (b ∷ u) i e
unfolding str_from is_ordinary
str_step b u o i e h f g = go (is_ordinary b) refl (eqb b 34) refl o refl h
  where
    go : (k : Bool) → is_ordinary b ≡ k → (q : Bool) → eqb b 34 ≡ q → (c : Bool) → o ≡ c
        → cond k (str_from true u (i + 1)) (cond q (Some (i + 1)) (cond c (esc_from u (i + 1)) None)) ≡ Some e → Str (Content o) (b ∷ u) i e
    go true l q p c m h =
        let r = f h in
        record {
          xs = b ∷ r.xs;
          ys = r.ys;
          cut = ap (λ z. b ∷ z) r.cut;
          end = r.end ∙ omega arith;
          good = record { again = λ ys j. rw l (r.good.again ys (j + 1) ∙ ap Some {x = j + 1 + length r.xs + 1} {y = j + suc (length r.xs) + 1} (omega arith)) };
        }
    go false l true p c m h = record {
      xs = [];
      ys = u;
      cut = ap (λ z. z ∷ u) (eqb-true b 34 p);
      end = read_to (i + 1) e h ∙ omega arith;
      good = record { again = λ ys j. ap Some {x = j + 1} {y = j + 0 + 1} (omega arith) };
    }
    go false l false p true m h =
        let r = g h in
        record {
          xs = b ∷ r.xs;
          ys = r.ys;
          cut = ap (λ z. b ∷ z) r.cut;
          end = r.end ∙ omega arith;
          good = record { again = λ ys j. rw (l, p, m) (r.good.again ys (j + 1) ∙ ap Some {x = j + 1 + length r.xs + 1} {y = j + suc (length r.xs) + 1} (omega arith)) };
        }
    go false l false p false m h = absurd (let z : ◌≡◌ {A = ℕ} 0 1 = cc in omega arith)

esc_step : (b : ℕ) (u : List ℕ) (i e : ℕ) → esc_from (b ∷ u) i ≡ Some e → (str_from false u (i + 1) ≡ Some e → Str (Content false) u (i + 1) e) → Str Escape (b ∷ u) i e
unfolding esc_from
esc_step b u i e h f = let a = read_if (is_escaped b) _ e h in go a.0 (f a.1)
  where
    go : is_escaped b ≡ true → Str (Content false) u (i + 1) e → Str Escape (b ∷ u) i e
    go x r = record {
      xs = b ∷ r.xs;
      ys = r.ys;
      cut = ap (λ z. b ∷ z) r.cut;
      end = r.end ∙ omega arith;
      good = record { again = λ ys j. rw x (r.good.again ys (j + 1) ∙ ap Some {x = j + 1 + length r.xs + 1} {y = j + suc (length r.xs) + 1} (omega arith)) };
    }

mutual
  unfolding str_from esc_from

  str_taken : (u : List ℕ) (o : Bool) (i e : ℕ) → str_from o u i ≡ Some e → Str (Content o) u i e
  str_taken [] o i e h = absurd (let z : ◌≡◌ {A = ℕ} 0 1 = cc in omega arith)
  str_taken (b ∷ u) o i e h = str_step b u o i e h (λ k. str_taken u true (i + 1) e k) (λ k. esc_taken u (i + 1) e k)

  esc_taken : (u : List ℕ) (i e : ℕ) → esc_from u i ≡ Some e → Str Escape u i e
  esc_taken [] i e h = absurd (let z : ◌≡◌ {A = ℕ} 0 1 = cc in omega arith)
  esc_taken (b ∷ u) i e h = esc_step b u i e h (λ k. str_taken u false (i + 1) e k)

pub string_taken : {s : List ℕ} {i e : ℕ} {t : List ℕ} (A : At s i t) → string_at s i ≡ Some e → (u : List ℕ) × (t ≡ 34 ∷ u) × Str (Content false) u (i + 1) e
unfolding string_at
string_taken {s} {i} {e} {t} A h =
    let a = read_if (eqb (get_or s i 0) 34) _ e h in
    let k = at_head (λ x. eqb x 34) refl A a.0 in
    let B = at_one (subst (At s i) k.2 A) in
    (k.1, rw (eqb-true k.0 34 k.3) at k.2, str_taken k.1 false (i + 1) e (rw B.here at a.1))

pub string_again : {s : List ℕ} {i : ℕ} (xs post : List ℕ) → Content false xs → At s i (34 ∷ (xs ++ (34 ∷ post))) → string_at s i ≡ Some (i + 1 + length xs + 1)
unfolding string_at
string_again {s} {i} xs post C A = rw (at_byte A, (at_one A).here, C.again post (i + 1))

-- ---- accounts

unfoldable pub in_parts : ℕ → Bool
in_parts b = in_account b || eqb b 58

-- parts that go on
pub record Parts (xs : List ℕ) : Type 0 where
  pub within : All in_parts xs
  pub again : (ys : List ℕ) (i : ℕ) → in_account (get_or ys 0 0) ≡ false → eqb (get_or ys 0 0) 58 ≡ false → parts_from (xs ++ ys) i ≡ i + length xs

pub record Parted (u : List ℕ) (i : ℕ) : Type 0 where
  pub xs : List ℕ
  pub ys : List ℕ
  pub cut : u ≡ xs ++ ys
  pub end : parts_from u i ≡ i + length xs
  pub good : Parts xs
  pub first : in_account (get_or u 0 0) ≡ true → (zs : List ℕ) → get_or (xs ++ zs) 0 0 ≡ get_or u 0 0

parts_none : Parts []
unfolding parts_from
parts_none = record { within = tt; again = go }
  where
    go : (ys : List ℕ) (i : ℕ) → in_account (get_or ys 0 0) ≡ false → eqb (get_or ys 0 0) 58 ≡ false → parts_from ys i ≡ i + 0
    go [] i h k = omega arith
    go (y ∷ ys) i h k = rw (h, k) (omega arith)

parts_on : (b : ℕ) (xs : List ℕ) → in_parts b ≡ true → ((zs : List ℕ) → (in_account b || (eqb b 58 && starts_part (get_or (xs ++ zs) 0 0))) ≡ true) → Parts xs → Parts (b ∷ xs)
unfolding parts_from
parts_on b xs w on P = record { within = (w, P.within); again = λ ys i h k. rw (on ys) (P.again ys (i + 1) h k ∙ omega arith) }

part_in : (b : ℕ) → in_account b ≡ true → in_parts b ≡ true
unfolding in_parts
part_in b e = rw e

colon_in : (b : ℕ) → eqb b 58 ≡ true → in_parts b ≡ true
unfolding in_parts
colon_in b e = rw (e, or-true (in_account b))

parted : (u : List ℕ) (i : ℕ) → Parted u i
unfolding parts_from
parted [] i = record { xs = []; ys = []; cut = refl; end = omega arith; good = parts_none; first = λ h zs. absurd_bool (sym none_past ∙ h) }
parted (b ∷ u) i = go (in_account b) refl (eqb b 58) refl (starts_part (get_or u 0 0)) refl (parted u (i + 1))
  where
    go : (a : Bool) → in_account b ≡ a → (c : Bool) → eqb b 58 ≡ c → (d : Bool) → starts_part (get_or u 0 0) ≡ d → Parted u (i + 1) → Parted (b ∷ u) i
    go true e c f d g r = record {
      xs = b ∷ r.xs;
      ys = r.ys;
      cut = ap (λ z. b ∷ z) r.cut;
      end = rw e (r.end ∙ omega arith);
      good = parts_on b r.xs (part_in b e) (λ zs. rw e) r.good;
      first = λ h zs. refl;
    }
    go false e true f true g r = record {
      xs = b ∷ r.xs;
      ys = r.ys;
      cut = ap (λ z. b ∷ z) r.cut;
      end = rw (e, f, g) (r.end ∙ omega arith);
      good = parts_on b r.xs (colon_in b f) (λ zs. rw (r.first (part_account (get_or u 0 0) g) zs, e, f, g)) r.good;
      first = λ h zs. refl;
    }
    go false e true f false g r = record { xs = []; ys = b ∷ u; cut = refl; end = rw (e, f, g) (omega arith); good = parts_none; first = λ h zs. absurd_bool (sym e ∙ h) }
    go false e false f d g r = record { xs = []; ys = b ∷ u; cut = refl; end = rw (e, f) (omega arith); good = parts_none; first = λ h zs. absurd_bool (sym e ∙ h) }

-- a first part b xs, and a second c zs with what is joined to it
pub record Account (w : List ℕ) : Type 0 where
  pub head : ℕ
  pub front : List ℕ
  pub second : ℕ
  pub back : List ℕ
  pub is : w ≡ head ∷ (front ++ (58 ∷ second ∷ back))
  pub starts : starts_part head ≡ true
  pub within : All in_account front
  pub joined : starts_part second ≡ true
  pub parts : Parts back

no_part : starts_part 0 ≡ false
unfolding starts_part is_capital is_digit
no_part = refl

abbrev ends_at : ℕ → Result ℕ Stop
ends_at j = Ok j

account_if : (c : Bool) (x : Result ℕ Stop) (e : ℕ) → cond c x (Err Stop.Miss) ≡ Ok e → (c ≡ true) × (x ≡ Ok e)
account_if true x e h = (refl, h)
account_if false x e h = absurd (let z : ◌≡◌ {A = ℕ} 0 1 = cc in omega arith)

account_hard : (c : Bool) (at j e : ℕ) → cond c (Ok j) (Err (Stop.Hard missing_part at)) ≡ Ok e → (c ≡ true) × (e ≡ j)
account_hard true at j e h = (refl, cc)
account_hard false at j e h = absurd (let z : ◌≡◌ {A = ℕ} 0 1 = cc in omega arith)

-- what stands behind a first part
behind : {s : List ℕ} {j : ℕ} {t : List ℕ} (A : At s j t) → part_follows s j ≡ true → (c : ℕ) × (v : List ℕ) × (t ≡ 58 ∷ c ∷ v) × (starts_part c ≡ true)
unfolding part_follows
behind {s} {j} {t} A h =
    let a = at_head (λ x. eqb x 58) refl A (and_left (eqb (get_or s j 0) 58) (starts_part (get_or s (j + 1) 0)) h) in
    let B = subst (At s j) a.2 A in
    let b = at_head starts_part no_part (at_one B) (and_right (eqb (get_or s j 0) 58) (starts_part (get_or s (j + 1) 0)) h) in
    (b.0, b.1, a.2 ∙ ap (λ z. z ∷ a.1) (eqb-true a.0 58 a.3) ∙ ap (λ z. 58 ∷ z) b.2, b.3)

parts_two : (c : ℕ) (v : List ℕ) (i : ℕ) → starts_part c ≡ true → parts_from (58 ∷ c ∷ v) i ≡ parts_from v (i + 1 + 1)
unfolding parts_from
parts_two c v i h = rw (h, part_account c h, colon_out)

pub account_taken : {s : List ℕ} {i e : ℕ} {t : List ℕ} (A : At s i t) → account_at s i ≡ Ok e → Taken Account s t i e
unfolding account_at
account_taken {s} {i} {e} {t} A h =
    let a = account_if (starts_part (get_or s i 0)) _ e h in
    let j = run_to in_account s (i + 1) in
    let b = account_hard (part_follows s j) i (parts_from (drop j s) j) e a.1 in
    let k = headed A starts_part in_account no_part a.0 in
    let B = (at_split (k.head ∷ k.tail) k.rest j (subst (At s i) k.cut A) k.end).1 in
    let f = behind B b.0 in
    let r = parted f.1 (j + 1 + 1) in
    all k.head k.tail k.rest j f.0 f.1 r.xs r.ys k.cut k.end f.2 r.cut
    (b.1 ∙ ap (λ z. parts_from z j) (B.here ∙ f.2) ∙ parts_two f.0 f.1 j f.3 ∙ r.end) k.first k.all f.3 r.good
  where
    all : (b : ℕ) (xs ys : List ℕ) (j c : ℕ) (v zs us : List ℕ) → t ≡ (b ∷ xs) ++ ys → j ≡ i + length (b ∷ xs) → ys ≡ 58 ∷ c ∷ v → v ≡ zs ++ us → e ≡ j + 1 + 1 + length zs
        → starts_part b ≡ true → All in_account xs → starts_part c ≡ true → Parts zs → Taken Account s t i e
    all b xs ys j c v zs us p q r u w x y z P = record {
      word = b ∷ (xs ++ (58 ∷ c ∷ zs));
      rest = us;
      cut = p ∙ ap (λ z. b ∷ (xs ++ z)) (r ∙ ap (λ z. 58 ∷ c ∷ z) u) ∙ ap (λ z. b ∷ z) (sym (append_assoc xs (58 ∷ c ∷ zs) us));
      end = w ∙ omega (arith, length-append xs (58 ∷ c ∷ zs));
      good = record { head = b; front = xs; second = c; back = zs; is = refl; starts = x; within = y; joined = z; parts = P };
    }

pub account_again : {s : List ℕ} {i : ℕ} (w post : List ℕ) → Account w → in_account (get_or post 0 0) ≡ false → eqb (get_or post 0 0) 58 ≡ false → At s i (w ++ post)
    → account_at s i ≡ Ok (i + length w)
unfolding account_at part_follows
account_again {s} {i} w post C h k A =
    let xs = C.front in
    let ys : List ℕ = 58 ∷ C.second ∷ (C.back ++ post) in
    let B : At s i (C.head ∷ (xs ++ ys)) = subst (At s i) (ap (λ z. z ++ post) C.is ∙ ap (λ z. C.head ∷ z) (append_assoc xs (58 ∷ C.second ∷ C.back) post)) A in
    let D : At s (i + 1 + length xs) ys = at_next xs ys (at_one B) in
    rw (at_byte B, C.starts, run_at s in_account xs ys (i + 1) (at_one B) C.within colon_out)
    (rw (at_byte D, at_byte (at_one D), C.joined, D.here, parts_two C.second (C.back ++ post) (i + 1 + length xs) C.joined, C.parts.again post (i + 1 + length xs + 1 + 1) h k)
    (ap ends_at {x = i + 1 + length xs + 1 + 1 + length C.back} {y = i + length w} (rw C.is (omega (arith, length-append xs (58 ∷ C.second ∷ C.back))))))
