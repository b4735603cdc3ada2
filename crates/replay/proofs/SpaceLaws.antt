-- Working space: zeros, what was used of it and what was not, and the buffer in whose front it is lent.
use Rattle.std.specs.Prelude.{Some}
use Prim.Native.Nat.{ℕ, ◌+◌, ◌-◌, ◌≤◌, ◌<◌}
use native.Mathlib.Omega.{arith}
use mathlib.Core.Path.{◌≡◌, sym, ◌∙◌, ap}
use mathlib.Core.Bool.{Bool, true, false}
use mathlib.Core.List.{List, ◌++◌}
use borrow.Author.Tests.{le-leb, lt-leb, ne_eqb}
use borrow.Rule.Slice.PartMut.{put_mid}
use lib.ListN.{length, get_or, take, drop, drop_of_length-le}
use lib.Seq.{take_at}
use Rattle.text.proofs.Steps.{drop_step, rest_of}
use Rattle.access.specs.Tables.{same}
use Rattle.lumbrisse.specs.declared.reply as box
use Rattle.replay.specs.Replies.{zeros, wiped, of_spaced}

-- ---- zeros: z is what is left to be seen from i on

module _ (z : Bool) (s : List ℕ) (i : ℕ) (v : z ≡ zeros (drop i s)) where
  pub zeros_on : i < length s → get_or s i 0 ≡ 0 → z ≡ zeros (drop (i + 1) s)
  unfolding zeros
  zeros_on h e = v ∙ rw (drop_step s i h, e)

  pub zeros_stop : i < length s → (get_or s i 0 ≡ 0 → ⊥) → false ≡ z
  unfolding zeros
  zeros_stop h n = sym (v ∙ rw (drop_step s i h, ne_eqb (get_or s i 0) 0 n))

  pub zeros_end : length s ≤ i → true ≡ z
  unfolding zeros
  zeros_end h = sym (v ∙ rw (drop_of_length-le s {i = i} h))

pub ruleset zeros_laws = (zeros_on, zeros_stop, zeros_end)

-- ---- a working space, x before and y after the call

module _ (x y : List ℕ) (d : ℕ) where
  pub wiped_short : length x < d → false ≡ wiped d x y
  wiped_short h = rw (lt-leb d (length x) h)

  module _ (h : d ≤ length x) where
    pub wiped_cut : length y < d → false ≡ wiped d x y
    wiped_cut k = rw (le-leb d (length x) h, lt-leb d (length y) k)

    module _ (k : d ≤ length y) (z : Bool) (ez : z ≡ zeros (take (d - 0) (drop 0 y))) where
      zero_is : zeros (take d y) ≡ z
      zero_is = let n : d - 0 ≡ d = omega arith in sym (ez ∙ ap (λ (i : ℕ). zeros (take i y)) n)

      pub wiped_not : z ≡ false → false ≡ wiped d x y
      wiped_not e = rw (le-leb d (length x) h, le-leb d (length y) k, zero_is, e)

      pub wiped_same : z ≡ true → (q : Bool) → q ≡ same (take (length y - d) (drop d y)) (take (length x - d) (drop d x)) → q ≡ wiped d x y
      wiped_same e q eq = eq ∙ rw (rest_of y d, rest_of x d, le-leb d (length x) h, le-leb d (length y) k, zero_is, e)

pub ruleset wiped_laws = (wiped_short, wiped_cut, wiped_not, wiped_same)

module _ (r : box.Reply.Reply) (kept : Bool) where
  pub reply_kept : kept ≡ true
      → Some (record { number = r.number; place = r.place; count = r.count; value = 0; tag = 0 }) ≡ Some (of_spaced r kept)
  reply_kept e = rw e

  pub reply_lost : kept ≡ false
      → Some (record { number = r.number; place = r.place; count = r.count; value = 0; tag = 1 }) ≡ Some (of_spaced r kept)
  reply_lost e = rw e

pub ruleset kept_laws = (reply_kept, reply_lost)

-- ---- a buffer x with the part p of n bytes in its front: that part is lent, and comes back as v

pub front_lent : (p x w : List ℕ) (n : ℕ) → length p ≡ n → w ≡ p ++ drop n x → take (n - 0) (drop 0 w) ≡ p
front_lent p x w n l e = let k : n - 0 ≡ n = omega arith in rw (k, e) (take_at p (drop n x) n l)

pub front_back : (w v : List ℕ) (n : ℕ) → length v ≡ n → take n (put_mid 0 (n - 0) w v) ≡ v
front_back w v n l = let k : n - 0 ≡ n = omega arith in rw k (take_at v (drop n w) n l)
