-- A tagged field: what it states, whether it is whole, and how it is put.
use Prim.Native.Nat.{ℕ, suc, ◌+◌, ◌*◌, ◌/◌, ◌%◌, ◌≤◌, ◌<◌}
use native.Mathlib.Omega.{arith}
use mathlib.Core.Path.{◌≡◌, refl, ◌∙◌}
use mathlib.Core.Bool.{true, false}
use mathlib.Core.List.{List, ◌++◌}
use borrow.Author.Tests.{le-leb, lt-leb, leb-true}
use lib.Dec.{leb}
use lib.ListN.{length, get_or, set, drop, length-append}
use lib.Seq.{sets, drop_at}
use Rattle.text.proofs.TestLaws.{and_right}
use Rattle.bus.specs.Orders.{highest_first}
use Rattle.bus.specs.Fields.{head, field, stated, whole, tag_in, longest, head_width}
use Rattle.bus.proofs.OrderLaws.{number_bytes}

-- ---- a field at the front of some bytes, from what the code's reads gave

pub two_stated : (r : List ℕ) (b c high low : ℕ) → b ≡ get_or r 1 0 → c ≡ get_or r 2 0 → high ≡ b → low ≡ c → high * 256 + low ≡ stated r
unfolding stated
two_stated r b c high low eb ec eh el = omega arith

pub ruleset stated_laws = (two_stated)

pub whole_in : (r : List ℕ) → whole r ≡ true → head_width + stated r ≤ length r
unfolding whole
whole_in r e = leb-true (head_width + stated r) (length r) (and_right (leb head_width (length r)) (leb (head_width + stated r) (length r)) e)

pub whole_short : (r : List ℕ) → length r < head_width → false ≡ whole r
unfolding whole
whole_short r h = rw (lt-leb head_width (length r) h)

pub whole_test : (r : List ℕ) (n : ℕ) → n ≡ stated r → head_width ≤ length r → leb (head_width + n) (length r) ≡ whole r
unfolding whole
whole_test r n e h = rw (le-leb head_width (length r) h, ← e)

pub ruleset whole_laws = (whole_short, whole_test)

-- ---- a field that is put

pub head_put : (b : List ℕ) (tag n at high low : ℕ) → n ≤ longest → high ≡ n / 256 → low ≡ n % 256
    → set (set (set b at tag) (at + 1) high) (at + 2) low ≡ sets b at (head tag n)
unfolding head
head_put b tag n at high low h eh el =
    let k1 : suc at ≡ at + 1 = omega arith in
    let k2 : suc (suc at) ≡ at + 2 = omega arith in
    let k : n / 256 % 256 ≡ n / 256 = omega arith in
    rw (eh, el, ← k1, ← k2, k)

pub high_byte : (n : ℕ) → n ≤ longest → n / 256 ≤ 255
high_byte n h = omega arith

pub field_put : (b v u c : List ℕ) (tag at : ℕ) → v ≡ sets b at (head tag (length c)) → u ≡ sets v (at + head_width) c → u ≡ sets b at (field tag c)
unfolding field head
field_put b v u c tag at ev eu =
    let k3 : suc (suc (suc at)) ≡ at + head_width = omega arith in
    eu ∙ rw (ev, ← k3)

pub ruleset put_laws = (head_put, high_byte, field_put)

-- ---- a field that was put, and what stands behind it

module _ (tag : ℕ) (c : List ℕ) where
  pub length_field : length (field tag c) ≡ head_width + length c
  unfolding field head
  length_field = omega arith

  module _ (rest : List ℕ) where
    pub field_length : length (field tag c ++ rest) ≡ head_width + length c + length rest
    field_length = length-append (field tag c) rest ∙ rw length_field

    pub field_tag : tag_in (field tag c ++ rest) ≡ tag
    unfolding field head
    field_tag = refl

    pub field_content : drop head_width (field tag c ++ rest) ≡ c ++ rest
    unfolding field head
    field_content = refl

    pub field_behind : (n : ℕ) → length c ≡ n → drop (head_width + n) (field tag c ++ rest) ≡ rest
    unfolding field head
    field_behind n e = let k : head_width + n ≡ suc (suc (suc n)) = omega arith in rw k (drop_at c rest n e)

    pub field_stated : length c ≤ longest → stated (field tag c ++ rest) ≡ length c
    unfolding field head stated
    field_stated h = number_bytes highest_first 2 (length c) ∙ (let k : length c % 65536 ≡ length c = omega arith in k)

    pub field_whole : length c ≤ longest → whole (field tag c ++ rest) ≡ true
    unfolding whole
    field_whole h =
        rw (field_stated h, field_length, le-leb head_width (head_width + length c + length rest) (omega arith))
        (le-leb (head_width + length c) (head_width + length c + length rest) (omega arith))
