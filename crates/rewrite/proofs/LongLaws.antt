-- What is written is not longer than a number can say.
use Prim.Native.Nat.{ℕ, zero, suc, ◌+◌, ◌-◌, ◌*◌, ◌/◌, ◌%◌, ◌≤◌}
use native.Mathlib.Nat.{suc-mul, mul-le-mul_right}
use native.Mathlib.Omega.{arith}
use mathlib.Core.Path.{◌≡◌, refl, ◌∙◌, ap, subst}
use mathlib.Core.Bool.{Bool, true, false, cond, ◌||◌}
use mathlib.Core.List.{List, [], ◌∷◌, ◌++◌}
use lib.Dec.{eqb, ltb, leb}
use lib.ListN.{length, length-append, length-take, length-drop}
use Rattle.decimal.specs.Exact.{word_limit, largest, minus_from}
use Rattle.text.specs.Bytes.{bytes, between}
use Rattle.text.specs.Permitted.{size_limit}
use Rattle.text.specs.Every.{Every}
use Rattle.row.specs.declared.table.Row.{Row}
use Rattle.layout.specs.Meaning.{Item, texted, naming, item_of, meaning}
use Rattle.layout.specs.Written.{whole_text, zeros, trimmed, six, fraction_text, size_text, value_text, date_text, quotes, sum_text, brace_end, amount_text, meta_text, posting_text, head_text, detail_text, closing, kind_of, printed, no_item, written}
use Rattle.rewrite.specs.steps.Pieces.{dated_text, piece_text, kind_now}
use Rattle.rewrite.proofs.RowsLaws.{printed_step}

cond_le : (n : ℕ) (b : Bool) (x y : List ℕ) → length x ≤ n → length y ≤ n → length (cond b x y) ≤ n
cond_le n true x y p q = p
cond_le n false x y p q = q

-- ---- numbers

whole_le : (k n : ℕ) → length (whole_text k n) ≤ k + 1
unfolding whole_text
whole_le zero n = omega arith
whole_le (suc k) n = cond_le (suc k + 1) (ltb n 10) _ _ (omega arith) (rw length-append (omega (arith, whole_le k (n / 10))))

trimmed_le : (l : List ℕ) → length (trimmed l) ≤ length l
unfolding trimmed
trimmed_le [] = omega arith
trimmed_le (b ∷ l) = cond_le (suc (length l)) (zeros (b ∷ l)) [] (b ∷ trimmed l) (omega arith) (omega (arith, trimmed_le l))

six_long : (n : ℕ) → length (six n) ≡ 6
unfolding six
six_long n = refl

fraction_le : (n : ℕ) → length (fraction_text n) ≤ 7
unfolding fraction_text
fraction_le n = cond_le 7 (zeros (six n)) [] (46 ∷ trimmed (six n)) (omega arith) (omega (arith, trimmed_le (six n), six_long n))

size_le : (n : ℕ) → length (size_text n) ≤ 16
unfolding size_text
size_le n = rw length-append (omega (arith, whole_le 8 (n / 1000000), fraction_le (n % 1000000)))

value_le : (v : ℕ) → length (value_text v) ≤ 17
unfolding value_text
value_le v = cond_le 17 (leb minus_from v) _ _ (omega (arith, size_le (word_limit - v))) (omega (arith, size_le v))

date_le : (p : ℕ) → length (date_text p) ≡ 10
unfolding date_text
date_le p = refl

-- ---- the parts of a row

pub record Light (n : ℕ) (d : Item) : Type 0 where
  pub text : length d.text ≤ n
  pub other : length d.other ≤ n

quotes_le : (t : List ℕ) → length (quotes t) ≡ length t + 2
unfolding quotes
quotes_le t = ap suc (length-append t (34 ∷ [])) ∙ (omega arith)

brace_le : (sep : List ℕ) (c : Item) → length (brace_end sep c) ≤ length sep + 11
unfolding brace_end
brace_le sep c =
    cond_le (length sep + 11) (eqb c.number 0) _ _ (omega arith)
    (omega (arith, length-append sep (date_text c.number ++ (125 ∷ [])), length-append (date_text c.number) (125 ∷ []), date_le c.number))

meta_le : (d : Item) (v : List ℕ) → length (meta_text d v) ≡ length d.text + length v + 4
unfolding meta_text
meta_le d v = ap (λ (z : ℕ). suc (suc z)) (length-append d.text (58 ∷ 32 ∷ v)) ∙ (omega arith)

dated_le : (k next : ℕ) → length (dated_text k next) ≤ 10
unfolding dated_text bytes
dated_le k next =
    cond_le 10 (eqb k 6) _ _ (cond_le 10 (eqb next 20) [] _ (omega arith) (omega arith))
    (cond_le 10 (eqb k 7) _ _ (omega arith)
    (cond_le 10 (eqb k 8) _ _ (omega arith)
    (cond_le 10 (eqb k 9) _ _ (omega arith)
    (cond_le 10 (eqb k 10) _ _ (omega arith)
    (cond_le 10 (eqb k 11) _ _ (omega arith)
    (cond_le 10 (eqb k 12) _ _ (omega arith) (omega arith)))))))

module _ (n : ℕ) (d : Item) (l : Light n d) where
  sum_le : length (sum_text d) ≤ n + 18
  unfolding sum_text
  sum_le = rw length-append (omega (arith, value_le d.bits, l.other))

  amount_le : (prev : Item) (next : ℕ) → length (amount_text prev d next) ≤ n + 40
  unfolding amount_text bytes
  amount_le prev next =
      cond_le (n + 40) (eqb prev.kind 28) _ _ (rw length-append (omega (arith, sum_le, brace_le (44 ∷ 32 ∷ []) prev)))
      (omega (arith, cond_le (n + 18) (eqb next 27) (value_text d.bits) (sum_text d) (omega (arith, value_le d.bits)) sum_le))

  posting_le : length (posting_text d) ≤ n + 4
  unfolding posting_text
  posting_le =
      let f = cond (eqb d.number 0) [] (d.number ∷ 32 ∷ []) in
      omega (arith, length-append f d.text, cond_le 2 (eqb d.number 0) [] (d.number ∷ 32 ∷ []) (omega arith) (omega arith), l.text)

  head_le : (next : ℕ) → length (head_text d next) ≤ n + 30
  unfolding head_text bytes dated_text
  head_le next =
      let m = n + 30 in
      cond_le m (eqb d.kind 1) _ _ (omega (arith, l.text))
      (cond_le m (eqb d.kind 2) _ _ (omega arith)
      (cond_le m (eqb d.kind 3) _ _ (omega arith)
      (cond_le m (eqb d.kind 4) _ _ (omega arith)
      (cond_le m (eqb d.kind 5) _ _ (omega arith)
      (omega (arith, length-append (date_text d.number) (dated_text d.kind next), date_le d.number, dated_le d.kind next))))))

  detail_le : (prev : Item) (next : ℕ) → Light n prev → length (detail_text prev d next) ≤ n + n + 60
  unfolding detail_text bytes
  detail_le prev next k =
      let m = n + n + 60 in
      let t = l.text in
      let o = l.other in
      cond_le m (eqb d.kind 20 || eqb d.kind 25) _ _ (omega arith)
      (cond_le m (eqb d.kind 21 || eqb d.kind 22 || eqb d.kind 32 || eqb d.kind 34) _ _ (omega (arith, quotes_le d.text))
      (cond_le m (eqb d.kind 23) _ _ (omega arith)
      (cond_le m (eqb d.kind 24) _ _ (omega arith)
      (cond_le m (eqb d.kind 26) _ _ (omega (arith, amount_le prev next))
      (cond_le m (eqb d.kind 27) _ _ (omega (arith, length-append (value_text d.bits) (32 ∷ prev.other), value_le d.bits, k.other))
      (cond_le m (eqb d.kind 28) _ _ (omega (arith, cond_le 11 (eqb next 26) [] (brace_end [] d) (omega arith) (omega (arith, brace_le [] d))))
      (cond_le m (eqb d.kind 29) _ _ (omega (arith, sum_le))
      (cond_le m (eqb d.kind 30) _ _ (omega (arith, sum_le))
      (cond_le m (eqb d.kind 31) _ _ (cond_le m (eqb prev.kind 31) _ _ (omega arith) (omega arith))
      (cond_le m (eqb d.kind 33) _ _ (omega (arith, posting_le))
      (cond_le m (eqb d.kind 35) _ _ (omega (arith, meta_le d (quotes d.other), quotes_le d.other))
      (cond_le m (eqb d.kind 36) _ _ (omega (arith, meta_le d (value_text d.bits), value_le d.bits)) (omega (arith, meta_le d d.other))))))))))))))

closing_le : (k : ℕ) → length (closing k) ≤ 1
unfolding closing
closing_le k = cond_le 1 (leb k 1 || eqb k 4 || eqb k 5) [] (10 ∷ []) (omega arith) (omega arith)

piece_le : (n k next : ℕ) (prev d : Item) → Light n prev → Light n d → length (piece_text k prev d next) ≤ n + n + 60
unfolding piece_text
piece_le n k next prev d p l =
    cond_le (n + n + 60) (ltb d.kind 20) _ _ (rw length-append (omega (arith, closing_le k, head_le n d l next))) (detail_le n d l prev next p)

printed_le : (n k : ℕ) (prev : Item) (ds : List Item) → Light n prev → Every (Light n) ds → length (printed k prev ds) ≤ 1 + length ds * (n + n + 60)
unfolding printed
printed_le n k prev [] p e = omega (arith, closing_le k)
printed_le n k prev (d ∷ ds) p e =
    rw (printed_step k prev d ds, length-append)
    (more (length ds) (n + n + 60) _ _ (piece_le n k (kind_of ds) prev d p e.0) (printed_le n (kind_now d.kind k) d ds e.0 e.1))
  where
    more : (c b x y : ℕ) → x ≤ b → y ≤ 1 + c * b → x + y ≤ 1 + suc c * b
    more c b x y p q = rw (suc-mul c b) (omega arith)

-- ---- the rows of a ledger

between_le : (s : List ℕ) (a e : ℕ) → length (between s a e) ≤ length s
between_le s a e = rw (length-take, length-drop) (omega arith)

light_item : (s : List ℕ) (r : Row) → Light (length s) (item_of s r)
unfolding item_of
light_item s r =
    record {
      text = cond_le (length s) (texted r.kind) _ [] (between_le s r.start r.end) (omega arith);
      other = cond_le (length s) (naming r.kind) _ [] (between_le s r.p r.q) (omega arith);
    }

light_items : (s : List ℕ) (rs : List Row) → Every (Light (length s)) (meaning s rs)
unfolding meaning
light_items s [] = tt
light_items s (r ∷ rs) = (light_item s r, light_items s rs)

items_long : (s : List ℕ) (rs : List Row) → length (meaning s rs) ≡ length rs
unfolding meaning
items_long s [] = refl
items_long s (r ∷ rs) = ap suc (items_long s rs)

pub written_le : (s : List ℕ) (rs : List Row) → length s ≤ size_limit → length rs ≤ size_limit → length (written s rs) ≤ largest
unfolding written
written_le s rs h k =
    let a = printed_le (length s) 0 no_item (meaning s rs) (record { text = omega arith; other = omega arith }) (light_items s rs) in
    big (length s) (length rs) _ (subst (λ (z : ℕ). length (printed 0 no_item (meaning s rs)) ≤ 1 + z * (length s + length s + 60)) (items_long s rs) a) h k
  where
    big : (n c x : ℕ) → x ≤ 1 + c * (n + n + 60) → n ≤ size_limit → c ≤ size_limit → x ≤ largest
    big n c x p h k =
        let m : c * (n + n + 60) ≤ size_limit * (n + n + 60) = mul-le-mul_right (n + n + 60) k in
        omega arith
