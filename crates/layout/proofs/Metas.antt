-- Metadata: what was read is written so that it reads again.
use Rattle.decimal.specs.Faults.{Value}
use Rattle.std.specs.Prelude.{Ok, None, Some}
use Prim.Native.Nat.{ℕ, suc, ◌+◌, ◌-◌, ◌≤◌, ◌<◌}
use native.Mathlib.Omega.{arith}
use mathlib.Core.Path.{◌≡◌, refl, sym, ◌∙◌, ap, subst, ap₂}
use mathlib.Core.Bool.{true, false}
use mathlib.Core.List.{List, [], ◌∷◌, ◌++◌, append_assoc, append-nil}
use mathlib.Core.Logic.{◌⊎◌, inl, inr}
use borrow.Author.Tests.{ne_eqb, lt-ltb, ltb-true}
use lib.Dec.{eqb, ltb}
use lib.ListN.{length, get_or, drop, length-append}
use Rattle.decimal.specs.Exact.{whole_of, twos_of, decimal_of}
use Rattle.decimal.specs.declared.Decimal.{Decimal}
use Rattle.text.specs.Bytes.{is_blank, is_small, is_digit, in_tag, is_capital, between}
use Rattle.text.specs.Answer.{To, Miss, ◌then◌, ◌and◌, ◌else◌}
use Rattle.text.specs.Leaves.{gap, byte, currency, string, line_end, empty_line}
use Rattle.text.specs.Lines.{gap_at}
use Rattle.text.proofs.Ats.{At, at_next, at_one, at_place, at_in}
use Rattle.text.proofs.Inversions.{and_inv, then_inv, token_inv, else_inv, to_inv}
use Rattle.text.proofs.TestLaws.{differ}
use Rattle.text.proofs.TokenEnds.{line_reach, empty_reach, byte_reach}
use Rattle.text.specs.Every.{Every}
use Rattle.amount.specs.Details.{valued, named, quoted}
use Rattle.amount.specs.Expression.{expression}
use Rattle.amount.specs.declared.detail.Detail.{Detail}
use Rattle.amount.proofs.ExpressionEnds.{expression_reach}
use Rattle.row.specs.Details.{spanned, millionths}
use Rattle.posting.specs.Metadata.{key_at, key, value, meta_line, meta_step, metadata}
use Rattle.posting.proofs.PostingEnds.{meta_step_reach, value_reach}
use Rattle.layout.specs.Meaning.{Item, texted, naming}
use Rattle.layout.specs.Written.{value_text, quotes, detail_text, kind_of, printed, meta_text}
use Rattle.layout.proofs.Texts.{at_split, at_between, Tidy}
use Rattle.layout.proofs.Numbers.{All}
use Rattle.layout.proofs.Values.{Form, value_reads, run_at, no_expression}
use Rattle.layout.proofs.Tokens.{Currency, Key, key_taken, key_again}
use Rattle.layout.proofs.Neats.{Phrase, Neat, neat_join, neat_cons, neat_space, free_range, free_feed, neat_key, neat_currency, neat_quotes, neat_value}
use Rattle.layout.proofs.Readings.{item_d, items, Fine, Reads, row_reads, skip_reads, and_reads, then_reads, There, token_reads, first_reads, second_reads, Loop, done, turn}
use Rattle.layout.proofs.Readings.{loop_reads}
use Rattle.layout.proofs.Marks.{after_line, calm_line, currency_blank, reached, byte_reads, gap_reads, line_reads, string_misses, value_quote, currency_quote, currency_dull}
use Rattle.layout.proofs.Parts.{value_was, gap_was, string_was, string_is, currency_was, currency_is}
use Rattle.layout.proofs.Bodies.{Was, print_detail, value_blank, quote_blank}
use Rattle.layout.proofs.Balances.{byte_empty}
use Rattle.layout.proofs.Loops.{many_was}

-- ---- a line's item

pub data Meta : Item → Type 0 where
  stringed : (k v : List ℕ) → Key k → Phrase v → Meta (record { kind = 35; text = k; other = v; number = 0; bits = 0 })
  numbered : (k : List ℕ) (v : ℕ) → Key k → Form v → Meta (record { kind = 36; text = k; other = []; number = 0; bits = v })
  united : (k v : List ℕ) → Key k → Currency v → Meta (record { kind = 37; text = k; other = v; number = 0; bits = 0 })

abbrev OneMeta : List Item → Type 0
OneMeta ms = (m : Item) × Meta m × (ms ≡ m ∷ [])

string_item : (s : List ℕ) (k c a e : ℕ) → item_d s (named 35 k c a e) ≡ record { kind = 35; text = between s k c; other = between s a e; number = 0; bits = 0 }
unfolding texted naming spanned millionths twos_of
string_item s k c a e = refl

number_item : (s : List ℕ) (k c a e : ℕ) (x : Decimal) → item_d s (valued 36 k c a e (Ok x)) ≡ record { kind = 36; text = between s k c; other = []; number = 0; bits = twos_of (whole_of x) }
unfolding texted naming spanned millionths
number_item s k c a e x = refl

unit_item : (s : List ℕ) (k c a e : ℕ) → item_d s (named 37 k c a e) ≡ record { kind = 37; text = between s k c; other = between s a e; number = 0; bits = 0 }
unfolding texted naming spanned millionths twos_of
unit_item s k c a e = refl

quoted_read : (s : List ℕ) (k c : ℕ) → Key (between s k c) → (i j : ℕ) (t : List ℕ) (rs : List Detail) → Tidy s → At s i t → quoted (named 35 k c) s i ≡ To j rs → There s j rs OneMeta
unfolding quoted
quoted_read s k c K i j t rs T A h =
    let a = and_inv (string s i) _ j rs h in
    let b = string_was T A a.3 in
    let d = to_inv a.0 j _ a.2 a.4 in
    record {
      rest = b.0;
      place = subst (λ z. At s z b.0) d.0 b.1;
      is = (
        _,
        stringed (between s k c) (between s (i + 1) (j - 1)) K (subst (λ z. Phrase (between s (i + 1) (z - 1))) d.0 b.2),
        ap (items s) (a.5 ∙ ap (λ z. z ++ a.2) b.3 ∙ d.1 ∙ ap (λ z. named 35 k c (i + 1) (z - 1) ∷ []) d.0) ∙ ap (λ m. m ∷ []) (string_item s k c (i + 1) (j - 1)),
      );
    }

-- the value of the key from k to c
module _ (s : List ℕ) (k c : ℕ) (K : Key (between s k c)) where
  value_read : (i j : ℕ) (t : List ℕ) (rs : List Detail) → Tidy s → At s i t → value k c s i ≡ To j rs → Every Fine rs → There s j rs OneMeta
  unfolding value
  value_read i j t rs T A h f = go (else_inv (quoted (named 35 k c) s i) _ j rs h)
    where
      str : quoted (named 35 k c) s i ≡ To j rs → There s j rs OneMeta
      str h = quoted_read s k c K i j t rs T A h

      unit : (currency s i and λ e. To e (named 37 k c i e ∷ [])) ≡ To j rs → There s j rs OneMeta
      unit h =
          let a = and_inv (currency s i) _ j rs h in
          let b = currency_was A a.3 in
          let d = to_inv a.0 j _ a.2 a.4 in
          record {
            rest = b.0;
            place = subst (λ z. At s z b.0) d.0 b.1;
            is = (
              _,
              united (between s k c) (between s i j) K (subst (λ z. Currency (between s i z)) d.0 b.2),
              ap (items s) (a.5 ∙ ap (λ z. z ++ a.2) b.3 ∙ d.1 ∙ ap (λ z. named 37 k c i z ∷ []) d.0) ∙ ap (λ m. m ∷ []) (unit_item s k c i j),
            );
          }

      number : (expression s i then λ e v. To e (valued 36 k c i e v ∷ [])) ≡ To j rs → There s j rs OneMeta
      number h =
          let a = then_inv (expression s i) _ j rs h in
          let d = to_inv a.0 j _ rs a.3 in
          made a.1 (a.2 ∙ ap (λ z. To z a.1) d.0) rs (d.1 ∙ ap (λ z. valued 36 k c i z a.1 ∷ []) d.0) f
        where
          made : (v : Value) → expression s i ≡ To j v → (zs : List Detail) → zs ≡ valued 36 k c i j v ∷ [] → Every Fine zs → There s j zs OneMeta
          made v h zs q f =
              let x = (subst (Every Fine) q f).0 in
              record {
                rest = drop j s;
                place = reached {s = s} (expression_reach s i) h;
                is = (
                  _,
                  numbered (between s k c) (twos_of (whole_of x.0)) K (value_was s i j v x.0 h x.1),
                  ap (items s) (q ∙ ap (λ z. valued 36 k c i j z ∷ []) x.1) ∙ ap (λ m. m ∷ []) (number_item s k c i j x.0),
                );
              }

      two : ((expression s i then λ e v. To e (valued 36 k c i e v ∷ [])) ≡ To j rs) ⊎
          (((expression s i then λ e v. To e (valued 36 k c i e v ∷ [])) ≡ Miss) × ((currency s i and λ e. To e (named 37 k c i e ∷ [])) ≡ To j rs))
          → There s j rs OneMeta
      two (inl h) = number h
      two (inr h) = unit h.1

      go : (quoted (named 35 k c) s i ≡ To j rs) ⊎ ((quoted (named 35 k c) s i ≡ Miss) ×
          (((expression s i then λ e v. To e (valued 36 k c i e v ∷ [])) else (currency s i and λ e. To e (named 37 k c i e ∷ []))) ≡ To j rs))
          → There s j rs OneMeta
      go (inl h) = str h
      go (inr h) = two (else_inv _ _ j rs h.1)

-- ---- a line

token_end : (s : List ℕ) (i j : ℕ) (rs : List Detail) → key s i ≡ To j rs → (key_at s i ≡ Some j) × (rs ≡ [])
unfolding key
token_end s i j rs h = token_inv (key_at s i) j rs h

pub line_empty : (s : List ℕ) (i j : ℕ) (rs : List Detail) → line_end s i ≡ To j rs → rs ≡ []
unfolding line_end
line_empty s i j rs h = (token_inv _ j rs h).1

empty_empty : (s : List ℕ) (i j : ℕ) (rs : List Detail) → empty_line s i ≡ To j rs → rs ≡ []
unfolding empty_line
empty_empty s i j rs h = (token_inv _ j rs h).1

meta_line_was : Was meta_line OneMeta
unfolding meta_line
meta_line_was s i j t rs T A h f =
    let a = and_inv (gap s i) _ j rs h in
    let G = gap_was A a.3 in
    let b = and_inv (key s a.0) _ j a.2 a.4 in
    let K = token_end s a.0 b.0 b.1 b.3 in
    let Z = key_taken G.1 K.0 in
    let k = at_split Z.word Z.rest b.0 (subst (At s a.0) Z.cut G.1) Z.end in
    let c = and_inv (byte 58 s b.0) _ j b.2 b.4 in
    let C = reached {s = s} (byte_reach s b.0 58 (omega arith)) c.3 in
    let d = and_inv (gap s c.0) _ j c.2 c.4 in
    let D = gap_was C d.3 in
    let e = and_inv (value a.0 b.0 s d.0) _ j d.2 d.4 in
    let E = reached {s = s} (value_reach s a.0 b.0 d.0) e.3 in
    let L = reached {s = s} (line_reach s e.0 (at_in E)) e.4 in
    let q : rs ≡ e.1 =
    a.5 ∙ ap (λ z. z ++ a.2) G.0 ∙ b.5 ∙ ap (λ z. z ++ b.2) K.1 ∙ c.5 ∙ ap (λ z. z ++ c.2) (byte_empty 58 s b.0 c.0 c.1 c.3) ∙ d.5
    ∙ ap (λ z. z ++ d.2) D.0 ∙ e.5 ∙ ap (λ z. e.1 ++ z) (line_empty s e.0 j e.2 e.4) ∙ append-nil e.1 in
    let U = value_read s a.0 b.0 (subst Key (sym k.0) Z.good) d.0 e.0 (drop d.0 s) e.1 T D.1 e.3 (subst (Every Fine) q f) in
    record { rest = drop j s; place = L; is = subst (λ z. OneMeta (items s z)) (sym q) U.is }

-- what a line writes
pub line_of : {m : Item} → Meta m → List ℕ
line_of (stringed k v K C) = 32 ∷ 32 ∷ (k ++ (58 ∷ 32 ∷ quotes v))
line_of (numbered k v K F) = 32 ∷ 32 ∷ (k ++ (58 ∷ 32 ∷ value_text v))
line_of (united k v K C) = 32 ∷ 32 ∷ (k ++ (58 ∷ 32 ∷ v))

line_prints : {m : Item} (M : Meta m) (k : ℕ) (prev : Item) (ds : List Item) → printed k prev (m ∷ ds) ≡ 10 ∷ (line_of M ++ printed k m ds)
unfolding line_of detail_text meta_text
line_prints (stringed a v K C) k prev ds = print_detail k prev _ ds refl
line_prints (numbered a v K F) k prev ds = print_detail k prev _ ds refl
line_prints (united a v K C) k prev ds = print_detail k prev _ ds refl

small_blank : (b : ℕ) → is_small b ≡ true → is_blank b ≡ false
unfolding is_small is_blank
small_blank b e = rw (ne_eqb b 32 (differ is_small b 32 e refl), ne_eqb b 9 (differ is_small b 9 e refl))

colon_out : in_tag 58 ≡ false
unfolding in_tag is_capital is_small is_digit
colon_out = refl

two_blanks : All is_blank (32 ∷ 32 ∷ [])
unfolding is_blank
two_blanks = (refl, (refl, tt))

-- an indent
pub indent_reads : {s : List ℕ} {i : ℕ} (t : List ℕ) → is_blank (get_or t 0 0) ≡ false → At s i (32 ∷ 32 ∷ t) → Reads s (gap s i) [] t
unfolding gap gap_at
indent_reads {s} {i} t e A =
    let r = run_at s is_blank (32 ∷ 32 ∷ []) t i A two_blanks e in
    token_reads (rw (r, lt-ltb i (i + 2) (omega arith))) (at_next (32 ∷ 32 ∷ []) t A)

pub content_between : {s : List ℕ} {i j : ℕ} (w post : List ℕ) → At s i (quotes w ++ post) → At s j post → between s (i + 1) (j - 1) ≡ w
unfolding quotes
content_between {s} {i} {j} w post A D =
    let B : At s i (34 ∷ (w ++ (34 ∷ post))) = subst (λ z. At s i (34 ∷ z)) (append_assoc w (34 ∷ []) post) A in
    let p : j ≡ i + length (34 ∷ (w ++ (34 ∷ []))) = at_place (34 ∷ (w ++ (34 ∷ []))) post A D in
    let e : j - 1 ≡ i + 1 + length w = omega (arith, length-append w (34 ∷ [])) in
    (at_split w (34 ∷ post) (j - 1) (at_one B) e).0

module _ {s : List ℕ} {i : ℕ} (k u post : List ℕ) (K : Key k) where
  -- key and colon, and a value u that reads
  line_with : (m : Item) → is_blank (get_or (u ++ (10 ∷ post)) 0 0) ≡ false
      → ((a c v : ℕ) → between s a c ≡ k → At s v (u ++ (10 ∷ post)) → Reads s (value a c s v) (m ∷ []) (10 ∷ post))
      → At s i ((32 ∷ 32 ∷ (k ++ (58 ∷ 32 ∷ u))) ++ (10 ∷ post)) → Reads s (meta_line s i) (m ∷ []) post
  unfolding meta_line key
  line_with m b val A =
      let t : List ℕ = 58 ∷ 32 ∷ (u ++ (10 ∷ post)) in
      let B : At s i (32 ∷ 32 ∷ (k ++ t)) = subst (λ z. At s i (32 ∷ 32 ∷ z)) (append_assoc k (58 ∷ 32 ∷ u) (10 ∷ post)) A in
      skip_reads (indent_reads (k ++ t) (rw K.is (small_blank K.head K.small)) B) (λ a D.
      skip_reads (token_reads (key_again k t K colon_out D) (at_next k t D)) (λ c E.
      skip_reads (byte_reads E) (λ d G.
      skip_reads (gap_reads b G) (λ v H.
      and_reads (m ∷ []) [] (val a c v (at_between k t D E) H) (λ e J. line_reads J)))))

meta_is : {s : List ℕ} {i : ℕ} {m : Item} (M : Meta m) (post : List ℕ) → At s i (line_of M ++ (10 ∷ post)) → Reads s (meta_line s i) (m ∷ []) post
unfolding line_of value quoted ◌and◌ ◌then◌
meta_is {s} {i} (stringed k v K C) post A = line_with k (quotes v) post K _ (quote_blank v (10 ∷ post)) (λ a c j e B.
    first_reads _ (skip_reads (string_is v (10 ∷ post) C B) (λ n D. row_reads
    (string_item s a c (j + 1) (n - 1) ∙ (ap₂ (λ x y. record { kind = 35; text = x; other = y; number = 0; bits = 0 }) e (content_between v (10 ∷ post) B D)))
    (record { minus = false; size = 0 }, refl) D))) A
meta_is {s} {i} (numbered k v K F) post A = line_with k (value_text v) post K _ (value_blank v (10 ∷ post) F) (λ a c j e B.
    second_reads (rw (string_misses (value_quote v (10 ∷ post) F) B)) (first_reads _ (then_reads _ (value_reads s v F (10 ∷ post) (calm_line post) j B)
    (row_reads (number_item s a c j _ (decimal_of F.minus F.size) ∙ (ap₂ (λ x y. record { kind = 36; text = x; other = []; number = 0; bits = y }) e F.bits))
    (decimal_of F.minus F.size, refl) (at_next (value_text v) (10 ∷ post) B))))) A
meta_is {s} {i} (united k v K C) post A = line_with k v post K _ (currency_blank v (10 ∷ post) C) (λ a c j e B.
    second_reads (rw (string_misses (currency_quote v (10 ∷ post) C) B)) (second_reads (rw (no_expression s j (v ++ (10 ∷ post)) B (currency_dull v (10 ∷ post) C)))
    (skip_reads (currency_is v (10 ∷ post) C (after_line post) B)
    (λ n D. row_reads (unit_item s a c j n ∙ (ap₂ (λ x y. record { kind = 37; text = x; other = y; number = 0; bits = 0 }) e (at_between v (10 ∷ post) B D)))
    (record { minus = false; size = 0 }, refl) D)))) A

-- ---- lines

pub data Metas : List Item → Type 0 where
  no_metas : Metas []
  one_meta : {m : Item} {ms : List Item} → Meta m → Metas ms → Metas (m ∷ ms)

abbrev Turned : List Item → Type 0
Turned ms = (ms ≡ []) ⊎ OneMeta ms

turn_metas : (ms ns : List Item) → Turned ms → Metas ns → Metas (ms ++ ns)
turn_metas ms ns (inl e) N = subst (λ z. Metas (z ++ ns)) (sym e) N
turn_metas ms ns (inr o) N = subst (λ z. Metas (z ++ ns)) (sym o.2) (one_meta o.1 N)

step_was : (s : List ℕ) → Tidy s → (i j : ℕ) (t : List ℕ) (rs : List Detail) → Unit {0} → At s i t → meta_step s i ≡ To j rs → Every Fine rs → There s j rs Turned × Unit {0}
unfolding meta_step
step_was s T i j t rs p A h f = go (else_inv (meta_line s i) (empty_line s i) j rs h)
  where
    go : (meta_line s i ≡ To j rs) ⊎ ((meta_line s i ≡ Miss) × (empty_line s i ≡ To j rs)) → There s j rs Turned × Unit {0}
    go (inl h) = let Z = meta_line_was s i j t rs T A h f in (record { rest = Z.rest; place = Z.place; is = inr Z.is }, tt)
    go (inr h) =
        let e = empty_empty s i j rs h.1 in
        (record { rest = drop j s; place = reached {s = s} (empty_reach s i (at_in A)) h.1; is = inl (ap (items s) e) }, tt)

pub metadata_was : (s : List ℕ) (i j : ℕ) (t : List ℕ) (rs : List Detail) → Tidy s → At s i t → metadata s i ≡ To j rs → Every Fine rs → There s j rs Metas × (meta_step s j ≡ Miss)
unfolding metadata
metadata_was s i j t rs T A h f =
    let m = many_was s (meta_step s) (λ _. Unit {0}) Turned Metas (meta_step_reach s) (step_was s T) no_metas turn_metas (suc (length s)) i j t rs tt A (omega (arith, A.fits)) h f in
    (m.0, m.1)

-- what lines write, each with its line end, before what follows
pub metas_text : {ms : List Item} → Metas ms → List ℕ → List ℕ
metas_text no_metas post = post
metas_text (one_meta M Ms) post = line_of M ++ (10 ∷ metas_text Ms post)

-- no line of metadata goes on
abbrev pub MetaStop : List ℕ → Type 0
MetaStop post = (s : List ℕ) (j : ℕ) → At s j post → meta_step s j ≡ Miss

shorter : (x y : List ℕ) → length y < length (x ++ (10 ∷ y))
shorter x y = omega (arith, length-append x (10 ∷ y))

meta_loop : (s : List ℕ) {ms : List Item} (M : Metas ms) (post : List ℕ) → MetaStop post → Loop s (meta_step s) post ms (metas_text M post)
unfolding metas_text meta_step
meta_loop s no_metas post stop = done (λ i A. stop s i A)
meta_loop s (one_meta {m} {ms} M Ms) post stop =
    turn {ms = m ∷ []} (λ i A. first_reads _ (meta_is M (metas_text Ms post) A)) (shorter (line_of M) (metas_text Ms post)) (meta_loop s Ms post stop)

pub metadata_is : {s : List ℕ} {i : ℕ} {ms : List Item} (M : Metas ms) (post : List ℕ) → MetaStop post → At s i (metas_text M post) → Reads s (metadata s i) ms post
unfolding metadata
metadata_is {s} {i} M post stop A = loop_reads (meta_loop s M post stop) (suc (length s)) i (omega (arith, A.fits)) A

-- each line's feed stands before it in the rows' texts
pub metas_print : {ms : List Item} (M : Metas ms) (k : ℕ) (prev : Item) (ds : List Item) (post : List ℕ) → ((prev : Item) → printed k prev ds ≡ 10 ∷ post)
    → printed k prev (ms ++ ds) ≡ 10 ∷ metas_text M post
unfolding metas_text
metas_print no_metas k prev ds post e = e prev
metas_print (one_meta {m} {ms} M Ms) k prev ds post e = line_prints M k prev (ms ++ ds) ∙ ap (λ z. 10 ∷ (line_of M ++ z)) (metas_print Ms k m ds post e)

line_neat : {m : Item} (M : Meta m) → Neat (line_of M)
unfolding line_of
line_neat (stringed k v K C) = neat_space _ (neat_space _ (neat_join k _ (neat_key k K) (neat_cons 58 _ (free_range 58 (omega arith) (omega arith)) (neat_space _ (neat_quotes v C.neat)))))
line_neat (numbered k v K F) = neat_space _ (neat_space _ (neat_join k _ (neat_key k K) (neat_cons 58 _ (free_range 58 (omega arith) (omega arith)) (neat_space _ (neat_value v F)))))
line_neat (united k v K C) = neat_space _ (neat_space _ (neat_join k _ (neat_key k K) (neat_cons 58 _ (free_range 58 (omega arith) (omega arith)) (neat_space _ (neat_currency v C)))))

pub meta_kind : {m : Item} (M : Meta m) (k : ℕ) → k ≤ 34 → eqb m.kind k ≡ false
meta_kind (stringed a v K C) k h = ne_eqb 35 k (λ e. absurd (omega arith))
meta_kind (numbered a v K F) k h = ne_eqb 36 k (λ e. absurd (omega arith))
meta_kind (united a v K C) k h = ne_eqb 37 k (λ e. absurd (omega arith))

pub metas_neat : {ms : List Item} (M : Metas ms) (post : List ℕ) → Neat post → Neat (metas_text M post)
unfolding metas_text
metas_neat no_metas post N = N
metas_neat (one_meta M Ms) post N = neat_join (line_of M) _ (line_neat M) (neat_cons 10 _ free_feed (metas_neat Ms post N))

-- what follows stands behind the lines
pub metas_behind : {ms : List Item} (M : Metas ms) (x y : List ℕ) → metas_text M x ++ y ≡ metas_text M (x ++ y)
unfolding metas_text
metas_behind no_metas x y = refl
metas_behind (one_meta M Ms) x y = append_assoc (line_of M) (10 ∷ metas_text Ms x) y ∙ ap (λ z. line_of M ++ (10 ∷ z)) (metas_behind Ms x y)

-- the kind of what follows a content is none of a tolerance or an amount
pub metas_kind : {ms : List Item} (M : Metas ms) (ds : List Item) (k : ℕ) → 20 ≤ k → k ≤ 34 → ltb (kind_of ds) 20 ≡ true → eqb (kind_of (ms ++ ds)) k ≡ false
metas_kind no_metas ds k l h e = ne_eqb (kind_of ds) k (λ f. absurd (omega (arith, ltb-true (kind_of ds) 20 e)))
metas_kind (one_meta M Ms) ds k l h e = meta_kind M k h
