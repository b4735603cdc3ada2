-- Units of a posting: amount, cost and price, written so that they read again.
use Prim.Native.Nat.{ℕ, ◌≤◌}
use native.Mathlib.Omega.{arith}
use mathlib.Core.Path.{◌≡◌, refl, sym, ◌∙◌, ap, subst}
use mathlib.Core.Bool.{false}
use mathlib.Core.List.{List, [], ◌∷◌, ◌++◌, append_assoc}
use mathlib.Core.Logic.{◌⊎◌, inl, inr}
use borrow.Author.Tests.{ne_eqb}
use lib.Dec.{eqb}
use lib.ListN.{get_or}
use Rattle.text.specs.Bytes.{is_blank, bytes}
use Rattle.text.specs.Answer.{To, Miss, ◌and◌, more, maybe}
use Rattle.text.specs.Leaves.{gap, byte}
use Rattle.text.proofs.Ats.{At, at_one, at_byte}
use Rattle.text.proofs.Inversions.{and_inv, else_inv}
use Rattle.text.proofs.TokenEnds.{byte_reach}
use Rattle.text.specs.Every.{Every}
use Rattle.text.proofs.EveryLaws.{every_left, every_right}
use Rattle.amount.specs.Amounts.{amount}
use Rattle.amount.specs.declared.detail.Detail.{Detail}
use Rattle.posting.specs.Costs.{price, cost}
use Rattle.posting.specs.Postings.{units}
use Rattle.layout.specs.Meaning.{Item}
use Rattle.layout.specs.Written.{value_text, sum_text, detail_text, kind_of, printed}
use Rattle.layout.proofs.Values.{Form, line_blank, shown}
use Rattle.layout.proofs.Tokens.{Currency}
use Rattle.layout.proofs.Neats.{Neat, neat_none, neat_join, neat_cons, neat_space, free_range, neat_value, neat_currency}
use Rattle.layout.proofs.Readings.{items, items_append, Fine, Reads, skip_reads, and_reads, maybe_reads, maybe_none, There, first_reads, second_reads, maybe_was, there_map}
use Rattle.layout.proofs.Marks.{After, after_space, after_line, reached, byte_reads, gap_reads, gap_misses}
use Rattle.layout.proofs.Parts.{sum_item, amount_kind_lem, price_kind_lem, total_kind, amount_was, amount_is, gap_was, maybe_gap_was}
use Rattle.layout.proofs.Bodies.{print_detail, print_sum, value_blank}
use Rattle.layout.proofs.Balances.{byte_empty}
use Rattle.layout.proofs.Lots.{Lotted, cost_item, lot_text, lot_last, lot_neat, cost_was, cost_is, cost_print}

-- ---- the price

abbrev pub sum_of : ℕ → List ℕ → List ℕ
sum_of v c = value_text v ++ (32 ∷ c)

pub data Priced : List Item → Type 0 where
  no_price : Priced []
  each_price : (v : ℕ) (c : List ℕ) → Form v → Currency c → Priced (sum_item 29 v c ∷ [])
  all_price : (v : ℕ) (c : List ℕ) → Form v → Currency c → Priced (sum_item 30 v c ∷ [])

pub price_text : {ms : List Item} → Priced ms → List ℕ
price_text no_price = []
price_text (each_price v c F C) = 32 ∷ 64 ∷ 32 ∷ sum_of v c
price_text (all_price v c F C) = 32 ∷ 64 ∷ 64 ∷ 32 ∷ sum_of v c

price_was : (s : List ℕ) (i j : ℕ) (t : List ℕ) (rs : List Detail) → At s i t → price s i ≡ To j rs → Every Fine rs → There s j rs Priced
unfolding price
price_was s i j t rs A h f = go (else_inv (byte 64 s i and λ a. gap s a and λ b. amount 29 s b) _ j rs h)
  where
    go : ((byte 64 s i and λ a. gap s a and λ b. amount 29 s b) ≡ To j rs) ⊎
        (((byte 64 s i and λ a. gap s a and λ b. amount 29 s b) ≡ Miss) × ((byte 64 s i and λ a. byte 64 s a and λ b. gap s b and λ c. amount 30 s c) ≡ To j rs))
        → There s j rs Priced
    go (inl h) =
        let a = and_inv (byte 64 s i) _ j rs h in
        let B = reached {s = s} (byte_reach s i 64 (omega arith)) a.3 in
        let b = and_inv (gap s a.0) _ j a.2 a.4 in
        let G = gap_was B b.3 in
        let p : rs ≡ b.2 = a.5 ∙ ap (λ z. z ++ a.2) (byte_empty 64 s i a.0 a.1 a.3) ∙ b.5 ∙ ap (λ z. z ++ b.2) G.0 in
        let M = amount_was 29 price_kind_lem G.1 b.4 (subst (Every Fine) p f) in
        let m = M.is in
        record { rest = M.rest; place = M.place; is = subst Priced (sym (ap (items s) p ∙ m.4)) (each_price m.0 m.1 m.2 m.3) }
    go (inr h) =
        let a = and_inv (byte 64 s i) _ j rs h.1 in
        let c = and_inv (byte 64 s a.0) _ j a.2 a.4 in
        let B = reached {s = s} (byte_reach s a.0 64 (omega arith)) c.3 in
        let b = and_inv (gap s c.0) _ j c.2 c.4 in
        let G = gap_was B b.3 in
        let p : rs ≡ b.2 =
        a.5 ∙ ap (λ z. z ++ a.2) (byte_empty 64 s i a.0 a.1 a.3) ∙ c.5 ∙ ap (λ z. z ++ c.2) (byte_empty 64 s a.0 c.0 c.1 c.3) ∙ b.5 ∙ ap (λ z. z ++ b.2) G.0 in
        let M = amount_was 30 total_kind G.1 b.4 (subst (Every Fine) p f) in
        let m = M.is in
        record { rest = M.rest; place = M.place; is = subst Priced (sym (ap (items s) p ∙ m.4)) (all_price m.0 m.1 m.2 m.3) }

maybe_price_was : (s : List ℕ) (i j : ℕ) (t : List ℕ) (rs : List Detail) → At s i t → maybe i (gap s i and λ g. price s g) ≡ To j rs → Every Fine rs → There s j rs Priced
maybe_price_was s i j t rs A h f = maybe_gap_was Priced i j (λ g. price s g) rs no_price A h (λ g u ys B e p. price_was s g j u ys B e (subst (Every Fine) p f))

sum_blank : (v : ℕ) (c t : List ℕ) → Form v → is_blank (get_or (sum_of v c ++ t) 0 0) ≡ false
sum_blank v c t F = rw (append_assoc (value_text v) (32 ∷ c) t) (value_blank v _ F)

no_each : (s : List ℕ) (g : ℕ) (t : List ℕ) → At s g (64 ∷ 64 ∷ t) → (byte 64 s g and λ a. gap s a and λ b. amount 29 s b) ≡ Miss
unfolding byte ◌and◌ more
no_each s g t A = rw (at_byte A, gap_misses (shown 64 (omega arith)) (at_one A))

price_is : {s : List ℕ} {i : ℕ} {ms : List Item} (P : Priced ms) (t : List ℕ) → At s i (price_text P ++ (10 ∷ t)) → Reads s (maybe i (gap s i and λ g. price s g)) ms (10 ∷ t)
unfolding price_text price ◌and◌
price_is {s} {i} no_price t A = maybe_none (rw (gap_misses line_blank A)) A
price_is {s} {i} (each_price v c F C) t A =
    maybe_reads i (skip_reads (gap_reads (shown 64 (omega arith)) A)
    (λ g G. first_reads _ (skip_reads (byte_reads G) (λ a B. skip_reads (gap_reads (sum_blank v c (10 ∷ t) F) B) (λ b D. amount_is 29 price_kind_lem v c (10 ∷ t) F C (after_line t) D)))))
price_is {s} {i} (all_price v c F C) t A =
    maybe_reads i (skip_reads (gap_reads (shown 64 (omega arith)) A)
    (λ g G. second_reads (no_each s g _ G) (skip_reads (byte_reads G)
    (λ a B. skip_reads (byte_reads B) (λ b D. skip_reads (gap_reads (sum_blank v c (10 ∷ t) F) D) (λ e E. amount_is 30 total_kind v c (10 ∷ t) F C (after_line t) E))))))

price_neat : {ms : List Item} (P : Priced ms) → Neat (price_text P)
unfolding price_text
price_neat no_price = neat_none
price_neat (each_price v c F C) =
    neat_space _ (neat_cons 64 _ (free_range 64 (omega arith) (omega arith)) (neat_space _ (neat_join (value_text v) _ (neat_value v F) (neat_space c (neat_currency c C)))))
price_neat (all_price v c F C) =
    neat_space _ (neat_cons 64 _ (free_range 64 (omega arith) (omega arith))
    (neat_cons 64 _ (free_range 64 (omega arith) (omega arith)) (neat_space _ (neat_join (value_text v) _ (neat_value v F) (neat_space c (neat_currency c C))))))

price_last : {ms : List Item} → Item → Priced ms → Item
price_last prev no_price = prev
price_last prev (each_price v c F C) = sum_item 29 v c
price_last prev (all_price v c F C) = sum_item 30 v c

price_print : {ms : List Item} (P : Priced ms) (k : ℕ) (prev : Item) (ds : List Item) → printed k prev (ms ++ ds) ≡ price_text P ++ printed k (price_last prev P) ds
unfolding price_text price_last detail_text sum_text bytes
price_print no_price k prev ds = refl
price_print (each_price v c F C) k prev ds = print_detail k prev (sum_item 29 v c) ds refl
price_print (all_price v c F C) k prev ds = print_detail k prev (sum_item 30 v c) ds refl

-- ---- the cost, or none

pub data Costed : List Item → Type 0 where
  no_cost : Costed []
  a_cost : {p : ℕ} {ns : List Item} → Lotted p ns → Costed (cost_item p ∷ ns)

pub cost_text : {ms : List Item} → Costed ms → List ℕ
cost_text no_cost = []
cost_text (a_cost L) = 32 ∷ 123 ∷ (lot_text L ++ (125 ∷ []))

maybe_cost_was : (s : List ℕ) (i j : ℕ) (t : List ℕ) (rs : List Detail) → At s i t → maybe i (gap s i and λ g. cost s g) ≡ To j rs → Every Fine rs → There s j rs Costed
maybe_cost_was s i j t rs A h f = maybe_gap_was Costed i j (λ g. cost s g) rs no_cost A h (λ g u ys B e p.
    there_map (λ ms c. subst Costed (sym c.3) (a_cost c.2)) (cost_was s g j u ys B e (subst (Every Fine) p f)))

at_mark : (s : List ℕ) (i j : ℕ) (rs : List Detail) (t : List ℕ) → gap s i ≡ To j rs → At s j (64 ∷ t) → (gap s i and λ g. cost s g) ≡ Miss
unfolding cost byte ◌and◌ more
at_mark s i j rs t e A = rw (e, at_byte A)

-- no cost before a price or the line end
no_cost_here : {s : List ℕ} {i : ℕ} {ms : List Item} (P : Priced ms) (t : List ℕ) → At s i (price_text P ++ (10 ∷ t)) → (gap s i and λ g. cost s g) ≡ Miss
unfolding price_text ◌and◌
no_cost_here {s} {i} no_price t A = rw (gap_misses line_blank A)
no_cost_here {s} {i} (each_price v c F C) t A = let G = gap_reads (shown 64 (omega arith)) A in at_mark s i G.to G.rows _ G.eq G.rest
no_cost_here {s} {i} (all_price v c F C) t A = let G = gap_reads (shown 64 (omega arith)) A in at_mark s i G.to G.rows _ G.eq G.rest

cost_is_there : {s : List ℕ} {i : ℕ} {cs ms : List Item} (K : Costed cs) (P : Priced ms) (t : List ℕ) → At s i (cost_text K ++ (price_text P ++ (10 ∷ t)))
    → Reads s (maybe i (gap s i and λ g. cost s g)) cs (price_text P ++ (10 ∷ t))
unfolding cost_text
cost_is_there {s} {i} no_cost P t A = maybe_none (no_cost_here P t A) A
cost_is_there {s} {i} (a_cost L) P t A =
    let post = price_text P ++ (10 ∷ t) in
    let B : At s i (32 ∷ 123 ∷ (lot_text L ++ (125 ∷ post))) = subst (λ z. At s i (32 ∷ 123 ∷ z)) (append_assoc (lot_text L) (125 ∷ []) post) A in
    maybe_reads i (skip_reads (gap_reads (shown 123 (omega arith)) B) (λ g G. cost_is L post G))

cost_neat : {ms : List Item} (K : Costed ms) → Neat (cost_text K)
unfolding cost_text
cost_neat no_cost = neat_none
cost_neat (a_cost L) =
    neat_space _ (neat_cons 123 _ (free_range 123 (omega arith) (omega arith)) (neat_join (lot_text L) _ (lot_neat L) (neat_cons 125 _ (free_range 125 (omega arith) (omega arith)) neat_none)))

cost_last : {ms : List Item} → Item → Costed ms → Item
cost_last prev no_cost = prev
cost_last prev (a_cost L) = lot_last L

costed_print : {ms : List Item} (K : Costed ms) (k : ℕ) (prev : Item) (ds : List Item) → eqb (kind_of ds) 26 ≡ false → printed k prev (ms ++ ds) ≡ cost_text K ++ printed k (cost_last prev K) ds
unfolding cost_text cost_last
costed_print no_cost k prev ds e = refl
costed_print (a_cost L) k prev ds e = cost_print L k prev ds e ∙ ap (λ z. 32 ∷ 123 ∷ z) (sym (append_assoc (lot_text L) (125 ∷ []) (printed k (lot_last L) ds)))

-- ---- units, or none

pub data Units : List Item → Type 0 where
  no_units : Units []
  some_units : (v : ℕ) (c : List ℕ) {cs ps : List Item} → Form v → Currency c → Costed cs → Priced ps → Units (sum_item 26 v c ∷ (cs ++ ps))

pub units_text : {ms : List Item} → Units ms → List ℕ
units_text no_units = []
units_text (some_units v c F C K P) = 32 ∷ (sum_of v c ++ (cost_text K ++ price_text P))

units_was : (s : List ℕ) (i j : ℕ) (t : List ℕ) (rs : List Detail) → At s i t → units s i ≡ To j rs → Every Fine rs → There s j rs Units
unfolding units
units_was s i j t rs A h f =
    let a = and_inv (gap s i) _ j rs h in
    let G = gap_was A a.3 in
    let e = a.5 ∙ ap (λ z. z ++ a.2) G.0 in
    let b = and_inv (amount 26 s a.0) _ j a.2 a.4 in
    let c = and_inv (maybe b.0 (gap s b.0 and λ g. cost s g)) _ j b.2 b.4 in
    let f1 = subst (Every Fine) b.5 (subst (Every Fine) e f) in
    let M = amount_was 26 amount_kind_lem G.1 b.3 (every_left Fine b.1 b.2 f1) in
    let f2 = subst (Every Fine) c.5 (every_right Fine b.1 b.2 f1) in
    let K = maybe_cost_was s b.0 c.0 _ c.1 M.place c.3 (every_left Fine c.1 c.2 f2) in
    let P = maybe_price_was s c.0 j _ c.2 K.place c.4 (every_right Fine c.1 c.2 f2) in
    let m = M.is in
    let q =
    ap (items s) (e ∙ b.5 ∙ ap (λ z. b.1 ++ z) c.5) ∙ items_append s b.1 (c.1 ++ c.2) ∙ ap (λ z. items s b.1 ++ z) (items_append s c.1 c.2)
    ∙ ap (λ z. z ++ (items s c.1 ++ items s c.2)) m.4 in
    record { rest = P.rest; place = P.place; is = subst Units (sym q) (some_units m.0 m.1 m.2 m.3 K.is P.is) }

pub maybe_units_was : (s : List ℕ) (i j : ℕ) (t : List ℕ) (rs : List Detail) → At s i t → maybe i (units s i) ≡ To j rs → Every Fine rs → There s j rs Units
maybe_units_was s i j t rs A h f = maybe_was Units i j (units s i) rs no_units A h (λ h. units_was s i j t rs A h f)

after_price : {ms : List Item} (P : Priced ms) (t : List ℕ) → After (price_text P ++ (10 ∷ t))
unfolding price_text
after_price no_price t = after_line t
after_price (each_price v c F C) t = after_space _
after_price (all_price v c F C) t = after_space _

after_cost : {cs ms : List Item} (K : Costed cs) (P : Priced ms) (t : List ℕ) → After (cost_text K ++ (price_text P ++ (10 ∷ t)))
unfolding cost_text
after_cost no_cost P t = after_price P t
after_cost (a_cost L) P t = after_space _

pub after_units : {ms : List Item} (U : Units ms) (t : List ℕ) → After (units_text U ++ (10 ∷ t))
unfolding units_text
after_units no_units t = after_line t
after_units (some_units v c F C K P) t = after_space _

pub units_is : {s : List ℕ} {i : ℕ} {ms : List Item} (U : Units ms) (t : List ℕ) → At s i (units_text U ++ (10 ∷ t)) → Reads s (maybe i (units s i)) ms (10 ∷ t)
unfolding units_text units ◌and◌
units_is {s} {i} no_units t A = maybe_none (rw (gap_misses line_blank A)) A
units_is {s} {i} (some_units v c {cs} {ps} F C K P) t A =
    let x = cost_text K ++ (price_text P ++ (10 ∷ t)) in
    let B : At s i (32 ∷ (sum_of v c ++ x)) =
    subst (λ z. At s i (32 ∷ z)) (append_assoc (sum_of v c) (cost_text K ++ price_text P) (10 ∷ t) ∙ ap (λ z. sum_of v c ++ z) (append_assoc (cost_text K) (price_text P) (10 ∷ t))) A in
    maybe_reads i (skip_reads (gap_reads (sum_blank v c x F) B) (λ g G.
    and_reads (sum_item 26 v c ∷ []) (cs ++ ps) (amount_is 26 amount_kind_lem v c x F C (after_cost K P t) G) (λ e E. and_reads cs ps (cost_is_there K P t E) (λ h H. price_is P t H))))

pub units_neat : {ms : List Item} (U : Units ms) → Neat (units_text U)
unfolding units_text
units_neat no_units = neat_none
units_neat (some_units v c F C K P) =
    neat_space _ (neat_join (sum_of v c) _ (neat_join (value_text v) _ (neat_value v F) (neat_space c (neat_currency c C))) (neat_join (cost_text K) _ (cost_neat K) (price_neat P)))

-- kinds that may follow a line
abbrev pub Starts : List Item → Type 0
Starts ds = (k : ℕ) → 20 ≤ k → k ≤ 32 → eqb (kind_of ds) k ≡ false

priced_kind : {ms : List Item} (P : Priced ms) (ds : List Item) → Starts ds → (k : ℕ) → 20 ≤ k → k ≤ 28 → eqb (kind_of (ms ++ ds)) k ≡ false
priced_kind no_price ds S k l h = S k l (omega arith)
priced_kind (each_price v c F C) ds S k l h = ne_eqb 29 k (λ e. absurd (omega arith))
priced_kind (all_price v c F C) ds S k l h = ne_eqb 30 k (λ e. absurd (omega arith))

costed_kind : {cs ms : List Item} (K : Costed cs) (P : Priced ms) (ds : List Item) → Starts ds → eqb (kind_of (cs ++ (ms ++ ds))) 27 ≡ false
costed_kind no_cost P ds S = priced_kind P ds S 27 (omega arith) (omega arith)
costed_kind (a_cost L) P ds S = refl

pub units_last : {ms : List Item} → Item → Units ms → Item
units_last prev no_units = prev
units_last prev (some_units v c F C K P) = price_last (cost_last (sum_item 26 v c) K) P

pub units_print : {ms : List Item} (U : Units ms) (k : ℕ) (prev : Item) (ds : List Item) → eqb prev.kind 28 ≡ false → Starts ds
    → printed k prev (ms ++ ds) ≡ units_text U ++ printed k (units_last prev U) ds
unfolding units_text units_last
units_print no_units k prev ds e S = refl
units_print (some_units v c {cs} {ps} F C K P) k prev ds e S =
    let m = sum_item 26 v c in
    ap (λ z. printed k prev (m ∷ z)) (append_assoc cs ps ds) ∙ print_sum k prev (cs ++ (ps ++ ds)) v c e (costed_kind K P ds S)
    ∙ ap (λ z. 32 ∷ (sum_of v c ++ z)) (costed_print K k m (ps ++ ds) (priced_kind P ds S 26 (omega arith) (omega arith)) ∙ ap (λ z. cost_text K ++ z)
    (price_print P k (cost_last m K) ds) ∙ sym (append_assoc (cost_text K) (price_text P) _))
    ∙ ap (λ z. 32 ∷ z) (sym (append_assoc (sum_of v c) (cost_text K ++ price_text P) _))
