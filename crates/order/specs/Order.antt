-- What a record says, and the order of records: by kind, then by the bytes of its span's text, then by those of p
-- and q.
use Rattle.std.specs.Prelude.{ℕ, Bool, true, false, cond, List, [], ◌∷◌, ltb, ℤ}
use Rattle.row.specs.declared.table.Row.{Row}
use Rattle.access.specs.Spans.{span_text}
use Rattle.std.specs.declared.cmp.Ordering.{Ordering}
use Rattle.std.specs.declared.cmp.Ordering.TheVariants.{Less, Equal, Greater}
use Rattle.order.specs.Sums.{whole_from}

infixr 40 ◌next◌
-- the first order, or where it tells nothing the next
unfoldable pub ◌next◌ : Ordering → Ordering → Ordering
Less next o = Less
Equal next o = o
Greater next o = Greater

unfoldable pub numbers : ℕ → ℕ → Ordering
numbers a b = cond (ltb a b) Less (cond (ltb b a) Greater Equal)

-- the first byte that differs tells; a text that starts another comes before it
unfoldable pub texts : List ℕ → List ℕ → Ordering
texts [] [] = Equal
texts [] (c ∷ y) = Less
texts (b ∷ x) [] = Greater
texts (b ∷ x) (c ∷ y) = numbers b c next texts x y

-- what a record says, whatever the ledger in which it stands
pub record Said : Type 0 where
  pub kind : ℕ
  pub account : List ℕ
  pub currency : List ℕ
  pub value : ℤ

-- a row of the ledger s: texts for its spans, where a bad span is an empty text
unfoldable pub said : List ℕ → Row → Said
said s r =
    record {
      kind = r.kind;
      account = span_text s r.start r.end;
      currency = span_text s r.p r.q;
      value = whole_from r.bits;
    }

-- the value does not count
unfoldable pub order_of : Said → Said → Ordering
order_of a b = numbers a.kind b.kind next (texts a.account b.account next texts a.currency b.currency)

-- whether one may stand before another
unfoldable pub up_to : Ordering → Bool
up_to Less = true
up_to Equal = true
up_to Greater = false

unfoldable pub may_precede : Said → Said → Bool
may_precede a b = up_to (order_of a b)

-- the same of things, by what f says of them
abbrev pub by : {A : Type 0} → (A → Said) → A → A → Bool
by f x y = may_precede (f x) (f y)
