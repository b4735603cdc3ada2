-- The content of the directive of a kind, as it is written.
use Rattle.text.specs.steps.Told.{Reading}
use Prim.Native.Nat.{ℕ}
use mathlib.Core.Path.{◌≡◌}
use mathlib.Core.List.{List}
use borrow.Author.Tests.{ne_eqb}
use Rattle.amount.specs.Amounts.{hard_currency, price_of}
use Rattle.row.specs.steps.Writing.{Did}
use Rattle.row.specs.declared.writer.Out.{Out}
use Rattle.content.specs.Contents.{hard_account, balance_of, open_of, pad_of, event_of}
use Rattle.content.specs.steps.Parts.{content_of}

module _ (base k : ℕ) (s : List ℕ) (at : ℕ) (o : Out) (t u : List ℕ) (r : Reading Out) where
  pub kind_price : k ≡ 7 → Did base (price_of s at) o t u r → Did base (content_of k s at) o t u r
  unfolding content_of
  kind_price q d = rw q d

  pub kind_balance : k ≡ 8 → Did base (balance_of s at) o t u r → Did base (content_of k s at) o t u r
  unfolding content_of
  kind_balance q d = rw q d

  pub kind_open : k ≡ 9 → Did base (open_of s at) o t u r → Did base (content_of k s at) o t u r
  unfolding content_of
  kind_open q d = rw q d

  pub kind_close : k ≡ 10 → Did base (hard_account s at) o t u r → Did base (content_of k s at) o t u r
  unfolding content_of
  kind_close q d = rw q d

  pub kind_pad : k ≡ 11 → Did base (pad_of s at) o t u r → Did base (content_of k s at) o t u r
  unfolding content_of
  kind_pad q d = rw q d

  pub kind_commodity : k ≡ 12 → Did base (hard_currency s at) o t u r → Did base (content_of k s at) o t u r
  unfolding content_of
  kind_commodity q d = rw q d

  pub kind_event : (k ≡ 7 → ⊥) → (k ≡ 8 → ⊥) → (k ≡ 9 → ⊥) → (k ≡ 10 → ⊥) → (k ≡ 11 → ⊥) → (k ≡ 12 → ⊥)
      → Did base (event_of s at) o t u r → Did base (content_of k s at) o t u r
  unfolding content_of
  kind_event a b c e f g d = rw (ne_eqb k 7 a, ne_eqb k 8 b, ne_eqb k 9 c, ne_eqb k 10 e, ne_eqb k 11 f, ne_eqb k 12 g) d

pub ruleset kind_laws = (kind_price, kind_balance, kind_open, kind_close, kind_pad, kind_commodity, kind_event)
