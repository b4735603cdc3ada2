-- The example ledgers are written as they are listed, by computation.
use Rattle.std.specs.Prelude.{◌≡◌, refl, [], ◌∷◌, map}
use Rattle.text.specs.Bytes.{bytes}
use Rattle.ledger.specs.Plain.{plain}
use Rattle.ledger.specs.Opened.{opened}
use Rattle.layout.specs.Meaning
use Rattle.layout.specs.Written
use Rattle.layout.specs.Examples.{Found, ledgers, afresh, kinds_of, quoted}

pub ledgers_written : ◌≡◌ {A = Found} (map (λ e. afresh (bytes e.0)) ledgers, kinds_of (plain quoted), kinds_of (plain (afresh quoted)))
    (map (λ e. bytes e.1) ledgers, 1 ∷ 6 ∷ 20 ∷ 1 ∷ [], 2 ∷ 34 ∷ 34 ∷ [])
unfolding opened Meaning.texted Meaning.naming Meaning.item_of Meaning.meaning Written.whole_text Written.zeros
    Written.trimmed Written.six Written.fraction_text Written.size_text Written.value_text Written.date_text
    Written.quotes Written.sum_text Written.brace_end Written.amount_text Written.meta_text Written.posting_text
    Written.head_text Written.detail_text Written.closing Written.printed Written.written
ledgers_written = refl
