-- Closed inputs on which `proofs/Examples.antt` tries the definitions, by computation.
use Rattle.std.specs.Prelude.{ℕ, ◌+◌, List, [], ◌∷◌, ℤ}
use Rattle.text.specs.Bytes.{bytes}
use Rattle.row.specs.Row.{row_of, field_bytes}
use Rattle.std.specs.declared.cmp.Ordering.{Ordering}
use Rattle.std.specs.declared.cmp.Ordering.TheVariants.{Less, Equal, Greater}

-- two texts and their order
unfoldable pub pairs : List (List ℕ × List ℕ × Ordering)
pairs =
    (bytes "", bytes "", Equal)
    ∷ (bytes "", bytes "A", Less)
    ∷ (bytes "Assets:A:B", bytes "Assets:A", Greater)
    ∷ (bytes "Assets:A:B", bytes "Assets:A-B", Greater)
    ∷ (bytes "Z", bytes "a", Less)
    ∷ (bytes "CHF", bytes "CHF", Equal)
    ∷ []

-- postings to the accounts A, at 0, and B, at 1, in the currency at 2, with their lines
abbrev pub posting : ℕ → ℕ → ℤ → List ℕ
posting a l v = field_bytes (row_of 50 a (a + 1) l 2 5 v)
