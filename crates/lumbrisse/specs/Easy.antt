-- Document 01, "Easy to get wrong": one list under one statement, by computation.
use Rattle.std.specs.Prelude.{◌≡◌, refl, List, [], ◌∷◌, map, None, Some}
use Rattle.text.specs.Bytes.{bytes}
use Rattle.ledger.specs.Plain.{accepted, denied}
use Rattle.lumbrisse.specs.Numbers.{replied}
use Rattle.lumbrisse.specs.Asked.{Asked, Told, ledger, content, string, reading, reply, token, answered, row, with_cost}

-- a discarded reading is not evaluated; `includes` is no comment, and `optional` is a blank entry; no string starts
-- with an escape, and no two escapes touch, in rule 5, in string content, and where a narration would stand
unfoldable pub wrongs : List (Asked × Told)
wrongs =
    (ledger (bytes "2024-01-01 *\n A:B 1 X {2024-05-01,3/1.5 EUR}\n"), reading (accepted (with_cost 45 (row 28 22 44 2 20240501 0 0 ∷ row 26 34 39 2 40 43 2000000 ∷ []))))
    ∷ (ledger (bytes "includes\n"), reading (denied 4 0))
    ∷ (ledger (bytes "optional\n"), reading (accepted (row 1 0 9 1 0 0 0 ∷ [])))
    ∷ (string (bytes "\"\\\"a\""), token None)
    ∷ (string (bytes "\"a\\\"\\\\\""), token None)
    ∷ (string (bytes "\"a\\\"b\\\\\""), token (Some 8))
    ∷ (content (bytes "\\\"a"), reply (replied 10 0 0))
    ∷ (content (bytes "a\\\"\\\\"), reply (replied 10 0 0))
    ∷ (content (bytes "a\\\"b\\\\"), reply (replied 0 0 4))
    ∷ (ledger (bytes "2024-01-01 * \"\\\"a\"\n"), reading (denied 4 0))
    ∷ (ledger (bytes "2024-01-01 * \"a\\\"\\\\\"\n"), reading (denied 4 0))
    ∷ (ledger (bytes "2024-01-01 * \"a\\\"b\\\\\"\n"), reading (accepted (row 6 0 22 1 20240101 2 0 ∷ row 20 11 12 1 0 0 0 ∷ row 22 14 20 1 0 0 0 ∷ [])))
    ∷ []

pub wrongs_hold : map (λ e. answered e.0) wrongs ≡ map (λ e. e.1) wrongs
unfolding wrongs answered
wrongs_hold = refl
