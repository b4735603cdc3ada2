-- The definitions tried on closed inputs: what each token reads at the start of a text, as one list under one
-- statement, by computation.
use Rattle.text.specs.Refusals.{missing_part}
use Rattle.std.specs.Prelude.{ℕ, ◌≡◌, refl, List, [], ◌∷◌, map}
use Prim.Native.String.{String}
use Rattle.text.specs.Bytes.{bytes}
use Rattle.text.specs.Permitted.{clean}
use Rattle.text.specs.Answer.{Ans, To, Miss, Hard, ◌then◌}
use Rattle.text.specs.Leaves.{gap, line_end, empty_line, string, currency, tag, link, date, word}
use Rattle.text.specs.Accounts.{account}
use Rattle.text.specs.Opened.{opened}

-- a token, at the start of a text
abbrev start : (List ℕ → ℕ → Ans (List ℕ)) → String → Ans (List ℕ)
start reader text = reader (bytes text) 0

abbrev to : ℕ → Ans (List ℕ)
to j = To j []

-- a date with its number
abbrev date_of : List ℕ → ℕ → Ans (List ℕ)
date_of s at = date s at then λ j d. To j (d ∷ [])

-- how many bytes of a text are permitted
abbrev clean_of : List ℕ → ℕ → Ans (List ℕ)
clean_of s at = To (clean s) []

-- what a reader gives, and what document 01 and the decided points say
abbrev pub examples : List (Ans (List ℕ) × Ans (List ℕ))
examples =
    (start gap "x", Miss)
    ∷ (start gap " \tx", to 2)
    ∷ (start line_end "", to 0)
    ∷ (start line_end " ; c", to 4)
    ∷ (start line_end "; c\r\n", to 5)
    ∷ (start line_end "\nx", to 1)
    ∷ (start line_end "x", Miss)
    ∷ (start empty_line "", Miss)
    ∷ (start empty_line "; c", to 3)
    ∷ (start date_of "2024-05-01,3 EUR", To 10 (20240501 ∷ []))
    ∷ (start date_of "2023-02-30", To 10 (20230230 ∷ []))
    ∷ (start date_of "2024-13-01 x", Miss)
    ∷ (start date_of "2024-00-01", Miss)
    ∷ (start date_of "2024-01-32", Miss)
    ∷ (start date_of "1-1-1", Miss)
    ∷ (start string "\"\"", to 2)
    ∷ (start string "\"a\nb\" x", to 5)
    ∷ (start string "\"a\\\"b\"", to 6)
    ∷ (start string "\"a\\\\\"", to 5)
    ∷ (start string "\"\\\"\"", Miss)
    ∷ (start string "\"a\\\\\\\\\"", Miss)
    ∷ (start string "\"a\\n\"", Miss)
    ∷ (start string "\"a", Miss)
    ∷ (start account "A:B 1", to 3)
    ∷ (start account "A:B:", to 3)
    ∷ (start account "1-a:2:Cd", to 8)
    ∷ (start account "Cash 1 EUR", Hard missing_part 0)
    ∷ (start account "A:b", Hard missing_part 0)
    ∷ (start account "cash", Miss)
    ∷ (start currency "A", to 1)
    ∷ (start currency "A-", Miss)
    ∷ (start currency "A'.1_B ", to 6)
    ∷ (start currency "1A", Miss)
    ∷ (start (word (bytes "open")) "opens", to 4)
    ∷ (start (word (bytes "option")) "opt", Miss)
    ∷ (start tag "# x", to 1)
    ∷ (start tag "#a_1.b", to 4)
    ∷ (start link "^a_1.b", to 6)
    ∷ (start link "#a", Miss)
    ∷ (start clean_of "1 \0", to 2)
    ∷ (start clean_of "5\r", to 1)
    ∷ (start clean_of "5\r\n\t~", to 5)
    ∷ []

pub examples_hold : map (λ e. e.0) examples ≡ map (λ e. e.1) examples
unfolding opened
examples_hold = refl
