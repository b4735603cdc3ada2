-- Closed ledgers on which `proofs/Examples.antt` tries the writer's definitions, by computation.
use Rattle.std.specs.Prelude.{ℕ, List, [], ◌∷◌, map}
use Prim.Native.String.{String}
use Rattle.text.specs.Bytes.{bytes}
use Rattle.row.specs.declared.table.Row.{Row}
use Rattle.ledger.specs.Plain.{Reading, accepted, denied, plain}
use Rattle.layout.specs.Written

-- ledgers with every kind of row, and what is written of each
abbrev pub ledgers : List (String × String)
ledgers = (
  "2024-01-31 * \"Jan\" #m\n  E:Cell  12.5 KWH {2 EUR}\n  G:Import\n; end\noption \"a\" \"b\"\n",
  "2024-01-31 * \"Jan\" #m\n  E:Cell 12.5 KWH {2 EUR}\n  G:Import\noption \"a\" \"b\"\n",
)
    ∷ (
      "2024-01-01 txn \"p\"  \"n\"#t^l-1.2 #\n  k: 1/4\n\n ; c\n ! A:B  -(2) EUR {2024-05-01,3/1.5 USD} @@ 1,000.50 X\n   m: A.B ; z\n  C:D 1 X {2024-05-01}  @ 2 Y\n  C:D 1 X {}  @ 2 Y",
      "2024-01-01 txn \"p\" \"n\" #t ^l-1.2 #\n  k: 0.25\n  ! A:B -2 EUR {2 USD, 2024-05-01} @@ 1000.5 X\n  m: A.B\n  C:D 1 X {2024-05-01} @ 2 Y\n  C:D 1 X {} @ 2 Y\n",
    )
    ∷ (
      "2024-01-01 \n#a\n",
      "2024-01-01 \n #a\n",
    )
    ∷ (
      "2024-01-01 open A:B EUR ,USD  \"b\"\r\n  k: \"x\ny\"\n",
      "2024-01-01 open A:B EUR, USD \"b\"\n  k: \"x\ny\"\n",
    )
    ∷ (
      "2024-01-01 balance A:B 0.500 ~ 0.05 EUR\n2024-01-02 price  KWH 999999999.999999 EUR\n2024-01-03 pad A:B  C:D ; c\n\n2024-01-01 commodity X\n2024-01-01 event \"a\"  \"b\nc\"\n2024-01-01 close A:B\nfoo\n  bar\n",
      "2024-01-01 balance A:B 0.5 ~ 0.05 EUR\n2024-01-02 price KWH 999999999.999999 EUR\n2024-01-03 pad A:B C:D\n2024-01-01 commodity X\n2024-01-01 event \"a\" \"b\nc\"\n2024-01-01 close A:B\nfoo\n  bar\n",
    )
    ∷ (
      "pushtag  #a\npoptag #\ninclude \"x\" ; y\n; z\n0001-12-31 balance 1:2 -0.000001 A\n",
      "pushtag #a\npoptag #\ninclude \"x\"\n; z\n0001-12-31 balance 1:2 -0.000001 A\n",
    )
    ∷ []

abbrev written_of : List ℕ → Reading → List ℕ
written_of s (accepted rs) = Written.written s rs
written_of s (denied n p) = []

abbrev pub afresh : List ℕ → List ℕ
afresh s = written_of s (plain s)

abbrev pub kinds_of : Reading → List ℕ
kinds_of (accepted rs) = map (λ (r : Row). r.kind) rs
kinds_of (denied n p) = []

-- why blank entries must hold no quote: the quote in the comment, which is dropped, kept the first line from being an
-- option. The kinds of the ledger's rows, and those of the output's
abbrev pub quoted : List ℕ
quoted = bytes "option \"\" \"\n0000-01-01 *;\"x\n\"\n"

abbrev pub Found : Type 0
Found = List (List ℕ) × List ℕ × List ℕ
