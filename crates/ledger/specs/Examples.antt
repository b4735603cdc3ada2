-- Closed ledgers on which `proofs/Examples.antt` tries the definitions of plain and strict reading, under one
-- statement, by computation.
use Rattle.std.specs.Prelude.{ℕ, List, [], ◌∷◌, ℤ, pos, negsuc}
use Rattle.text.specs.Bytes.{bytes}
use Rattle.row.specs.declared.table.Row.{Row}
use Rattle.row.specs.Row.{row_of}
use Rattle.ledger.specs.Plain.{Reading, accepted, denied}

abbrev row : ℕ → ℕ → ℕ → ℕ → ℕ → ℕ → ℤ → Row
row k a e l p q v = row_of k a e l p q v

abbrev pub ledgers : List (List ℕ × Reading)
ledgers =
    (bytes "2024-01-31 * \"Jan\" #m\n  E:Cell  12.5 KWH {2 EUR}\n  G:Import\n; end\noption \"a\" \"b\"\n", accepted (row 6 0 66 1 20240131 8 (pos 0) ∷ row 20 11 12 1 0 0 (pos 0) ∷ row 22 14 17 1 0 0 (pos 0) ∷ row 23 20 21 1 0 0 (pos 0) ∷ row 33 24 30 2 0 0 (pos 0) ∷ row 26 32 36 2 37 40 (pos 12500000) ∷ row 28 41 48 2 0 0 (pos 0) ∷ row 26 42 43 2 44 47 (pos 2000000) ∷ row 33 51 59 3 0 0 (pos 0) ∷ row 2 66 81 5 0 2 (pos 0) ∷ row 34 74 75 5 0 0 (pos 0) ∷ row 34 78 79 5 0 0 (pos 0) ∷ []))
    ∷ (bytes "", accepted ([]))
    ∷ (bytes "; c", denied 5 0)
    ∷ (bytes "2024-01-01", denied 4 0)
    ∷ (bytes "2024-01-01 ", denied 5 0)
    ∷ (bytes "2024-01-01 foo", denied 5 0)
    ∷ (bytes "include", denied 4 0)
    ∷ (bytes "includes\n", denied 4 0)
    ∷ (bytes "optional\n", accepted (row 1 0 9 1 0 0 (pos 0) ∷ []))
    ∷ (bytes "pushtag #a\n", accepted (row 4 0 10 1 0 1 (pos 0) ∷ row 23 9 10 1 0 0 (pos 0) ∷ row 1 10 11 1 0 0 (pos 0) ∷ []))
    ∷ (bytes "pushtag #a", accepted (row 4 0 10 1 0 1 (pos 0) ∷ row 23 9 10 1 0 0 (pos 0) ∷ []))
    ∷ (bytes "pushtag #a ", denied 5 10)
    ∷ (bytes "1-1-1\n", accepted (row 1 0 6 1 0 0 (pos 0) ∷ []))
    ∷ (bytes "2024-13-01 x\n", accepted (row 1 0 13 1 0 0 (pos 0) ∷ []))
    ∷ (bytes "2024-01-01 *\n A:B 1 X {1-1-1}\n", accepted (row 6 0 13 1 20240101 1 (pos 0) ∷ row 20 11 12 1 0 0 (pos 0) ∷ row 1 13 30 2 0 0 (pos 0) ∷ []))
    ∷ (bytes "2024-01-01 *\n k: 1/0 x\n", accepted (row 6 0 13 1 20240101 1 (pos 0) ∷ row 20 11 12 1 0 0 (pos 0) ∷ row 1 13 23 2 0 0 (pos 0) ∷ []))
    ∷ (bytes "2024-01-01 *\n  A:B -(2)*3 EUR\n", accepted (row 6 0 13 1 20240101 1 (pos 0) ∷ row 20 11 12 1 0 0 (pos 0) ∷ row 1 13 30 2 0 0 (pos 0) ∷ []))
    ∷ (bytes "2024-01-01 *\n  A:B -(2) EUR @@ 4 USD\n  k: \"v\"\n", accepted (row 6 0 46 1 20240101 5 (pos 0) ∷ row 20 11 12 1 0 0 (pos 0) ∷ row 33 15 18 2 0 0 (pos 0) ∷ row 26 19 23 2 24 27 (negsuc 1999999) ∷ row 30 31 32 2 33 36 (pos 4000000) ∷ row 35 39 40 3 43 44 (pos 0) ∷ []))
    ∷ (bytes "2024-01-01 *\n A:B 1 X {2024-05-01,3/1.5 EUR}\n", accepted (row 6 0 45 1 20240101 5 (pos 0) ∷ row 20 11 12 1 0 0 (pos 0) ∷ row 33 14 17 2 0 0 (pos 0) ∷ row 26 18 19 2 20 21 (pos 1000000) ∷ row 28 22 44 2 20240501 0 (pos 0) ∷ row 26 34 39 2 40 43 (pos 2000000) ∷ []))
    ∷ (bytes "2024-01-01 *\n A:B 1 X {2024-05-01 EUR}\n", accepted (row 6 0 39 1 20240101 5 (pos 0) ∷ row 20 11 12 1 0 0 (pos 0) ∷ row 33 14 17 2 0 0 (pos 0) ∷ row 26 18 19 2 20 21 (pos 1000000) ∷ row 28 22 38 2 0 0 (pos 0) ∷ row 26 23 33 2 34 37 (pos 2018000000) ∷ []))
    ∷ (bytes "2024-01-01 *\n A:B 1 X {2 EUR,}\n", accepted (row 6 0 13 1 20240101 1 (pos 0) ∷ row 20 11 12 1 0 0 (pos 0) ∷ row 1 13 31 2 0 0 (pos 0) ∷ []))
    ∷ (bytes "2024-01-01 *\n A:B 1 X {2024-13-01,3 EUR}\n", accepted (row 6 0 41 1 20240101 5 (pos 0) ∷ row 20 11 12 1 0 0 (pos 0) ∷ row 33 14 17 2 0 0 (pos 0) ∷ row 26 18 19 2 20 21 (pos 1000000) ∷ row 28 22 40 2 0 0 (pos 0) ∷ row 26 23 35 2 36 39 (pos 1998000000) ∷ []))
    ∷ (bytes "2024-01-01 *\n A:B 1 X {3 EUR , 2024-05-01} @ 7.25 Y ; z\n", accepted (row 6 0 56 1 20240101 6 (pos 0) ∷ row 20 11 12 1 0 0 (pos 0) ∷ row 33 14 17 2 0 0 (pos 0) ∷ row 26 18 19 2 20 21 (pos 1000000) ∷ row 28 22 42 2 20240501 0 (pos 0) ∷ row 26 23 24 2 25 28 (pos 3000000) ∷ row 29 45 49 2 50 51 (pos 7250000) ∷ []))
    ∷ (bytes "2024-01-01 close A:B x\n  k: 1\n", accepted (row 1 0 23 1 0 0 (pos 0) ∷ row 1 23 30 2 0 0 (pos 0) ∷ []))
    ∷ (bytes "2024-01-01 \n", accepted (row 6 0 12 1 20240101 1 (pos 0) ∷ row 20 11 12 1 0 0 (pos 0) ∷ []))
    ∷ (bytes "2024-01-01 \n2024-01-02 *\n", denied 4 0)
    ∷ (bytes "2024-01-01 *\n  Cash 1 EUR\n", denied 4 0)
    ∷ (bytes "2024-01-01 *\n  1 EUR\n", denied 4 0)
    ∷ (bytes "2024-01-01 *\n  cash 1 EUR\n", accepted (row 6 0 13 1 20240101 1 (pos 0) ∷ row 20 11 12 1 0 0 (pos 0) ∷ row 1 13 26 2 0 0 (pos 0) ∷ []))
    ∷ (bytes "2024-01-01 *\n  ! A:B 1 EUR\n\n ; c\n  C:D\n x", denied 5 39)
    ∷ (bytes "2024-01-01 open A:B EUR, USD \"b\"\r\n  k: A.B\n  m: 2024-01-01\n", accepted (row 9 0 59 1 20240101 6 (pos 0) ∷ row 25 16 19 1 0 0 (pos 0) ∷ row 31 20 23 1 0 0 (pos 0) ∷ row 31 25 28 1 0 0 (pos 0) ∷ row 32 30 31 1 0 0 (pos 0) ∷ row 37 36 37 2 39 42 (pos 0) ∷ row 36 45 46 3 48 58 (pos 2022000000) ∷ []))
    ∷ (bytes "2024-01-01 open A:B EUR,\n", accepted (row 1 0 25 1 0 0 (pos 0) ∷ []))
    ∷ (bytes "2024-01-01 open A:B:\n", accepted (row 1 0 21 1 0 0 (pos 0) ∷ []))
    ∷ (bytes "2024-01-01 opens A:B\n", denied 4 0)
    ∷ (bytes "2024-01-01 balance A:B 1 ~ 0.5 EUR\n", accepted (row 8 0 35 1 20240101 3 (pos 0) ∷ row 25 19 22 1 0 0 (pos 0) ∷ row 26 23 24 1 31 34 (pos 1000000) ∷ row 27 27 30 1 0 0 (pos 500000) ∷ []))
    ∷ (bytes "2024-01-01 balance A:B 1 ~ EUR\n", denied 4 0)
    ∷ (bytes "2024-01-01 price KWH 0.25 EUR\n2024-01-01 pad A:B C:D\n2024-01-01 commodity X ; c\n2024-01-01 event \"a\" \"b\nc\"\n", accepted (row 7 0 30 1 20240101 2 (pos 0) ∷ row 31 17 20 1 0 0 (pos 0) ∷ row 26 21 25 1 26 29 (pos 250000) ∷ row 11 30 53 2 20240101 2 (pos 0) ∷ row 25 45 48 2 0 0 (pos 0) ∷ row 25 49 52 2 0 0 (pos 0) ∷ row 12 53 80 3 20240101 1 (pos 0) ∷ row 31 74 75 3 0 0 (pos 0) ∷ row 13 80 107 4 20240101 2 (pos 0) ∷ row 34 98 99 4 0 0 (pos 0) ∷ row 34 102 105 4 0 0 (pos 0) ∷ []))
    ∷ (bytes "2024-01-01 event \"a\" \"b\nc\" x\n", accepted (row 1 0 24 1 0 0 (pos 0) ∷ row 1 24 29 2 0 0 (pos 0) ∷ []))
    ∷ (bytes "2024-01-01 event \"a\"\n", denied 4 0)
    ∷ (bytes "2024-01-01 *\n A:B 1/3 EUR\n", accepted (row 6 0 26 1 20240101 3 (pos 0) ∷ row 20 11 12 1 0 0 (pos 0) ∷ row 33 14 17 2 0 0 (pos 0) ∷ row 26 18 21 2 22 25 (pos 333333) ∷ []))
    ∷ (bytes "2024-01-01 *\n A:B 0.0000001 EUR\n", denied 7 18)
    ∷ (bytes "2024-01-01 *\n A:B 1 EUR\n k: 1/0\n C:D 9999999999 X\n", denied 8 28)
    ∷ (bytes "2024-01-01 *\n A:B (((((((((((((((((((((((((((((((((2\n", denied 3 50)
    ∷ (bytes "a\0\n", denied 2 1)
    ∷ (bytes "a\r", denied 2 1)
    ∷ (bytes "2024-01-01 txn \"p\" \"n\" #t ^l-1.2 #\n", accepted (row 6 0 35 1 20240101 5 (pos 0) ∷ row 21 16 17 1 0 0 (pos 0) ∷ row 22 20 21 1 0 0 (pos 0) ∷ row 23 24 25 1 0 0 (pos 0) ∷ row 24 27 32 1 0 0 (pos 0) ∷ row 23 34 34 1 0 0 (pos 0) ∷ []))
    ∷ (bytes "poptag #x\ninclude \"a\\\"b\" ;\n", accepted (row 5 0 9 1 0 1 (pos 0) ∷ row 23 8 9 1 0 0 (pos 0) ∷ row 1 9 10 1 0 0 (pos 0) ∷ row 3 10 27 2 0 1 (pos 0) ∷ row 34 19 23 2 0 0 (pos 0) ∷ []))
    ∷ (bytes "2024-01-01 \" \"x\"\n", accepted (row 6 0 17 1 20240101 2 (pos 0) ∷ row 20 11 12 1 0 0 (pos 0) ∷ row 22 14 15 1 0 0 (pos 0) ∷ []))
    ∷ (bytes "2024-01-01 * \"a\\\\\"\n", accepted (row 6 0 19 1 20240101 2 (pos 0) ∷ row 20 11 12 1 0 0 (pos 0) ∷ row 22 14 17 1 0 0 (pos 0) ∷ []))
    ∷ (bytes "option \"a\" \"b\" x\n", accepted (row 1 0 17 1 0 0 (pos 0) ∷ []))
    ∷ []

-- strict reading: a refusal's number and place, 0 and 0 where the ledger is accepted
abbrev Verdict : Type 0
Verdict = ℕ × ℕ

abbrev pub verdict : Reading → Verdict
verdict (accepted rs) = (0, 0)
verdict (denied n p) = (n, p)

abbrev pub strict_ledgers : List (List ℕ × Verdict)
strict_ledgers =
    (bytes " ; c\n", (0, 0))
    ∷ (bytes "\t\n", (0, 0))
    ∷ (bytes "2024-01-01 txn\n", (0, 0))
    ∷ (bytes "pushtag #a x\n", (16, 10))
    ∷ (bytes "Option\n", (0, 0))
    ∷ (bytes "x2024-01-01 *\n", (0, 0))
    ∷ (bytes "option\n", (16, 0))
    ∷ (bytes "optional\n", (16, 0))
    ∷ (bytes "2024-1-31 *\n", (16, 0))
    ∷ (bytes "2024-01-01 baland A:B\n", (16, 0))
    ∷ (bytes " x\n", (16, 0))
    ∷ (bytes "2024-01-01 P\n", (17, 11))
    ∷ (bytes "2024-01-01   P \"a\"\n", (17, 13))
    ∷ (bytes "2024-01-01 *\n  A:B 1 kWh\n", (16, 13))
    ∷ (bytes "2024-01-01 !\n  # A:B 1 X\n", (0, 0))
    ∷ (bytes "x\n2024-01-01 P\n1\n", (17, 13))
    ∷ (bytes "1\n2024-01-01 P\n", (16, 0))
    ∷ (bytes "1\n; c", (5, 2))
    ∷ []

abbrev pub Found : Type 0
Found = List Reading × List Verdict
