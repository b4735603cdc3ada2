-- Demand 3 on closed prefixes and tails, as one list under one statement, by computation: it is not empty, and each of
-- its premises is needed.
use Rattle.std.specs.Prelude.{ℕ, ◌≡◌, refl, Bool, true, false, ◌&&◌, not, List, [], ◌∷◌, ◌++◌, map, eqb, ℤ, pos}
use Rattle.text.specs.Bytes.{bytes}
use Rattle.text.specs.Boundaries.{holds}
use Rattle.row.specs.declared.table.Row.{Row}
use Rattle.row.specs.Row.{row_of}
use Rattle.entry.specs.Strings.{strings}
use Rattle.ledger.specs.Plain.{Reading, accepted, plain}
use Rattle.ledger.specs.Opened.{opened}
use Rattle.recovery.specs.Recovering.{block_length, block_rows, recover_by, recovered_by, recovered}
use Rattle.recovery.specs.Demand3.{starts_tail, ends_line, then_tail}

abbrev row : ℕ → ℕ → ℕ → ℕ → ℕ → ℕ → ℤ → Row
row k a e l p q v = row_of k a e l p q v

-- the bytes before a tail; the tail; its plain rows; recovering reading's rows of the bytes before it alone; those of
-- both
abbrev Case : Type 0
Case = List ℕ × List ℕ × List Row × List Row × List Row

-- the premises (the tail's first byte, the end of what stands before it, the tail's strings), and then whether the rows
-- are those that demand 3 promises
abbrev Verdict : Type 0
Verdict = Bool × Bool × Bool × Bool

abbrev same_row : Row → Row → Bool
same_row r u =
    eqb r.kind u.kind && eqb r.start u.start && eqb r.end u.end && eqb r.line u.line && eqb r.p u.p && eqb r.q u.q && eqb r.bits u.bits

unfoldable pub same_rows : List Row → List Row → Bool
same_rows [] [] = true
same_rows [] (u ∷ us) = false
same_rows (r ∷ rs) [] = false
same_rows (r ∷ rs) (u ∷ us) = same_row r u && same_rows rs us

unfoldable pub none_hold : List (List ℕ) → Bool
none_hold [] = true
none_hold (x ∷ xs) = not (holds x) && none_hold xs

-- ---- demand 3 holds, and is seen

-- an open quote before a month of readings; arbitrary bytes; a comment before a ledger of several blocks, and nothing
-- before it; narrations that hold line feeds; places in p and q
abbrev promised : List Case
promised =
    (bytes "2024-01-31 * \"Jan\n  E:Cell  12.5 KWH\n", bytes "2024-02-01 * \"Feb\"\n  E:Cell  10 KWH\n2024-02-15 * \"Feb\"\n  E:Cell  11.5 KWH\n2024-02-29 balance E:Cell  34 KWH\n", (row 6 0 36 1 20240201 4 (pos 0) ∷ row 20 11 12 1 0 0 (pos 0) ∷ row 22 14 17 1 0 0 (pos 0) ∷ row 33 21 27 2 0 0 (pos 0) ∷ row 26 29 31 2 32 35 (pos 10000000) ∷ row 6 36 74 3 20240215 4 (pos 0) ∷ row 20 47 48 3 0 0 (pos 0) ∷ row 22 50 53 3 0 0 (pos 0) ∷ row 33 57 63 4 0 0 (pos 0) ∷ row 26 65 69 4 70 73 (pos 11500000) ∷ row 8 74 108 5 20240229 2 (pos 0) ∷ row 25 93 99 5 0 0 (pos 0) ∷ row 26 101 103 5 104 107 (pos 34000000) ∷ []), (row 90 0 37 1 4 0 (pos 0) ∷ []), (row 90 0 37 1 4 0 (pos 0) ∷ row 6 37 73 3 20240201 4 (pos 0) ∷ row 20 48 49 3 0 0 (pos 0) ∷ row 22 51 54 3 0 0 (pos 0) ∷ row 33 58 64 4 0 0 (pos 0) ∷ row 26 66 68 4 69 72 (pos 10000000) ∷ row 6 73 111 5 20240215 4 (pos 0) ∷ row 20 84 85 5 0 0 (pos 0) ∷ row 22 87 90 5 0 0 (pos 0) ∷ row 33 94 100 6 0 0 (pos 0) ∷ row 26 102 106 6 107 110 (pos 11500000) ∷ row 8 111 145 7 20240229 2 (pos 0) ∷ row 25 130 136 7 0 0 (pos 0) ∷ row 26 138 140 7 141 144 (pos 34000000) ∷ []))
    ∷ ((0 ∷ 200 ∷ 255 ∷ 13 ∷ 65 ∷ 10 ∷ []), bytes "2024-03-01 open E:Cell KWH\n", (row 9 0 27 1 20240301 2 (pos 0) ∷ row 25 16 22 1 0 0 (pos 0) ∷ row 31 23 26 1 0 0 (pos 0) ∷ []), (row 90 0 6 1 2 0 (pos 0) ∷ []), (row 90 0 6 1 2 0 (pos 0) ∷ row 9 6 33 2 20240301 2 (pos 0) ∷ row 25 22 28 2 0 0 (pos 0) ∷ row 31 29 32 2 0 0 (pos 0) ∷ []))
    ∷ ((255 ∷ 10 ∷ 97 ∷ 200 ∷ 10 ∷ 13 ∷ 10 ∷ []), bytes "2024-03-01 close E:Cell\n", (row 10 0 24 1 20240301 1 (pos 0) ∷ row 25 17 23 1 0 0 (pos 0) ∷ []), (row 90 0 2 1 2 0 (pos 0) ∷ row 90 2 7 2 2 3 (pos 0) ∷ []), (row 90 0 2 1 2 0 (pos 0) ∷ row 90 2 7 2 2 3 (pos 0) ∷ row 10 7 31 4 20240301 1 (pos 0) ∷ row 25 24 30 4 0 0 (pos 0) ∷ []))
    ∷ (bytes "Corrected by hand\n", bytes "2024-01-31 * \"Jan\" #m\n  E:Cell  12.5 KWH {2 EUR}\n  G:Import\n; end\noption \"a\" \"b\"\n", (row 6 0 66 1 20240131 8 (pos 0) ∷ row 20 11 12 1 0 0 (pos 0) ∷ row 22 14 17 1 0 0 (pos 0) ∷ row 23 20 21 1 0 0 (pos 0) ∷ row 33 24 30 2 0 0 (pos 0) ∷ row 26 32 36 2 37 40 (pos 12500000) ∷ row 28 41 48 2 0 0 (pos 0) ∷ row 26 42 43 2 44 47 (pos 2000000) ∷ row 33 51 59 3 0 0 (pos 0) ∷ row 2 66 81 5 0 2 (pos 0) ∷ row 34 74 75 5 0 0 (pos 0) ∷ row 34 78 79 5 0 0 (pos 0) ∷ []), (row 1 0 18 1 0 0 (pos 0) ∷ []), (row 1 0 18 1 0 0 (pos 0) ∷ row 6 18 84 2 20240131 8 (pos 0) ∷ row 20 29 30 2 0 0 (pos 0) ∷ row 22 32 35 2 0 0 (pos 0) ∷ row 23 38 39 2 0 0 (pos 0) ∷ row 33 42 48 3 0 0 (pos 0) ∷ row 26 50 54 3 55 58 (pos 12500000) ∷ row 28 59 66 3 0 0 (pos 0) ∷ row 26 60 61 3 62 65 (pos 2000000) ∷ row 33 69 77 4 0 0 (pos 0) ∷ row 2 84 99 6 0 2 (pos 0) ∷ row 34 92 93 6 0 0 (pos 0) ∷ row 34 96 97 6 0 0 (pos 0) ∷ []))
    ∷ ([], bytes "2024-01-31 * \"Jan\" #m\n  E:Cell  12.5 KWH {2 EUR}\n  G:Import\n; end\noption \"a\" \"b\"\n", (row 6 0 66 1 20240131 8 (pos 0) ∷ row 20 11 12 1 0 0 (pos 0) ∷ row 22 14 17 1 0 0 (pos 0) ∷ row 23 20 21 1 0 0 (pos 0) ∷ row 33 24 30 2 0 0 (pos 0) ∷ row 26 32 36 2 37 40 (pos 12500000) ∷ row 28 41 48 2 0 0 (pos 0) ∷ row 26 42 43 2 44 47 (pos 2000000) ∷ row 33 51 59 3 0 0 (pos 0) ∷ row 2 66 81 5 0 2 (pos 0) ∷ row 34 74 75 5 0 0 (pos 0) ∷ row 34 78 79 5 0 0 (pos 0) ∷ []), [], (row 6 0 66 1 20240131 8 (pos 0) ∷ row 20 11 12 1 0 0 (pos 0) ∷ row 22 14 17 1 0 0 (pos 0) ∷ row 23 20 21 1 0 0 (pos 0) ∷ row 33 24 30 2 0 0 (pos 0) ∷ row 26 32 36 2 37 40 (pos 12500000) ∷ row 28 41 48 2 0 0 (pos 0) ∷ row 26 42 43 2 44 47 (pos 2000000) ∷ row 33 51 59 3 0 0 (pos 0) ∷ row 2 66 81 5 0 2 (pos 0) ∷ row 34 74 75 5 0 0 (pos 0) ∷ row 34 78 79 5 0 0 (pos 0) ∷ []))
    ∷ (bytes "2024-01-31 * \"Jan\n  E:Cell  12.5 KWH\n", bytes "2024-01-01 * \"a\n b\" \"n\n\"\n A:B 1 X\n", (row 6 0 34 1 20240101 5 (pos 0) ∷ row 20 11 12 1 0 0 (pos 0) ∷ row 21 14 18 1 0 0 (pos 0) ∷ row 22 21 23 2 0 0 (pos 0) ∷ row 33 26 29 4 0 0 (pos 0) ∷ row 26 30 31 4 32 33 (pos 1000000) ∷ []), (row 90 0 37 1 4 0 (pos 0) ∷ []), (row 90 0 37 1 4 0 (pos 0) ∷ row 6 37 71 3 20240101 5 (pos 0) ∷ row 20 48 49 3 0 0 (pos 0) ∷ row 21 51 55 3 0 0 (pos 0) ∷ row 22 58 60 4 0 0 (pos 0) ∷ row 33 63 66 6 0 0 (pos 0) ∷ row 26 67 68 6 69 70 (pos 1000000) ∷ []))
    ∷ (bytes "; c\n\n", bytes "2024-05-01 open E:Cell\n  k: \"v\"\n  n: 2\n  c: KWH\n2024-05-01 *\n A:B 1 X @ 2 Y\n A:C 1 X @@ 3 Y\n", (row 9 0 48 1 20240501 4 (pos 0) ∷ row 25 16 22 1 0 0 (pos 0) ∷ row 35 25 26 2 29 30 (pos 0) ∷ row 36 34 35 3 37 38 (pos 2000000) ∷ row 37 41 42 4 44 47 (pos 0) ∷ row 6 48 92 5 20240501 7 (pos 0) ∷ row 20 59 60 5 0 0 (pos 0) ∷ row 33 62 65 6 0 0 (pos 0) ∷ row 26 66 67 6 68 69 (pos 1000000) ∷ row 29 72 73 6 74 75 (pos 2000000) ∷ row 33 77 80 7 0 0 (pos 0) ∷ row 26 81 82 7 83 84 (pos 1000000) ∷ row 30 88 89 7 90 91 (pos 3000000) ∷ []), (row 1 0 4 1 0 0 (pos 0) ∷ row 1 4 5 2 0 0 (pos 0) ∷ []), (row 1 0 4 1 0 0 (pos 0) ∷ row 1 4 5 2 0 0 (pos 0) ∷ row 9 5 53 3 20240501 4 (pos 0) ∷ row 25 21 27 3 0 0 (pos 0) ∷ row 35 30 31 4 34 35 (pos 0) ∷ row 36 39 40 5 42 43 (pos 2000000) ∷ row 37 46 47 6 49 52 (pos 0) ∷ row 6 53 97 7 20240501 7 (pos 0) ∷ row 20 64 65 7 0 0 (pos 0) ∷ row 33 67 70 8 0 0 (pos 0) ∷ row 26 71 72 8 73 74 (pos 1000000) ∷ row 29 77 78 8 79 80 (pos 2000000) ∷ row 33 82 85 9 0 0 (pos 0) ∷ row 26 86 87 9 88 89 (pos 1000000) ∷ row 30 93 94 9 95 96 (pos 3000000) ∷ []))
    ∷ []

-- strings with a line feed that count and hold no such line, and strings that are read, dropped and not counted
abbrev kept : List Case
kept =
    ([], bytes "2024-01-01 * \"a\n b\" \"n\n\"\n A:B 1 X\n", (row 6 0 34 1 20240101 5 (pos 0) ∷ row 20 11 12 1 0 0 (pos 0) ∷ row 21 14 18 1 0 0 (pos 0) ∷ row 22 21 23 2 0 0 (pos 0) ∷ row 33 26 29 4 0 0 (pos 0) ∷ row 26 30 31 4 32 33 (pos 1000000) ∷ []), [], (row 6 0 34 1 20240101 5 (pos 0) ∷ row 20 11 12 1 0 0 (pos 0) ∷ row 21 14 18 1 0 0 (pos 0) ∷ row 22 21 23 2 0 0 (pos 0) ∷ row 33 26 29 4 0 0 (pos 0) ∷ row 26 30 31 4 32 33 (pos 1000000) ∷ []))
    ∷ ([], bytes "option \"a\nb\" x\n", (row 1 0 10 1 0 0 (pos 0) ∷ row 1 10 15 2 0 0 (pos 0) ∷ []), [], (row 1 0 10 1 0 0 (pos 0) ∷ row 1 10 15 2 0 0 (pos 0) ∷ []))
    ∷ ([], bytes "option \"a\" \"a\n2\" x\n", (row 1 0 14 1 0 0 (pos 0) ∷ row 1 14 19 2 0 0 (pos 0) ∷ []), [], (row 1 0 14 1 0 0 (pos 0) ∷ row 1 14 19 2 0 0 (pos 0) ∷ []))
    ∷ ([], bytes "2024-01-01 open A:B \"x\ny\" z\n", (row 1 0 23 1 0 0 (pos 0) ∷ row 1 23 28 2 0 0 (pos 0) ∷ []), [], (row 1 0 23 1 0 0 (pos 0) ∷ row 1 23 28 2 0 0 (pos 0) ∷ []))
    ∷ ([], bytes "2024-01-01 open A:B X \"x\ny\" z\n", (row 1 0 25 1 0 0 (pos 0) ∷ row 1 25 30 2 0 0 (pos 0) ∷ []), [], (row 1 0 25 1 0 0 (pos 0) ∷ row 1 25 30 2 0 0 (pos 0) ∷ []))
    ∷ ([], bytes "2024-01-01 close A:B\n k: \"a\nb\" z\n", (row 10 0 21 1 20240101 1 (pos 0) ∷ row 25 17 20 1 0 0 (pos 0) ∷ row 1 21 28 2 0 0 (pos 0) ∷ row 1 28 33 3 0 0 (pos 0) ∷ []), [], (row 10 0 21 1 20240101 1 (pos 0) ∷ row 25 17 20 1 0 0 (pos 0) ∷ row 1 21 28 2 0 0 (pos 0) ∷ row 1 28 33 3 0 0 (pos 0) ∷ []))
    ∷ ([], bytes "2024-01-01 close A:B\n k: \"a\nb\n", (row 10 0 21 1 20240101 1 (pos 0) ∷ row 25 17 20 1 0 0 (pos 0) ∷ row 1 21 28 2 0 0 (pos 0) ∷ row 1 28 30 3 0 0 (pos 0) ∷ []), [], (row 10 0 21 1 20240101 1 (pos 0) ∷ row 25 17 20 1 0 0 (pos 0) ∷ row 1 21 28 2 0 0 (pos 0) ∷ row 1 28 30 3 0 0 (pos 0) ∷ []))
    ∷ ([], bytes "2024-01-01 \n\n", (row 6 0 13 1 20240101 1 (pos 0) ∷ row 20 11 12 1 0 0 (pos 0) ∷ []), [], (row 6 0 13 1 20240101 1 (pos 0) ∷ row 20 11 12 1 0 0 (pos 0) ∷ []))
    ∷ ([], bytes "2024-01-01 *\n A:B 1 X\n\n2024-01-01 \n #t\n A:B\n; c\nb\n", (row 6 0 23 1 20240101 3 (pos 0) ∷ row 20 11 12 1 0 0 (pos 0) ∷ row 33 14 17 2 0 0 (pos 0) ∷ row 26 18 19 2 20 21 (pos 1000000) ∷ row 6 23 48 4 20240101 3 (pos 0) ∷ row 20 34 35 4 0 0 (pos 0) ∷ row 23 37 38 5 0 0 (pos 0) ∷ row 33 40 43 6 0 0 (pos 0) ∷ row 1 48 50 8 0 0 (pos 0) ∷ []), [], (row 6 0 23 1 20240101 3 (pos 0) ∷ row 20 11 12 1 0 0 (pos 0) ∷ row 33 14 17 2 0 0 (pos 0) ∷ row 26 18 19 2 20 21 (pos 1000000) ∷ row 6 23 48 4 20240101 3 (pos 0) ∷ row 20 34 35 4 0 0 (pos 0) ∷ row 23 37 38 5 0 0 (pos 0) ∷ row 33 40 43 6 0 0 (pos 0) ∷ row 1 48 50 8 0 0 (pos 0) ∷ []))
    ∷ ([], bytes "a \"\nb \"\n", (row 1 0 4 1 0 0 (pos 0) ∷ row 1 4 8 2 0 0 (pos 0) ∷ []), [], (row 1 0 4 1 0 0 (pos 0) ∷ row 1 4 8 2 0 0 (pos 0) ∷ []))
    ∷ []

-- ---- each premise is needed

-- a string holds such a line: each kind of row that counts, and an event line whose line end misses
abbrev torn : List Case
torn =
    ([], bytes "2024-01-01 * \"a\nb\" \"n\"\n", (row 6 0 23 1 20240101 3 (pos 0) ∷ row 20 11 12 1 0 0 (pos 0) ∷ row 21 14 17 1 0 0 (pos 0) ∷ row 22 20 21 2 0 0 (pos 0) ∷ []), [], (row 90 0 16 1 4 0 (pos 0) ∷ row 1 16 23 2 0 0 (pos 0) ∷ []))
    ∷ ([], bytes "2024-01-01 * \"p\" \"a\nb\"\n", (row 6 0 23 1 20240101 3 (pos 0) ∷ row 20 11 12 1 0 0 (pos 0) ∷ row 21 14 15 1 0 0 (pos 0) ∷ row 22 18 21 1 0 0 (pos 0) ∷ []), [], (row 90 0 20 1 4 0 (pos 0) ∷ row 1 20 23 2 0 0 (pos 0) ∷ []))
    ∷ ([], bytes "2024-01-01 * \"a\n2\"\n", (row 6 0 19 1 20240101 2 (pos 0) ∷ row 20 11 12 1 0 0 (pos 0) ∷ row 22 14 17 1 0 0 (pos 0) ∷ []), [], (row 90 0 16 1 4 0 (pos 0) ∷ row 1 16 19 2 0 0 (pos 0) ∷ []))
    ∷ ([], bytes "2024-01-01 open A:B \"x\ny\"\n", (row 9 0 26 1 20240101 2 (pos 0) ∷ row 25 16 19 1 0 0 (pos 0) ∷ row 32 21 24 1 0 0 (pos 0) ∷ []), [], (row 1 0 23 1 0 0 (pos 0) ∷ row 1 23 26 2 0 0 (pos 0) ∷ []))
    ∷ ([], bytes "option \"a\nb\" \"c\"\n", (row 2 0 17 1 0 2 (pos 0) ∷ row 34 8 11 1 0 0 (pos 0) ∷ row 34 14 15 2 0 0 (pos 0) ∷ []), [], (row 1 0 10 1 0 0 (pos 0) ∷ row 1 10 17 2 0 0 (pos 0) ∷ []))
    ∷ ([], bytes "option \"a\" \"b\n0\"\n", (row 2 0 17 1 0 2 (pos 0) ∷ row 34 8 9 1 0 0 (pos 0) ∷ row 34 12 15 1 0 0 (pos 0) ∷ []), [], (row 1 0 14 1 0 0 (pos 0) ∷ row 1 14 17 2 0 0 (pos 0) ∷ []))
    ∷ ([], bytes "include \"a\nb\"\n", (row 3 0 14 1 0 1 (pos 0) ∷ row 34 9 12 1 0 0 (pos 0) ∷ []), [], (row 90 0 11 1 4 0 (pos 0) ∷ row 1 11 14 2 0 0 (pos 0) ∷ []))
    ∷ ([], bytes "2024-01-01 event \"a\nb\" \"c\"\n", (row 13 0 27 1 20240101 2 (pos 0) ∷ row 34 18 21 1 0 0 (pos 0) ∷ row 34 24 25 2 0 0 (pos 0) ∷ []), [], (row 90 0 20 1 4 0 (pos 0) ∷ row 1 20 27 2 0 0 (pos 0) ∷ []))
    ∷ ([], bytes "2024-01-01 close A:B\n k: \"a\nb\"\n", (row 10 0 31 1 20240101 2 (pos 0) ∷ row 25 17 20 1 0 0 (pos 0) ∷ row 35 22 23 2 26 29 (pos 0) ∷ []), [], (row 10 0 21 1 20240101 1 (pos 0) ∷ row 25 17 20 1 0 0 (pos 0) ∷ row 1 21 28 2 0 0 (pos 0) ∷ row 1 28 31 3 0 0 (pos 0) ∷ []))
    ∷ ([], bytes "2024-01-01 *\n A:B\n  k: \"a\nb\"\n", (row 6 0 29 1 20240101 3 (pos 0) ∷ row 20 11 12 1 0 0 (pos 0) ∷ row 33 14 17 2 0 0 (pos 0) ∷ row 35 20 21 3 24 27 (pos 0) ∷ []), [], (row 6 0 18 1 20240101 2 (pos 0) ∷ row 20 11 12 1 0 0 (pos 0) ∷ row 33 14 17 2 0 0 (pos 0) ∷ row 1 18 26 3 0 0 (pos 0) ∷ row 1 26 29 4 0 0 (pos 0) ∷ []))
    ∷ ([], bytes "2024-01-01 event \"a\" \"b\nc\" x\n", (row 1 0 24 1 0 0 (pos 0) ∷ row 1 24 29 2 0 0 (pos 0) ∷ []), [], (row 90 0 24 1 4 0 (pos 0) ∷ row 1 24 29 2 0 0 (pos 0) ∷ []))
    ∷ ([], bytes "2024-01-01 event \"a\nb\" \"c\" x\n", (row 1 0 20 1 0 0 (pos 0) ∷ row 1 20 29 2 0 0 (pos 0) ∷ []), [], (row 90 0 20 1 4 0 (pos 0) ∷ row 1 20 29 2 0 0 (pos 0) ∷ []))
    ∷ ([], bytes "2024-03-05 * \"Meter changed\nby the office\"\n  E:Cell  1 KWH\n", (row 6 0 59 1 20240305 4 (pos 0) ∷ row 20 11 12 1 0 0 (pos 0) ∷ row 22 14 41 1 0 0 (pos 0) ∷ row 33 45 51 3 0 0 (pos 0) ∷ row 26 53 54 3 55 58 (pos 1000000) ∷ []), [], (row 90 0 28 1 4 0 (pos 0) ∷ row 1 28 43 2 0 0 (pos 0) ∷ row 1 43 59 3 0 0 (pos 0) ∷ []))
    ∷ ([], bytes "2024-01-31 * \"see\n2024-02-01 open A:B\n\"\n", (row 6 0 40 1 20240131 2 (pos 0) ∷ row 20 11 12 1 0 0 (pos 0) ∷ row 22 14 38 1 0 0 (pos 0) ∷ []), [], (row 90 0 18 1 4 0 (pos 0) ∷ row 9 18 38 2 20240201 1 (pos 0) ∷ row 25 34 37 2 0 0 (pos 0) ∷ row 1 38 40 3 0 0 (pos 0) ∷ []))
    ∷ []

-- the bytes before the tail do not end in a line feed
abbrev unfinished : List Case
unfinished =
    (bytes "; note", bytes "2024-01-01 *\n", (row 6 0 13 1 20240101 1 (pos 0) ∷ row 20 11 12 1 0 0 (pos 0) ∷ []), (row 90 0 6 1 5 0 (pos 0) ∷ []), (row 1 0 19 1 0 0 (pos 0) ∷ []))
    ∷ (bytes "2024-01-01 close A:B ; c", bytes "x\n", (row 1 0 2 1 0 0 (pos 0) ∷ []), (row 10 0 24 1 20240101 1 (pos 0) ∷ row 25 17 20 1 0 0 (pos 0) ∷ []), (row 10 0 26 1 20240101 1 (pos 0) ∷ row 25 17 20 1 0 0 (pos 0) ∷ []))
    ∷ []

-- the tail starts with a capital, or with a blank
abbrev other_start : List Case
other_start =
    (bytes "2024-01-31 * \"Jan\n", bytes "Feb\n", (row 1 0 4 1 0 0 (pos 0) ∷ []), (row 90 0 18 1 4 0 (pos 0) ∷ []), (row 90 0 22 1 4 0 (pos 0) ∷ []))
    ∷ (bytes "2024-01-31 *\n", bytes "  E:Cell  1 KWH\n", (row 1 0 16 1 0 0 (pos 0) ∷ []), (row 6 0 13 1 20240131 1 (pos 0) ∷ row 20 11 12 1 0 0 (pos 0) ∷ []), (row 6 0 29 1 20240131 3 (pos 0) ∷ row 20 11 12 1 0 0 (pos 0) ∷ row 33 15 21 2 0 0 (pos 0) ∷ row 26 23 24 2 25 28 (pos 1000000) ∷ []))
    ∷ []

-- ---- all of them

abbrev pub examples : List (List Case × Verdict)
examples =
    (promised, (true, true, true, true))
    ∷ (kept, (true, true, true, true))
    ∷ (torn, (true, true, false, false))
    ∷ (unfinished, (true, false, true, false))
    ∷ (other_start, (false, true, true, false))
    ∷ []

-- plain reading of the tail, recovering reading of the bytes before it and of both, and the verdict
abbrev Found : Type 0
Found = Reading × Reading × Reading × Verdict

abbrev found : Case → Found
found (p, t, ts, ps, rs) = (plain t, recovered p, recovered (p ++ t), (starts_tail t, ends_line p, none_hold (strings t ts), same_rows rs (then_tail ps p ts)))

abbrev listed : Verdict → Case → Found
listed v (p, t, ts, ps, rs) = (accepted ts, accepted ps, accepted rs, v)

pub examples_read : map (λ g. map found g.0) examples ≡ map (λ g. map (listed g.1) g.0) examples
unfolding opened same_rows none_hold block_length block_rows recover_by recovered_by starts_tail ends_line
examples_read = refl
