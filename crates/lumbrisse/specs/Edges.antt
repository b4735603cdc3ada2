-- Document 01, "Both sides of each edge": one list under one statement, by computation. Expressions are in the exact
-- form.
use Rattle.std.specs.Prelude.{ℕ, ◌≡◌, refl, List, [], ◌∷◌, ◌++◌, map, replicate, None, Some}
use Prim.Native.Char.{code}
use Rattle.decimal.specs.declared.Form.TheVariants.{Exact}
use Rattle.text.specs.Bytes.{bytes}
use Rattle.ledger.specs.Plain.{accepted, denied}
use Rattle.lumbrisse.specs.Asked.{Asked, Told, ledger, currency, reading, token, answered, stops, stops_below, refuses, row, with_cost}

abbrev Edge : Type 0
Edge = Asked × Told

abbrev is : List ℕ → ℕ → ℕ → Edge
is = stops Exact

abbrev less : List ℕ → ℕ → ℕ → Edge
less = stops_below Exact

abbrev refused : List ℕ → ℕ → ℕ → Edge
refused = refuses Exact

-- so many groups around 2
abbrev groups : ℕ → List ℕ
groups n = replicate n (code "(") ++ code "2" ∷ replicate n (code ")")

unfoldable pub edges : List Edge
edges =
    less (bytes "-(2)*3") 4 2000000
    ∷ is (bytes "2*-(3)") 1 2000000
    ∷ is (bytes "2--3") 4 5000000
    ∷ less (bytes "- 5") 3 5000000
    ∷ is (bytes "1,2,.5") 6 12500000
    ∷ refused (bytes "1/3") 7 0
    ∷ refused (bytes "1/0") 8 0
    ∷ is (bytes "0.000001") 8 1
    ∷ refused (bytes "0.0000001") 7 0
    ∷ refused (bytes "999999999.999999*1.000001") 6 0
    ∷ refused [] 11 0
    ∷ (currency (bytes "A"), token (Some 1))
    ∷ (currency (bytes "A-"), token None)
    ∷ (ledger (bytes "2024-01-01 commodity A\n"), reading (accepted (row 12 0 23 1 20240101 1 0 ∷ row 31 21 22 1 0 0 0 ∷ [])))
    ∷ (ledger (bytes "2024-01-01 commodity A-\n"), reading (denied 4 0))
    ∷ is (groups 32) 65 2000000
    ∷ refused (groups 33) 3 32
    ∷ (ledger (bytes "2024-01-01 *\n A:B 1 X {2024-05-01,3 EUR}\n"), reading (accepted (with_cost 41 (row 28 22 40 2 20240501 0 0 ∷ row 26 34 35 2 36 39 3000000 ∷ []))))
    ∷ []

pub edges_hold : map (λ e. answered e.0) edges ≡ map (λ e. e.1) edges
unfolding edges answered
edges_hold = refl
