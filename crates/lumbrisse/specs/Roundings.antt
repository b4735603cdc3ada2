-- M-106: both sides of each edge of rounding, as one list under one statement, by computation.
use Rattle.std.specs.Prelude.{◌≡◌, refl, List, [], ◌∷◌, map}
use Rattle.decimal.specs.declared.Form.TheVariants.{Exact, Rounding}
use Rattle.text.specs.Bytes.{bytes}
use Rattle.lumbrisse.specs.Asked.{Asked, Told, answered, stops, stops_below, refuses}

-- the nearest millionth; ties to the even one, down and up, above zero and below; at each operation; a literal too fine
-- still gets 7; the size is judged after rounding: what is just over the limit goes down to it, where the exact form
-- gives 6, and 999,999,999.9999995 goes up
unfoldable pub roundings : List (Asked × Told)
roundings =
    stops Rounding (bytes "100/3") 5 33333333
    ∷ stops Rounding (bytes "2/3") 3 666667
    ∷ stops_below Rounding (bytes "-1/3") 4 333333
    ∷ stops Rounding (bytes "0.000001/2") 10 0
    ∷ stops Rounding (bytes "0.000003/2") 10 2
    ∷ stops Rounding (bytes "-0.000001/2") 11 0
    ∷ stops_below Rounding (bytes "-0.000003/2") 11 2
    ∷ stops Rounding (bytes "0.000001*0.5") 12 0
    ∷ stops Rounding (bytes "1/3*3") 5 999999
    ∷ refuses Rounding (bytes "0.0000001") 7 0
    ∷ stops Rounding (bytes "999999999.999999*1.000000") 25 999999999999999
    ∷ stops Rounding (bytes "999999000.000999*1.000001") 25 999999999999999
    ∷ refuses Exact (bytes "999999000.000999*1.000001") 6 0
    ∷ refuses Rounding (bytes "917431192.66055*1.09") 6 0
    ∷ refuses Rounding (bytes "1/0") 8 0
    ∷ refuses Rounding (bytes "1/(0.000001/3)") 8 0
    ∷ []

pub roundings_hold : map (λ e. answered e.0) roundings ≡ map (λ e. e.1) roundings
unfolding roundings answered
roundings_hold = refl
