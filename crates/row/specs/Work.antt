-- Working space, lent to calls that must hold rows (M-103, M-108): what was used of it is zeros afterwards.
use Rattle.std.specs.Prelude.{ℕ, List, ◌++◌, drop, replicate}

unfoldable pub cleared : ℕ → List ℕ → List ℕ
cleared used w = replicate used 0 ++ drop used w
