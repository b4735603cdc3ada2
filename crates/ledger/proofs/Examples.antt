-- The example ledgers read as they are listed, by computation.
use Rattle.std.specs.Prelude.{◌≡◌, refl, map}
use Rattle.ledger.specs.Plain.{plain}
use Rattle.ledger.specs.Strict.{strict}
use Rattle.ledger.specs.Opened.{opened}
use Rattle.ledger.specs.Examples.{Found, ledgers, strict_ledgers, verdict}

pub ledgers_read : ◌≡◌ {A = Found} (map (λ e. plain e.0) ledgers, map (λ e. verdict (strict e.0)) strict_ledgers) (map (λ e. e.1) ledgers, map (λ e. e.1) strict_ledgers)
unfolding opened
ledgers_read = refl
