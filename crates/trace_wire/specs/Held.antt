-- What of a payload is not read yet.
use Rattle.std.specs.Prelude.{ℕ, List}

-- the bytes that are held, and how many are to come behind them
pub record Held : Type 0 where
  pub bytes : List ℕ
  pub coming : ℕ
