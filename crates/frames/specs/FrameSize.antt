-- Which bytes a line can stand for.
use Rattle.std.specs.Prelude.{ℕ, ◌<◌, ◌≤◌, List, length, All}

-- 1 to 10 bytes; a byte is a number below 256.
pub record FitsFrame (bytes : List ℕ) : Type 0 where
  pub some : 1 ≤ length bytes
  pub few : length bytes ≤ 10
  pub bounded : All (λ b. b < 256) bytes
