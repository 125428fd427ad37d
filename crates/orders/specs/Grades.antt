-- The greatest of the first n values.
use Rattle.std.specs.Prelude.{◌≡◌, ℕ, ◌<◌, ◌≤◌}

-- One of the first n values is v, and none is greater.
pub record Greatest (n : ℕ) (f : ℕ → ℕ) (v : ℕ) : Type 0 where
  pub reached : (k : ℕ) × (k < n) × (f k ≡ v)
  pub not_exceeded : (k : ℕ) → k < n → f k ≤ v
