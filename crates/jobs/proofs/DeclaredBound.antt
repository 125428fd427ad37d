-- How far declared numbers go.
use Rattle.std.proofs.Common.{ℕ, zero, suc, ◌+◌, ◌≤◌, Bool, true, false, cond, eqb, arith}
use Rattle.laws.specs.Clock.{declared, tick_grade}

-- A grade has declared no more than there were ticks.
pub declared_most : (top g t : ℕ) → declared top g t ≤ t
declared_most top g zero = omega arith
declared_most top g (suc t) = go (eqb (tick_grade top t) g) (declared_most top g t)
  where
    go : (q : Bool) → declared top g t ≤ t → cond q 1 0 + declared top g t ≤ suc t
    go true h = omega arith
    go false h = omega arith
