-- What holds of some number below n, and the greatest value that a function has below n.
use Rattle.std.specs.Prelude.{ℕ, zero, suc, max, Bool, false, ◌||◌}

abbrev pub some_below : ℕ → (ℕ → Bool) → Bool
some_below zero p = false
some_below (suc n) p = p n || some_below n p

-- 0 where there is no number below n.
abbrev pub greatest_below : ℕ → (ℕ → ℕ) → ℕ
greatest_below zero f = 0
greatest_below (suc n) f = max (f n) (greatest_below n f)
