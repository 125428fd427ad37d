-- The diamond: class 0 at the bottom, class 3 at the top, and between them two rivals that do not see each other.
use Rattle.std.specs.Prelude.{ℕ, Bool, cond, ◌||◌, ◌==◌}

-- Every class is above the bottom, and the top is above every class.
abbrev pub diamond_above : ℕ → ℕ → Bool
diamond_above c d = c == d || (d == 0 || c == 3)

-- The height in the diamond.
abbrev pub diamond_grade : ℕ → ℕ
diamond_grade c = cond (c == 0) 0 (cond (c == 3) 2 1)
