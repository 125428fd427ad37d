-- Paths along links, which say what a drawing means.
use Rattle.std.specs.Prelude.{◌≡◌, ℕ, ◌≤◌, Bool, true, ◌&&◌, List, [], ◌∷◌, length, ◌==◌}
use Rattle.orders.specs.Links.{Links}

-- Whether the links lead from class c through the classes es, the last of which is d.
abbrev pub path : Links → ℕ → List ℕ → ℕ → Bool
path l c [] d = c == d
path l c (e ∷ es) d = l c e && path l e es d

-- In zero or more steps.
abbrev pub Reachable : Links → ℕ → ℕ → Type 0
Reachable l c d = (es : List ℕ) × (path l c es d ≡ true)

-- Some path down from c has this length, and none is longer.
pub record Longest (l : Links) (c n : ℕ) : Type 0 where
  pub attained : (es : List ℕ) × (d : ℕ) × (path l c es d ≡ true) × (length es ≡ n)
  pub not_exceeded : (es : List ℕ) (d : ℕ) → path l c es d ≡ true → length es ≤ n
