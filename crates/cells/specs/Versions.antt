-- The versions of an item as a list, newest first: what a store leaves, and what a read at a number gives.
use Rattle.std.specs.Prelude.{ℕ, Bool, true, cond, ◌&&◌, List, [], ◌∷◌, take, Some, None, Option, ◌==◌, nat_le, nat_lt}
use Rattle.cells.specs.declared.version.Version.{Version}

-- How many versions an item keeps.
abbrev pub kept : ℕ
kept = 3

module _ {V : Type 0} where
  abbrev pub version : ℕ → V → Version V
  version n v = record { number = n; value = v }

  -- A fresh item has its starting value under number 0.
  abbrev pub fresh : V → List (Version V)
  fresh v = version 0 v ∷ []

  -- A store under the newest number or a greater one is accepted.
  abbrev pub accepts : ℕ → List (Version V) → Bool
  accepts n [] = true
  accepts n (x ∷ older) = nat_le x.number n

  -- Under the newest number a store replaces that value, under a greater one it adds a version and drops what is too old; under a smaller one it changes nothing.
  abbrev pub stored : ℕ → V → List (Version V) → List (Version V)
  stored n v [] = version n v ∷ []
  stored n v (x ∷ older) =
      cond (n == x.number) (version n v ∷ older)
      (cond (nat_lt x.number n) (take kept (version n v ∷ x ∷ older)) (x ∷ older))

  -- The version with the greatest number not above n: the first such, since the numbers fall from the newest on.
  abbrev pub read_at : ℕ → List (Version V) → Option (Version V)
  read_at n [] = None
  read_at n (x ∷ older) = cond (nat_le x.number n) (Some x) (read_at n older)

  abbrev pub newest : List (Version V) → Option (Version V)
  newest [] = None
  newest (x ∷ older) = Some x

  -- From the newest version on the numbers fall strictly.
  abbrev pub falling : List (Version V) → Bool
  falling [] = true
  falling (x ∷ []) = true
  falling (x ∷ y ∷ older) = nat_lt y.number x.number && falling (y ∷ older)
