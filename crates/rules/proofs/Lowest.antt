-- What is found among the eight bays is the lowest in the way.
use Rattle.std.proofs.Common.{◌≡◌, ℕ, ◌<◌, ◌≤◌, true, false, Some, None, Option, arith}
use Rattle.std.specs.Option.{MatchOption}
use Rattle.rules.specs.declared.access.Access.{Access}
use Rattle.rules.specs.Claims.{Claims}
use Rattle.rules.specs.Policies.{in_the_way, lock, NamesTheLowest}
use Rattle.rules.specs.Lowest.{NoneBelow}
use Rattle.rules.specs.Refusals.{lock_some, lock_none}

module _ (access : Access) (k : Claims) (b i : ℕ) where
  pub lowest_answered : (r : Option ℕ)
      → MatchOption r ((j : ℕ) → 0 ≤ j → j < 8 → in_the_way access k b i j ≡ false) (λ n. (0 ≤ n) × (n < 8) × (in_the_way access k b i n ≡ true) × ((j : ℕ) → 0 ≤ j → j < n → in_the_way access k b i j ≡ false))
      → (r ≡ lock access k b i) × NamesTheLowest access k b i r
  lowest_answered None h =
      let clear : NoneBelow 8 (in_the_way access k b i) = λ j l. h j (omega arith) l in
      (lock_none access k b i clear, clear)
  lowest_answered (Some n) h =
      let below : NoneBelow n (in_the_way access k b i) = λ j l. h.3 j (omega arith) l in
      (lock_some access k b i n h.1 h.2 below, (h.1, h.2, below))
