-- The places of lent memory that belong to one class, and to one bay of it.
use Rattle.std.specs.Prelude.{ℕ, Bool, ◌&&◌, List, nat_lt, slice_index}
use Rattle.laws.specs.Setting.{bay_count, sum_below}
use Rattle.laws.specs.Actions.{pending_places}
use Rattle.jobs.specs.Represents.{pending_place}
use Rattle.jobs.specs.Lent.{from_on}

-- The cells of class c, where counts says how many items each class has.
abbrev pub cells_of : List ℕ → ℕ → ℕ → Bool
cells_of counts c = from_on (sum_below c (λ d. slice_index counts d)) (slice_index counts c)

-- The places for the pending values of bay b of class c.
abbrev pub places_of : ℕ → ℕ → ℕ → Bool
places_of c b = from_on (pending_place c b) pending_places

-- What a call for bay b of class c may change, in a register with n classes: these places, or none where there is no such bay.
abbrev pub if_bay : ℕ → ℕ → ℕ → (ℕ → Bool) → ℕ → Bool
if_bay n c b places k = (nat_lt c n && nat_lt b bay_count) && places k
