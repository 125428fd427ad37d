-- The numbers in a set, as a test; and the sets that the calls make.
use Rattle.std.specs.Prelude.{ℕ, ◌/◌, ◌%◌, ◌^◌, Bool, false, not, ◌&&◌, ◌||◌, ◌==◌, nat_lt}
use Rattle.sets.specs.Below.{some_below}
use Rattle.sets.specs.declared.small_set.SmallSet.{SmallSet}

-- Whether binary digit n of a number is 1.
abbrev pub has_bit : ℕ → ℕ → Bool
has_bit bits n = bits / 2 ^ n % 2 == 1

-- A set by its members.
abbrev pub Members : Type 0
Members = ℕ → Bool

abbrev pub members : SmallSet → Members
members s = has_bit s.bits

abbrev pub nothing : Members
nothing n = false

-- The members and n; a number past 63 is not added.
abbrev pub with_member : ℕ → Members → Members
with_member n p m = (nat_lt n 64 && n == m) || p m

abbrev pub union : Members → Members → Members
union p q m = p m || q m

-- Whether two sets share a member below 64. (Not an `abbrev`: at the numeral it would unroll. Rattle.sets.proofs.Overlap has what it says.)
unfoldable pub overlap : Members → Members → Bool
overlap p q = some_below 64 (λ m. p m && q m)

-- Whether all members are below n.
unfoldable pub all_under : ℕ → Members → Bool
all_under n p = not (some_below 64 (λ m. p m && not (nat_lt m n)))
