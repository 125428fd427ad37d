-- How the rules of this crate answer claims.
use Rattle.std.specs.Prelude.{◌≡◌, ℕ, zero, suc, ◌<◌, Bool, true, false, cond, not, ◌&&◌, ◌||◌, Some, None, Option, ◌==◌}
use Rattle.std.specs.Option.{option_or}
use Rattle.rules.specs.declared.access.Access.{Access}
use Rattle.rules.specs.declared.access.Access.TheVariants.{Read, Write}
use Rattle.rules.specs.Claims.{Claims, Policy}

-- The lowest number below n that passes a test, if any. (Not an `abbrev`: at a numeral it would unroll.)
unfoldable pub lowest_below : ℕ → (ℕ → Bool) → Option ℕ
lowest_below zero p = None
lowest_below (suc n) p = option_or (lowest_below n p) (cond (p n) (Some n) None)

-- Whether a bay that reads an item, or writes it, shuts others out: writers shut everyone out, readers only writers.
abbrev pub bars : Access → Bool → Bool → Bool
bars Read reads writes = writes
bars Write reads writes = reads || writes

-- Whether bay b' stands in the way of bay b at item i.
abbrev pub in_the_way : Access → Claims → ℕ → ℕ → ℕ → Bool
in_the_way access k b i b' = not (b == b') && bars access (k.reads b' i) (k.writes b' i)

-- Locks: in the way of a read is another bay that claims the item for writing, of a write one that claims it at all; the lowest such bay is named.
abbrev pub lock : Access → Policy
lock access k b i = lowest_below 8 (in_the_way access k b i)

-- The same in words: where none is named, no bay is in the way; a bay that is named is in the way, and no lower one is.
abbrev pub NamesTheLowest : Access → Claims → ℕ → ℕ → Option ℕ → Type 0
NamesTheLowest access k b i None = (b' : ℕ) → b' < 8 → in_the_way access k b i b' ≡ false
NamesTheLowest access k b i (Some n) =
    (n < 8) × (in_the_way access k b i n ≡ true) × ((b' : ℕ) → b' < n → in_the_way access k b i b' ≡ false)

-- The check rule (optimistic validation): nothing is ever in the way of a claim, since it is judged when a bay settles.
abbrev pub nothing_in_the_way : Policy
nothing_in_the_way k b i = None

-- Variant 0 has locks, variant 1 the check rule.
abbrev pub chosen : Access → Policy
chosen access k b i = cond (k.variant == 0) (lock access k b i) (nothing_in_the_way k b i)
