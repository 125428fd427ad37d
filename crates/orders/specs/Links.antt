-- Links between classes, and the order of classes that they make.
use Rattle.std.specs.Prelude.{◌≡◌, ℕ, zero, suc, ◌<◌, ◌≤◌, Bool, true, false, cond, ◌&&◌, ◌||◌, List, length, ◌==◌, slice_index, slice_index_or}
use Rattle.sets.specs.Below.{some_below, greatest_below}
use Rattle.sets.specs.Members.{members}
use Rattle.sets.specs.declared.small_set.SmallSet.{SmallSet}

-- Whether a link goes from the first class down to the second.
abbrev pub Links : Type 0
Links = ℕ → ℕ → Bool

-- The set whose members are the places of the ones of m.
abbrev pub bit_set : ℕ → SmallSet
bit_set m = record { bits = m }

-- The set at place c; past the list, the empty set.
abbrev pub set_at : List SmallSet → ℕ → SmallSet
set_at w c = slice_index_or w c (bit_set 0)

-- From each class to those of its set.
abbrev pub link : List SmallSet → Links
link w c = members (set_at w c)

-- Among the first n classes: the newest, n - 1, reaches itself and what the classes directly below it reach;
-- any other reaches what it did before.
abbrev pub reaches : Links → ℕ → ℕ → ℕ → Bool
reaches l zero c d = false
reaches l (suc n) c d = cond (c == n) (n == d || some_below n (λ e. l n e && reaches l n e d)) (reaches l n c d)

-- One more than the value at a class of the set; 0 at any other class.
abbrev pub step_up : (ℕ → Bool) → (ℕ → ℕ) → ℕ → ℕ
step_up p g e = cond (p e) (suc (g e)) 0

-- The newest of n classes is one step above the highest class directly below it.
abbrev pub height : Links → ℕ → ℕ → ℕ
height l zero c = 0
height l (suc n) c = cond (c == n) (greatest_below n (step_up (l n) (height l n))) (height l n c)

abbrev pub dominates_as_drawn : List SmallSet → ℕ → ℕ → Bool
dominates_as_drawn w = reaches (link w) (length w)

abbrev pub grade_as_drawn : List SmallSet → ℕ → ℕ
grade_as_drawn w = height (link w) (length w)

-- What an order of n classes keeps: a set for each.
abbrev pub Drawn : ℕ → List SmallSet → Type 0
Drawn n w = (1 ≤ n) × (n ≤ 16) × (length w ≡ n)

-- Links go to smaller classes only.
abbrev pub Falling : List SmallSet → Type 0
Falling w = (c e : ℕ) → link w c e ≡ true → e < c

-- The tables say what the links mean.
abbrev pub Tables : List SmallSet → List SmallSet → List ℕ → Type 0
Tables w reached grades =
    ((c d : ℕ) → members (set_at reached c) d ≡ dominates_as_drawn w c d)
    × ((c : ℕ) → slice_index grades c ≡ grade_as_drawn w c)
