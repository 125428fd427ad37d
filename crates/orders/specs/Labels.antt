-- Labels, and the order of classes that they make.
use Rattle.std.specs.Prelude.{◌≡◌, ℕ, ◌+◌, ◌^◌, ◌<◌, ◌≤◌, Bool, true, cond, ◌&&◌, List, length, Decides, ◌==◌, ◌≢◌, bit_and, count_ones, nat_le, nat_lt, slice_index_or}
use Rattle.sets.specs.Members.{has_bit}
use Rattle.orders.specs.declared.label.Label.{Label}

-- Whether each compartment of b is one of a.
abbrev pub includes : ℕ → ℕ → Bool
includes a b = bit_and a b == b

-- The same, compartment by compartment.
abbrev pub Includes : ℕ → ℕ → Type 0
Includes a b = (k : ℕ) → has_bit b k ≡ true → has_bit a k ≡ true

abbrev pub label_dominates : Label → Label → Bool
label_dominates a b = nat_le b.rank a.rank && includes a.compartments b.compartments

abbrev pub label_grade : Label → ℕ
label_grade a = a.rank + count_ones a.compartments

-- Whether label a dominates label b: its rank is no lower, and it holds each compartment of b.
-- A strict superset has strictly more ones.
pub record LabelDominance (a b : Label) (r : Bool) : Type 0 where
  pub meaning : Decides r ((b.rank ≤ a.rank) × Includes a.compartments b.compartments)
  pub strict_superset : Includes a.compartments b.compartments → (a.compartments ≢ b.compartments) → count_ones b.compartments < count_ones a.compartments

abbrev pub same_label : Label → Label → Bool
same_label a b = a.rank == b.rank && a.compartments == b.compartments

-- Rank 0 and no compartments.
abbrev pub lowest : Label
lowest = record { rank = 0; compartments = 0 }

-- The label of class c; past the classes, the lowest label.
abbrev pub label_at : List Label → ℕ → Label
label_at w c = slice_index_or w c lowest

abbrev pub dominates_by_label : List Label → ℕ → ℕ → Bool
dominates_by_label w c d = nat_lt c (length w) && (nat_lt d (length w) && label_dominates (label_at w c) (label_at w d))

abbrev pub grade_by_label : List Label → ℕ → ℕ
grade_by_label w c = cond (nat_lt c (length w)) (label_grade (label_at w c)) 0

-- What an order of n classes keeps: a label for each, ranks to 15, compartments to 7.
abbrev pub Labelled : ℕ → List Label → Type 0
Labelled n w =
    (1 ≤ n) × (n ≤ 16) × (length w ≡ n)
    × ((c : ℕ) → (label_at w c).rank ≤ 15)
    × ((c : ℕ) → (label_at w c).compartments < 2 ^ 8)

-- No two classes have one label.
abbrev pub Distinct : List Label → Type 0
Distinct w = (c d : ℕ) → (c < length w) × (d < length w) × (label_at w c ≡ label_at w d) → c ≡ d
