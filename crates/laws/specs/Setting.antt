-- What a register is set up with: its classes, their order and items, the starting value, and the policies of the local rules.
use Rattle.std.specs.Prelude.{◌≡◌, ℕ, zero, suc, ◌+◌, ◌<◌, ◌≤◌, Bool, true, ◌&&◌, nat_lt}
use Rattle.rules.specs.Claims.{Policy}
use Rattle.rules.specs.Rivals.{NamesARival}

pub record Setting (V : Type 0) : Type 0 where
  -- How many classes there are. They are numbered from 0.
  pub classes : ℕ
  -- What the class order says of two classes: the first is above the second, or they are one.
  pub above : ℕ → ℕ → Bool
  -- The grade of a class: smaller than that of every class above it.
  pub grade : ℕ → ℕ
  -- The greatest grade of a class.
  pub top : ℕ
  -- How many items a class has. They are numbered from 0.
  pub items : ℕ → ℕ
  -- What every item holds at first.
  pub start : V
  -- How each class's local rule answers a claim for reading and one for writing, and which of its variants is in force.
  pub reading : Policy
  pub writing : Policy
  pub variant : ℕ

-- How many bays a class has: slots of running transactions, numbered from 0.
abbrev pub bay_count : ℕ
bay_count = 8

-- How many items a class may have.
abbrev pub most_items : ℕ
most_items = 64

-- The sum of f at the numbers below n.
abbrev pub sum_below : ℕ → (ℕ → ℕ) → ℕ
sum_below zero f = 0
sum_below (suc n) f = f n + sum_below n f

module _ {V : Type 0} (S : Setting V) where
  -- Class c dominates class d: it may read what d has. A number that is no class dominates nothing, and nothing dominates it.
  abbrev pub dominates : ℕ → ℕ → Bool
  dominates c d = nat_lt c S.classes && (nat_lt d S.classes && S.above c d)

  -- What is asked of a setting. Of numbers that are no classes nothing is asked.
  pub record Lawful : Type 0 where
    pub some_class : 1 ≤ S.classes
    pub few_classes : S.classes ≤ 16
    pub few_items : (c : ℕ) → c < S.classes → S.items c ≤ most_items
    pub few_in_all : sum_below S.classes S.items ≤ 256
    -- The class order is a partial order, and a class strictly below another has the smaller grade.
    pub reflexive : (c : ℕ) → c < S.classes → S.above c c ≡ true
    pub antisymmetric : (c d : ℕ) → c < S.classes → d < S.classes → S.above c d ≡ true → S.above d c ≡ true → c ≡ d
    pub transitive : (c d e : ℕ) → c < S.classes → d < S.classes → e < S.classes
        → S.above c d ≡ true → S.above d e ≡ true → S.above c e ≡ true
    pub lower_below : (c d : ℕ) → c < S.classes → d < S.classes → S.above c d ≡ true → ¬ (c ≡ d) → S.grade d < S.grade c
    -- The top grade is the greatest that a class has.
    pub graded : (c : ℕ) → c < S.classes → S.grade c ≤ S.top
    pub top_reached : (c : ℕ) × (c < S.classes) × (S.grade c ≡ S.top)
    pub few_grades : S.top ≤ 23
    -- The rule refuses a claim only where another bay claims the item.
    pub reading_fair : NamesARival S.reading
    pub writing_fair : NamesARival S.writing
