-- One copy: the committed jobs, one after another in the order of their places, on a single copy of the items.
use Rattle.std.specs.Prelude.{◌≡◌, ℕ, ◌+◌, ◌-◌, ◌*◌, ◌%◌, ◌<◌, max, Bool, false, cond, ◌&&◌, ◌||◌, List, [], ◌∷◌, Some, None, Option, ◌==◌, nat_lt}
use Rattle.std.specs.List.{AllByRecursion}
use Rattle.laws.specs.Setting.{Setting}
use Rattle.laws.specs.State.{or_else, newest_value, Kind, State, update, long}
use Rattle.laws.specs.History.{History}
use Rattle.laws.specs.Transactions.{Operation, Committed, down, committed, read_of, write_of}

-- The serialization order ---------------------------------------------------------------------------------------

abbrev pub by_kind : {A : Type 0} → Kind → A → A → A
by_kind update x y = x
by_kind long x y = y

-- Smaller numbers come first; where they are equal, the rest decides.
abbrev pub smaller_or : ℕ → ℕ → Bool → Bool
smaller_or m n rest = nat_lt m n || (m == n && rest)

module _ {V : Type 0} (S : Setting V) where
  abbrev pub grade_of : Committed V → ℕ
  grade_of j = S.grade j.class

  -- The number under which an update job wrote, at its commit.
  abbrev pub wrote_under : Committed V → ℕ
  wrote_under j = j.end.declared (grade_of j) + 1

  -- Its down number or, lacking one, the larger of the number before that and the floor before its commit.
  abbrev pub base : Committed V → ℕ
  base j = or_else (down S j.class j.job) (max (wrote_under j - 1) j.floor)

  -- The number at which a long job read.
  abbrev pub long_number : Committed V → ℕ
  long_number j = j.job.begun.declared (grade_of j)

  -- The place of a job: its position in the serialization order.
  abbrev pub place : Committed V → ℕ
  place j = by_kind j.job.kind (wrote_under j + base j) (2 * long_number j + 1)

  -- At an equal odd place the higher grade comes first, at an equal even place the lower.
  abbrev pub turn_at : ℕ → ℕ → ℕ
  turn_at p g = cond (p % 2 == 1) (S.top - g) g

  abbrev pub turn : Committed V → ℕ
  turn j = turn_at (place j) (grade_of j)

  -- Long jobs come before update jobs.
  abbrev pub kind_turn : Committed V → ℕ
  kind_turn j = by_kind j.job.kind 1 0

  abbrev pub precedes : Committed V → Committed V → Bool
  precedes x y =
      smaller_or (place x) (place y)
      (smaller_or (turn x) (turn y) (smaller_or x.class y.class (smaller_or (kind_turn x) (kind_turn y) false)))

  -- A job goes before the first that it precedes; where neither precedes, the one that committed first stays first.
  abbrev pub insert : Committed V → List (Committed V) → List (Committed V)
  insert j [] = j ∷ []
  insert j (x ∷ xs) = cond (precedes j x) (j ∷ x ∷ xs) (x ∷ insert j xs)

  -- The committed jobs in their serialization order, first to last.
  abbrev pub placed : List (Committed V) → List (Committed V)
  placed [] = []
  placed (j ∷ js) = insert j (placed js)

  abbrev pub serialized : History V → List (Committed V)
  serialized h = placed (committed S h)

  -- No job precedes one that stands before it.
  abbrev pub Ordered : List (Committed V) → Type 0
  Ordered [] = Unit {0}
  Ordered (x ∷ xs) = AllByRecursion (λ y. precedes y x ≡ false) xs × Ordered xs

-- The copy ------------------------------------------------------------------------------------------------------

-- The copy has a value for each class and item.
abbrev pub Copy : Type 0 → Type 0
Copy V = ℕ → ℕ → V

module _ {V : Type 0} where
  -- What operations, latest first, wrote last to an item of a class.
  abbrev pub last_write : ℕ → ℕ → List (Operation V) → Option V
  last_write d i [] = None
  last_write d i (read_of c i' v ∷ os) = last_write d i os
  last_write d i (write_of c i' v ∷ os) = cond (c == d && i' == i) (Some v) (last_write d i os)

  -- What a job sees after its operations: its own latest write of the item, else the copy's value. Once it ends, the copy holds that.
  abbrev pub after_operations : Copy V → List (Operation V) → Copy V
  after_operations m os d i = or_else (last_write d i os) (m d i)

  -- Each read gave what the job sees there.
  abbrev pub ReadsOfJob : Copy V → List (Operation V) → Type 0
  ReadsOfJob m [] = Unit {0}
  ReadsOfJob m (read_of d i v ∷ os) = (v ≡ after_operations m os d i) × ReadsOfJob m os
  ReadsOfJob m (write_of d i v ∷ os) = ReadsOfJob m os

  -- The copy after jobs that run one after another.
  abbrev pub after_jobs : Copy V → List (Committed V) → Copy V
  after_jobs m [] = m
  after_jobs m (j ∷ js) = after_jobs (after_operations m j.job.operations) js

  -- Each read of each job gave what the copy gives there.
  abbrev pub ReadsOfCopy : Copy V → List (Committed V) → Type 0
  ReadsOfCopy m [] = Unit {0}
  ReadsOfCopy m (j ∷ js) = ReadsOfJob m j.job.operations × ReadsOfCopy (after_operations m j.job.operations) js

-- The law -------------------------------------------------------------------------------------------------------

module _ {V : Type 0} (S : Setting V) where
  abbrev pub start_copy : Copy V
  start_copy c i = S.start

  abbrev pub end_copy : History V → Copy V
  end_copy h = after_jobs start_copy (serialized S h)

  -- The register is as good as one copy on which the committed jobs ran one after another.
  pub record OneCopy (h : History V) (s : State V) : Type 0 where
    pub order : Ordered S (serialized S h)
    pub reads : ReadsOfCopy start_copy (serialized S h)
    pub end : (c i : ℕ) → c < S.classes → newest_value ((s.class c).cells i) ≡ Some (end_copy h c i)
