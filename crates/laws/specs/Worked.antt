-- The worked cases, in one list: what the definitions of every layer come to on small examples.
use Rattle.std.specs.Prelude.{◌≡◌, ℕ, zero, suc, ◌-◌, true, false, List, [], ◌∷◌, map, reverse, Some, None, nat_le}
use Rattle.std.specs.List.{AllByRecursion}
use Rattle.orders.specs.Labels.{label_dominates, label_grade}
use Rattle.orders.specs.LabelledOrders.{make_label}
use Rattle.cells.specs.Versions.{version, stored}
use Rattle.cells.specs.declared.version.Version.{Version}
use Rattle.rules.specs.Claims.{Policy}
use Rattle.rules.specs.Policies.{lock, nothing_in_the_way}
use Rattle.rules.specs.declared.access.Access.{Access}
use Rattle.rules.specs.declared.access.Access.TheVariants.{Read, Write}
use Rattle.rules.specs.Worked.{StaleReader}
use Rattle.laws.specs.Setting.{Setting, Lawful}
use Rattle.laws.specs.State.{Pending, Bay, update, long, updating, reading, closed, running}
use Rattle.laws.specs.Calls.{Request, Reply, overtaken, begin, read, write, commit, by, tick, done, got, ticked, refused}
use Rattle.laws.specs.Clock.{late}
use Rattle.laws.specs.Step.{step}
use Rattle.laws.specs.History.{Entry, entry, History, after, Faithful}
use Rattle.laws.specs.Transactions.{Time, Committed, read_of, write_of}
use Rattle.laws.specs.OneCopy.{place, precedes, serialized, end_copy}

-- Layers below -------------------------------------------------------------------------------------------------

-- Rank 2 with compartments 05 has grade 4; it dominates rank 2 with 01, and not rank 1 with 02.
pub record Labels : Type 0 where
  pub grade : label_grade (make_label 2 5) ≡ 4
  pub above : label_dominates (make_label 2 5) (make_label 2 1) ≡ true
  pub apart : label_dominates (make_label 2 5) (make_label 1 2) ≡ false

-- Values a, b, c under 0, 1, 2, newest first.
abbrev pub three_versions : ℕ → ℕ → ℕ → List (Version ℕ)
three_versions a b c = version 2 c ∷ version 1 b ∷ version 0 a ∷ []

-- A store under 3 leaves 1, 2, 3; one under 2 instead replaces the last.
pub record Versions : Type 0 where
  pub greater : (a b c d : ℕ) → stored 3 d (three_versions a b c) ≡ version 3 d ∷ version 2 c ∷ version 1 b ∷ []
  pub newest : (a b c d : ℕ) → stored 2 d (three_versions a b c) ≡ three_versions a b d

-- Settings ------------------------------------------------------------------------------------------------------

-- The classes in a chain, each above those with smaller numbers, and the rule's answers to claims.
abbrev pub chain : (Access → Policy) → ℕ → ℕ → (ℕ → ℕ) → Setting ℕ
chain answers classes top items = record {
  classes = classes;
  above = λ c d. nat_le d c;
  grade = λ c. c;
  top = top;
  items = items;
  start = 0;
  reading = answers Read;
  writing = answers Write;
  variant = 0;
}

abbrev pub three : Setting ℕ
three = chain (λ access. nothing_in_the_way) 3 2 (λ c. 1)

-- Places --------------------------------------------------------------------------------------------------------

-- A time at which every grade has declared n.
abbrev pub when_declared : ℕ → Time
when_declared n = record { ticks = 0; declared = λ g. n }

-- An update job of a class that wrote under number w and has this base as its down number.
abbrev pub updated : ℕ → ℕ → ℕ → Committed ℕ
updated c w base = record {
  class = c;
  job = record { kind = update; begun = when_declared 0; below = Some (when_declared base); operations = [] };
  end = when_declared (w - 1);
  floor = 0;
}

-- A long job of a class that read at number r.
abbrev pub stable : ℕ → ℕ → Committed ℕ
stable c r = record {
  class = c;
  job = record { kind = long; begun = when_declared r; below = None; operations = [] };
  end = when_declared r;
  floor = 0;
}

pub record Places : Type 0 where
  -- Writing number 2 and base 1 have place 3, base 2 has place 4; a long job that reads at 1 has place 3.
  pub odd : place three (updated 1 2 1) ≡ 3
  pub even : place three (updated 1 2 2) ≡ 4
  pub long : place three (stable 1 1) ≡ 3
  -- At place 3 grade 1 precedes grade 0, at place 4 it follows.
  pub higher_first : precedes three (updated 1 2 1) (updated 0 2 1) ≡ true
  pub lower_later : precedes three (updated 0 2 1) (updated 1 2 1) ≡ false
  pub lower_first : precedes three (updated 0 2 2) (updated 1 2 2) ≡ true
  pub higher_later : precedes three (updated 1 2 2) (updated 0 2 2) ≡ false

-- The clock -----------------------------------------------------------------------------------------------------

module _ {V : Type 0} where
  -- A request with enough memory, and its reply.
  abbrev pub replied : Request V → Reply V → Entry V
  replied x r = entry (record { enough = true; request = x }) r

  -- A history and then n ticks, with the replies that they get.
  abbrev pub ticks_after : Setting V → History V → ℕ → History V
  ticks_after S h zero = h
  ticks_after S h (suc n) =
      replied tick (step S (after S (ticks_after S h n)) (record { enough = true; request = tick })).reply ∷ ticks_after S h n

-- A long job begins in bay 0 of class c, and n ticks follow: the bay then.
abbrev pub bay_after : ℕ → ℕ → Bay ℕ
bay_after c n = ((after three (ticks_after three (replied (by c 0 (begin 1)) done ∷ []) n)).class c).bays 0

pub record Ticks : Type 0 where
  -- With grades 0 to 2, the first four ticks declare 1 at grades 0, 1, 2 and then 2 at grade 0.
  pub four : map (λ (e : Entry ℕ). e.reply) (reverse (ticks_after three [] 4)) ≡ ticked 0 1 ∷ ticked 1 1 ∷ ticked 2 1 ∷ ticked 0 2 ∷ []
  -- The tick that declares 1 at grade 2 closes an update job of that grade with down number 0, and not one with down number 1.
  pub closes_old : (p : List (Pending ℕ)) → late three 2 1 2 (running (updating (Some 0) p)) ≡ true
  pub spares_new : (p : List (Pending ℕ)) → late three 2 1 2 (running (updating (Some 1) p)) ≡ false
  -- A long job that begins with the register outlives three ticks, and the fourth closes it.
  pub outlives : AllByRecursion (λ c. bay_after c 3 ≡ running (reading 0)) (0 ∷ 1 ∷ 2 ∷ [])
  pub is_closed : AllByRecursion (λ c. bay_after c 4 ≡ closed) (0 ∷ 1 ∷ 2 ∷ [])

-- A run ---------------------------------------------------------------------------------------------------------

-- Class 1 is above class 0, which has two items; class 1 has one. The rule is that of locks.
abbrev pub items_of_two : ℕ → ℕ
items_of_two zero = 2
items_of_two (suc c) = 1

abbrev pub two : Setting ℕ
two = chain lock 2 1 items_of_two

-- A release is written in class 0. A job of class 1 reads part of it too early, then, after a tick, still at its down number.
-- A second job reads the release and commits first, so the first job is overtaken.
abbrev pub withdrawn_release : History ℕ
withdrawn_release = reverse (
    replied (by 0 0 (begin 0)) done
    ∷ replied (by 0 0 (write 0 (Some 41))) done
    ∷ replied (by 0 0 (write 1 (Some 3))) done
    ∷ replied (by 0 0 commit) done
    ∷ replied (by 1 0 (begin 0)) done
    ∷ replied (by 1 0 (read 0 0)) (got 0)
    ∷ replied tick (ticked 0 1)
    ∷ replied (by 1 0 (read 0 1)) (got 0)
    ∷ replied (by 1 1 (begin 0)) done
    ∷ replied (by 1 1 (read 0 0)) (got 41)
    ∷ replied (by 1 1 commit) done
    ∷ replied (by 1 0 commit) (refused overtaken)
    ∷ replied tick (ticked 1 1)
    ∷ [])

pub record Run : Type 0 where
  pub lawful : Lawful two
  pub lawful_three : Lawful three
  -- The register gives these replies.
  pub replies : Faithful two withdrawn_release
  -- The two committed jobs, in their serialization order: places, operations, and what the copy holds at the end.
  pub places : map (λ (j : Committed ℕ). place two j) (serialized two withdrawn_release) ≡ 1 ∷ 2 ∷ []
  pub operations : map (λ (j : Committed ℕ). j.job.operations) (serialized two withdrawn_release)
      ≡ (write_of 0 1 3 ∷ write_of 0 0 41 ∷ []) ∷ (read_of 0 0 41 ∷ []) ∷ []
  pub copy : end_copy two withdrawn_release 0 0 ≡ 41

-- The list ------------------------------------------------------------------------------------------------------

pub record Worked : Type 0 where
  pub labels : Labels
  pub versions : Versions
  pub stale_reader : StaleReader
  pub places : Places
  pub ticks : Ticks
  pub run : Run
