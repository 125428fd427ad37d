-- Cells are filled: an accepted read finds a value, and a cell accepts what an accepted commit stores.
use Rattle.std.specs.Prelude.{◌≡◌, ℕ, ◌<◌, true, cond, [], ◌∷◌, Some, None, Option, ◌==◌}
use Rattle.cells.specs.Versions.{accepts}
use Rattle.laws.specs.Setting.{Setting}
use Rattle.laws.specs.State.{newest_value, value_at, find, Bay, State, updating, reading, free, closed, running}
use Rattle.laws.specs.Clock.{writing_number, down_number}
use Rattle.laws.specs.History.{History, after}
use Rattle.laws.specs.Transactions.{Event, event_of, nothing, ticks, begins, reads, writes, commits}

module _ {V : Type 0} where
  abbrev pub pending_or : Option V → Option V → Option V
  pending_or None x = x
  pending_or (Some v) x = Some v

  -- The pending value of an item in a bay.
  abbrev pub pending_in : Bay V → ℕ → Option V
  pending_in free i = None
  pending_in closed i = None
  pending_in (running (updating down p)) i = find i p
  pending_in (running (reading r)) i = None

module _ {V : Type 0} (S : Setting V) where
  -- What the job of a bay of class c finds at item i of class d, among its pending values and in the cells.
  abbrev pub found : State V → ℕ → Bay V → ℕ → ℕ → Option V
  found s c free d i = None
  found s c closed d i = None
  found s c (running (reading r)) d i = value_at r ((s.class d).cells i)
  found s c (running (updating down p)) d i =
      cond (c == d) (pending_or (find i p) (newest_value ((s.class c).cells i)))
      (value_at (down_number S s.ticks c down) ((s.class d).cells i))

  abbrev pub FilledAt : State V → Event V → Type 0
  FilledAt s nothing = Unit {0}
  FilledAt s (ticks g) = Unit {0}
  FilledAt s (begins c b q) = Unit {0}
  -- The value that a read gave was found there: no starting value stands in for it.
  FilledAt s (reads c b d i v) = found s c ((s.class c).bays b) d i ≡ Some v
  FilledAt s (writes c b i v) = Unit {0}
  -- Each pending value is one of an item of the class whose cell accepts the number under which the class writes: nothing is left out.
  FilledAt s (commits c b) =
      (i : ℕ) (v : V) → pending_in ((s.class c).bays b) i ≡ Some v
      → (i < S.items c) × (accepts (writing_number S s.ticks c) ((s.class c).cells i) ≡ true)

  abbrev pub Filled : History V → Type 0
  Filled [] = Unit {0}
  Filled (e ∷ h) = FilledAt (after S h) (event_of e) × Filled h
