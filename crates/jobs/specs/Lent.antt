-- Changes of the memory that is lent with a call.
use Rattle.std.specs.Prelude.{◌≡◌, ℕ, ◌+◌, Bool, false, ◌&&◌, List, length, nat_le, nat_lt, slice_index_or, slice_set}
use Rattle.cells.specs.declared.cell.Cell.{Cell}
use Rattle.rules.specs.Claims.{Claims}
use Rattle.rules.specs.declared.local_rule.LocalRule.{Ghosts as RuleGhosts}
use Rattle.jobs.specs.declared.memory.Memory.{Memory}

module _ {V R : Type 0} where
  -- The same memory with other cells, other pending values, or other rules: the lenders stay.
  abbrev pub with_cells : Memory V R → List (Cell V) → Memory V R
  with_cells m cells = record { cells = record { ref_ptr = m.cells.ref_ptr; ghost_name = m.cells.ghost_name; now = cells }; pending = m.pending; rules = m.rules }

  abbrev pub with_pending : Memory V R → List V → Memory V R
  with_pending m pending = record { cells = m.cells; pending = record { ref_ptr = m.pending.ref_ptr; ghost_name = m.pending.ghost_name; now = pending }; rules = m.rules }

  abbrev pub with_rules : Memory V R → List R → Memory V R
  with_rules m rules = record { cells = m.cells; pending = m.pending; rules = record { ref_ptr = m.rules.ref_ptr; ghost_name = m.rules.ghost_name; now = rules } }

  -- Only the rule of class c is another: it means claims.
  abbrev pub RuleBecomes : RuleGhosts R → ℕ → Claims → Memory V R → Memory V R → Type 0
  RuleBecomes r c claims m m' = (rule : R) × (m' ≡ with_rules m (slice_set m.rules.now c rule)) × (r.meaning rule ≡ claims)

-- The places that may have changed, as tests: none; all below n; the n from a on.
abbrev pub none : ℕ → Bool
none k = false

abbrev pub below : ℕ → ℕ → Bool
below n k = nat_lt k n

abbrev pub from_on : ℕ → ℕ → ℕ → Bool
from_on a n k = nat_le a k && nat_lt k (a + n)

-- From memory m to memory m' at most the places that the tests name have changed: all else is as before, also what no class needs, and who lent it.
pub record ChangedOnly {V R : Type 0} (at_cells at_pending at_rules : ℕ → Bool) (m m' : Memory V R) : Type 0 where
  pub lenders : (m'.cells.ghost_name ≡ m.cells.ghost_name) × (m'.pending.ghost_name ≡ m.pending.ghost_name) × (m'.rules.ghost_name ≡ m.rules.ghost_name)
  pub lengths : (length m'.cells.now ≡ length m.cells.now) × (length m'.pending.now ≡ length m.pending.now)
      × (length m'.rules.now ≡ length m.rules.now)
  pub cells : (k : ℕ) → at_cells k ≡ false → (d : Cell V) → slice_index_or m'.cells.now k d ≡ slice_index_or m.cells.now k d
  pub pending : (k : ℕ) → at_pending k ≡ false → (d : V) → slice_index_or m'.pending.now k d ≡ slice_index_or m.pending.now k d
  pub rules : (k : ℕ) → at_rules k ≡ false → (d : R) → slice_index_or m'.rules.now k d ≡ slice_index_or m.rules.now k d
