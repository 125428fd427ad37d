-- Changes of the memory that is lent to a session.
use Rattle.std.proofs.Common.{◌≡◌, ℕ, ◌≤◌, false, ltb, length, ap, ◌∙◌, arith}
use Rattle.std.proofs.lemmas.Bool.{ltb-false, le-ltb}
use Rattle.jobs.specs.declared.memory.Memory.{Memory}
use Rattle.jobs.proofs.LentChanges.{nothing_changed}
use Rattle.lines.specs.JobLines.{Room, room_of}
use Rattle.lines.specs.Needs.{ChangedWithin}
use Rattle.lines.specs.Phases.{Phase, Rooms}
use Rattle.lines.specs.Supplies.{rooms_of, words_needed, slips_needed, ChangedFor}
use Rattle.lines.specs.declared.supplied.Supplied.{Supplied}

pub kept_within : {V R : Type 0} (room : Room) (m : Memory V R) → ChangedWithin room m m
kept_within room m = nothing_changed _ _ m _

pub nothing_changed_for : (p : Phase) (m : Supplied) → ChangedFor p m m
nothing_changed_for p m = record { words = kept_within _ m.words; slips = kept_within _ m.slips }

-- The memory that is lent stays as large as it is.
same_room : {V R : Type 0} (room : Room) (m m' : Memory V R) → ChangedWithin room m m' → room_of m' ≡ room_of m
same_room room m m' z =
    let f : ℕ → ℕ → ℕ → Room = λ a b c. record { cells = a; pending = b; rules = c } in
    ap (λ (a : ℕ). f a (length m'.pending.now) (length m'.rules.now)) z.lengths.0
    ∙ ap (λ (b : ℕ). f (length m.cells.now) b (length m'.rules.now)) z.lengths.1
    ∙ ap (λ (c : ℕ). f (length m.cells.now) (length m.pending.now) c) z.lengths.2

pub rooms_kept : (p : Phase) (m m' : Supplied) → ChangedFor p m m' → rooms_of m' ≡ rooms_of m
rooms_kept p m m' z =
    let f : Room → Room → Rooms = λ a b. record { words_room = a; slips_room = b } in
    ap (λ (a : Room). f a (room_of m'.slips)) (same_room _ m.words m'.words z.words)
    ∙ ap (f (room_of m.words)) (same_room _ m.slips m'.slips z.slips)

-- One part of memory lies within another.
pub record RoomWithin (a b : Room) : Type 0 where
  pub cells : a.cells ≤ b.cells
  pub pending : a.pending ≤ b.pending
  pub rules : a.rules ≤ b.rules

not_below : (a b k : ℕ) → a ≤ b → ltb k b ≡ false → ltb k a ≡ false
not_below a b k l e = le-ltb k a (omega (arith, ltb-false k b e))

-- Two changes, one after the other.
changed_more : {V R : Type 0} (a b : Room) (m₀ m m' : Memory V R) → RoomWithin a b → ChangedWithin a m₀ m → ChangedWithin b m m' → ChangedWithin b m₀ m'
changed_more a b m₀ m m' l y z = record {
  lenders = (z.lenders.0 ∙ y.lenders.0, z.lenders.1 ∙ y.lenders.1, z.lenders.2 ∙ y.lenders.2);
  lengths = (z.lengths.0 ∙ y.lengths.0, z.lengths.1 ∙ y.lengths.1, z.lengths.2 ∙ y.lengths.2);
  cells = λ k n d. z.cells k n d ∙ y.cells k (not_below a.cells b.cells k l.cells n) d;
  pending = λ k n d. z.pending k n d ∙ y.pending k (not_below a.pending b.pending k l.pending n) d;
  rules = λ k n d. z.rules k n d ∙ y.rules k (not_below a.rules b.rules k l.rules n) d;
}

-- What a register needs once, it needs for good.
pub record NeedsWithin (p q : Phase) : Type 0 where
  pub words : RoomWithin (words_needed p) (words_needed q)
  pub slips : RoomWithin (slips_needed p) (slips_needed q)

pub changed_on : (p q : Phase) (m₀ m m' : Supplied) → NeedsWithin p q → ChangedFor p m₀ m → ChangedFor q m m' → ChangedFor q m₀ m'
changed_on p q m₀ m m' l y z = record {
  words = changed_more (words_needed p) (words_needed q) m₀.words m.words m'.words l.words y.words z.words;
  slips = changed_more (slips_needed p) (slips_needed q) m₀.slips m.slips m'.slips l.slips y.slips z.slips;
}
