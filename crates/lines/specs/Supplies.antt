-- The memory that is lent to a session, and which part of it may change.
use Rattle.lines.specs.JobLines.{Room, room_of}
use Rattle.lines.specs.Needs.{needed, no_room, ChangedWithin}
use Rattle.lines.specs.Phases.{Phase, opening, planning, serving_words, serving_slips, Rooms}
use Rattle.lines.specs.declared.supplied.Supplied.{Supplied}

abbrev pub rooms_of : Supplied → Rooms
rooms_of m = record { words_room = room_of m.words; slips_room = room_of m.slips }

abbrev pub words_needed : Phase → Room
words_needed opening = no_room
words_needed (planning d) = no_room
words_needed (serving_words S s) = needed S
words_needed (serving_slips S s) = no_room

abbrev pub slips_needed : Phase → Room
slips_needed opening = no_room
slips_needed (planning d) = no_room
slips_needed (serving_words S s) = no_room
slips_needed (serving_slips S s) = needed S

-- Only what the register in this phase needs has changed.
pub record ChangedFor (p : Phase) (m m' : Supplied) : Type 0 where
  pub words : ChangedWithin (words_needed p) m.words m'.words
  pub slips : ChangedWithin (slips_needed p) m.slips m'.slips
