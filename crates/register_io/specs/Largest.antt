-- Memory for the largest register of either kind of value.
use Rattle.lines.specs.JobLines.{Room}
use Rattle.lines.specs.Phases.{Rooms}

-- A cell for each of 256 items, and for each of 16 classes 64 places for pending values and a rule.
abbrev pub largest_room : Room
largest_room = record { cells = 256; pending = 1024; rules = 16 }

abbrev pub largest_rooms : Rooms
largest_rooms = record { words_room = largest_room; slips_room = largest_room }
