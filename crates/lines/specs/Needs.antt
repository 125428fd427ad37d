-- Which part of lent memory a register needs.
use Rattle.std.specs.Prelude.{◌*◌}
use Rattle.laws.specs.Setting.{Setting, sum_below, bay_count}
use Rattle.laws.specs.Actions.{pending_places}
use Rattle.jobs.specs.Lent.{below, ChangedOnly}
use Rattle.jobs.specs.declared.memory.Memory.{Memory}
use Rattle.lines.specs.JobLines.{Room}

-- One cell an item and, for each class, 64 places for pending values and one rule.
abbrev pub needed : {V : Type 0} → Setting V → Room
needed S = record {
  cells = sum_below S.classes S.items;
  pending = S.classes * (bay_count * pending_places);
  rules = S.classes;
}

abbrev pub no_room : Room
no_room = record { cells = 0; pending = 0; rules = 0 }

-- At most this part has changed, from its beginning on; what lies beyond, and who lent it, is as before.
abbrev pub ChangedWithin : {V R : Type 0} → Room → Memory V R → Memory V R → Type 0
ChangedWithin room = ChangedOnly (below room.cells) (below room.pending) (below room.rules)
