-- What a frame asks of a register.
use Rattle.std.specs.Prelude.{ℕ, ◌*◌, Bool, ◌&&◌, List, length, drop, nat_le}
use Rattle.cells.specs.declared.value.Value.{Ghosts as ValueGhosts}
use Rattle.laws.specs.Setting.{Setting, sum_below, bay_count}
use Rattle.laws.specs.Calls.{Request, Call}
use Rattle.laws.specs.Actions.{pending_places}
use Rattle.jobs.specs.Requests.{to_begin, to_read, to_write, to_commit, to_give_up, to_tick}
use Rattle.jobs.specs.declared.memory.Memory.{Memory}
use Rattle.lines.specs.Operations.{byte}
use Rattle.lines.specs.declared.operation.JobOperation.{JobOperation}
use Rattle.lines.specs.declared.operation.JobOperation.TheVariants.{Begin, Read, Write, Commit, GiveUp, Tick}

-- The class and the bay come first; then a begin has the kind of job, a read the class and the item, a write the item and the bytes of a value.
abbrev pub request_of : {V : Type 0} → ValueGhosts V → JobOperation → List ℕ → Request V
request_of v Begin frame = to_begin (byte 1 frame) (byte 2 frame) (byte 3 frame)
request_of v Read frame = to_read (byte 1 frame) (byte 2 frame) (byte 3 frame) (byte 4 frame)
request_of v Write frame = to_write (byte 1 frame) (byte 2 frame) (byte 3 frame) (v.decoding (drop 4 frame))
request_of v Commit frame = to_commit (byte 1 frame) (byte 2 frame)
request_of v GiveUp frame = to_give_up (byte 1 frame) (byte 2 frame)
request_of v Tick frame = to_tick

-- How much memory is lent: cells, places for pending values, rules.
pub record Room : Type 0 where
  pub cells : ℕ
  pub pending : ℕ
  pub rules : ℕ

abbrev pub room_of : {V R : Type 0} → Memory V R → Room
room_of m = record { cells = length m.cells.now; pending = length m.pending.now; rules = length m.rules.now }

-- Whether it is enough: one cell an item and, for each class, 64 places for pending values and one rule.
abbrev pub suffices : {V : Type 0} → Room → Setting V → Bool
suffices room S =
    nat_le (sum_below S.classes S.items) room.cells
    && (nat_le (S.classes * (bay_count * pending_places)) room.pending && nat_le S.classes room.rules)

-- A job frame as a call of the definition.
abbrev pub call_of : {V : Type 0} → ValueGhosts V → Room → Setting V → JobOperation → List ℕ → Call V
call_of v room S job frame = record { enough = suffices room S; request = request_of v job frame }
