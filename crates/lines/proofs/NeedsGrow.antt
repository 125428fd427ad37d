-- A session never gives up the register that it serves, nor changes what the register is set up with.
use Rattle.std.proofs.Common.{ℕ, true, false, cond, List, Some, None, Option, arith}
use Rattle.frames.specs.Decoding.{decoded}
use Rattle.cells.specs.declared.value.Value.{Ghosts as ValueGhosts}
use Rattle.cells.specs.contracts.word.U32Value.TheImpl.{ghosts as words}
use Rattle.cells.specs.contracts.slip.SlipValue.TheImpl.{ghosts as slips}
use Rattle.laws.specs.Setting.{Setting}
use Rattle.laws.specs.State.{State}
use Rattle.laws.specs.History.{Entry}
use Rattle.lines.specs.JobFrames.{right_length}
use Rattle.lines.specs.JobLines.{Room, call_of}
use Rattle.lines.specs.Needs.{no_room}
use Rattle.lines.specs.Operations.{byte, operation_of}
use Rattle.lines.specs.Phases.{Phase, opening, planning, serving_words, serving_slips, Rooms, Event, word_call, slip_call, refuse, called_answer, in_serving, in_phase, by_frame, by_operation, answered}
use Rattle.lines.specs.declared.line_fault.LineFault.TheVariants.{WrongLength}
use Rattle.lines.specs.declared.operation.Operation.{Operation}
use Rattle.lines.specs.declared.operation.Operation.TheVariants.{Choose, AddClass, Start, Job}
use Rattle.lines.proofs.SuppliedChanges.{RoomWithin, NeedsWithin}

from_nothing : (b : Room) → RoomWithin no_room b
from_nothing b = record { cells = omega arith; pending = omega arith; rules = omega arith }

same : (b : Room) → RoomWithin b b
same b = record { cells = omega arith; pending = omega arith; rules = omega arith }

stays : (p : Phase) → NeedsWithin p p
stays p = record { words = same _; slips = same _ }

module _ {V : Type 0} (v : ValueGhosts V) (serving : Setting V → State V → Phase) (noted : Entry V → Event) (room : Room) (S : Setting V) (s : State V)
    (keeps : (t : State V) → NeedsWithin (serving S s) (serving S t)) where
  serves_on : (operation : Operation) (frame : List ℕ) → NeedsWithin (serving S s) (in_serving v serving noted room S s operation frame).next
  serves_on Choose frame = keeps s
  serves_on AddClass frame = keeps s
  serves_on Start frame = keeps s
  serves_on (Job job) frame =
      elim (right_length v.WIDTH job frame) as (λ b. NeedsWithin (serving S s) (cond b (called_answer v serving noted room S s (call_of v room S job frame)) (refuse (serving S s) WrongLength)).next) [ true ↦ keeps _ | false ↦ keeps s ]

in_phase_on : (rooms : Rooms) (p : Phase) (operation : Operation) (frame : List ℕ) → NeedsWithin p (in_phase rooms p operation frame).next
in_phase_on rooms opening operation frame = record { words = from_nothing _; slips = from_nothing _ }
in_phase_on rooms (planning d) operation frame = record { words = from_nothing _; slips = from_nothing _ }
in_phase_on rooms (serving_words S s) operation frame =
    serves_on words serving_words word_call rooms.words_room S s (λ t. record { words = same _; slips = same _ }) operation frame
in_phase_on rooms (serving_slips S s) operation frame =
    serves_on slips serving_slips slip_call rooms.slips_room S s (λ t. record { words = same _; slips = same _ }) operation frame

operation_on : (rooms : Rooms) (p : Phase) (frame : List ℕ) (o : Option Operation) → NeedsWithin p (by_operation rooms p frame o).next
operation_on rooms p frame None = stays p
operation_on rooms p frame (Some operation) = in_phase_on rooms p operation frame

frame_on : (rooms : Rooms) (p : Phase) (o : Option (List ℕ)) → NeedsWithin p (by_frame rooms p o).next
frame_on rooms p None = stays p
frame_on rooms p (Some frame) = operation_on rooms p frame (operation_of (byte 0 frame))

pub needs_grow : (rooms : Rooms) (p : Phase) (text : List ℕ) → NeedsWithin p (answered rooms p text).next
unfolding answered
needs_grow rooms p text = frame_on rooms p (decoded text)
