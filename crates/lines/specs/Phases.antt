-- The phases of a session, and what it answers to a line in each.
use Rattle.std.specs.Prelude.{ℕ, cond, List, [], ◌∷◌, length, Some, None, Ok, Err, Option, Result, ◌==◌, nat_le, nat_lt}
use Rattle.frames.specs.Decoding.{decoded}
use Rattle.cells.specs.declared.slip.Slip.{Slip}
use Rattle.cells.specs.declared.value.Value.{Ghosts as ValueGhosts}
use Rattle.cells.specs.contracts.word.U32Value.TheImpl.{ghosts as words}
use Rattle.cells.specs.contracts.slip.SlipValue.TheImpl.{ghosts as slips}
use Rattle.laws.specs.Setting.{Setting}
use Rattle.laws.specs.State.{State, fresh_state}
use Rattle.laws.specs.Calls.{Call}
use Rattle.laws.specs.Step.{step}
use Rattle.laws.specs.History.{Entry, entry}
use Rattle.register_parts.specs.declared.job_fault.JobFault.TheVariants.{TooLittleMemory}
use Rattle.lines.specs.Operations.{byte, operation_of, frame_length}
use Rattle.lines.specs.LineFaults.{fault_bytes}
use Rattle.lines.specs.Replies.{reply_bytes}
use Rattle.lines.specs.JobLines.{Room, suffices, call_of}
use Rattle.lines.specs.Drafts.{Draft, chosen_draft, with_class, drafted}
use Rattle.lines.specs.declared.kinds.ValueKind.{ValueKind}
use Rattle.lines.specs.declared.kinds.ValueKind.TheVariants.{Words, Slips}
use Rattle.lines.specs.declared.line_fault.LineFault.{LineFault}
use Rattle.lines.specs.declared.line_fault.LineFault.TheVariants.{Malformed, UnknownOperation, OutOfOrder, WrongLength, OutOfRange, Refused}
use Rattle.lines.specs.declared.operation.Operation.{Operation}
use Rattle.lines.specs.declared.operation.Operation.TheVariants.{Choose, AddClass, Start, Job}

-- At first the kinds are to be chosen; then the classes are added, and the rule is chosen; then jobs are served, over words or over slips.
pub data Phase : Type 0 where
  opening : Phase
  planning : Draft → Phase
  serving_words : Setting ℕ → State ℕ → Phase
  serving_slips : Setting Slip → State Slip → Phase

-- The memory lent for a register over words, and for one over slips.
pub record Rooms : Type 0 where
  pub words_room : Room
  pub slips_room : Room

-- What a line adds to the history of the register: nothing, its beginning, or a call with its reply.
pub data Event : Type 0 where
  nothing : Event
  started : ValueKind → Event
  word_call : Entry ℕ → Event
  slip_call : Entry Slip → Event

pub record Answer : Type 0 where
  pub reply : List ℕ
  pub next : Phase
  pub event : Event

-- A refusal leaves the phase.
abbrev pub refuse : Phase → LineFault → Answer
refuse p e = record { reply = fault_bytes e; next = p; event = nothing }

-- Only a frame of the right length gets its answer.
abbrev pub sized : ℕ → Operation → List ℕ → Phase → Answer → Answer
sized width operation frame p answer = cond (length frame == frame_length width operation) answer (refuse p WrongLength)

-- Set-up --------------------------------------------------------------------------------------------------------

abbrev pub draft_answer : Phase → Result Draft LineFault → Answer
draft_answer p (Ok d) = record { reply = 0 ∷ []; next = planning d; event = nothing }
draft_answer p (Err e) = refuse p e

abbrev pub in_opening : Operation → List ℕ → Answer
in_opening Choose frame = sized 0 Choose frame opening (draft_answer opening (chosen_draft (byte 1 frame) (byte 2 frame) (byte 3 frame)))
in_opening AddClass frame = refuse opening OutOfOrder
in_opening Start frame = refuse opening OutOfOrder
in_opening (Job job) frame = refuse opening OutOfOrder

-- A fresh register over a draft, where the memory for it suffices.
abbrev pub fresh_answer : {V : Type 0} → ValueGhosts V → ValueKind → (Setting V → State V → Phase) → Room → Draft → ℕ → Answer
fresh_answer v kind serving room d variant =
    cond (suffices room (drafted v d variant))
    (record { reply = 0 ∷ []; next = serving (drafted v d variant) (fresh_state (drafted v d variant)); event = started kind })
    (refuse (planning d) (Refused TooLittleMemory))

abbrev pub start_as : ValueKind → Rooms → Draft → ℕ → Answer
start_as Words rooms = fresh_answer words Words serving_words rooms.words_room
start_as Slips rooms = fresh_answer slips Slips serving_slips rooms.slips_room

-- The last frame of set-up has the number of the local rule: 0 for locks, 1 for the check rule.
abbrev pub start_answer : Rooms → Draft → ℕ → Answer
start_answer rooms d variant = cond (nat_le variant 1) (start_as d.values rooms d variant) (refuse (planning d) OutOfRange)

-- A class is awaited until all are there; then the rule is.
abbrev pub class_answer : Draft → List ℕ → Answer
class_answer d frame =
    cond (nat_lt (length d.items) d.wanted)
    (sized 0 AddClass frame (planning d) (draft_answer (planning d) (with_class d (byte 1 frame) (byte 2 frame) (byte 3 frame) (byte 4 frame))))
    (refuse (planning d) OutOfOrder)

abbrev pub rule_answer : Rooms → Draft → List ℕ → Answer
rule_answer rooms d frame =
    cond (nat_lt (length d.items) d.wanted) (refuse (planning d) OutOfOrder) (sized 0 Start frame (planning d) (start_answer rooms d (byte 1 frame)))

abbrev pub in_planning : Rooms → Draft → Operation → List ℕ → Answer
in_planning rooms d Choose frame = refuse (planning d) OutOfOrder
in_planning rooms d AddClass frame = class_answer d frame
in_planning rooms d Start frame = rule_answer rooms d frame
in_planning rooms d (Job job) frame = refuse (planning d) OutOfOrder

-- Jobs ----------------------------------------------------------------------------------------------------------

module _ {V : Type 0} (v : ValueGhosts V) (serving : Setting V → State V → Phase) (noted : Entry V → Event) (room : Room) (S : Setting V) (s : State V) where
  -- A call of the register, as the definition has it.
  abbrev pub called_answer : Call V → Answer
  called_answer x = record {
    reply = reply_bytes v (step S s x).reply;
    next = serving S (step S s x).next;
    event = noted (entry x (step S s x).reply);
  }

  abbrev pub in_serving : Operation → List ℕ → Answer
  in_serving Choose frame = refuse (serving S s) OutOfOrder
  in_serving AddClass frame = refuse (serving S s) OutOfOrder
  in_serving Start frame = refuse (serving S s) OutOfOrder
  in_serving (Job job) frame = sized v.WIDTH (Job job) frame (serving S s) (called_answer (call_of v room S job frame))

-- Lines ---------------------------------------------------------------------------------------------------------

abbrev pub in_phase : Rooms → Phase → Operation → List ℕ → Answer
in_phase rooms opening = in_opening
in_phase rooms (planning d) = in_planning rooms d
in_phase rooms (serving_words S s) = in_serving words serving_words word_call rooms.words_room S s
in_phase rooms (serving_slips S s) = in_serving slips serving_slips slip_call rooms.slips_room S s

abbrev pub by_operation : Rooms → Phase → List ℕ → Option Operation → Answer
by_operation rooms p frame None = refuse p UnknownOperation
by_operation rooms p frame (Some operation) = in_phase rooms p operation frame

abbrev pub by_frame : Rooms → Phase → Option (List ℕ) → Answer
by_frame rooms p None = refuse p Malformed
by_frame rooms p (Some frame) = by_operation rooms p frame (operation_of (byte 0 frame))

-- The answer to a line: malformed lines are refused first, then unknown operations, then what comes out of order, then wrong lengths.
unfoldable pub answered : Rooms → Phase → List ℕ → Answer
answered rooms p text = by_frame rooms p (decoded text)
