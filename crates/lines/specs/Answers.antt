-- What a session does with a line, against what the definition answers.
use Rattle.std.specs.Prelude.{◌≡◌, ℕ, List, [], ◌∷◌, Ok, Err, Result}
use Rattle.lines.specs.LineFaults.{fault_bytes}
use Rattle.lines.specs.Phases.{Phase, Answer, in_phase}
use Rattle.lines.specs.SessionLaws.{KeepsSessionLaws}
use Rattle.lines.specs.Supplies.{ChangedFor, rooms_of}
use Rattle.lines.specs.Sessions.{at_stage}
use Rattle.lines.specs.declared.line_fault.LineFault.{LineFault}
use Rattle.lines.specs.declared.operation.Operation.{Operation}
use Rattle.lines.specs.declared.plan.Plan.{Plan}
use Rattle.lines.specs.declared.stage.Stage.{Stage}
use Rattle.lines.specs.declared.stage.Stage.TheVariants.{Planning}
use Rattle.lines.specs.declared.supplied.Supplied.{Supplied}

-- From phase p and memory m to p' and m': the phase is that of the answer, at most what its register needs has changed,
-- and the laws are kept.
pub record Leaves (answer : Answer) (p : Phase) (m : Supplied) (p' : Phase) (m' : Supplied) : Type 0 where
  pub state : p' ≡ answer.next
  pub memory : ChangedFor answer.next m m'
  pub laws : KeepsSessionLaws p (answer.event ∷ []) answer.next

-- And these bytes are replied: all that the answer asks.
pub record Meets (p : Phase) (m : Supplied) (answer : Answer) (bytes : List ℕ) (p' : Phase) (m' : Supplied) : Type 0 where
  pub reply : bytes ≡ answer.reply
  pub leaves : Leaves answer p m p' m'

-- A frame of set-up leads to the next stage and has nothing more to tell, or it is refused.
abbrev pub set_up_told : Result Stage LineFault → List ℕ
set_up_told (Ok s) = 0 ∷ []
set_up_told (Err e) = fault_bytes e

abbrev pub phase_after : Phase → Result Stage LineFault → Supplied → Phase
phase_after p (Ok s) m = at_stage s m
phase_after p (Err e) m = p

abbrev pub SetUpAnswered : Phase → Supplied → Answer → Result Stage LineFault → Supplied → Type 0
SetUpAnswered p m answer r m' = Meets p m answer (set_up_told r) (phase_after p r m') m'

-- The same of a frame that leads to a plan, which leaves memory alone.
abbrev pub to_planning : Result Plan LineFault → Result Stage LineFault
to_planning (Ok plan) = Ok (Planning plan)
to_planning (Err e) = Err e

abbrev pub PlanAnswered : Phase → Supplied → Answer → Result Plan LineFault → Type 0
PlanAnswered p m answer r = SetUpAnswered p m answer (to_planning r) m

-- An operation of set-up, at any stage: the stage afterwards, and what is told.
abbrev pub done_told : Result Unit LineFault → List ℕ
done_told (Ok u) = 0 ∷ []
done_told (Err e) = fault_bytes e

abbrev pub StageAnswered : Operation → List ℕ → Stage → Supplied → Result Unit LineFault → Stage → Supplied → Type 0
StageAnswered operation frame s m r s' m' = Meets (at_stage s m) m (in_phase (rooms_of m) (at_stage s m) operation frame) (done_told r) (at_stage s' m') m'
