-- Operations of set-up at a stage that awaits another one: refused, and nothing changes.
use Rattle.std.proofs.Common.{◌≡◌, ℕ, List, refl}
use Rattle.lines.specs.Answers.{Meets}
use Rattle.lines.specs.LineFaults.{fault_bytes}
use Rattle.lines.specs.Phases.{planning, opening, in_phase}
use Rattle.lines.specs.Plans.{draft_of}
use Rattle.lines.specs.Sessions.{at_stage}
use Rattle.lines.specs.Supplies.{rooms_of}
use Rattle.lines.specs.declared.line_fault.LineFault.TheVariants.{OutOfOrder}
use Rattle.lines.specs.declared.operation.Operation.{Operation}
use Rattle.lines.specs.declared.operation.Operation.TheVariants.{Choose, AddClass, Start}
use Rattle.lines.specs.declared.plan.Plan.{Plan}
use Rattle.lines.specs.declared.stage.Stage.{Stage}
use Rattle.lines.specs.declared.stage.Stage.TheVariants.{Opening, Planning, Serving}
use Rattle.lines.specs.declared.supplied.Supplied.{Supplied}
use Rattle.lines.proofs.MeetingAnswers.{refuses}
use Rattle.lines.proofs.SessionPhases.{out_of_order}

module _ (m : Supplied) (frame : List ℕ) where
  abbrev pub Refused : Operation → Stage → Type 0
  Refused operation s = Meets (at_stage s m) m (in_phase (rooms_of m) (at_stage s m) operation frame) (fault_bytes OutOfOrder) (at_stage s m) m

  -- The kinds are chosen already.
  pub no_choice : (s : Stage) → (s ≡ Opening → ⊥) → Refused Choose s
  no_choice Opening n = elim (n refl) [ ]
  no_choice (Planning p) n = refuses (planning (draft_of p)) m OutOfOrder
  no_choice (Serving v x) n = out_of_order x m v Choose frame (λ job e. cc)

  -- No plan is there, or it is a register by now.
  pub no_class : (s : Stage) → ((p : Plan) → s ≡ Planning p → ⊥) → Refused AddClass s
  no_class Opening n = refuses opening m OutOfOrder
  no_class (Planning p) n = elim (n p refl) [ ]
  no_class (Serving v x) n = out_of_order x m v AddClass frame (λ job e. cc)

  pub no_start : (s : Stage) → ((p : Plan) → s ≡ Planning p → ⊥) → Refused Start s
  no_start Opening n = refuses opening m OutOfOrder
  no_start (Planning p) n = elim (n p refl) [ ]
  no_start (Serving v x) n = out_of_order x m v Start frame (λ job e. cc)
