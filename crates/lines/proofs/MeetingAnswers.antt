-- How a session meets the answer that the definition gives to a line.
use Rattle.std.proofs.Common.{◌≡◌, ℕ, Bool, true, false, cond, List, [], ◌∷◌, Some, None, Ok, Err, Option, ok_or, sym, refl, ap, ◌∙◌, subst, arith}
use Rattle.frames.specs.Decoding.{decoded}
use Rattle.cells.specs.declared.value.Value.{Ghosts as ValueGhosts}
use Rattle.laws.specs.Setting.{Setting}
use Rattle.laws.specs.State.{State}
use Rattle.laws.specs.Calls.{Call}
use Rattle.laws.specs.Step.{step}
use Rattle.laws.specs.History.{Entry, entry}
use Rattle.lines.specs.Operations.{byte, operation_of}
use Rattle.lines.specs.LineFaults.{fault_bytes}
use Rattle.lines.specs.Replies.{reply_bytes}
use Rattle.lines.specs.JobLines.{Room}
use Rattle.lines.specs.Phases.{Phase, Rooms, Event, refuse, called_answer, in_serving, in_phase, by_frame, by_operation, answered}
use Rattle.lines.specs.Answers.{Meets}
use Rattle.lines.specs.SessionLaws.{KeepsSessionLaws}
use Rattle.lines.specs.Supplies.{ChangedFor}
use Rattle.lines.specs.declared.line_fault.LineFault.{LineFault}
use Rattle.lines.specs.declared.line_fault.LineFault.TheVariants.{Malformed, UnknownOperation, OutOfOrder, WrongLength}
use Rattle.lines.specs.declared.operation.Operation.{Operation}
use Rattle.lines.specs.declared.operation.Operation.TheVariants.{Choose, AddClass, Start, Job}
use Rattle.lines.specs.declared.operation.JobOperation.{JobOperation}
use Rattle.lines.specs.declared.supplied.Supplied.{Supplied}
use Rattle.lines.proofs.PhaseLaws.{nothing_keeps}
use Rattle.lines.proofs.SuppliedChanges.{nothing_changed_for}

-- A refusal that changes nothing.
pub refuses : (p : Phase) (m : Supplied) (e : LineFault) → Meets p m (refuse p e) (fault_bytes e) p m
refuses p m e = record { reply = refl; leaves = record { state = refl; memory = nothing_changed_for p m; laws = nothing_keeps p } }

-- Lines ---------------------------------------------------------------------------------------------------------

-- Where nothing is read, the fault is the one that stands for that.
pub read_none : {A : Type 0} (o : Option A) (d e : LineFault) → Err e ≡ ok_or o d → (o ≡ None) × (e ≡ d)
read_none None d e h = (refl, cc)
read_none (Some x) d e h = let z : ◌≡◌ {A = ℕ} 0 1 = cc in absurd (omega arith)

-- What a byte is read as, by what is read.
read_known : (o : Option Operation) (x : Operation) → Ok x ≡ ok_or o UnknownOperation → o ≡ Some x
read_known None x h = let z : ◌≡◌ {A = ℕ} 0 1 = cc in absurd (omega arith)
read_known (Some y) x h = let z : x ≡ y = cc in ap Some (sym z)

module _ (rooms : Rooms) (p : Phase) (m : Supplied) (text : List ℕ) where
  pub is_malformed : decoded text ≡ None → Meets p m (answered rooms p text) (fault_bytes Malformed) p m
  unfolding answered
  is_malformed e = subst (λ (z : Option (List ℕ)). Meets p m (by_frame rooms p z) (fault_bytes Malformed) p m) (sym e) (refuses p m Malformed)

  pub is_unknown : (frame : List ℕ) (fault : LineFault) → decoded text ≡ Some frame → Err fault ≡ ok_or (operation_of (byte 0 frame)) UnknownOperation
      → Meets p m (answered rooms p text) (fault_bytes fault) p m
  unfolding answered
  is_unknown frame fault e f =
      let z = read_none (operation_of (byte 0 frame)) UnknownOperation fault f in
      subst (λ (u : LineFault). Meets p m (answered rooms p text) (fault_bytes u) p m) (sym z.1)
      (subst (λ (z : Option (List ℕ)). Meets p m (by_frame rooms p z) (fault_bytes UnknownOperation) p m) (sym e)
      (subst (λ (z : Option Operation). Meets p m (by_operation rooms p frame z) (fault_bytes UnknownOperation) p m) (sym z.0) (refuses p m UnknownOperation)))

  pub is_frame : (frame : List ℕ) (operation : Operation) → decoded text ≡ Some frame → Ok operation ≡ ok_or (operation_of (byte 0 frame)) UnknownOperation
      → answered rooms p text ≡ in_phase rooms p operation frame
  unfolding answered
  is_frame frame operation e f = ap (by_frame rooms p) e ∙ ap (by_operation rooms p frame) (read_known (operation_of (byte 0 frame)) operation f)

-- Jobs ----------------------------------------------------------------------------------------------------------

module _ {V : Type 0} (v : ValueGhosts V) (serving : Setting V → State V → Phase) (noted : Entry V → Event) (room : Room) (S : Setting V) (s : State V) where
  pub serves_no : (operation : Operation) (frame : List ℕ) → ((job : JobOperation) → operation ≡ Job job → ⊥)
      → in_serving v serving noted room S s operation frame ≡ refuse (serving S s) OutOfOrder
  serves_no Choose frame n = refl
  serves_no AddClass frame n = refl
  serves_no Start frame n = refl
  serves_no (Job job) frame n = elim (n job refl) [ ]

  -- A job frame: a call where it has the right length, else a refusal.
  pub serves_frame : (m m' : Supplied) (x : Call V) (bytes : List ℕ) (S' : Setting V) (s' : State V) (right : Bool)
      → bytes ≡ cond right (reply_bytes v (step S s x).reply) (fault_bytes WrongLength)
      → S' ≡ S → s' ≡ cond right (step S s x).next s
      → ((t : State V) → ChangedFor (serving S t) m m')
      → KeepsSessionLaws (serving S s) (noted (entry x (step S s x).reply) ∷ []) (serving S (step S s x).next)
      → Meets (serving S s) m (cond right (called_answer v serving noted room S s x) (refuse (serving S s) WrongLength)) bytes (serving S' s') m'
  serves_frame m m' x bytes S' s' true e f g c k =
      record { reply = e; leaves = record { state = ap (λ (T : Setting V). serving T s') f ∙ ap (serving S) g; memory = c (step S s x).next; laws = k } }
  serves_frame m m' x bytes S' s' false e f g c k =
      record { reply = e; leaves = record { state = ap (λ (T : Setting V). serving T s') f ∙ ap (serving S) g; memory = c s; laws = nothing_keeps (serving S s) } }
