-- A register's refusal is told by a line as the definition's reply is.
use Rattle.std.proofs.Common.{◌≡◌, ℕ, IsErrAnd, Err, Result, refl, ap, ◌∙◌}
use Rattle.std.proofs.lemmas.Result.{err_from_is_err_and}
use Rattle.arrayvec.specs.ArrayVec.{ArrayVec}
use Rattle.cells.specs.declared.value.Value.{Ghosts as ValueGhosts}
use Rattle.jobs.specs.Faults.{fault_reply}
use Rattle.register_parts.specs.declared.job_fault.JobFault.{JobFault}
use Rattle.register_parts.specs.declared.job_fault.JobFault.TheVariants.{TooLittleMemory, Unknown, BayNotFree, BayFree, BayClosed, NotDominated, NoSuchItem, OnlyReads, NoValue, TooManyPending, ClaimedBy, Overtaken, Stale, ClockAtEnd}
use Rattle.lines.specs.LineFaults.{fault_bytes}
use Rattle.lines.specs.Replies.{reply_bytes, told}
use Rattle.lines.specs.declared.line_fault.LineFault.{LineFault}
use Rattle.lines.specs.declared.line_fault.LineFault.TheVariants.{Refused}

module _ {V : Type 0} (v : ValueGhosts V) where
  refusal_bytes : (e : JobFault) → fault_bytes (Refused e) ≡ reply_bytes v (fault_reply e)
  refusal_bytes TooLittleMemory = refl
  refusal_bytes Unknown = refl
  refusal_bytes BayNotFree = refl
  refusal_bytes BayFree = refl
  refusal_bytes BayClosed = refl
  refusal_bytes NotDominated = refl
  refusal_bytes NoSuchItem = refl
  refusal_bytes OnlyReads = refl
  refusal_bytes NoValue = refl
  refusal_bytes TooManyPending = refl
  refusal_bytes (ClaimedBy b) = refl
  refusal_bytes Overtaken = refl
  refusal_bytes Stale = refl
  refusal_bytes ClockAtEnd = refl

  -- What `?` returns of a refusal.
  pub refusal_told : (e : JobFault) (r : Result (ArrayVec ℕ) LineFault) → IsErrAnd r (λ y. y ≡ Refused e) → told r ≡ reply_bytes v (fault_reply e)
  refusal_told e r h =
      let p = err_from_is_err_and r h in
      ap told (p.1 ∙ ap Err p.2) ∙ refusal_bytes e
