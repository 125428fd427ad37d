-- A frame is served as the definition says of the request that it stands for.
use Rattle.std.proofs.Common.{◌≡◌, ℕ, true, false, List, length, IsErrAnd, Result, sym, refl, ap, ◌∙◌, subst}
use Rattle.std.proofs.lemmas.Bool.{eq-eqb}
use Rattle.arrayvec.specs.ArrayVec.{ArrayVec}
use Rattle.cells.specs.declared.value.Value.{Ghosts as ValueGhosts}
use Rattle.orders.specs.declared.class_order.ClassOrder.{Ghosts as OrderGhosts}
use Rattle.rules.specs.declared.local_rule.LocalRule.{Ghosts as RuleGhosts}
use Rattle.laws.specs.Calls.{Request}
use Rattle.jobs.specs.Represents.{setting, defined, LeadsTo}
use Rattle.jobs.specs.Faults.{fault_reply}
use Rattle.register_parts.specs.declared.job_fault.JobFault.{JobFault}
use Rattle.jobs.specs.declared.memory.Memory.{Memory}
use Rattle.jobs.specs.declared.register.Register.{Register}
use Rattle.lines.specs.LineFaults.{fault_bytes}
use Rattle.lines.specs.Operations.{job_frame_length}
use Rattle.lines.specs.JobFrames.{right_length, FrameServed}
use Rattle.lines.specs.JobLines.{request_of}
use Rattle.lines.specs.Needs.{needed, ChangedWithin}
use Rattle.lines.specs.Replies.{reply_bytes, told}
use Rattle.lines.specs.declared.line_fault.LineFault.{LineFault}
use Rattle.lines.specs.declared.line_fault.LineFault.TheVariants.{WrongLength, Refused}
use Rattle.lines.specs.declared.operation.JobOperation.{JobOperation}
use Rattle.lines.proofs.Refusals.{refusal_told}
use Rattle.lines.proofs.SuppliedChanges.{kept_within}

-- A frame of the length that its operation wants asks for request q, which leads to register x' and memory m'.
module _ {O V R : Type 0} (o : OrderGhosts O) (v : ValueGhosts V) (r : RuleGhosts R) (x : Register O) (m : Memory V R)
    (job operation : JobOperation) (frame : List ℕ) (is : job ≡ operation) (fits : length frame ≡ job_frame_length v.WIDTH operation)
    (q : Request V) (asks : request_of v operation frame ≡ q) (x' : Register O) (m' : Memory V R)
    (leads : LeadsTo o v r x m q x' m') (within : ChangedWithin (needed (setting o v r x)) m m') where
  pub call_served : (bytes : List ℕ) → bytes ≡ reply_bytes v (defined o v r x m q).reply → FrameServed o v r x m job frame bytes x' m'
  call_served bytes e =
      let right : right_length v.WIDTH operation frame ≡ true = eq-eqb (length frame) (job_frame_length v.WIDTH operation) fits in
      subst (λ (j : JobOperation). FrameServed o v r x m j frame bytes x' m') (sym is)
      (record {
        reply = rw (right, asks) e;
        setting_kept = leads.0;
        state = rw (right, asks) leads.1;
        memory = within;
      })

  -- A call that the register refuses.
  pub refusal_served : (e : JobFault) (y : Result (ArrayVec ℕ) LineFault) → IsErrAnd y (λ f. f ≡ Refused e) → fault_reply e ≡ (defined o v r x m q).reply
      → FrameServed o v r x m job frame (told y) x' m'
  refusal_served e y h f = call_served (told y) (refusal_told v e y h ∙ ap (reply_bytes v) f)

-- A frame of another length is refused, and changes nothing.
pub wrong_served : {O V R : Type 0} (o : OrderGhosts O) (v : ValueGhosts V) (r : RuleGhosts R) (x : Register O) (m : Memory V R) (job : JobOperation) (frame : List ℕ)
    → right_length v.WIDTH job frame ≡ false → FrameServed o v r x m job frame (fault_bytes WrongLength) x m
wrong_served o v r x m job frame wrong = record { reply = rw wrong refl; setting_kept = refl; state = rw wrong refl; memory = kept_within _ m }

-- A job frame of this operation leads where the call does that it asks for.
pub frame_leads : {O V R : Type 0} (o : OrderGhosts O) (v : ValueGhosts V) (r : RuleGhosts R) (x : Register O) (m : Memory V R)
    (job operation : JobOperation) (frame : List ℕ) → job ≡ operation → (x' : Register O) (m' : Memory V R)
    → LeadsTo o v r x m (request_of v operation frame) x' m' → LeadsTo o v r x m (request_of v job frame) x' m'
frame_leads o v r x m job operation frame is x' m' leads = subst (λ (j : JobOperation). LeadsTo o v r x m (request_of v j frame) x' m') (sym is) leads
