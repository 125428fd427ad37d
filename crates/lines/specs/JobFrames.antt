-- What a job frame of any length gets from a register.
use Rattle.std.specs.Prelude.{◌≡◌, ℕ, Bool, cond, List, length, ◌==◌}
use Rattle.cells.specs.declared.value.Value.{Ghosts as ValueGhosts}
use Rattle.orders.specs.declared.class_order.ClassOrder.{Ghosts as OrderGhosts}
use Rattle.rules.specs.declared.local_rule.LocalRule.{Ghosts as RuleGhosts}
use Rattle.jobs.specs.Represents.{setting, state, defined}
use Rattle.jobs.specs.declared.memory.Memory.{Memory}
use Rattle.jobs.specs.declared.register.Register.{Register}
use Rattle.lines.specs.Operations.{job_frame_length}
use Rattle.lines.specs.LineFaults.{fault_bytes}
use Rattle.lines.specs.Replies.{reply_bytes}
use Rattle.lines.specs.JobLines.{request_of}
use Rattle.lines.specs.Needs.{needed, ChangedWithin}
use Rattle.lines.specs.declared.line_fault.LineFault.TheVariants.{WrongLength}
use Rattle.lines.specs.declared.operation.JobOperation.{JobOperation}

abbrev pub right_length : ℕ → JobOperation → List ℕ → Bool
right_length width job frame = length frame == job_frame_length width job

-- A frame of the right length makes its call; any other is refused and changes nothing that can be seen. These bytes are told.
pub record FrameServed {O V R : Type 0} (o : OrderGhosts O) (v : ValueGhosts V) (r : RuleGhosts R) (x : Register O) (m : Memory V R)
    (job : JobOperation) (frame bytes : List ℕ) (x' : Register O) (m' : Memory V R) : Type 0 where
  pub reply : bytes
      ≡ cond (right_length v.WIDTH job frame) (reply_bytes v (defined o v r x m (request_of v job frame)).reply) (fault_bytes WrongLength)
  pub setting_kept : setting o v r x' ≡ setting o v r x
  pub state : state o v r x' m' ≡ cond (right_length v.WIDTH job frame) (defined o v r x m (request_of v job frame)).next (state o v r x m)
  pub memory : ChangedWithin (needed (setting o v r x)) m m'
