-- What a commit leaves of the register's own state of a class, and what the validation before it answers.
use Rattle.std.specs.Prelude.{ℕ, Bool, true, false, cond, ◌||◌, Ok, Err, Option, Result, slice_set}
use Rattle.rules.specs.Claims.{Claims, settled}
use Rattle.laws.specs.State.{or_else}
use Rattle.register_parts.specs.declared.bay.Bay.TheVariants.{Free}
use Rattle.register_parts.specs.declared.class_state.ClassState.{ClassState}
use Rattle.register_parts.specs.declared.job_fault.JobFault.{JobFault}
use Rattle.register_parts.specs.declared.job_fault.JobFault.TheVariants.{Overtaken, Stale}

-- The bay is free, and the floor is the job's down number, if it has one.
abbrev pub committed_in : ClassState → ℕ → Option ℕ → ClassState
committed_in k b down = record { floor = or_else down k.floor; bays = slice_set k.bays b Free }

-- A job that lies below the floor was overtaken; else it has to settle, and a stale one cannot.
abbrev pub validated : Bool → Bool → Result (Unit {0}) JobFault
validated true stale = Err Overtaken
validated false true = Err Stale
validated false false = Ok tt

-- The claims after the validation of bay b: they are settled where it passes.
abbrev pub validated_claims : Bool → ℕ → Claims → Claims
validated_claims below b k = cond (below || k.stale b) k (settled b k)
