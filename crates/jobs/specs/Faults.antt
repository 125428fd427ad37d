-- The replies that calls give.
use Rattle.std.specs.Prelude.{ℕ, Some, None, Ok, Err, Option, Result}
use Rattle.laws.specs.Calls.{Reply, done, got, ticked, refused, denied}
use Rattle.register_parts.specs.FaultNumbers.{fault_number, named_bay}
use Rattle.register_parts.specs.declared.declaration.Declaration.{Declaration}
use Rattle.register_parts.specs.declared.job_fault.JobFault.{JobFault}

module _ {V : Type 0} where
  abbrev pub refusal_reply : ℕ → Option ℕ → Reply V
  refusal_reply n None = refused n
  refusal_reply n (Some b) = denied b

  abbrev pub fault_reply : JobFault → Reply V
  fault_reply e = refusal_reply (fault_number e) (named_bay e)

  -- The reply of a call that returns nothing but its success.
  abbrev pub done_reply : Result (Unit {0}) JobFault → Reply V
  done_reply (Ok u) = done
  done_reply (Err e) = fault_reply e

  -- The reply of a read.
  abbrev pub read_reply : Result V JobFault → Reply V
  read_reply (Ok v) = got v
  read_reply (Err e) = fault_reply e

  -- The reply of a tick.
  abbrev pub tick_reply : Result Declaration JobFault → Reply V
  tick_reply (Ok d) = ticked d.grade d.number
  tick_reply (Err e) = fault_reply e
