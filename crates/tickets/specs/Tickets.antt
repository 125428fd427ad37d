-- What the calls by ticket reply, and which ticket they hand out or hand back.
use Rattle.std.specs.Prelude.{◌≡◌, ℕ, Bool, true, false, not, Some, None, Ok, Err, Option, Result, ◌==◌}
use Rattle.laws.specs.Calls.{too_little_memory}
use Rattle.register_parts.specs.FaultNumbers.{fault_number}
use Rattle.register_parts.specs.declared.job_fault.JobFault.{JobFault}
use Rattle.register_parts.specs.declared.job_fault.JobFault.TheVariants.{TooLittleMemory}
use Rattle.tickets.specs.declared.ticket.Ticket.{Ticket}
use Rattle.tickets.specs.declared.ticket.EndFault.{EndFault}
use Rattle.tickets.specs.declared.ticket.EndFault.TheVariants.{Unspent, Refused}

module _ {K : Type 0} where
  -- What a begin, or an end, returned as the call by number has it, without a ticket.
  abbrev pub began : Result (Ticket K) JobFault → Result (Unit {0}) JobFault
  began (Ok t) = Ok tt
  began (Err e) = Err e

  abbrev pub ended : Result (Unit {0}) (EndFault K) → Result (Unit {0}) JobFault
  ended (Ok u) = Ok u
  ended (Err (Unspent t)) = Err TooLittleMemory
  ended (Err (Refused e)) = Err e

  -- The ticket that a begin hands out is that of the bay asked for.
  abbrev pub HandedOut : ℕ → ℕ → Result (Ticket K) JobFault → Type 0
  HandedOut c b (Ok t) = (t.class ≡ c) × (t.bay ≡ b)
  HandedOut c b (Err e) = Unit {0}

  -- The ticket that an end leaves in the caller's hands.
  abbrev pub unspent : Result (Unit {0}) (EndFault K) → Option (Ticket K)
  unspent (Ok u) = None
  unspent (Err (Unspent t)) = Some t
  unspent (Err (Refused e)) = None

  -- It is the very ticket that was handed in, exactly where too little memory was lent.
  abbrev pub handed_back : Bool → Ticket K → Option (Ticket K)
  handed_back true t = None
  handed_back false t = Some t

-- Whether enough memory was lent to a call that returned this: too little is refused with a number of its own.
abbrev pub enough_for : Result (Unit {0}) JobFault → Bool
enough_for (Ok u) = true
enough_for (Err e) = not (fault_number e == too_little_memory)
