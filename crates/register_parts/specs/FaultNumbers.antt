-- The numbers under which the register's faults are reported, and the part that raises each.
use Rattle.std.specs.Prelude.{ℕ, Bool, ◌||◌, Some, None, Option, ◌==◌}
use Rattle.rules.specs.declared.rule_fault.RuleFault.{RuleFault}
use Rattle.rules.specs.declared.rule_fault.RuleFault.TheVariants.{NoSuchBay, NoSuchItem as NoSuchItemOfRule, ClaimedBy as ClaimedByOfRule, Stale as StaleOfRule}
use Rattle.laws.specs.Calls.{too_little_memory, unknown, bay_not_free, bay_free, bay_closed, not_dominated, no_such_item, only_reads, no_value, too_many_pending, claim_denied, overtaken, stale_job, clock_at_end}
use Rattle.register_parts.specs.declared.job_fault.JobFault.{JobFault}
use Rattle.register_parts.specs.declared.job_fault.JobFault.TheVariants.{TooLittleMemory, Unknown, BayNotFree, BayFree, BayClosed, NotDominated, NoSuchItem, OnlyReads, NoValue, TooManyPending, ClaimedBy, Overtaken, Stale, ClockAtEnd}

abbrev pub fault_number : JobFault → ℕ
fault_number TooLittleMemory = too_little_memory
fault_number Unknown = unknown
fault_number BayNotFree = bay_not_free
fault_number BayFree = bay_free
fault_number BayClosed = bay_closed
fault_number NotDominated = not_dominated
fault_number NoSuchItem = no_such_item
fault_number OnlyReads = only_reads
fault_number NoValue = no_value
fault_number TooManyPending = too_many_pending
fault_number (ClaimedBy b) = claim_denied
fault_number Overtaken = overtaken
fault_number Stale = stale_job
fault_number ClockAtEnd = clock_at_end

-- The bay that stands in the way, where the fault names one.
abbrev pub named_bay : JobFault → Option ℕ
named_bay TooLittleMemory = None
named_bay Unknown = None
named_bay BayNotFree = None
named_bay BayFree = None
named_bay BayClosed = None
named_bay NotDominated = None
named_bay NoSuchItem = None
named_bay OnlyReads = None
named_bay NoValue = None
named_bay TooManyPending = None
named_bay (ClaimedBy b) = Some b
named_bay Overtaken = None
named_bay Stale = None
named_bay ClockAtEnd = None

-- Whether the local rule raises the fault; the register itself raises the others.
abbrev pub raised_by_rule : JobFault → Bool
raised_by_rule e = fault_number e == claim_denied || fault_number e == stale_job

-- What a fault of the local rule is passed on as.
abbrev pub fault_of_rule : RuleFault → JobFault
fault_of_rule NoSuchBay = Unknown
fault_of_rule NoSuchItemOfRule = NoSuchItem
fault_of_rule (ClaimedByOfRule b) = ClaimedBy b
fault_of_rule StaleOfRule = Stale
