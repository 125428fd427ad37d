-- Why a line is refused: the number, the bay that it may name, and the part that raised the fault.
use Rattle.std.specs.Prelude.{ℕ, cond, List, [], ◌∷◌, Some, None, Option}
use Rattle.orders.specs.declared.order_fault.OrderFault.{OrderFault}
use Rattle.orders.specs.declared.order_fault.OrderFault.TheVariants.{TooManyClasses, RankTooHigh, NotSmaller, LabelUsed}
use Rattle.register_parts.specs.FaultNumbers as jobs
use Rattle.register_parts.specs.FaultNumbers.{raised_by_rule}
use Rattle.register_parts.specs.declared.job_fault.JobFault.TheVariants.{TooLittleMemory as TooLittleForJobs}
use Rattle.register_parts.specs.declared.setup_fault.SetUpFault.{SetUpFault}
use Rattle.register_parts.specs.declared.setup_fault.SetUpFault.TheVariants.{TooManyClasses as TooManyRecords, OtherClassCount, TooManyItems, TooManyItemsInAll, NoSuchVariant, TooLittleMemory}
use Rattle.lines.specs.declared.line_fault.LineFault.{LineFault}
use Rattle.lines.specs.declared.line_fault.LineFault.TheVariants.{Malformed, UnknownOperation, OutOfOrder, WrongLength, OutOfRange, Unfit, Refused}
use Rattle.lines.specs.declared.line_fault.Part.{Part}
use Rattle.lines.specs.declared.line_fault.Part.TheVariants.{Line, Door, Rule}

abbrev pub fault_number : LineFault → ℕ
fault_number Malformed = 1
fault_number UnknownOperation = 2
fault_number OutOfOrder = 3
fault_number WrongLength = 4
fault_number OutOfRange = 5
fault_number Unfit = 6
fault_number (Refused e) = jobs.fault_number e

-- The bay that stands in the way, where the fault names one.
abbrev pub named_bay : LineFault → Option ℕ
named_bay Malformed = None
named_bay UnknownOperation = None
named_bay OutOfOrder = None
named_bay WrongLength = None
named_bay OutOfRange = None
named_bay Unfit = None
named_bay (Refused e) = jobs.named_bay e

-- The part that raised the fault: the line, the register's door or its local rule.
abbrev pub raised_by : LineFault → Part
raised_by Malformed = Line
raised_by UnknownOperation = Line
raised_by OutOfOrder = Line
raised_by WrongLength = Line
raised_by OutOfRange = Line
raised_by Unfit = Line
raised_by (Refused e) = cond (raised_by_rule e) Rule Door

-- What the faults of orders and of set-up are passed on as.
abbrev pub fault_of_order : OrderFault → LineFault
fault_of_order TooManyClasses = OutOfRange
fault_of_order RankTooHigh = OutOfRange
fault_of_order NotSmaller = Unfit
fault_of_order LabelUsed = Unfit

abbrev pub fault_of_setup : SetUpFault → LineFault
fault_of_setup TooManyRecords = OutOfRange
fault_of_setup OtherClassCount = OutOfRange
fault_of_setup TooManyItems = OutOfRange
fault_of_setup TooManyItemsInAll = OutOfRange
fault_of_setup NoSuchVariant = OutOfRange
fault_of_setup TooLittleMemory = Refused TooLittleForJobs

-- A refusal in bytes: its number, and behind it the bay that it names.
abbrev pub with_bay : ℕ → Option ℕ → List ℕ
with_bay n None = n ∷ []
with_bay n (Some bay) = n ∷ bay ∷ []

abbrev pub fault_bytes : LineFault → List ℕ
fault_bytes e = with_bay (fault_number e) (named_bay e)
