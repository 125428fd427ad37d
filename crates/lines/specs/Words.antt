-- The kinds that set-up chooses from, the faults of a line and the parts that raise them, in words, byte by byte.
use Rattle.std.specs.Prelude.{ℕ, List, codes}
use Rattle.register_parts.specs.FaultWords as jobs
use Rattle.lines.specs.declared.kinds.OrderKind.{OrderKind}
use Rattle.lines.specs.declared.kinds.OrderKind.TheVariants.{Drawn, Labelled}
use Rattle.lines.specs.declared.kinds.ValueKind.{ValueKind}
use Rattle.lines.specs.declared.kinds.ValueKind.TheVariants.{Words, Slips}
use Rattle.lines.specs.declared.line_fault.LineFault.{LineFault}
use Rattle.lines.specs.declared.line_fault.LineFault.TheVariants.{Malformed, UnknownOperation, OutOfOrder, WrongLength, OutOfRange, Unfit, Refused}
use Rattle.lines.specs.declared.line_fault.Part.{Part}
use Rattle.lines.specs.declared.line_fault.Part.TheVariants.{Line, Door, Rule}

abbrev pub order_words : OrderKind → List ℕ
order_words Drawn = codes "drawn order"
order_words Labelled = codes "labelled order"

abbrev pub value_words : ValueKind → List ℕ
value_words Words = codes "words"
value_words Slips = codes "slips"

abbrev pub fault_words : LineFault → List ℕ
fault_words Malformed = codes "not 1 to 10 pairs of the digits 0 to 9 and A to F"
fault_words UnknownOperation = codes "there is no such operation"
fault_words OutOfOrder = codes "it is not the turn of this frame"
fault_words WrongLength = codes "the frame has the wrong length"
fault_words OutOfRange = codes "a number is out of range, or the class is not the next one"
fault_words Unfit = codes "a class directly below is not smaller, or the label is used"
fault_words (Refused e) = jobs.fault_words e

abbrev pub part_words : Part → List ℕ
part_words Line = codes "line"
part_words Door = codes "door"
part_words Rule = codes "rule"
