-- What a write of a value answers.
use Rattle.std.specs.Prelude.{Bool, true, false, Ok, Err, Result}
use Rattle.cells.specs.declared.value.WrongWidth.{WrongWidth}

-- By whether the memory has the width.
abbrev pub written : Bool → Result (Unit {0}) WrongWidth
written true = Ok tt
written false = Err (record {})
