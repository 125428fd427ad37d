-- The kinds of class order and of value, by their numbers.
use Rattle.std.specs.Prelude.{ℕ, cond, Ok, Err, Result, ◌==◌, nat_le}
use Rattle.lines.specs.declared.kinds.OrderKind.{OrderKind}
use Rattle.lines.specs.declared.kinds.OrderKind.TheVariants.{Drawn, Labelled}
use Rattle.lines.specs.declared.kinds.ValueKind.{ValueKind}
use Rattle.lines.specs.declared.kinds.ValueKind.TheVariants.{Words, Slips}
use Rattle.lines.specs.declared.line_fault.LineFault.{LineFault}
use Rattle.lines.specs.declared.line_fault.LineFault.TheVariants.{OutOfRange}

abbrev pub order_kind : ℕ → OrderKind
order_kind n = cond (n == 0) Drawn Labelled

abbrev pub value_kind : ℕ → ValueKind
value_kind n = cond (n == 0) Words Slips

-- The kind of a number, if it is one.
abbrev pub order_kind_of : ℕ → Result OrderKind LineFault
order_kind_of n = cond (nat_le n 1) (Ok (order_kind n)) (Err OutOfRange)

abbrev pub value_kind_of : ℕ → Result ValueKind LineFault
value_kind_of n = cond (nat_le n 1) (Ok (value_kind n)) (Err OutOfRange)
