use Rattle.std.proofs.Common.{◌≡◌, ◌*◌, ◌++◌, take, drop}
use Rattle.frames.specs.Digits.{digits}
use Rattle.frames.proofs.write_line.write_line.Given as goal

abbrev pub invariant-loop-i : goal.invariant-loop-i
invariant-loop-i l = l.out ≡ digits (take l.i l.bytes) ++ drop (2 * l.i) l.initial.out
