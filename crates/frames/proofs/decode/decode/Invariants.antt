use Rattle.std.proofs.Common.{◌≡◌}
use Rattle.frames.proofs.Reading.{Read}
use Rattle.frames.proofs.decode.decode.Given as goal

abbrev pub invariant-loop-i : goal.invariant-loop-i
invariant-loop-i l =
    (l.i-iterator.iter.size ≡ 2) × Read l.line l.i-iterator.iter.rest.now l.bytes l.i-iterator.count
