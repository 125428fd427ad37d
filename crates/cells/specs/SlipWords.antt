-- A slip in words, byte by byte.
use Rattle.std.specs.Prelude.{ℕ, List, ◌++◌, codes, decimal}
use Rattle.cells.specs.declared.slip.Slip.{Slip}
use Rattle.cells.specs.declared.slip.SlipState.{SlipState}
use Rattle.cells.specs.declared.slip.SlipState.TheVariants.{Received, Reflashed, SentBack}

abbrev pub state_words : SlipState → List ℕ
state_words Received = codes "received"
state_words Reflashed = codes "reflashed"
state_words SentBack = codes "sent back"

abbrev pub slip_words : Slip → List ℕ
slip_words s = codes "(serial " ++ decimal s.serial ++ codes ", fault " ++ decimal s.fault ++ codes ", " ++ state_words s.state ++ codes ")"
