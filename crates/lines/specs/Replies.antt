-- Replies in bytes.
use Rattle.std.specs.Prelude.{ℕ, List, [], ◌∷◌, Ok, Err, Result}
use Rattle.arrayvec.specs.ArrayVec.{ArrayVec}
use Rattle.cells.specs.Encodings.{number_bytes}
use Rattle.cells.specs.declared.value.Value.{Ghosts as ValueGhosts}
use Rattle.laws.specs.Calls.{Reply, done, got, ticked, refused, denied, claim_denied}
use Rattle.lines.specs.LineFaults.{fault_bytes}
use Rattle.lines.specs.declared.line_fault.LineFault.{LineFault}

-- What a call replies, where values are written as v says. An accepted call is told 00, then a read's value, or a tick's grade and number.
abbrev pub reply_bytes : {V : Type 0} → ValueGhosts V → Reply V → List ℕ
reply_bytes v done = 0 ∷ []
reply_bytes v (got x) = 0 ∷ v.encoding x
reply_bytes v (ticked grade n) = 0 ∷ grade ∷ number_bytes n
reply_bytes v (refused n) = n ∷ []
reply_bytes v (denied bay) = claim_denied ∷ bay ∷ []

-- What a line is told: the reply, or the fault.
abbrev pub told : Result (ArrayVec ℕ) LineFault → List ℕ
told (Ok y) = y.items
told (Err e) = fault_bytes e
