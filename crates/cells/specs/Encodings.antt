-- How the two kinds of value stand in bytes: words, and slips.
use Rattle.std.specs.Prelude.{ℕ, ◌+◌, ◌*◌, ◌/◌, ◌%◌, cond, List, [], ◌∷◌, ◌++◌, Some, None, Option, ◌==◌}
use Rattle.cells.specs.declared.slip.Slip.{Slip}
use Rattle.cells.specs.declared.slip.SlipState.{SlipState}
use Rattle.cells.specs.declared.slip.SlipState.TheVariants.{Received, Reflashed, SentBack}

-- A number in four bytes, the high byte first. The first is not cut down to a byte: of a number of 32 bits it is one.
abbrev pub number_bytes : ℕ → List ℕ
number_bytes n = n / 16777216 ∷ n / 65536 % 256 ∷ n / 256 % 256 ∷ n % 256 ∷ []

abbrev pub from_four : ℕ → ℕ → ℕ → ℕ → ℕ
from_four a b c d = a * 16777216 + b * 65536 + c * 256 + d

abbrev pub number_from : List ℕ → Option ℕ
number_from [] = None
number_from (a ∷ []) = None
number_from (a ∷ b ∷ []) = None
number_from (a ∷ b ∷ c ∷ []) = None
number_from (a ∷ b ∷ c ∷ d ∷ []) = Some (from_four a b c d)
number_from (a ∷ b ∷ c ∷ d ∷ e ∷ rest) = None

abbrev pub state_byte : SlipState → ℕ
state_byte Received = 0
state_byte Reflashed = 1
state_byte SentBack = 2

abbrev pub state_from : ℕ → Option SlipState
state_from b = cond (b == 0) (Some Received) (cond (b == 1) (Some Reflashed) (cond (b == 2) (Some SentBack) None))

abbrev pub blank_slip : Slip
blank_slip = record { serial = 0; fault = 0; state = Received }

abbrev pub slip_bytes : Slip → List ℕ
slip_bytes s = number_bytes s.serial ++ s.fault ∷ state_byte s.state ∷ []

abbrev pub slip_in : ℕ → ℕ → Option SlipState → Option Slip
slip_in n f None = None
slip_in n f (Some s) = Some (record { serial = n; fault = f; state = s })

abbrev pub slip_from : List ℕ → Option Slip
slip_from [] = None
slip_from (a ∷ []) = None
slip_from (a ∷ b ∷ []) = None
slip_from (a ∷ b ∷ c ∷ []) = None
slip_from (a ∷ b ∷ c ∷ d ∷ []) = None
slip_from (a ∷ b ∷ c ∷ d ∷ fault ∷ []) = None
slip_from (a ∷ b ∷ c ∷ d ∷ fault ∷ state ∷ []) = slip_in (from_four a b c d) fault (state_from state)
slip_from (a ∷ b ∷ c ∷ d ∷ fault ∷ state ∷ e ∷ rest) = None
