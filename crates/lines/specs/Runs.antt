-- A session: the lines of an input, answered one after another while there is room for replies.
use Rattle.std.specs.Prelude.{◌≡◌, ℕ, ◌+◌, ◌-◌, ◌≤◌, cond, List, [], ◌∷◌, ◌++◌, length, take, drop, nat_lt}
use Rattle.frames.specs.Lines.{TextLine, lines}
use Rattle.frames.specs.Writing.{encoded_line}
use Rattle.lines.specs.Phases.{Phase, Rooms, Event, answered}
use Rattle.lines.specs.declared.served.Served.{Served}

-- The longest reply, in digits and with its byte 10, has so many bytes.
abbrev pub reply_room : ℕ
reply_room = 15

-- What lines lead to: the phase, what they add to the register's history, the bytes taken and written, and the lines that are left.
pub record Run : Type 0 where
  pub phase : Phase
  pub events : List Event
  pub taken : ℕ
  pub written : List ℕ
  pub rest : List TextLine

-- Nothing is done.
abbrev pub stopped : Phase → List TextLine → Run
stopped p ls = record { phase = p; events = []; taken = 0; written = []; rest = ls }

-- A line and its answer, before what follows.
abbrev pub then_run : ℕ → List Event → List ℕ → Run → Run
then_run size events written r =
    record { phase = r.phase; events = events ++ r.events; taken = size + r.taken; written = written ++ r.written; rest = r.rest }

-- A session stops before a line only where there is no room for the longest reply.
abbrev pub run : Rooms → ℕ → Phase → List TextLine → Run
run rooms room p [] = stopped p []
run rooms room p (l ∷ ls) =
    cond (nat_lt room reply_room) (stopped p (l ∷ ls))
    (then_run l.size ((answered rooms p l.text).event ∷ []) (encoded_line (answered rooms p l.text).reply)
    (run rooms (room - length (encoded_line (answered rooms p l.text).reply)) (answered rooms p l.text).next ls))

-- A session call comes to what the run of the lines says: the phase, the bytes taken and written; the output beyond stays.
pub record RanTo (r : Run) (p : Phase) (served : Served) (input output output' : List ℕ) : Type 0 where
  pub phase : p ≡ r.phase
  pub taken : served.taken ≡ r.taken
  pub rest : lines (drop served.taken input) ≡ r.rest
  pub written : take served.written output' ≡ r.written
  pub count : served.written ≡ length r.written
  pub beyond : drop served.written output' ≡ drop served.written output
  pub in_input : served.taken ≤ length input
  pub in_output : served.written ≤ length output
