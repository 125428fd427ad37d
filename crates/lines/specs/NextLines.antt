-- What is done with the first line of an input.
use Rattle.std.specs.Prelude.{◌≡◌, ℕ, ◌<◌, ◌≤◌, List, ◌∷◌, ◌++◌, length, drop, Some, None, Option}
use Rattle.frames.specs.Lines.{lines}
use Rattle.frames.specs.Writing.{encoded_line}
use Rattle.lines.specs.Answers.{Leaves}
use Rattle.lines.specs.Phases.{answered}
use Rattle.lines.specs.Runs.{reply_room, stopped, run}
use Rattle.lines.specs.Sessions.{phase_of}
use Rattle.lines.specs.Supplies.{rooms_of}
use Rattle.lines.specs.declared.served.Served.{Served}
use Rattle.lines.specs.declared.session.Session.{Session}
use Rattle.lines.specs.declared.supplied.Supplied.{Supplied}

-- The line is answered: its reply is at the front of the output, and the rest of the output is as before.
pub record LineAnswered (s : Session) (m : Supplied) (input out text : List ℕ) (served : Served) (s' : Session) (m' : Supplied) (out' : List ℕ) : Type 0 where
  pub room : reply_room ≤ length out
  pub line : lines input ≡ record { text = text; size = served.taken } ∷ lines (drop served.taken input)
  pub taken : (0 < served.taken) × (served.taken ≤ length input)
  pub written : served.written ≡ length (encoded_line (answered (rooms_of m) (phase_of s m) text).reply)
  pub few : served.written ≤ reply_room
  pub output : out' ≡ encoded_line (answered (rooms_of m) (phase_of s m) text).reply ++ drop served.written out
  pub leaves : Leaves (answered (rooms_of m) (phase_of s m) text) (phase_of s m) m (phase_of s' m') m'

-- Nothing is done where there is no line, or no room for the longest reply.
pub record NothingDone (s : Session) (m : Supplied) (input out : List ℕ) (s' : Session) (m' : Supplied) (out' : List ℕ) : Type 0 where
  pub session : s' ≡ s
  pub memory : m' ≡ m
  pub output : out' ≡ out
  pub stops : run (rooms_of m) (length out) (phase_of s m) (lines input) ≡ stopped (phase_of s m) (lines input)

abbrev pub NextLine : Session → Supplied → List ℕ → List ℕ → Option Served → Session → Supplied → List ℕ → Type 0
NextLine s m input out None s' m' out' = NothingDone s m input out s' m' out'
NextLine s m input out (Some served) s' m' out' = (text : List ℕ) × LineAnswered s m input out text served s' m' out'
