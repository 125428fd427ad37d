-- The laws of a session: those of the history of its register.
use Rattle.std.specs.Prelude.{ℕ, List, [], ◌∷◌}
use Rattle.cells.specs.declared.slip.Slip.{Slip}
use Rattle.laws.specs.Setting.{Setting, Lawful}
use Rattle.laws.specs.State.{State}
use Rattle.laws.specs.History.{History, Stands}
use Rattle.laws.specs.Laws.{Laws}
use Rattle.lines.specs.Phases.{Phase, opening, planning, serving_words, serving_slips, Event, nothing, started, word_call, slip_call}
use Rattle.lines.specs.declared.kinds.ValueKind.TheVariants.{Words, Slips}

-- The history of a session's register: there is none before set-up is done; then it is one of words or of slips.
pub data Log : Type 0 where
  no_register : Log
  of_words : History ℕ → Log
  of_slips : History Slip → Log

-- What an event adds to it. A call over words comes in a history of words only, and so for slips.
abbrev pub noted : Event → Log → Log
noted nothing g = g
noted (started Words) g = of_words []
noted (started Slips) g = of_slips []
noted (word_call e) no_register = no_register
noted (word_call e) (of_words h) = of_words (e ∷ h)
noted (word_call e) (of_slips h) = of_slips h
noted (slip_call e) no_register = no_register
noted (slip_call e) (of_words h) = of_words h
noted (slip_call e) (of_slips h) = of_slips (e ∷ h)

-- The earliest event comes first.
abbrev pub all_noted : List Event → Log → Log
all_noted [] g = g
all_noted (e ∷ es) g = all_noted es (noted e g)

-- A register that is set up lawfully stands after a history.
pub record RegisterStands {V : Type 0} (S : Setting V) (h : History V) (s : State V) : Type 0 where
  pub lawful : Lawful S
  pub stands : Stands S h s

-- The register of a session stands after its history; before set-up is done there is none.
abbrev pub SessionStands : Phase → Log → Type 0
SessionStands opening no_register = Unit {0}
SessionStands opening (of_words h) = ⊥
SessionStands opening (of_slips h) = ⊥
SessionStands (planning d) no_register = Unit {0}
SessionStands (planning d) (of_words h) = ⊥
SessionStands (planning d) (of_slips h) = ⊥
SessionStands (serving_words S s) no_register = ⊥
SessionStands (serving_words S s) (of_words h) = RegisterStands S h s
SessionStands (serving_words S s) (of_slips h) = ⊥
SessionStands (serving_slips S s) no_register = ⊥
SessionStands (serving_slips S s) (of_words h) = ⊥
SessionStands (serving_slips S s) (of_slips h) = RegisterStands S h s

-- Separation, one copy and deadlines hold of it, whole.
abbrev pub SessionLaws : Phase → Log → Type 0
SessionLaws opening g = Unit {0}
SessionLaws (planning d) g = Unit {0}
SessionLaws (serving_words S s) no_register = ⊥
SessionLaws (serving_words S s) (of_words h) = Laws S h s
SessionLaws (serving_words S s) (of_slips h) = ⊥
SessionLaws (serving_slips S s) no_register = ⊥
SessionLaws (serving_slips S s) (of_words h) = ⊥
SessionLaws (serving_slips S s) (of_slips h) = Laws S h s

-- From phase p to phase p' by these events: whatever history the register stood after, it now stands after that history
-- with the events added, and the laws hold of it.
abbrev pub KeepsSessionLaws : Phase → List Event → Phase → Type 0
KeepsSessionLaws p events p' =
    (g : Log) → SessionStands p g → SessionStands p' (all_noted events g) × SessionLaws p' (all_noted events g)
