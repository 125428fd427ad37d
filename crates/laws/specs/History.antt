-- Histories: calls with their replies, and the register that stands after one. The latest entry is the first of the list.
use Rattle.std.specs.Prelude.{◌≡◌, List, [], ◌∷◌}
use Rattle.laws.specs.Setting.{Setting}
use Rattle.laws.specs.State.{State, fresh_state}
use Rattle.laws.specs.Calls.{Call, Reply}
use Rattle.laws.specs.Step.{step}

pub record Entry (V : Type 0) : Type 0 where
  pub call : Call V
  pub reply : Reply V

abbrev pub entry : {V : Type 0} → Call V → Reply V → Entry V
entry x r = record { call = x; reply = r }

abbrev pub History : Type 0 → Type 0
History V = List (Entry V)

module _ {V : Type 0} (S : Setting V) where
  -- The state that the calls of a history lead to from a fresh register.
  abbrev pub after : History V → State V
  after [] = fresh_state S
  after (e ∷ h) = (step S (after h) e.call).next

  -- Each reply of the history is the one that a register, fresh at first, gives there.
  abbrev pub Faithful : History V → Type 0
  Faithful [] = Unit {0}
  Faithful (e ∷ h) = (e.reply ≡ (step S (after h) e.call).reply) × Faithful h

  -- A register in state s stands after history h.
  pub record Stands (h : History V) (s : State V) : Type 0 where
    pub replies : Faithful h
    pub state : s ≡ after h

  -- The run of calls, the latest first: the history that they make, with the reply that each gets.
  abbrev pub run : List (Call V) → History V
  run [] = []
  run (x ∷ xs) = entry x (step S (after (run xs)) x).reply ∷ run xs
