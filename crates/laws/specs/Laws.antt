-- The laws of a register that stands after a history, in one record.
use Rattle.std.specs.Prelude.{List, [], ◌∷◌}
use Rattle.laws.specs.Setting.{Setting, Lawful}
use Rattle.laws.specs.State.{State, fresh_state}
use Rattle.laws.specs.Calls.{Call, Reply}
use Rattle.laws.specs.Step.{step}
use Rattle.laws.specs.History.{entry, History, after, Stands, run}
use Rattle.laws.specs.Separation.{Separated}
use Rattle.laws.specs.OneCopy.{OneCopy}
use Rattle.laws.specs.Deadlines.{Timely}
use Rattle.laws.specs.Filled.{Filled}

pub record Laws {V : Type 0} (S : Setting V) (h : History V) (s : State V) : Type 0 where
  -- A class is told the same whether or not classes act that it does not dominate.
  pub separation : Separated S h
  -- The committed jobs are serializable: they read, and leave, what they would on one copy, one after another.
  pub one_copy : OneCopy S h s
  -- A job's bay is closed only after the job had its time.
  pub deadlines : Timely h
  -- Accepted reads find their values, and cells accept what accepted commits store.
  pub filled : Filled S h

-- What a call in state s with reply r and state s' afterwards keeps: whatever history the register stood after,
-- it now stands after that history with the call and its reply, and the laws hold of it.
abbrev pub KeepsLaws : {V : Type 0} → Setting V → State V → Call V → Reply V → State V → Type 0
KeepsLaws {V} S s x r s' = (h : History V) → Stands S h s → Stands S (entry x r ∷ h) s' × Laws S (entry x r ∷ h) s'

-- A fresh register stands after the empty history.
abbrev pub FreshStands : Type 0 → Type 0
FreshStands V = (S : Setting V) → Stands S [] (fresh_state S)

-- Every step of every register that is set up lawfully keeps the laws.
abbrev pub StepsKeepLaws : Type 0 → Type 0
StepsKeepLaws V =
    (S : Setting V) → Lawful S → (s : State V) (x : Call V) → KeepsLaws S s x (step S s x).reply (step S s x).next

-- The laws hold of every history of every register that is set up lawfully.
abbrev pub LawsHold : Type 0 → Type 0
LawsHold V = (S : Setting V) → Lawful S → (h : History V) (s : State V) → Stands S h s → Laws S h s

-- And of every run: whatever calls come, in whatever order, accepted or refused.
abbrev pub RunsKeepLaws : Type 0 → Type 0
RunsKeepLaws V = (S : Setting V) → Lawful S → (calls : List (Call V)) → Laws S (run S calls) (after S (run S calls))
