-- The laws of a session's register, as lines go by.
use Rattle.std.proofs.Common.{◌≡◌, ℕ, List, [], ◌∷◌, ◌++◌, sym, refl, subst}
use Rattle.cells.specs.declared.slip.Slip.{Slip}
use Rattle.laws.specs.Setting.{Setting, Lawful}
use Rattle.laws.specs.State.{State, fresh_state}
use Rattle.laws.specs.Calls.{Call}
use Rattle.laws.specs.Step.{step}
use Rattle.laws.specs.History.{entry, History}
use Rattle.laws.specs.Laws.{Laws}
use Rattle.laws.proofs.Laws.{stands_fresh, laws_of, keeps_laws}
use Rattle.lines.specs.Drafts.{Draft}
use Rattle.lines.specs.Phases.{Phase, opening, planning, serving_words, serving_slips, Event, nothing, started, word_call, slip_call}
use Rattle.lines.specs.SessionLaws.{Log, no_register, of_words, of_slips, noted, all_noted, RegisterStands, SessionStands, SessionLaws, KeepsSessionLaws}
use Rattle.lines.specs.declared.kinds.ValueKind.TheVariants.{Words, Slips}

module _ {V : Type 0} (S : Setting V) where
  -- One more call.
  pub stands_on : (h : History V) (s : State V) (x : Call V) → RegisterStands S h s
      → RegisterStands S (entry x (step S s x).reply ∷ h) (step S s x).next × Laws S (entry x (step S s x).reply ∷ h) (step S s x).next
  stands_on h s x d =
      let z = keeps_laws S d.lawful s x (step S s x).reply (step S s x).next refl refl h d.stands in
      (record { lawful = d.lawful; stands = z.0 }, z.1)

  pub laws_here : (h : History V) (s : State V) → RegisterStands S h s → Laws S h s
  laws_here h s d = laws_of S d.lawful h s d.stands

  -- A fresh register stands after the empty history.
  pub stands_first : Lawful S → RegisterStands S [] (fresh_state S)
  stands_first l = record { lawful = l; stands = stands_fresh S }

-- The laws hold of every session that stands after its history.
pub session_laws : (p : Phase) (g : Log) → SessionStands p g → SessionLaws p g
session_laws opening g d = tt
session_laws (planning e) g d = tt
session_laws (serving_words S s) no_register d = d
session_laws (serving_words S s) (of_words h) d = laws_here S h s d
session_laws (serving_words S s) (of_slips h) d = d
session_laws (serving_slips S s) no_register d = d
session_laws (serving_slips S s) (of_words h) d = d
session_laws (serving_slips S s) (of_slips h) d = laws_here S h s d

-- Where nothing is done, the register stands where it stood.
pub nothing_keeps : (p : Phase) → KeepsSessionLaws p (nothing ∷ []) p
nothing_keeps p g d = (d, session_laws p g d)

-- A call over words, and one over slips.
pub word_call_keeps : (S : Setting ℕ) (s : State ℕ) (x : Call ℕ)
    → KeepsSessionLaws (serving_words S s) (word_call (entry x (step S s x).reply) ∷ []) (serving_words S (step S s x).next)
word_call_keeps S s x no_register d = (d, d)
word_call_keeps S s x (of_words h) d = stands_on S h s x d
word_call_keeps S s x (of_slips h) d = (d, d)

pub slip_call_keeps : (S : Setting Slip) (s : State Slip) (x : Call Slip)
    → KeepsSessionLaws (serving_slips S s) (slip_call (entry x (step S s x).reply) ∷ []) (serving_slips S (step S s x).next)
slip_call_keeps S s x no_register d = (d, d)
slip_call_keeps S s x (of_words h) d = (d, d)
slip_call_keeps S s x (of_slips h) d = stands_on S h s x d

-- A register that was opened lawfully, after set-up.
pub words_start : (d : Draft) (S : Setting ℕ) → Lawful S → KeepsSessionLaws (planning d) (started Words ∷ []) (serving_words S (fresh_state S))
words_start d S l g e = (stands_first S l, laws_here S [] (fresh_state S) (stands_first S l))

pub slips_start : (d : Draft) (S : Setting Slip) → Lawful S → KeepsSessionLaws (planning d) (started Slips ∷ []) (serving_slips S (fresh_state S))
slips_start d S l g e = (stands_first S l, laws_here S [] (fresh_state S) (stands_first S l))

all_noted_append : (es fs : List Event) (g : Log) → all_noted (es ++ fs) g ≡ all_noted fs (all_noted es g)
all_noted_append [] fs g = refl
all_noted_append (e ∷ es) fs g = all_noted_append es fs (noted e g)

-- What one line after another keeps, they keep together.
pub keeps_both : (p q r : Phase) (es fs : List Event) → KeepsSessionLaws p es q → KeepsSessionLaws q fs r → KeepsSessionLaws p (es ++ fs) r
keeps_both p q r es fs k l g d =
    subst (λ (z : Log). SessionStands r z × SessionLaws r z) (sym (all_noted_append es fs g)) (l (all_noted es g) (k g d).0)
