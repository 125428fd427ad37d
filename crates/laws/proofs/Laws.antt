-- A register that stands after a history keeps the laws.
use Rattle.std.proofs.Common.{◌≡◌, List, [], ◌∷◌, sym, refl, ap, ◌∙◌, subst}
use Rattle.laws.specs.Setting.{Setting, Lawful}
use Rattle.laws.specs.State.{State, fresh_state}
use Rattle.laws.specs.Calls.{Call, Reply}
use Rattle.laws.specs.Step.{step}
use Rattle.laws.specs.History.{entry, History, after, Faithful, Stands, run}
use Rattle.laws.specs.Transactions.{time}
use Rattle.laws.specs.OneCopy.{OneCopy}
use Rattle.laws.specs.Deadlines.{Timely}
use Rattle.laws.specs.Filled.{Filled}
use Rattle.laws.specs.Laws.{Laws, KeepsLaws, FreshStands, StepsKeepLaws, LawsHold, RunsKeepLaws}
use Rattle.laws.proofs.Separation.{separated}
use Rattle.laws.proofs.Bays.{at_tick}
use Rattle.laws.proofs.Deadlines.{timely_step}
use Rattle.laws.proofs.Invariant.{Invariant, invariant_fresh}
use Rattle.laws.proofs.Steps.{invariant_step}
use Rattle.laws.proofs.Filled.{filled_step}

module _ {V : Type 0} (S : Setting V) where
  -- What holds of a fresh register and is kept by every step holds after every history.
  pub always : (P : State V → History V → Type 0) → P (fresh_state S) []
      → ((s : State V) (h : History V) (x : Call V) → P s h → P (step S s x).next (entry x (step S s x).reply ∷ h))
      → (h : History V) → Faithful S h → P (after S h) h
  always P z f [] t = z
  always P z f (e ∷ h) t =
      subst (λ (r : Reply V). P (after S (e ∷ h)) (entry e.call r ∷ h)) (sym t.0) (f (after S h) h e.call (always P z f h t.1))

  pub stands_fresh : Stands S [] (fresh_state S)
  stands_fresh = record { replies = tt; state = refl }

  -- One more call.
  pub stands_more : (h : History V) (s : State V) (x : Call V) (r : Reply V) (s' : State V)
      → r ≡ (step S s x).reply → s' ≡ (step S s x).next → Stands S h s → Stands S (entry x r ∷ h) s'
  stands_more h s x r s' e f d = record {
    replies = (e ∙ ap (λ (z : State V). (step S z x).reply) d.state, d.replies);
    state = f ∙ ap (λ (z : State V). (step S z x).next) d.state;
  }

  run_faithful : (calls : List (Call V)) → Faithful S (run S calls)
  run_faithful [] = tt
  run_faithful (x ∷ xs) = (refl, run_faithful xs)

  pub stands_run : (calls : List (Call V)) → Stands S (run S calls) (after S (run S calls))
  stands_run calls = record { replies = run_faithful calls; state = refl }

  module _ (L : Lawful S) where
    pub invariant : (h : History V) → Faithful S h → Invariant S (after S h) h
    invariant h t = always (Invariant S) (invariant_fresh S) (λ s h x W. invariant_step S L s h W x) h t

    -- What is counted in the history is what the clock keeps.
    pub clock_counted : (h : History V) (s : State V) → Stands S h s → time h ≡ at_tick S s.ticks
    clock_counted h s d = (invariant h d.replies).tracked.time ∙ ap (λ (s : State V). at_tick S s.ticks) (sym d.state)

    timely : (h : History V) → Faithful S h → Timely h
    timely [] t = tt
    timely (e ∷ h) t =
        (rw t.0 (timely_step S L (after S h) h (invariant h t.1).tracked e.call), timely h t.1)

    filled : (h : History V) → Faithful S h → Filled S h
    filled [] t = tt
    filled (e ∷ h) t = (rw t.0 (filled_step S L (after S h) h (invariant h t.1) e.call), filled h t.1)

    one_copy : (h : History V) → Faithful S h → OneCopy S h (after S h)
    one_copy h t = let W = (invariant h t).serial in record { order = W.ordered; reads = W.true_reads; end = λ c i l. W.newests c i l }

    pub laws_of : (h : History V) (s : State V) → Stands S h s → Laws S h s
    laws_of h s d =
        subst (λ (s : State V). Laws S h s) (sym d.state) (record {
          separation = separated S L h d.replies;
          one_copy = one_copy h d.replies;
          deadlines = timely h d.replies;
          filled = filled h d.replies;
        })

    -- What a call owes for its promise of the laws: the step's reply and the step's next state.
    pub keeps_laws : (s : State V) (x : Call V) (r : Reply V) (s' : State V) → r ≡ (step S s x).reply → s' ≡ (step S s x).next → KeepsLaws S s x r s'
    keeps_laws s x r s' e f h d = let d' = stands_more h s x r s' e f d in (d', laws_of (entry x r ∷ h) s' d')

pub fresh_stands : (V : Type 0) → FreshStands V
fresh_stands V S = stands_fresh S

pub steps_keep_laws : (V : Type 0) → StepsKeepLaws V
steps_keep_laws V S L s x = keeps_laws S L s x _ _ refl refl

pub laws_hold : (V : Type 0) → LawsHold V
laws_hold V S L h s d = laws_of S L h s d

pub runs_keep_laws : (V : Type 0) → RunsKeepLaws V
runs_keep_laws V S L calls = laws_hold V S L (run S calls) (after S (run S calls)) (stands_run S calls)
