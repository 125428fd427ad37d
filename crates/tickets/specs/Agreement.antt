-- Two registers in step, and the promise that whatever answers a request as defined keeps them in step.
use Rattle.std.specs.Prelude.{◌≡◌}
use Rattle.cells.specs.declared.value.Value.{Ghosts as ValueGhosts}
use Rattle.orders.specs.declared.class_order.ClassOrder.{Ghosts as OrderGhosts}
use Rattle.rules.specs.declared.local_rule.LocalRule.{Ghosts as RuleGhosts}
use Rattle.laws.specs.Calls.{Request, Reply}
use Rattle.jobs.specs.Represents.{setting, state, enough, defined, LeadsTo}
use Rattle.jobs.specs.declared.register.Register.{Register}
use Rattle.jobs.specs.declared.memory.Memory.{Memory}

module _ {O V R : Type 0} (o : OrderGhosts O) (v : ValueGhosts V) (r : RuleGhosts R) where
  -- What a call promises, by ticket or by number: reply y to request q, and register x and memory m become x' and m', as defined.
  -- The fields are the clauses `reply` and `state` of every call.
  pub record AnswersAsDefined (q : Request V) (x : Register O) (m : Memory V R) (y : Reply V) (x' : Register O) (m' : Memory V R) : Type 0 where
    pub reply : y ≡ (defined o v r x m q).reply
    pub state : LeadsTo o v r x m q x' m'

  -- Two registers, each with its lent memory, are in step: set up alike, and in the same state of the definition.
  pub record InStep (x : Register O) (m : Memory V R) (z : Register O) (n : Memory V R) : Type 0 where
    pub set_up : setting o v r x ≡ setting o v r z
    pub state : state o v r x m ≡ state o v r z n

  -- One request to two registers in step, with memory enough to both or to neither: the replies are the same, and they are in step again.
  abbrev pub AnswersAgree : Type 0
  AnswersAgree =
      (q : Request V) (x z : Register O) (m n : Memory V R) → InStep x m z n → enough o v r x m ≡ enough o v r z n
      → (y w : Reply V) (x' z' : Register O) (m' n' : Memory V R) → AnswersAsDefined q x m y x' m' → AnswersAsDefined q z n w z' n'
      → (y ≡ w) × InStep x' m' z' n'
