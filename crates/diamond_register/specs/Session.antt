-- A session of seven calls: class 0 publishes a value, and class 1 above it reads the value and then asks for the item of its rival, class 2.
use Rattle.std.specs.Prelude.{◌≡◌, Bool, [], ◌∷◌, Some}
use Rattle.cells.specs.declared.value.Value.{Ghosts as ValueGhosts}
use Rattle.orders.specs.declared.class_order.ClassOrder.{Ghosts as OrderGhosts}
use Rattle.rules.specs.declared.local_rule.LocalRule.{Ghosts as RuleGhosts}
use Rattle.laws.specs.Setting.{Setting}
use Rattle.laws.specs.State.{State}
use Rattle.laws.specs.Calls.{Request, Call}
use Rattle.laws.specs.Step.{step}
use Rattle.laws.specs.History.{entry, History}
use Rattle.laws.specs.Laws.{Laws}
use Rattle.jobs.specs.CallLaws.{StandsAfter}
use Rattle.jobs.specs.Faults.{done_reply, read_reply, tick_reply}
use Rattle.jobs.specs.Represents.{setting, state, enough}
use Rattle.jobs.specs.Requests.{to_begin, to_read, to_write, to_commit, to_tick}
use Rattle.jobs.specs.declared.memory.Memory.{Memory}
use Rattle.jobs.specs.declared.register.Register.{Register}
use Rattle.diamond_register.specs.declared.session.Replies.{Replies}

-- A request with which enough memory is lent, or too little.
abbrev pub lent : {V : Type 0} → Bool → Request V → Call V
lent room q = record { enough = room; request = q }

-- A history to which the calls of the session are added with their replies. The latest is the first.
abbrev pub told : {V : Type 0} → Bool → V → Replies V → History V → History V
told room value y h =
    entry (lent room (to_read 1 0 2 0)) (read_reply y.watched)
    ∷ entry (lent room (to_read 1 0 0 0)) (read_reply y.read)
    ∷ entry (lent room (to_begin 1 0 0)) (done_reply y.opened)
    ∷ entry (lent room to_tick) (tick_reply y.ticked)
    ∷ entry (lent room (to_commit 0 0)) (done_reply y.committed)
    ∷ entry (lent room (to_write 0 0 0 (Some value))) (done_reply y.written)
    ∷ entry (lent room (to_begin 0 0 0)) (done_reply y.begun)
    ∷ h

-- The same of a register in any state s, where `after` and `Faithful` speak of a fresh one.
module _ {V : Type 0} (S : Setting V) (s : State V) where
  -- The state that the calls of a history lead to from s.
  abbrev pub after_from : History V → State V
  after_from [] = s
  after_from (e ∷ h) = (step S (after_from h) e.call).next

  -- Each reply of the history is the one that a register in state s at first gives there.
  abbrev pub FaithfulFrom : History V → Type 0
  FaithfulFrom [] = Unit {0}
  FaithfulFrom (e ∷ h) = (e.reply ≡ (step S (after_from h) e.call).reply) × FaithfulFrom h

module _ {O V R : Type 0} (o : OrderGhosts O) (v : ValueGhosts V) (r : RuleGhosts R) where
  -- Register and memory stand after a history, and the laws hold of it, whole.
  abbrev pub LawfulAfter : History V → Register O → Memory V R → Type 0
  LawfulAfter h x m = StandsAfter o v r h x m × Laws (setting o v r x) h (state o v r x m)

  -- A session with register x and memory m that gets these replies, and leaves register x' and memory m'.
  module _ (value : V) (y : Replies V) (x : Register O) (m : Memory V R) where
    -- The calls of the session with their replies.
    abbrev pub calls_made : History V → History V
    calls_made h = told (enough o v r x m) value y h

    -- Its replies are those of the definition.
    abbrev pub RepliesDefined : Type 0
    RepliesDefined = FaithfulFrom (setting o v r x) (state o v r x m) (calls_made [])

    -- And so is the state that it leads to.
    abbrev pub LeadsThrough : Register O → Memory V R → Type 0
    LeadsThrough x' m' =
        (setting o v r x' ≡ setting o v r x) × (state o v r x' m' ≡ after_from (setting o v r x) (state o v r x m) (calls_made []))

    -- Whatever history register and memory stood after, they now stand after that history with the calls of the session,
    -- and the laws hold of it.
    abbrev pub Carries : Register O → Memory V R → Type 0
    Carries x' m' = (h : History V) → StandsAfter o v r h x m → LawfulAfter (calls_made h) x' m'
