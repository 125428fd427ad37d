-- Deadlines: a job is told that its bay was closed only when it had its time.
use Rattle.std.specs.Prelude.{◌≡◌, ℕ, ◌+◌, ◌≤◌, [], ◌∷◌, Some, None, Option}
use Rattle.laws.specs.State.{Kind, update, long}
use Rattle.laws.specs.Calls.{Request, bay_closed, refusal, by, tick}
use Rattle.laws.specs.History.{History}
use Rattle.laws.specs.Transactions.{Time, time, Transaction, job}

-- After now ticks: two or more were accepted since a long job began, or since an update job first read from below.
abbrev pub TwoSince : ℕ → Kind → Time → Option Time → Type 0
TwoSince now long begun below = begun.ticks + 2 ≤ now
TwoSince now update begun None = ⊥
TwoSince now update begun (Some t) = t.ticks + 2 ≤ now

module _ {V : Type 0} where
  abbrev pub HadItsTime : ℕ → Transaction V → Type 0
  HadItsTime now j = TwoSince now j.kind j.begun j.below

  -- The job that a request is for, after history h, had its time. A tick is for no job.
  abbrev pub InTime : Request V → History V → Type 0
  InTime tick h = ⊥
  InTime (by c b a) h = HadItsTime (time h).ticks (job c b h)

  -- Each refusal for a closed bay came to a job that had its time.
  abbrev pub Timely : History V → Type 0
  Timely [] = Unit {0}
  Timely (e ∷ h) = (refusal e.reply ≡ Some bay_closed → InTime e.call.request h) × Timely h
