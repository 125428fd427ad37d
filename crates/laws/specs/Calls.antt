-- The calls of a register, and its replies.
use Rattle.std.specs.Prelude.{ℕ, Bool, Some, None, Option}

-- What a class asks for a job in one of its bays.
pub data Action (V : Type 0) : Type 0 where
  -- The number of the job's kind: 0 for an update job, 1 for a long job.
  begin : ℕ → Action V
  -- A class and an item of it.
  read : ℕ → ℕ → Action V
  -- An item of the own class and a value: none where the bytes that came are no value.
  write : ℕ → Option V → Action V
  commit give_up : Action V

-- A class and a bay of it with an action, or a tick of the clock, which is by no class.
pub data Request (V : Type 0) : Type 0 where
  by : ℕ → ℕ → Action V → Request V
  tick : Request V

pub record Call (V : Type 0) : Type 0 where
  -- Whether enough memory was supplied with the call.
  pub enough : Bool
  pub request : Request V

pub data Reply (V : Type 0) : Type 0 where
  done : Reply V
  -- The value that was read.
  got : V → Reply V
  -- The grade of the tick and the number declared there.
  ticked : ℕ → ℕ → Reply V
  -- The number of the refusal.
  refused : ℕ → Reply V
  -- A claim was answered no: the bay that stands in the way.
  denied : ℕ → Reply V

-- The numbers of the refusals, in the order of the checks.
abbrev pub too_little_memory : ℕ
too_little_memory = 7

-- No such class, bay or kind of job.
abbrev pub unknown : ℕ
unknown = 8

abbrev pub bay_not_free : ℕ
bay_not_free = 9

abbrev pub bay_free : ℕ
bay_free = 10

abbrev pub bay_closed : ℕ
bay_closed = 11

abbrev pub not_dominated : ℕ
not_dominated = 12

abbrev pub no_such_item : ℕ
no_such_item = 13

abbrev pub only_reads : ℕ
only_reads = 14

abbrev pub no_value : ℕ
no_value = 15

abbrev pub too_many_pending : ℕ
too_many_pending = 16

abbrev pub claim_denied : ℕ
claim_denied = 17

abbrev pub overtaken : ℕ
overtaken = 18

abbrev pub stale_job : ℕ
stale_job = 19

abbrev pub clock_at_end : ℕ
clock_at_end = 20

-- The number of a refusal; an accepted call has none.
abbrev pub refusal : {V : Type 0} → Reply V → Option ℕ
refusal done = None
refusal (got v) = None
refusal (ticked g n) = None
refusal (refused n) = Some n
refusal (denied b) = Some claim_denied
