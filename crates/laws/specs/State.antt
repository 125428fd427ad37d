-- The state of a register: how far the clock is, and for each class its floor, claims, bays and cells.
use Rattle.std.specs.Prelude.{ℕ, cond, List, [], ◌∷◌, Some, None, Option, ◌==◌}
use Rattle.cells.specs.declared.version.Version.{Version}
use Rattle.cells.specs.Versions.{fresh, read_at, newest}
use Rattle.rules.specs.Claims.{Claims, no_claims, forgotten}
use Rattle.laws.specs.Setting.{Setting}

-- A function with the value x at i.
abbrev pub put : {A : Type 0} → (ℕ → A) → ℕ → A → ℕ → A
put f i x j = cond (i == j) x (f j)

-- The value that there is, else x.
abbrev pub or_else : {A : Type 0} → Option A → A → A
or_else None x = x
or_else (Some a) x = a

-- Cells ---------------------------------------------------------------------------------------------------------

-- The cell of an item: its versions, newest first.
abbrev pub Cell : Type 0 → Type 0
Cell V = List (Version V)

module _ {V : Type 0} where
  abbrev pub value_of : Option (Version V) → Option V
  value_of None = None
  value_of (Some x) = Some x.value

  abbrev pub newest_value : Cell V → Option V
  newest_value x = value_of (newest x)

  abbrev pub value_at : ℕ → Cell V → Option V
  value_at n x = value_of (read_at n x)

-- Bays ----------------------------------------------------------------------------------------------------------

-- A write of a job that has not committed yet.
pub record Pending (V : Type 0) : Type 0 where
  pub item : ℕ
  pub value : V

module _ {V : Type 0} where
  -- The pending value of an item.
  abbrev pub find : ℕ → List (Pending V) → Option V
  find i [] = None
  find i (p ∷ ps) = cond (i == p.item) (Some p.value) (find i ps)

  -- One more pending value, in place of an earlier one of the same item.
  abbrev pub pend : ℕ → V → List (Pending V) → List (Pending V)
  pend i v [] = record { item = i; value = v } ∷ []
  pend i v (p ∷ ps) = cond (i == p.item) (record { item = i; value = v } ∷ ps) (p ∷ pend i v ps)

-- A job is a transaction: an update job reads and writes, a long job only reads, at one stable version.
pub data Kind : Type 0 where
  update long : Kind

-- A running job. An update job has its down number, the version at which it reads lower classes, once it has done so, and its pending values;
-- a long job has its long number, the version at which it reads.
pub data Job (V : Type 0) : Type 0 where
  updating : Option ℕ → List (Pending V) → Job V
  reading : ℕ → Job V

-- A bay is the slot of one running job. The clock closes the bay of a job that would read too old a version; the job's owner has yet to learn of it.
pub data Bay (V : Type 0) : Type 0 where
  free closed : Bay V
  running : Job V → Bay V

-- Classes -------------------------------------------------------------------------------------------------------

pub record Class (V : Type 0) : Type 0 where
  -- The down number of the last commit that had one: no later commit may go below it.
  pub floor : ℕ
  pub claims : Claims
  pub bays : ℕ → Bay V
  pub cells : ℕ → Cell V

pub record State (V : Type 0) : Type 0 where
  -- How many ticks were accepted.
  pub ticks : ℕ
  pub class : ℕ → Class V

module _ {V : Type 0} where
  abbrev pub with_bay : Class V → ℕ → Bay V → Class V
  with_bay k b x = record { floor = k.floor; claims = k.claims; bays = put k.bays b x; cells = k.cells }

  abbrev pub with_claims : Class V → Claims → Class V
  with_claims k claims = record { floor = k.floor; claims = claims; bays = k.bays; cells = k.cells }

  -- The job of bay b ends: its pending values are dropped, its claims forgotten, and the bay is free.
  abbrev pub ended : Class V → ℕ → Class V
  ended k b = with_bay (with_claims k (forgotten b k.claims)) b free

module _ {V : Type 0} (S : Setting V) where
  abbrev pub fresh_class : Class V
  fresh_class = record { floor = 0; claims = no_claims S.variant; bays = λ b. free; cells = λ i. fresh S.start }

  -- The register as set-up leaves it.
  abbrev pub fresh_state : State V
  fresh_state = record { ticks = 0; class = λ c. fresh_class }
