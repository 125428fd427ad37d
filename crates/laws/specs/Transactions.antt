-- The jobs of a history, told from its calls and replies alone. Lists are latest first.
use Rattle.std.specs.Prelude.{ℕ, suc, ◌+◌, ◌-◌, cond, ◌&&◌, List, [], ◌∷◌, Some, None, Option, ◌==◌}
use Rattle.laws.specs.Setting.{Setting}
use Rattle.laws.specs.State.{or_else, Kind, update, long}
use Rattle.laws.specs.Calls.{Request, Reply, begin, read, write, commit, give_up, by, tick, done, got, ticked, refused, denied}
use Rattle.laws.specs.Actions.{kind_of}
use Rattle.laws.specs.History.{Entry, History}

-- Events --------------------------------------------------------------------------------------------------------

-- What an accepted call did, by class and bay: a read has the class, the item and the value, a write the item and the value, a tick its grade.
pub data Event (V : Type 0) : Type 0 where
  nothing : Event V
  ticks : ℕ → Event V
  begins : ℕ → ℕ → Kind → Event V
  reads : ℕ → ℕ → ℕ → ℕ → V → Event V
  writes : ℕ → ℕ → ℕ → V → Event V
  commits : ℕ → ℕ → Event V

module _ {V : Type 0} where
  abbrev pub event_done : Request V → Event V
  event_done tick = nothing
  event_done (by c b (begin q)) = begins c b (kind_of q)
  event_done (by c b (read d i)) = nothing
  event_done (by c b (write i None)) = nothing
  event_done (by c b (write i (Some v))) = writes c b i v
  event_done (by c b commit) = commits c b
  event_done (by c b give_up) = nothing

  abbrev pub event_got : V → Request V → Event V
  event_got v tick = nothing
  event_got v (by c b (begin q)) = nothing
  event_got v (by c b (read d i)) = reads c b d i v
  event_got v (by c b (write i w)) = nothing
  event_got v (by c b commit) = nothing
  event_got v (by c b give_up) = nothing

  abbrev pub event_ticked : ℕ → Request V → Event V
  event_ticked g tick = ticks g
  event_ticked g (by c b a) = nothing

  abbrev pub event : Request V → Reply V → Event V
  event x done = event_done x
  event x (got v) = event_got v x
  event x (ticked g n) = event_ticked g x
  event x (refused n) = nothing
  event x (denied b) = nothing

  abbrev pub event_of : Entry V → Event V
  event_of e = event e.call.request e.reply

-- Time ----------------------------------------------------------------------------------------------------------

-- How far the clock has come, counted in the history: how many ticks were accepted and, as a grade's declared number, how many of them at that grade.
pub record Time : Type 0 where
  pub ticks : ℕ
  pub declared : ℕ → ℕ

abbrev pub start_time : Time
start_time = record { ticks = 0; declared = λ g. 0 }

abbrev pub next_tick : ℕ → Time → Time
next_tick g t = record { ticks = suc t.ticks; declared = λ g'. cond (g == g') 1 0 + t.declared g' }

module _ {V : Type 0} where
  abbrev pub later : Event V → Time → Time
  later nothing t = t
  later (ticks g) t = next_tick g t
  later (begins c b q) t = t
  later (reads c b d i v) t = t
  later (writes c b i v) t = t
  later (commits c b) t = t

  abbrev pub time : History V → Time
  time [] = start_time
  time (e ∷ h) = later (event_of e) (time h)

-- Jobs ----------------------------------------------------------------------------------------------------------

-- An operation of a job: a class, an item of it, and the value read or written.
pub data Operation (V : Type 0) : Type 0 where
  read_of : ℕ → ℕ → V → Operation V
  write_of : ℕ → ℕ → V → Operation V

-- A job, that is a transaction: its kind, the times of its begin and of its first accepted read of another class, and its accepted operations.
pub record Transaction (V : Type 0) : Type 0 where
  pub kind : Kind
  pub begun : Time
  pub below : Option Time
  pub operations : List (Operation V)

-- The time of the first read of another class, when a job of class c reads class d at time t.
abbrev pub first_below : ℕ → ℕ → Time → Option Time → Option Time
first_below c d t below = cond (c == d) below (Some (or_else below t))

module _ {V : Type 0} where
  abbrev pub new_transaction : Kind → Time → Transaction V
  new_transaction q t = record { kind = q; begun = t; below = None; operations = [] }

  abbrev pub with_operation : Operation V → Option Time → Transaction V → Transaction V
  with_operation x below j = record { kind = j.kind; begun = j.begun; below = below; operations = x ∷ j.operations }

  -- What an event at time t makes of the job of bay b of class c.
  abbrev pub continued : ℕ → ℕ → Time → Event V → Transaction V → Transaction V
  continued c b t nothing j = j
  continued c b t (ticks g) j = j
  continued c b t (begins c' b' q) j = cond (c == c' && b == b') (new_transaction q t) j
  continued c b t (reads c' b' d i v) j = cond (c == c' && b == b') (with_operation (read_of d i v) (first_below c d t j.below) j) j
  continued c b t (writes c' b' i v) j = cond (c == c' && b == b') (with_operation (write_of c i v) j.below j) j
  continued c b t (commits c' b') j = j

  -- The last job that began in bay b of class c: an accepted begin with the bay's later calls. Before the first it is an update job without operations.
  abbrev pub job : ℕ → ℕ → History V → Transaction V
  job c b [] = new_transaction update start_time
  job c b (e ∷ h) = continued c b (time h) (event_of e) (job c b h)

-- Commits -------------------------------------------------------------------------------------------------------

-- A committed job: its class, the job, the time of its commit and the floor of its class before that.
pub record Committed (V : Type 0) : Type 0 where
  pub class : ℕ
  pub job : Transaction V
  pub end : Time
  pub floor : ℕ

module _ {V : Type 0} (S : Setting V) where
  -- The down number of a job of class c, if it is an update job that read from below: what the grade just under its own had declared then.
  abbrev pub down_since : ℕ → Kind → Option Time → Option ℕ
  down_since c long below = None
  down_since c update None = None
  down_since c update (Some t) = Some (t.declared (S.grade c - 1))

  abbrev pub down : ℕ → Transaction V → Option ℕ
  down c j = down_since c j.kind j.below

  -- The floor of a class: the down number of its last committed job with one, else 0.
  abbrev pub floor_of : ℕ → List (Committed V) → ℕ
  floor_of c [] = 0
  floor_of c (j ∷ js) = cond (j.class == c) (or_else (down c j.job) (floor_of c js)) (floor_of c js)

  abbrev pub committed_job : ℕ → ℕ → History V → List (Committed V) → Committed V
  committed_job c b h js = record { class = c; job = job c b h; end = time h; floor = floor_of c js }

  -- The committed jobs js of history h, and after that an event.
  abbrev pub one_more : History V → Event V → List (Committed V) → List (Committed V)
  one_more h nothing js = js
  one_more h (ticks g) js = js
  one_more h (begins c b q) js = js
  one_more h (reads c b d i v) js = js
  one_more h (writes c b i v) js = js
  one_more h (commits c b) js = committed_job c b h js ∷ js

  -- The committed jobs of a history, in commit order, the latest first.
  abbrev pub committed : History V → List (Committed V)
  committed [] = []
  committed (e ∷ h) = one_more h (event_of e) (committed h)
