-- What a class does at an action for one of its bays: the reply, and the class afterwards.
use Rattle.std.specs.Prelude.{ℕ, Bool, true, false, cond, not, ◌&&◌, List, [], length, is_some, Some, None, Option, ◌==◌, nat_le, nat_lt}
use Rattle.cells.specs.Versions.{stored}
use Rattle.rules.specs.Claims.{Claims, with_read, with_write, settled}
use Rattle.laws.specs.Setting.{Setting, dominates}
use Rattle.laws.specs.State.{put, or_else, Cell, newest_value, value_at, Pending, find, pend, Kind, Job, Bay, Class, with_bay, with_claims, ended, update, long, updating, reading, free, closed, running}
use Rattle.laws.specs.Calls.{Action, Reply, bay_not_free, bay_free, bay_closed, not_dominated, no_such_item, only_reads, no_value, too_many_pending, overtaken, stale_job, begin, read, write, commit, give_up, done, got, refused, denied}
use Rattle.laws.specs.Clock.{declared_for, writing_number, down_number}

pub record Outcome (V : Type 0) : Type 0 where
  pub reply : Reply V
  pub next : Class V

module _ {V : Type 0} where
  abbrev pub answer : Reply V → Class V → Outcome V
  answer r k = record { reply = r; next = k }

  abbrev pub refuse : ℕ → Class V → Outcome V
  refuse n k = answer (refused n) k

  -- What comes of a claim: the outcome where no bay stands in the way; otherwise that bay is named and class k stays as it is.
  abbrev pub claimed : Option ℕ → Outcome V → Class V → Outcome V
  claimed None o k = o
  claimed (Some b) o k = answer (denied b) k

  -- What a commit under number w leaves of a cell whose item has this pending value, if any.
  abbrev pub stored_pending : Option V → ℕ → Cell V → Cell V
  stored_pending None w x = x
  stored_pending (Some v) w x = stored w v x

  -- In a state that no set-up made, a pending item may be none of the class's: it is left out.
  abbrev pub stored_item : Bool → Option V → ℕ → Cell V → Cell V
  stored_item false v w x = x
  stored_item true v w x = stored_pending v w x

  -- The class after a commit of bay b under number w, where the class has n items.
  abbrev pub after_commit : ℕ → ℕ → Class V → ℕ → Option ℕ → List (Pending V) → Class V
  after_commit n w k b down p = record {
    floor = or_else down k.floor;
    claims = settled b k.claims;
    bays = put k.bays b free;
    cells = λ i. stored_item (nat_lt i n) (find i p) w (k.cells i);
  }

-- Whether a down number lies below the floor.
abbrev pub below_floor : ℕ → Option ℕ → Bool
below_floor floor None = false
below_floor floor (Some a) = nat_lt a floor

-- Whether the job of bay b fails validation.
abbrev pub invalid : Claims → ℕ → Bool
invalid claims b = claims.stale b

-- The kind that a number names.
abbrev pub kind_of : ℕ → Kind
kind_of q = cond (q == 0) update long

-- How many items may be pending in a bay.
abbrev pub pending_places : ℕ
pending_places = 8

-- No other item can become pending; one that is pending may change.
abbrev pub no_room : {V : Type 0} → ℕ → List (Pending V) → Bool
no_room i p = not (is_some (find i p)) && nat_le pending_places (length p)

module _ {V : Type 0} (S : Setting V) where
  -- A read that finds nothing gives the starting value.
  abbrev pub or_start : Option V → V
  or_start x = or_else x S.start

  -- Class c may not read class d.
  abbrev pub hidden : ℕ → ℕ → Bool
  hidden c d = not (dominates S c d)

  -- The job that class c begins after t ticks.
  abbrev pub new_job : ℕ → ℕ → Kind → Job V
  new_job t c update = updating None []
  new_job t c long = reading (declared_for S t c)

  -- After t ticks, with cells_of the cells of every class: class c, its state k, and the bay b.
  module _ (t : ℕ) (cells_of : ℕ → ℕ → Cell V) (c : ℕ) (k : Class V) (b : ℕ) where
    -- Begin: a free bay is opened.
    abbrev pub begins_in : Kind → Bay V → Outcome V
    begins_in q free = answer done (with_bay k b (running (new_job t c q)))
    begins_in q closed = refuse bay_not_free k
    begins_in q (running j) = refuse bay_not_free k

    -- Read: a long job reads every class at its long number r, and makes no claim.
    abbrev pub reads_long : ℕ → ℕ → ℕ → Outcome V
    reads_long r d i = answer (got (or_start (value_at r (cells_of d i)))) k

    -- An update job reads lower classes at its down number a; its first such read gives it that number.
    abbrev pub reads_below : ℕ → ℕ → ℕ → List (Pending V) → Outcome V
    reads_below a d i p = answer (got (or_start (value_at a (cells_of d i)))) (with_bay k b (running (updating (Some a) p)))

    -- In its own class it reads the newest version and claims it, unless it has itself a pending value there.
    abbrev pub reads_newest : ℕ → Outcome V
    reads_newest i = answer (got (or_start (newest_value (k.cells i)))) (with_claims k (with_read b i k.claims))

    abbrev pub reads_own : ℕ → Option V → Outcome V
    reads_own i (Some v) = answer (got v) k
    reads_own i None = claimed (S.reading k.claims b i) (reads_newest i) k

    abbrev pub reads_by : Job V → ℕ → ℕ → Outcome V
    reads_by (reading r) d i = reads_long r d i
    reads_by (updating down p) d i = cond (c == d) (reads_own i (find i p)) (reads_below (down_number S t c down) d i p)

    abbrev pub reads_in : ℕ → ℕ → Bay V → Outcome V
    reads_in d i free = refuse bay_free k
    reads_in d i closed = refuse bay_closed k
    reads_in d i (running j) =
        cond (hidden c d) (refuse not_dominated k) (cond (not (nat_lt i (S.items d))) (refuse no_such_item k) (reads_by j d i))

    -- Write: the value is pending until the commit.
    abbrev pub writes_pending : Option ℕ → List (Pending V) → ℕ → V → Outcome V
    writes_pending down p i v = answer done (with_bay (with_claims k (with_write b i k.claims)) b (running (updating down (pend i v p))))

    abbrev pub writes_value : Option ℕ → List (Pending V) → ℕ → Option V → Outcome V
    writes_value down p i None = refuse no_value k
    writes_value down p i (Some v) =
        cond (no_room i p) (refuse too_many_pending k)
        (claimed (S.writing k.claims b i) (writes_pending down p i v) k)

    abbrev pub writes_by : Job V → ℕ → Option V → Outcome V
    writes_by (reading r) i v = refuse only_reads k
    writes_by (updating down p) i v = cond (not (nat_lt i (S.items c))) (refuse no_such_item k) (writes_value down p i v)

    abbrev pub writes_in : ℕ → Option V → Bay V → Outcome V
    writes_in i v free = refuse bay_free k
    writes_in i v closed = refuse bay_closed k
    writes_in i v (running j) = writes_by j i v

    -- Commit: refused where the job was overtaken or fails validation. In every case the job has ended.
    abbrev pub commits_by : Job V → Outcome V
    commits_by (reading r) = answer done (ended k b)
    commits_by (updating down p) =
        cond (below_floor k.floor down) (refuse overtaken (ended k b))
        (cond (invalid k.claims b) (refuse stale_job (ended k b))
        (answer done (after_commit (S.items c) (writing_number S t c) k b down p)))

    -- A closed bay is free once its owner has learned of it.
    abbrev pub commits_in : Bay V → Outcome V
    commits_in free = refuse bay_free k
    commits_in closed = refuse bay_closed (with_bay k b free)
    commits_in (running j) = commits_by j

    -- Give up: the job is aborted.
    abbrev pub gives_up_in : Bay V → Outcome V
    gives_up_in free = refuse bay_free k
    gives_up_in closed = answer done (with_bay k b free)
    gives_up_in (running j) = answer done (ended k b)

    abbrev pub perform : Action V → Outcome V
    perform (begin q) = begins_in (kind_of q) (k.bays b)
    perform (read d i) = reads_in d i (k.bays b)
    perform (write i v) = writes_in i v (k.bays b)
    perform commit = commits_in (k.bays b)
    perform give_up = gives_up_in (k.bays b)
