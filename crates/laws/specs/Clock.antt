-- The clock: each tick ends a version period at one grade, declares that grade's next stable version and closes the jobs that would read too old a version.
use Rattle.std.specs.Prelude.{ℕ, zero, suc, ◌+◌, ◌-◌, ◌/◌, ◌%◌, Bool, false, cond, ◌&&◌, Some, None, Option, ◌==◌, nat_le, nat_lt}
use Rattle.rules.specs.Claims.{without}
use Rattle.laws.specs.Setting.{Setting}
use Rattle.laws.specs.State.{or_else, Job, Bay, Class, State, updating, reading, free, closed, running}

-- The clock stops after so many ticks.
abbrev pub last_tick : ℕ
last_tick = 1_000_000

-- Where t ticks were accepted and grades go from 0 to top: the grade of the next tick, and the number that it declares there.
abbrev pub tick_grade : ℕ → ℕ → ℕ
tick_grade top t = t % suc top

abbrev pub tick_number : ℕ → ℕ → ℕ
tick_number top t = t / suc top + 1

-- The declared number of grade g after t ticks: how many of them were at g.
abbrev pub declared : ℕ → ℕ → ℕ → ℕ
declared top g zero = 0
declared top g (suc t) = cond (tick_grade top t == g) 1 0 + declared top g t

-- Where a tick declares n: a down number is outdated below n, a long number at n − 2 and below.
abbrev pub outdated : ℕ → ℕ → Bool
outdated a n = nat_lt a n

abbrev pub outdated_long : ℕ → ℕ → Bool
outdated_long r n = nat_le (r + 2) n

module _ {V : Type 0} (S : Setting V) where
  -- After t ticks: the declared number of class c's grade, that of the grade just under it, and the number under which class c writes.
  abbrev pub declared_for : ℕ → ℕ → ℕ
  declared_for t c = declared S.top (S.grade c) t

  abbrev pub declared_under : ℕ → ℕ → ℕ
  declared_under t c = declared S.top (S.grade c - 1) t

  abbrev pub writing_number : ℕ → ℕ → ℕ
  writing_number t c = declared_for t c + 1

  -- The number at which an update job of class c reads lower classes: the one that it has, else what the grade under its own has declared.
  abbrev pub down_number : ℕ → ℕ → Option ℕ → ℕ
  down_number t c down = or_else down (declared_under t c)

  -- Which jobs of class c the tick at grade g that declares n closes: update jobs at their own grade, long jobs at grade 0.
  abbrev pub late_job : ℕ → ℕ → ℕ → Job V → Bool
  late_job g n c (updating None p) = false
  late_job g n c (updating (Some a) p) = S.grade c == g && outdated a n
  late_job g n c (reading r) = g == 0 && outdated_long r n

  abbrev pub late : ℕ → ℕ → ℕ → Bay V → Bool
  late g n c free = false
  late g n c closed = false
  late g n c (running j) = late_job g n c j

  -- A job that is closed ends as any job does, but its bay stays closed.
  abbrev pub swept : ℕ → ℕ → ℕ → Class V → Class V
  swept g n c k = record {
    floor = k.floor;
    claims = without (λ b. late g n c (k.bays b)) k.claims;
    bays = λ b. cond (late g n c (k.bays b)) closed (k.bays b);
    cells = k.cells;
  }

  abbrev pub after_tick : State V → State V
  after_tick s = record {
    ticks = suc s.ticks;
    class = λ c. swept (tick_grade S.top s.ticks) (tick_number S.top s.ticks) c (s.class c);
  }
