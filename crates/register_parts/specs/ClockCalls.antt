-- What the calls of a clock answer.
use Rattle.std.specs.Prelude.{◌≡◌, ℕ, suc, cond, Ok, Err, Result, nat_lt}
use Rattle.laws.specs.Clock.{last_tick, tick_grade, tick_number, declared}
use Rattle.register_parts.specs.declared.clock.Clock.{Clock}
use Rattle.register_parts.specs.declared.declaration.Declaration.{Declaration}
use Rattle.register_parts.specs.declared.job_fault.JobFault.{JobFault}
use Rattle.register_parts.specs.declared.job_fault.JobFault.TheVariants.{ClockAtEnd}

-- A clock shows its greatest grade and how many ticks were accepted. The declared numbers follow from these.
abbrev pub Shows : Clock → ℕ → ℕ → Type 0
Shows x top ticks = (x.top ≡ top) × (x.ticks ≡ ticks)

-- What the next tick declares.
abbrev pub next_declaration : Clock → Declaration
next_declaration x = record { grade = tick_grade x.top x.ticks; number = tick_number x.top x.ticks }

abbrev pub advance_reply : Clock → Result Declaration JobFault
advance_reply x = cond (nat_lt x.ticks last_tick) (Ok (next_declaration x)) (Err ClockAtEnd)

-- How many ticks were accepted once the clock was told to advance.
abbrev pub advanced_ticks : ℕ → ℕ
advanced_ticks t = cond (nat_lt t last_tick) (suc t) t

-- What a tick answers is then declared: the number, at the grade.
abbrev pub Declares : Result Declaration JobFault → Clock → Type 0
Declares (Ok d) x = declared x.top d.grade x.ticks ≡ d.number
Declares (Err e) x = Unit {0}
