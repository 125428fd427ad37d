-- Which jobs a tick closes.
use Rattle.std.specs.Prelude.{ℕ, Bool, false, cond, ◌&&◌, Some, None, Option, ◌==◌}
use Rattle.laws.specs.Clock.{outdated, outdated_long}
use Rattle.register_parts.specs.declared.bay.Bay.{Bay}
use Rattle.register_parts.specs.declared.bay.Bay.TheVariants.{Free, Closed, Open}
use Rattle.register_parts.specs.declared.bay.Job.{Job}
use Rattle.register_parts.specs.declared.bay.Job.TheVariants.{Update, Long}
use Rattle.register_parts.specs.declared.declaration.Declaration.{Declaration}

-- A down number that a tick at the job's own grade leaves behind.
abbrev pub behind : Option ℕ → ℕ → Bool
behind None n = false
behind (Some a) n = outdated a n

-- Whether the tick closes a job of a class of this grade.
abbrev pub late_work : ℕ → Declaration → Job → Bool
late_work grade tick (Update j) = grade == tick.grade && behind j.down tick.number
late_work grade tick (Long r) = tick.grade == 0 && outdated_long r tick.number

abbrev pub late_bay : ℕ → Declaration → Bay → Bool
late_bay grade tick Free = false
late_bay grade tick Closed = false
late_bay grade tick (Open j) = late_work grade tick j

abbrev pub closed_if_late : ℕ → Declaration → Bay → Bay
closed_if_late grade tick y = cond (late_bay grade tick y) Closed y
