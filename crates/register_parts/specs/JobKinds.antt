-- The kinds of jobs by the numbers that name them.
use Rattle.std.specs.Prelude.{ℕ, cond, Ok, Err, Result, ◌==◌}
use Rattle.register_parts.specs.declared.job_fault.JobFault.{JobFault}
use Rattle.register_parts.specs.declared.job_fault.JobFault.TheVariants.{Unknown}
use Rattle.register_parts.specs.declared.job_kind.JobKind.{JobKind}
use Rattle.register_parts.specs.declared.job_kind.JobKind.TheVariants.{Update, Long}
use Rattle.register_parts.specs.declared.job_kind.UnknownKind.{UnknownKind}

-- The kind that a number names: 0 an update job, 1 a long job.
abbrev pub kind_by_number : ℕ → Result JobKind UnknownKind
kind_by_number q = cond (q == 0) (Ok Update) (cond (q == 1) (Ok Long) (Err (record { 0 = q })))

-- The number that names a kind.
abbrev pub number_of_kind : JobKind → ℕ
number_of_kind Update = 0
number_of_kind Long = 1

-- What a number that names no kind is refused as.
abbrev pub fault_of_kind : UnknownKind → JobFault
fault_of_kind e = Unknown
