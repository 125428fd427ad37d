-- The job that a begin puts into a free bay.
use Rattle.std.specs.Prelude.{ℕ, [], ◌∷◌, None}
use Rattle.register_parts.specs.declared.bay.Job.{Job}
use Rattle.register_parts.specs.declared.bay.Job.TheVariants as job
use Rattle.register_parts.specs.declared.bay.PendingItems.{PendingItems}
use Rattle.register_parts.specs.declared.job_kind.JobKind.{JobKind}
use Rattle.register_parts.specs.declared.job_kind.JobKind.TheVariants.{Update, Long}

abbrev pub nothing_pending : PendingItems
nothing_pending = record { count = 0; items = 0 ∷ 0 ∷ 0 ∷ 0 ∷ 0 ∷ 0 ∷ 0 ∷ 0 ∷ [] }

-- A job of a kind; n is the declared number of its grade.
abbrev pub opened : JobKind → ℕ → Job
opened Update n = job.Update (record { down = None; pending = nothing_pending })
opened Long n = job.Long n
