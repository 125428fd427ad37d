-- What a frame asks for, by its first byte, and how many bytes it has.
use Rattle.std.specs.Prelude.{ℕ, ◌+◌, cond, List, Some, None, Option, ◌==◌, slice_index}
use Rattle.lines.specs.declared.operation.Operation.{Operation}
use Rattle.lines.specs.declared.operation.Operation.TheVariants.{Choose, AddClass, Start, Job}
use Rattle.lines.specs.declared.operation.JobOperation.{JobOperation}
use Rattle.lines.specs.declared.operation.JobOperation.TheVariants.{Begin, Read, Write, Commit, GiveUp, Tick}

-- The byte at a place of a frame.
abbrev pub byte : ℕ → List ℕ → ℕ
byte k frame = slice_index frame k

-- The operations of jobs: 10 to 60, in the digits of a line.
abbrev pub job_operation_of : ℕ → Option Operation
job_operation_of b =
    cond (b == 16) (Some (Job Begin)) (cond (b == 32) (Some (Job Read)) (cond (b == 48) (Some (Job Write))
    (cond (b == 64) (Some (Job Commit)) (cond (b == 80) (Some (Job GiveUp)) (cond (b == 96) (Some (Job Tick)) None)))))

-- And those of set-up: 01 to 03.
abbrev pub operation_of : ℕ → Option Operation
operation_of b =
    cond (b == 1) (Some Choose) (cond (b == 2) (Some AddClass) (cond (b == 3) (Some Start) (job_operation_of b)))

-- How many bytes a frame has, that of its operation included, where a value takes width bytes.
abbrev pub job_frame_length : ℕ → JobOperation → ℕ
job_frame_length width Begin = 4
job_frame_length width Read = 5
job_frame_length width Write = 4 + width
job_frame_length width Commit = 3
job_frame_length width GiveUp = 3
job_frame_length width Tick = 1

abbrev pub frame_length : ℕ → Operation → ℕ
frame_length width Choose = 4
frame_length width AddClass = 5
frame_length width Start = 2
frame_length width (Job job) = job_frame_length width job
