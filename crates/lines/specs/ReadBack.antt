-- A value that is written and read back by lines is the same, byte for byte.
use Rattle.std.specs.Prelude.{◌≡◌, ℕ, List, [], ◌∷◌, drop, Some}
use Rattle.cells.specs.declared.value.Value.{Ghosts as ValueGhosts}
use Rattle.orders.specs.declared.class_order.ClassOrder.{Ghosts as OrderGhosts}
use Rattle.rules.specs.declared.local_rule.LocalRule.{Ghosts as RuleGhosts}
use Rattle.laws.specs.Calls.{got}
use Rattle.jobs.specs.Requests.{to_write}
use Rattle.jobs.specs.Represents.{defined}
use Rattle.jobs.specs.declared.memory.Memory.{Memory}
use Rattle.jobs.specs.declared.register.Register.{Register}
use Rattle.lines.specs.Operations.{byte}
use Rattle.lines.specs.JobLines.{request_of}
use Rattle.lines.specs.Replies.{reply_bytes}
use Rattle.lines.specs.declared.operation.JobOperation.{JobOperation}
use Rattle.lines.specs.declared.operation.JobOperation.TheVariants.{Read, Write}

-- The frame that reads the item that a frame writes, for the same bay of the same class.
abbrev pub own_read : List ℕ → List ℕ
own_read frame = 32 ∷ byte 1 frame ∷ byte 2 frame ∷ byte 1 frame ∷ byte 3 frame ∷ []

-- A frame got this answer, and left register x and memory m.
pub record ReadsBack {O V R : Type 0} (o : OrderGhosts O) (v : ValueGhosts V) (r : RuleGhosts R) (job : JobOperation) (frame answer : List ℕ) (x : Register O) (m : Memory V R) : Type 0 where
  -- Whoever is told the value that the frame writes is told its bytes, just as they stand in the frame.
  pub same_bytes : (c b i : ℕ) (value : V) → request_of v job frame ≡ to_write c b i (Some value) → reply_bytes v (got value) ≡ 0 ∷ drop 4 frame
  -- After an accepted write the writer itself, if it reads the item next, is told them.
  pub own : job ≡ Write → answer ≡ 0 ∷ [] → reply_bytes v (defined o v r x m (request_of v Read (own_read frame))).reply ≡ 0 ∷ drop 4 frame
