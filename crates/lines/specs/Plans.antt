-- The draft that a plan stands for.
use Rattle.std.specs.Prelude.{◌≡◌, ◌<◌, Bool, true, false, take, Ok, Err, Result}
use Rattle.register_parts.specs.CheckedCounts.{said}
use Rattle.lines.specs.Drafts.{Draft}
use Rattle.lines.specs.PlanParts.{classes_so_far}
use Rattle.lines.specs.declared.line_fault.LineFault.{LineFault}
use Rattle.lines.specs.declared.plan.Plan.{Plan}

abbrev pub draft_of : Plan → Draft
draft_of p = record {
  values = p.values;
  wanted = p.wanted;
  classes = classes_so_far p.order;
  items = said (take p.count p.records);
}

abbrev pub draft_in : Result Plan LineFault → Result Draft LineFault
draft_in (Ok p) = Ok (draft_of p)
draft_in (Err e) = Err e

-- What it says of the numbers of classes that all are there, or not.
abbrev pub CompleteIf : Plan → Bool → Type 0
CompleteIf p true = p.count ≡ p.wanted
CompleteIf p false = p.count < p.wanted
