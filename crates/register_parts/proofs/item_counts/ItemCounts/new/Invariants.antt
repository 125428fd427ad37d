use Rattle.register_parts.specs.CheckedCounts.{said}
use Rattle.register_parts.proofs.ItemCounting.{Counted}
use Rattle.register_parts.proofs.item_counts.ItemCounts.new.Given as goal

abbrev pub invariant-loop-class : goal.invariant-loop-class
invariant-loop-class l = Counted (said l.records) l.items l.class l.sum
