-- Which phase a session and the memory lent to it stand for.
use Rattle.cells.specs.contracts.word.U32Value.TheImpl.{ghosts as words}
use Rattle.cells.specs.contracts.slip.SlipValue.TheImpl.{ghosts as slips}
use Rattle.orders.specs.contracts.chosen_order.ChosenOrderClassOrder.TheImpl.{ghosts as orders}
use Rattle.orders.specs.declared.chosen_order.ChosenOrder.{ChosenOrder}
use Rattle.rules.specs.ChosenRules.{chosen_rule as rules}
use Rattle.jobs.specs.Represents.{setting, state}
use Rattle.jobs.specs.declared.register.Register.{Register}
use Rattle.lines.specs.Plans.{draft_of}
use Rattle.lines.specs.Phases.{Phase, opening, planning, serving_words, serving_slips}
use Rattle.lines.specs.declared.kinds.ValueKind.{ValueKind}
use Rattle.lines.specs.declared.kinds.ValueKind.TheVariants.{Words, Slips}
use Rattle.lines.specs.declared.session.Session.{Session}
use Rattle.lines.specs.declared.stage.Stage.{Stage}
use Rattle.lines.specs.declared.stage.Stage.TheVariants.{Opening, Planning, Serving}
use Rattle.lines.specs.declared.supplied.Supplied.{Supplied}

-- A register with the memory lent for the kind of its values.
abbrev pub serving : ValueKind → Register ChosenOrder → Supplied → Phase
serving Words x m = serving_words (setting orders words rules x) (state orders words rules x m.words)
serving Slips x m = serving_slips (setting orders slips rules x) (state orders slips rules x m.slips)

abbrev pub at_stage : Stage → Supplied → Phase
at_stage Opening m = opening
at_stage (Planning plan) m = planning (draft_of plan)
at_stage (Serving values register) m = serving values register m

abbrev pub phase_of : Session → Supplied → Phase
phase_of s m = at_stage s.stage m
