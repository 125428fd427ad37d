use Rattle.std.proofs.Common.{◌∙◌}
use Rattle.jobs.proofs.Filling.{has_variant}
use Rattle.jobs.proofs.fill_memory.has_variant.Goals as goal

pub returns : goal.returns
returns g c = c.is_some.ensures ∙ has_variant g.R.LocalRule c.args.variant c.fresh.result c.fresh.ensures
