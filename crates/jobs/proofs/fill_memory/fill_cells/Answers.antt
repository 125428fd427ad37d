use Rattle.std.proofs.Common.{refl, rules}
use Rattle.jobs.specs.SetUp.{FreshCell}
use Rattle.jobs.proofs.Overwriting.{overwritten_all}
use Rattle.jobs.proofs.fill_memory.fill_cells.Goals as goal

pub returns : goal.returns
returns g c = overwritten_all (FreshCell g.V.Value) c.args.cells.now c.fill_first.new.places c.args.items c.fill_first.ensures refl (λ y p. search rules)
