use Rattle.std.proofs.Common.{refl}
use Rattle.register_io.proofs.memory.with_memory.Goals as goal

pub returns : goal.returns
returns g c =
    record { served = (_, _, refl, record { shown = _; shows = refl; left = _; met = c.serve.ensures; leaves = refl }) }
