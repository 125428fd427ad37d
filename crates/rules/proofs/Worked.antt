-- The worked case, by computation.
use Rattle.std.proofs.Common.{refl}
use Rattle.sets.specs.Members.{overlap}
use Rattle.rules.specs.Worked.{StaleReader}

pub stale_reader : StaleReader
unfolding overlap
stale_reader = (refl, refl, refl)
