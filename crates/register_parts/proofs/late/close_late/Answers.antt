use Rattle.std.proofs.Common.{set, ap, arith}
use Rattle.register_parts.specs.LateJobs.{closed_if_late}
use Rattle.register_parts.specs.declared.bay.Bay.{Bay}
use Rattle.register_parts.specs.declared.bay.Bay.TheVariants.{Free}
use Rattle.register_parts.proofs.Changing.{change_next}
use Rattle.register_parts.proofs.late.close_late.Goals as goal

pub loop-bay-preserved : goal.loop-bay-preserved
loop-bay-preserved c =
    let now = c.loop-bay.bays in
    let i = c.loop-bay.bay-index in
    change_next (closed_if_late c.args.grade c.args.tick) c.args.bays.now now (set now i c.after_tick.result) i Free (omega arith) c.loop-bay.invariant
    (ap (λ (y : Bay). set now i y) c.after_tick.ensures)
