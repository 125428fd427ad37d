use Rattle.std.proofs.Common.{◌^◌, ◌<◌, slice_index, ap, ◌∙◌, arith}
use Rattle.std.specs.Result.{result_map_both}
use Rattle.std.proofs.lemmas.Result.{err_from_is_err_and}
use Rattle.lines.specs.Drafts.{drawn}
use Rattle.lines.specs.LineFaults.{fault_of_order}
use Rattle.lines.proofs.FirstClasses.{first_drawn}
use Rattle.lines.proofs.plan_order.first_class.Goals as goal

pub returns-in_err-order-in-Drawn : goal.returns-in_err-order-in-Drawn
returns-in_err-order-in-Drawn c =
    let p = err_from_is_err_and c.from_residual.result c.from_residual.ensures.1 in
    let m = c.from_be_bytes.result in
    let fits : m < 2 ^ 64 = omega (arith, c.from_be_bytes.ensures) in
    record { reply = rw (p.1, p.2, c.in-Drawn.is) (ap (result_map_both drawn fault_of_order) c.in_err-order-in-Drawn.ensures ∙ first_drawn (slice_index c.args.place 0) (slice_index c.args.place 1) m c.from_be_bytes.ensures fits) }

pub returns-in_ok-order-in-Drawn : goal.returns-in_ok-order-in-Drawn
returns-in_ok-order-in-Drawn c =
    let m = c.from_be_bytes.result in
    let fits : m < 2 ^ 64 = omega (arith, c.from_be_bytes.ensures) in
    record { reply = rw c.in-Drawn.is (ap (result_map_both drawn fault_of_order) c.in_ok-order-in-Drawn.ensures ∙ first_drawn (slice_index c.args.place 0) (slice_index c.args.place 1) m c.from_be_bytes.ensures fits) }
