use Rattle.std.proofs.Common.{◌≡◌, None, length, set, get_or, ap, ◌∙◌, arith}
use lib.ListN.{length-map}
use Rattle.std.proofs.lemmas.List.Edits.{map_over_more}
use Rattle.std.proofs.lemmas.List.{get_or_default, length-append, length-take, length-drop}
use Rattle.exclusive_rule.specs.Holds.{released_by}
use Rattle.exclusive_rule.proofs.exclusive.release_all.Goals as goal

pub loop-held-preserved : goal.loop-held-preserved
loop-held-preserved c =
    let old = c.args.holds.now in
    let now = c.loop-held.holds in
    let i = c.loop-held.held-index in
    let x = get_or now i None in
    let so_far = c.loop-held.invariant in
    let n : length now ≡ length old = ap length so_far ∙ simp (length-append, length-map, length-take, length-drop) (omega arith) in
    ap (λ y. set now i y) c.without.ensures ∙ map_over_more (released_by c.args.bay) old now i x (omega arith) so_far (get_or_default now i None x (omega arith))
