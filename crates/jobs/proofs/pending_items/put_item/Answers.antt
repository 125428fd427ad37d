use Rattle.std.proofs.Common.{◌≡◌, length, add-one, arith, rules}
use Rattle.std.proofs.lemmas.List.{length-take}
use Rattle.register_parts.proofs.ItemPlaces.{put_within, put_behind}
use Rattle.jobs.proofs.pending_items.put_item.Goals as goal

pub returns-then-place-pending : goal.returns-then-place-pending
returns-then-place-pending c =
    let eight : length c.args.pending.now.items ≡ 8 = search rules in
    let most = simp length-take at c.requires.1 in
    let at_end : c.args.pending.now.count ≡ c.args.place = omega arith in
    record { state = rw (add-one, at_end) (put_behind c.args.pending.now.items c.args.place c.args.item (omega arith)) }

pub returns-else-place-pending : goal.returns-else-place-pending
returns-else-place-pending c =
    let eight : length c.args.pending.now.items ≡ 8 = search rules in
    record { state = put_within c.args.pending.now.count c.args.pending.now.items c.args.place c.args.item (omega arith) (omega arith) }
