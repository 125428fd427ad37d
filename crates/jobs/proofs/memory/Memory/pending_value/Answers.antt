use Rattle.std.proofs.Common.{◌≡◌, ◌+◌, get_or, Some, sym, ap, ◌∙◌, arith}
use Rattle.jobs.specs.Represents.{pending_place, bay_values}
use Rattle.register_parts.specs.PendingPlaces.{pending_items, place}
use Rattle.register_parts.proofs.ItemPlaces as places
use Rattle.jobs.proofs.BayPlaces.{eight_values, value_in}
use Rattle.jobs.proofs.FoundValues.{found_at, not_found}
use Rattle.jobs.proofs.memory.Memory.pending_value.Goals as goal

pub returns : goal.returns
returns g c =
    let pending = c.args.self.now.pending.now in
    let items = pending_items c.args.pending in
    let class = c.args.id.class in
    let bay = c.args.id.bay in
    let values = bay_values pending class bay in
    let first = pending_place class bay in
    let v = c.pending_at.result in
    let eight = eight_values pending class bay c.args.id.one_of_eight c.requires in
    let there = places.found_at c.args.item items c.in_ok-place.place c.in_ok-place.ensures.reply in
    let value : get_or values (place c.args.item items) v ≡ v =
    value_in pending class bay c.args.id.one_of_eight (place c.args.item items) v (omega (arith, there, c.find.ensures.few))
    ∙ ap (λ k. get_or pending (first + k) v) (sym there.0)
    ∙ ap (λ k. get_or pending k v) (sym c.pending_index.ensures)
    ∙ sym c.pending_at.ensures.reply in
    record { reply = sym (found_at c.args.item items values v there.1 (omega (arith, c.find.ensures.few)) ∙ ap Some value) }

pub returns-in_err-place : goal.returns-in_err-place
returns-in_err-place g c =
    let items = pending_items c.args.pending in
    record { reply = c.from_residual.ensures ∙ sym (not_found c.args.item items _ (places.not_found c.args.item items c.in_err-place.ensures.reply)) }
