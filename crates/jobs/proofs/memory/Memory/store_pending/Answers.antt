use Rattle.std.proofs.Common.{◌≡◌, ◌-◌, ◌≤◌, List, map, length, get_or, sym, refl, ap, ◌∙◌, arith}
use Rattle.cells.specs.Cells.{versions}
use Rattle.jobs.specs.Represents.{bay_values, pending_of}
use Rattle.jobs.specs.Lent.{with_cells}
use Rattle.register_parts.specs.PendingPlaces.{pending_items}
use Rattle.jobs.specs.declared.memory.Memory.{Memory}
use Rattle.jobs.proofs.PendingLists.{length_beside}
use Rattle.jobs.proofs.PendingStores.{none_stored, stores_one, leaves_out}
use Rattle.jobs.proofs.BayPlaces.{eight_values, value_in}
use Rattle.jobs.proofs.memory.Memory.store_pending.Goals as goal

pub loop-k-init : goal.loop-k-init
loop-k-init g c =
    let m = c.args.self.now in
    let p = c.args.pending in
    let values = bay_values m.pending.now c.args.id.class c.args.id.bay in
    let few : length (pending_items p) ≤ length values = omega (arith, eight_values m.pending.now c.args.id.class c.args.id.bay c.args.id.one_of_eight c.requires.1) in
    (refl, sym (none_stored c.args.items c.args.first c.args.number (pending_of p values) (map versions m.cells.now) c.len-k.result (omega (arith, length_beside (pending_items p) values few))))

pub loop-k-preserved-then-item-items : goal.loop-k-preserved-then-item-items
loop-k-preserved-then-item-items g c =
    let m = c.args.self.now in
    let p = c.args.pending in
    let k = c.loop-k.k in
    let values = bay_values m.pending.now c.args.id.class c.args.id.bay in
    let few : length (pending_items p) ≤ length values = omega (arith, eight_values m.pending.now c.args.id.class c.args.id.bay c.args.id.one_of_eight c.requires.1) in
    let same : c.loop-k.self.pending.now ≡ m.pending.now = ap (λ (t : Memory g.row.V.Denot g.row.R.Denot). t.pending.now) c.loop-k.invariant.0 in
    let value = c.pending_at-value.result in
    let is : value ≡ get_or values (k - 1) value =
    c.pending_at-value.ensures.reply ∙ ap (λ (ps : List g.row.V.Denot). get_or ps c.pending_index.result value) same
    ∙ rw c.pending_index.ensures (sym (value_in m.pending.now c.args.id.class c.args.id.bay c.args.id.one_of_eight (k - 1) value (omega arith))) in (
      ap (λ (t : Memory g.row.V.Denot g.row.R.Denot). with_cells t c.store.new.cells) c.loop-k.invariant.0,
      c.store.ensures.memory ∙ stores_one c.args.items c.args.first c.args.number p.count p.items values (map versions m.cells.now) (map versions c.loop-k.self.cells.now) k c.loop-k-test.true (omega arith) few c.loop-k.invariant.1 value is c.if-item-items.true,
    )

pub loop-k-preserved : goal.loop-k-preserved
loop-k-preserved g c =
    let m = c.args.self.now in
    let p = c.args.pending in
    let values = bay_values m.pending.now c.args.id.class c.args.id.bay in
    let few : length (pending_items p) ≤ length values = omega (arith, eight_values m.pending.now c.args.id.class c.args.id.bay c.args.id.one_of_eight c.requires.1) in (
      c.loop-k.invariant.0,
      leaves_out c.args.items c.args.first c.args.number p.count p.items values (map versions m.cells.now) (map versions c.loop-k.self.cells.now) c.loop-k.k c.loop-k-test.true (omega arith) few c.loop-k.invariant.1 c.if-item-items.false,
    )
