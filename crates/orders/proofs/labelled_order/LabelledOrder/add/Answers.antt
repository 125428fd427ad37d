use Rattle.std.proofs.Common.{◌≡◌, ◌<◌, true, false, ltb, leb, length, sym, add-one, arith, take-suc-set}
use Rattle.std.proofs.lemmas.Bool.{lt-ltb, le-leb}
use Rattle.orders.specs.LabelledOrders.{labels_of, make_label, used}
use Rattle.orders.proofs.LabelGrowth.{still_labelled, still_distinct}
use Rattle.orders.proofs.labelled_order.LabelledOrder.add.Goals as goal

pub invariant_of-self : goal.invariant_of-self
invariant_of-self c =
    let s = c.args.self.now in
    let l = make_label c.args.rank c.args.compartments in
    let i : s.count < length s.labels = omega arith in
    rw (add-one, take-suc-set s.labels s.count l i) (record {
      labelled = still_labelled (labels_of s) l s.count s.labelled (omega arith) (omega arith) (omega arith);
      distinct = still_distinct (labels_of s) l (sym c.if-has_label.ensures) s.distinct;
    })

pub returns : goal.returns
returns c =
    let s = c.args.self.now in
    let l = make_label c.args.rank c.args.compartments in
    let i : s.count < length s.labels = omega arith in
    let few : ltb (length (labels_of s)) 16 ≡ true = lt-ltb (length (labels_of s)) 16 (omega (arith, s.labelled.2)) in
    let rank : leb c.args.rank 15 ≡ true = le-leb c.args.rank 15 c.if-rank-gt-MAX_RANK.false in
    let unused : used (labels_of s) l ≡ false = sym c.if-has_label.ensures in
    record { reply = rw (few, rank, unused); state = rw (few, rank, unused, add-one) (take-suc-set s.labels s.count l i) }
