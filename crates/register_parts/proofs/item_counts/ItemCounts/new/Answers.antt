use Rattle.std.proofs.Common.{◌≡◌, ℕ, ◌<◌, List, length, get_or, sym, arith}
use lib.ListN.{length-map}
use Rattle.std.proofs.lemmas.List.{get_or-map}
use Rattle.register_parts.specs.CheckedCounts.{said}
use Rattle.register_parts.specs.declared.class_setup.ClassSetup.{ClassSetup}
use Rattle.register_parts.proofs.ItemCounting.{counted_next, too_many_items, table_small, table_sum}
use Rattle.register_parts.proofs.item_counts.ItemCounts.new.Goals as goal

-- As many counts as records, and each is that of its record.
as_many : (records : List ClassSetup) → length (said records) ≡ length records
as_many records = length-map records (λ (x : ClassSetup). x.items)

count_at : (records : List ClassSetup) (i : ℕ) → i < length records → (get_or records i (record { items = 0 })).items ≡ get_or (said records) i 0
count_at records i h = sym (get_or-map (λ (x : ClassSetup). x.items) records i (record { items = 0 }) 0 h)

pub returns-then-record-gt-MOST_ITEMS : goal.returns-then-record-gt-MOST_ITEMS
returns-then-record-gt-MOST_ITEMS c =
    let records = c.args.records.now in
    let i = c.loop-class.class in
    let n = as_many records in
    let within : i < length records = omega arith in
    record { reply = too_many_items (said records) (omega arith) i (omega arith) (omega (arith, count_at records i within)) }

pub loop-class-preserved : goal.loop-class-preserved
loop-class-preserved c =
    let records = c.args.records.now in
    let i = c.loop-class.class in
    let n = as_many records in
    let within : i < length records = omega arith in
    rw c.from-sum.ensures (counted_next (said records) c.loop-class.items i c.loop-class.sum (get_or records i (record { items = 0 })).items c.loop-class.invariant (omega arith) (omega arith) (count_at records i within) (omega arith))

pub invariant_of-result : goal.invariant_of-result
invariant_of-result c =
    let records = c.args.records.now in
    let n = as_many records in record {
      few = table_small (said records) (omega arith) c.loop-class.items c.loop-class.class c.loop-class.sum c.loop-class.invariant (omega arith);
      few_in_all = table_sum (said records) (omega arith) c.loop-class.items c.loop-class.class c.loop-class.sum c.loop-class.invariant (omega arith) (omega arith);
    }
