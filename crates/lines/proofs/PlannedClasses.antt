-- A class frame, by its tests: what the plan becomes, and what still holds of it.
use Rattle.std.proofs.Common.{◌≡◌, ℕ, ◌+◌, ◌*◌, ◌<◌, ◌≤◌, Bool, true, false, cond, ◌&&◌, leb, List, [], ◌∷◌, ◌++◌, length, take, set, Ok, Err, sum, sym, ap, ◌∙◌, arith}
use Rattle.std.proofs.lemmas.List.{length-append}
use Rattle.std.proofs.lemmas.List.Sums.{sum_by_push}
use Rattle.std.proofs.lemmas.Bool.{and_parts, leb-true, eq-eqb, ne_eqb}
use Rattle.sets.specs.Members.{has_bit, all_under}
use Rattle.orders.specs.Links.{bit_set}
use Rattle.orders.specs.LabelledOrders.{make_label, used}
use Rattle.register_parts.specs.CheckedCounts.{said, each_at_most, checked_counts}
use Rattle.register_parts.specs.declared.setup_fault.SetUpFault.{SetUpFault}
use Rattle.lines.specs.Drafts.{Classes, drawn, labelled, class_count, one_more, with_classes, with_class}
use Rattle.lines.specs.LineFaults.{fault_of_setup}
use Rattle.lines.specs.Plans.{draft_of}
use Rattle.lines.specs.declared.line_fault.LineFault.TheVariants.{OutOfRange, Unfit}
use Rattle.lines.specs.declared.plan.Plan.{Plan}
use Rattle.lines.proofs.PlannedItems.{said_length, said_push, each_push, refused_count, good_count}

-- Where a class is added, there is one class more.
pub one_class_more : (k : Classes) (high low : ℕ) (k' : Classes) → Ok k' ≡ one_more k high low → class_count k' ≡ class_count k + 1
one_class_more (drawn sets) high low k' e = go (all_under (length sets) (has_bit (high * 256 + low))) e
  where
    go : (q : Bool) → Ok k' ≡ cond q (Ok (drawn (sets ++ (bit_set (high * 256 + low) ∷ [])))) (Err Unfit) → class_count k' ≡ length sets + 1
    go true e = let is : k' ≡ drawn (sets ++ (bit_set (high * 256 + low) ∷ [])) = cc in ap class_count is ∙ length-append sets (bit_set (high * 256 + low) ∷ [])
    go false e = let z : ◌≡◌ {A = ℕ} 0 1 = cc in absurd (omega arith)
one_class_more (labelled labels) high low k' e = go (leb high 15) (used labels (make_label high low)) e
  where
    go : (q u : Bool) → Ok k' ≡ cond q (cond u (Err Unfit) (Ok (labelled (labels ++ (make_label high low ∷ []))))) (Err OutOfRange) → class_count k' ≡ length labels + 1
    go true true e = let z : ◌≡◌ {A = ℕ} 0 1 = cc in absurd (omega arith)
    go true false e = let is : k' ≡ labelled (labels ++ (make_label high low ∷ [])) = cc in ap class_count is ∙ length-append labels (make_label high low ∷ [])
    go false u e = let z : ◌≡◌ {A = ℕ} 0 1 = cc in absurd (omega arith)

pub as_many_items : (p : Plan) → length (draft_of p).items ≡ p.count
as_many_items p = said_length p.count p.records (omega (arith, p.full, p.few, p.so_far))

-- A plan and a frame: the number of a class, its place in the order, and its item count n.
module _ (p : Plan) (class high low n : ℕ) where
  -- The item counts with the new record at its place.
  abbrev pub counts_with : List ℕ
  counts_with = said (take (class + 1) (set p.records class (record { items = n })))

  pub wrong_number : (class ≡ p.count → ⊥) → Err OutOfRange ≡ with_class (draft_of p) class high low n
  wrong_number h = rw (ne_eqb class (length (draft_of p).items) (λ e. h (e ∙ as_many_items p)))

  module _ (next : class ≡ p.count) (less : p.count < p.wanted) where
    is_next : class ≡ length (draft_of p).items
    is_next = next ∙ sym (as_many_items p)

    few : length (draft_of p).items < 16
    few = omega (arith, as_many_items p, p.few)

    pub one_count_more : counts_with ≡ (draft_of p).items ++ (n ∷ [])
    one_count_more =
        said_push class p.records (record { items = n }) (omega (arith, p.full, p.few))
        ∙ ap (λ j. said (take j p.records) ++ (n ∷ [])) next

    pub wrong_count : (e : SetUpFault) → Err e ≡ checked_counts counts_with → Err (fault_of_setup e) ≡ with_class (draft_of p) class high low n
    wrong_count e h =
        let r = refused_count (draft_of p).items n few p.few_items e (h ∙ ap checked_counts one_count_more) in
        rw (eq-eqb class (length (draft_of p).items) is_next, r.0) (ap Err r.1)

    module _ (table : List ℕ) (h : Ok table ≡ checked_counts counts_with) where
      in_range : (leb n 64 && leb (sum (draft_of p).items + n) 256) ≡ true
      in_range = good_count (draft_of p).items n few p.few_items table (h ∙ ap checked_counts one_count_more)

      pub right_count : with_classes (draft_of p) n (one_more (draft_of p).classes high low) ≡ with_class (draft_of p) class high low n
      right_count = rw (eq-eqb class (length (draft_of p).items) is_next, in_range)

      pub still_few_items : each_at_most 64 counts_with ≡ true
      still_few_items =
          ap (each_at_most 64) one_count_more ∙ each_push 64 (draft_of p).items n p.few_items
          ∙ (and_parts (leb n 64) (leb (sum (draft_of p).items + n) 256) in_range).0

      pub still_few_in_all : sum counts_with ≤ 256
      still_few_in_all =
          let s : sum counts_with ≡ sum (draft_of p).items + n = ap sum one_count_more ∙ sum_by_push (λ (x : ℕ). x) (draft_of p).items n in
          omega (arith, leb-true (sum (draft_of p).items + n) 256 (and_parts (leb n 64) (leb (sum (draft_of p).items + n) 256) in_range).1)
