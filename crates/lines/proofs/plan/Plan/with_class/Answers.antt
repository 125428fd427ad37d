use Rattle.std.proofs.Common.{ℕ, ◌+◌, List, Ok, Err, Result, slice_index, sym, ap, ◌∙◌, arith}
use Rattle.std.proofs.lemmas.List.{length-set}
use Rattle.std.proofs.lemmas.Result.{err_from_is_err_and}
use Rattle.lines.specs.Drafts.{Draft, classes_in, with_classes}
use Rattle.lines.specs.PlanParts.{classes_so_far}
use Rattle.lines.specs.Plans.{draft_of, draft_in}
use Rattle.lines.specs.declared.line_fault.LineFault.{LineFault}
use Rattle.lines.proofs.PlannedClasses.{one_class_more, wrong_number, one_count_more, wrong_count, right_count, still_few_items, still_few_in_all}
use Rattle.lines.proofs.plan.Plan.with_class.Goals as goal

pub returns-then-class-self : goal.returns-then-class-self
returns-then-class-self c = record { reply = wrong_number c.args.self c.args.class (slice_index c.args.place 0) (slice_index c.args.place 1) c.args.items c.if-class-self.true }

pub returns-in_err-new : goal.returns-in_err-new
returns-in_err-new c =
    let e = err_from_is_err_and c.from_residual.result c.from_residual.ensures.1 in
    let wrong = wrong_count c.args.self c.args.class (slice_index c.args.place 0) (slice_index c.args.place 1) c.args.items c.if-class-self.false c.requires
    c.in_err-new.field-0.0 c.in_err-new.ensures.reply in
    record { reply = ap draft_in e.1 ∙ ap Err e.2 ∙ wrong }

pub returns-in_err-order : goal.returns-in_err-order
returns-in_err-order c =
    let p = c.args.self in
    let n = c.args.items in
    let e = err_from_is_err_and c.from_residual-in_err-order.result c.from_residual-in_err-order.ensures.1 in
    let right = right_count p c.args.class (slice_index c.args.place 0) (slice_index c.args.place 1) n c.if-class-self.false c.requires
    c.in_ok-new.field-0.items c.in_ok-new.ensures.reply in
    record { reply = ap draft_in e.1 ∙ ap Err e.2 ∙ ap (with_classes (draft_of p) n) c.in_err-order.ensures.reply ∙ right }

pub invariant_of-result : goal.invariant_of-result
invariant_of-result c =
    let p = c.args.self in
    let class = c.args.class in
    let n = c.args.items in
    let high = slice_index c.args.place 0 in
    let low = slice_index c.args.place 1 in
    let next = c.if-class-self.false in
    let table = c.in_ok-new.field-0.items in
    let checked = c.in_ok-new.ensures.reply in
    let more = one_class_more (classes_so_far p.order) high low (classes_in c.in_ok-order.order) c.in_ok-order.ensures.reply in
    record {
      full = length-set p.records class (record { items = n }) ∙ p.full;
      some = p.some;
      few = p.few;
      so_far = omega arith;
      ordered = more ∙ ap (λ k. k + 1) (p.ordered ∙ sym next);
      few_items = still_few_items p class high low n next c.requires table checked;
      few_in_all = still_few_in_all p class high low n next c.requires table checked;
    }

pub returns : goal.returns
returns c =
    let p = c.args.self in
    let class = c.args.class in
    let n = c.args.items in
    let high = slice_index c.args.place 0 in
    let low = slice_index c.args.place 1 in
    let next = c.if-class-self.false in
    let planned : List ℕ → Result Draft LineFault = λ items. Ok (record { values = p.values; wanted = p.wanted; classes = classes_in c.in_ok-order.order; items = items }) in
    record {
      reply =
          ap planned (one_count_more p class high low n next c.requires)
          ∙ ap (with_classes (draft_of p) n) c.in_ok-order.ensures.reply
          ∙ right_count p class high low n next c.requires c.in_ok-new.field-0.items c.in_ok-new.ensures.reply;
    }
