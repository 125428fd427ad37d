use Rattle.std.proofs.Common.{Some, Ok, Err, Result, sym, ap, ◌∙◌, subst}
use Rattle.std.proofs.lemmas.Result.{err_from_is_err_and}
use Rattle.orders.specs.contracts.chosen_order.ChosenOrderClassOrder.TheImpl.{ghosts as orders}
use Rattle.orders.specs.declared.chosen_order.ChosenOrder.{ChosenOrder}
use Rattle.rules.specs.ChosenRules.{chosen_rule as rules}
use Rattle.laws.specs.Setting.{Setting}
use Rattle.jobs.specs.declared.register.Register.{Register}
use Rattle.lines.specs.Drafts.{drafted}
use Rattle.lines.specs.FreshRegisters.{set_up_with, Opened}
use Rattle.lines.specs.JobLines.{room_of}
use Rattle.lines.specs.Openings.{fault_in, OpenedIf}
use Rattle.lines.specs.Plans.{draft_of}
use Rattle.lines.specs.declared.line_fault.LineFault.{LineFault}
use Rattle.lines.proofs.PlannedRegisters.{plan_in_range, plan_setting, opening_fault_is}
use Rattle.lines.proofs.plan.Plan.open.Goals as goal

pub open_register-requires : goal.open_register-requires
open_register-requires g c = plan_in_range c.args.self c.in-Classes.order c.in-Classes.is

pub returns-in_err-register : goal.returns-in_err-register
returns-in_err-register g c =
    let p = c.args.self in
    let v = g.V.Value in
    let S = set_up_with orders v rules c.in-Classes.order (draft_of p).items c.args.variant in
    let so = plan_setting p c.in-Classes.order c.in-Classes.is v c.args.variant in
    let e = err_from_is_err_and c.from_residual.result c.from_residual.ensures.1 in
    let done = c.in_err-register.ensures in
    record {
      reply =
          ap fault_in e.1 ∙ ap Some e.2
          ∙ opening_fault_is (room_of c.args.memory.now) S (drafted v (draft_of p) c.args.variant) c.args.variant (Err c.in_err-register.field-0.0) done.reply so;
      state = subst (λ (z : Result (Register ChosenOrder) LineFault). OpenedIf v (drafted v (draft_of p) c.args.variant) c.args.memory.now z c.open_register.new.memory) (sym e.1) done.state;
    }

pub returns : goal.returns
returns g c =
    let p = c.args.self in
    let v = g.V.Value in
    let S = set_up_with orders v rules c.in-Classes.order (draft_of p).items c.args.variant in
    let so = plan_setting p c.in-Classes.order c.in-Classes.is v c.args.variant in
    let done = c.in_ok-register.ensures in
    record {
      reply = opening_fault_is (room_of c.args.memory.now) S (drafted v (draft_of p) c.args.variant) c.args.variant (Ok tt) done.reply so;
      state = subst (λ (S : Setting g.row.V.Denot). Opened orders v rules S c.args.memory.now c.in_ok-register.register c.open_register.new.memory) so done.state;
    }
