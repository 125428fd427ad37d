use Rattle.std.proofs.Common.{set, refl, Err, ap, ◌∙◌, rules}
use Rattle.std.proofs.lemmas.Result.{err_from_is_err_and}
use Rattle.rules.specs.Claims.{forgotten}
use Rattle.laws.specs.Calls.{by, give_up}
use Rattle.jobs.specs.Faults.{done_reply}
use Rattle.jobs.specs.Lent.{with_rules}
use Rattle.jobs.proofs.Exits.{at_reply, at_register, unchanged, with_rule}
use Rattle.jobs.proofs.Entrance.{outside, through, for_numbers}
use Rattle.jobs.proofs.RuleCalls.{rule_becomes}
use Rattle.jobs.proofs.GivingUp.{was_free, was_closed, was_open}
use Rattle.jobs.proofs.register.Register.give_up_job.Goals as goal

pub returns-in_err-id : goal.returns-in_err-id
returns-in_err-id g c =
    let o = g.O.ClassOrder in
    let v = g.V.Value in
    let r = g.R.LocalRule in
    let x = c.args.self.now in
    let m = c.args.memory.now in
    let q = by c.args.class c.args.bay give_up in
    let p = err_from_is_err_and c.from_residual.result c.from_residual.ensures.1 in
    unchanged o v r x m q (at_reply o v r x m q x m (ap done_reply (p.1 ∙ ap Err p.2))
    (outside o v r x m c.args.class c.args.bay give_up c.in_err-id.field-0.0 c.in_err-id.ensures.reply))

pub returns-in-Free : goal.returns-in-Free
returns-in-Free g c =
    let o = g.O.ClassOrder in
    let v = g.V.Value in
    let r = g.R.LocalRule in
    let x = c.args.self.now in
    let m = c.args.memory.now in
    let id = c.in_ok-id.id in
    let h = through o v r x m give_up id _ (search rules) c.bay.ensures.eight refl c.in_ok-id.ensures.reply c.in_ok-id.ensures.names c.in-Free.ensures.reply in
    for_numbers o v r x m give_up id c.in_ok-id.ensures.names
    (unchanged o v r x m (by id.class id.bay give_up) (was_free o v r x m id.class id.bay h))

pub returns-in-Closed : goal.returns-in-Closed
returns-in-Closed g c =
    let o = g.O.ClassOrder in
    let v = g.V.Value in
    let r = g.R.LocalRule in
    let x = c.args.self.now in
    let m = c.args.memory.now in
    let id = c.in_ok-id.id in
    let h = through o v r x m give_up id _ (search rules) c.bay.ensures.eight refl c.in_ok-id.ensures.reply c.in_ok-id.ensures.names c.in-Closed.ensures.reply in
    for_numbers o v r x m give_up id c.in_ok-id.ensures.names
    (unchanged o v r x m (by id.class id.bay give_up)
    (at_register o v r x m (by id.class id.bay give_up) _ m c.set_bay.ensures.state (was_closed o v r x m id.class id.bay h)))

pub returns-in-Open : goal.returns-in-Open
returns-in-Open g c =
    let o = g.O.ClassOrder in
    let v = g.V.Value in
    let r = g.R.LocalRule in
    let x = c.args.self.now in
    let m = c.args.memory.now in
    let id = c.in_ok-id.id in
    let h = through o v r x m give_up id _ (search rules) c.bay.ensures.eight refl c.in_ok-id.ensures.reply c.in_ok-id.ensures.names c.in-Open.ensures.reply in
    let m' = with_rules m (set m.rules.now id.class c.end_job.new.rule) in
    let w = rule_becomes r m id.class _ c.end_job.new.rule (forgotten id.bay) h.in_rules c.end_job.ensures.rule in
    for_numbers o v r x m give_up id c.in_ok-id.ensures.names
    (with_rule o v r x m id.class id.bay give_up h.in_classes h.in_bays w
    (at_register o v r x m (by id.class id.bay give_up) _ m' c.end_job.ensures.state (was_open o v r x m id.class id.bay c.in-Open.field-0 h m' w)))
