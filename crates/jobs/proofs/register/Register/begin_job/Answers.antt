use Rattle.std.proofs.Common.{Err, ap, ◌∙◌, rules}
use Rattle.std.proofs.lemmas.Result.{err_from_is_err_and}
use Rattle.laws.specs.Calls.{Action, by, begin}
use Rattle.jobs.specs.Faults.{done_reply}
use Rattle.jobs.proofs.Exits.{at_reply, at_register, unchanged}
use Rattle.jobs.proofs.Entrance.{outside, not_known, through, for_numbers}
use Rattle.jobs.proofs.Beginning.{kind_known, kind_unknown, was_free, not_free}
use Rattle.jobs.proofs.register.Register.begin_job.Goals as goal

pub returns-in_err-id : goal.returns-in_err-id
returns-in_err-id g c =
    let o = g.O.ClassOrder in
    let v = g.V.Value in
    let r = g.R.LocalRule in
    let x = c.args.self.now in
    let m = c.args.memory.now in
    let q = by c.args.class c.args.bay (begin c.args.kind) in
    let p = err_from_is_err_and c.from_residual.result c.from_residual.ensures.1 in
    unchanged o v r x m q (at_reply o v r x m q x m (ap done_reply (p.1 ∙ ap Err p.2))
    (outside o v r x m c.args.class c.args.bay (begin c.args.kind) c.in_err-id.field-0.0 c.in_err-id.ensures.reply))

pub returns-in_err-kind : goal.returns-in_err-kind
returns-in_err-kind g c =
    let o = g.O.ClassOrder in
    let v = g.V.Value in
    let r = g.R.LocalRule in
    let x = c.args.self.now in
    let m = c.args.memory.now in
    let q = by c.args.class c.args.bay (begin c.args.kind) in
    let p = err_from_is_err_and c.from_residual-in_err-kind.result c.from_residual-in_err-kind.ensures.1 in
    unchanged o v r x m q (at_reply o v r x m q x m (ap done_reply (p.1 ∙ ap Err p.2))
    (not_known o v r x m c.args.class c.args.bay (begin c.args.kind) _ c.in_ok-id.ensures.reply (kind_unknown _ c.args.kind c.in_err-kind.ensures)))

pub returns-in-Free : goal.returns-in-Free
returns-in-Free g c =
    let o = g.O.ClassOrder in
    let v = g.V.Value in
    let r = g.R.LocalRule in
    let x = c.args.self.now in
    let m = c.args.memory.now in
    let a : Action g.row.V.Denot = begin c.args.kind in
    let id = c.in_ok-id.id in
    let h = through o v r x m a id _ (search rules) c.bay.ensures.eight (kind_known _ c.args.kind c.in_ok-kind.ensures) c.in_ok-id.ensures.reply c.in_ok-id.ensures.names c.in-Free.ensures.reply in
    for_numbers o v r x m a id c.in_ok-id.ensures.names
    (unchanged o v r x m (by id.class id.bay a)
    (at_register o v r x m (by id.class id.bay a) _ m c.set_bay.ensures.state
    (was_free o v r x m id.class id.bay c.args.kind c.in_ok-kind.kind c.in_ok-kind.ensures c.new_job-job.result c.new_job-job.ensures.reply h)))

pub returns-in-Closed : goal.returns-in-Closed
returns-in-Closed g c =
    let o = g.O.ClassOrder in
    let v = g.V.Value in
    let r = g.R.LocalRule in
    let x = c.args.self.now in
    let m = c.args.memory.now in
    let a : Action g.row.V.Denot = begin c.args.kind in
    let id = c.in_ok-id.id in
    let h = through o v r x m a id _ (search rules) c.bay.ensures.eight (kind_known _ c.args.kind c.in_ok-kind.ensures) c.in_ok-id.ensures.reply c.in_ok-id.ensures.names c.bay.ensures.reply in
    for_numbers o v r x m a id c.in_ok-id.ensures.names
    (unchanged o v r x m (by id.class id.bay a) (not_free o v r x m id.class id.bay c.args.kind c.bay.result c.in-Closed.is h))
