use Rattle.std.proofs.Common.{ℕ, subst}
use Rattle.jobs.specs.Represents.{LeadsTo}
use Rattle.jobs.specs.Requests.{to_begin}
use Rattle.tickets.proofs.ticket.Ticket.begin.Goals as goal

pub returns-in_err-begin-clause-state : goal.returns-in_err-begin-clause-state
returns-in_err-begin-clause-state g c =
    let x = c.args.register.now in
    let m = c.args.memory.now in
    subst (λ (n : ℕ). LeadsTo g.O.ClassOrder g.V.Value g.R.LocalRule x m (to_begin c.args.class c.args.bay n) c.begin.new.self m) c.NUMBER.ensures c.begin.ensures.state

pub returns-clause-state : goal.returns-clause-state
returns-clause-state g c =
    let x = c.args.register.now in
    let m = c.args.memory.now in
    subst (λ (n : ℕ). LeadsTo g.O.ClassOrder g.V.Value g.R.LocalRule x m (to_begin c.args.class c.args.bay n) c.begin.new.self m) c.NUMBER.ensures c.begin.ensures.state
