use Rattle.std.proofs.Common.{suc, Bool, cond, Err, sym, ap, ◌∙◌}
use Rattle.std.proofs.lemmas.Result.{err_from_is_err_and}
use Rattle.register_parts.specs.ClockCalls.{Shows}
use Rattle.jobs.specs.Faults.{fault_reply, tick_reply}
use Rattle.jobs.specs.Lent.{none}
use Rattle.jobs.proofs.LentChanges.{nothing_changed}
use Rattle.jobs.proofs.Ticking.{advanced, stopped, at_end, ticks, rules_changed}
use Rattle.jobs.proofs.register.Register.tick_clock.Goals as goal

pub returns-in_err-tick : goal.returns-in_err-tick
returns-in_err-tick g c =
    let x = c.args.self.now in
    let m = c.args.memory.now in
    let p = err_from_is_err_and c.from_residual.result c.from_residual.ensures.1 in
    let a = stopped x.clock c.in_err-tick.field-0.0 c.in_err-tick.ensures.reply in
    let shows : Shows c.advance.new.self x.clock.top x.clock.ticks =
    (c.advance.ensures.state.0, c.advance.ensures.state.1 ∙ ap (λ (q : Bool). cond q (suc x.clock.ticks) x.clock.ticks) a.0) in
    let e = at_end g.O.ClassOrder g.V.Value g.R.LocalRule x m (sym c.if-not-has_enough.ensures.reply) a.0 c.advance.new.self shows in
    record { reply = ap tick_reply (p.1 ∙ ap Err p.2) ∙ ap fault_reply a.1 ∙ e.0; state = e.1; memory = nothing_changed none none m _ }

pub returns : goal.returns
returns g c =
    let o = g.O.ClassOrder in
    let v = g.V.Value in
    let r = g.R.LocalRule in
    let x = c.args.self.now in
    let m = c.args.memory.now in
    let d = c.in_ok-tick.tick in
    let a = advanced x.clock d (sym c.in_ok-tick.was ∙ c.advance.ensures.reply) in
    let shows : Shows c.advance.new.self x.clock.top (suc x.clock.ticks) =
    (c.advance.ensures.state.0, c.advance.ensures.state.1 ∙ ap (λ (q : Bool). cond q (suc x.clock.ticks) x.clock.ticks) a.0) in
    let e = ticks o v r x m c.advance.new.self shows d a.1 c.sweep.new.self c.sweep.new.memory c.sweep.ensures (sym c.if-not-has_enough.ensures.reply) a.0 in
    record {
      reply = e.0;
      state = e.1;
      memory = rules_changed o v r x m c.advance.new.self shows d a.1 c.sweep.new.self c.sweep.new.memory c.sweep.ensures;
    }
