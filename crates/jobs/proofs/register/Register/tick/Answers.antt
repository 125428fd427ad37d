use Rattle.jobs.specs.Faults.{tick_reply}
use Rattle.jobs.specs.Requests.{to_tick}
use Rattle.jobs.proofs.CallLaws.{KeptLaws, lawfully}
use Rattle.jobs.proofs.register.Register.tick.Goals as goal

pub returns : goal.returns
returns g c =
    let done = c.tick_clock.ensures in
    let kept : KeptLaws g.O.ClassOrder g.R.LocalRule = record {
      few = g.met.O.ClassOrder.few;
      reflexive = g.met.O.ClassOrder.reflexive;
      antisymmetric = g.met.O.ClassOrder.antisymmetric;
      transitive = g.met.O.ClassOrder.transitive;
      monotone = g.met.O.ClassOrder.monotone;
      rivals = g.met.R.LocalRule.rivals;
    } in
    record {
      reply = done.reply;
      state = done.state;
      memory = done.memory;
      laws = lawfully g.O.ClassOrder g.V.Value g.R.LocalRule kept c.args.self.now c.args.memory.now to_tick
          (tick_reply c.tick_clock.result) c.tick_clock.new.self c.tick_clock.new.memory done.reply done.state;
    }
