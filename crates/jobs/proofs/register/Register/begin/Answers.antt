use Rattle.jobs.specs.Faults.{done_reply}
use Rattle.jobs.specs.Requests.{to_begin}
use Rattle.jobs.proofs.CallLaws.{KeptLaws, lawfully}
use Rattle.jobs.proofs.register.Register.begin.Goals as goal

pub returns : goal.returns
returns g c =
    let done = c.begin_job.ensures in
    let kept : KeptLaws g.O.ClassOrder g.R.LocalRule = record {
      few = g.met.O.ClassOrder.few;
      reflexive = g.met.O.ClassOrder.reflexive;
      antisymmetric = g.met.O.ClassOrder.antisymmetric;
      transitive = g.met.O.ClassOrder.transitive;
      monotone = g.met.O.ClassOrder.monotone;
      rivals = g.met.R.LocalRule.rivals;
    } in
    record {
      reply = done.reply;
      state = done.state;
      laws = lawfully g.O.ClassOrder g.V.Value g.R.LocalRule kept c.args.self.now c.args.memory.now (to_begin c.args.class c.args.bay c.args.kind)
          (done_reply c.begin_job.result) c.begin_job.new.self c.args.memory.now done.reply done.state;
    }
