use Rattle.std.proofs.Common.{eqb}
use Rattle.jobs.proofs.LentChanges.{changed_at_most, bay_names_only}
use Rattle.jobs.specs.Faults.{read_reply}
use Rattle.jobs.specs.Requests.{to_read}
use Rattle.jobs.proofs.CallLaws.{KeptLaws, lawfully}
use Rattle.jobs.proofs.register.Register.read.Goals as goal

pub returns : goal.returns
returns g c =
    let done = c.read_item.ensures in
    let kept : KeptLaws g.O.ClassOrder g.R.LocalRule = record {
      few = g.met.O.ClassOrder.few;
      reflexive = g.met.O.ClassOrder.reflexive;
      antisymmetric = g.met.O.ClassOrder.antisymmetric;
      transitive = g.met.O.ClassOrder.transitive;
      monotone = g.met.O.ClassOrder.monotone;
      rivals = g.met.R.LocalRule.rivals;
    } in
    record {
      reply = done.reply;
      state = done.state;
      memory = changed_at_most (λ k e. e) (λ k e. e)
          (bay_names_only _ c.args.class c.args.bay (eqb c.args.class)) done.memory;
      bay_memory = done.memory;
      laws = lawfully g.O.ClassOrder g.V.Value g.R.LocalRule kept c.args.self.now c.args.memory.now (to_read c.args.class c.args.bay c.args.other c.args.item)
          (read_reply c.read_item.result) c.read_item.new.self c.read_item.new.memory done.reply done.state;
    }
