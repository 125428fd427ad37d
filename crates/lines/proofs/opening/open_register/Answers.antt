use Rattle.std.proofs.Common.{◌∙◌}
use Rattle.std.proofs.lemmas.Result.{err_from_is_err_and}
use Rattle.register_parts.specs.CheckedCounts.{said}
use Rattle.jobs.proofs.CallLaws.{KeptLaws}
use Rattle.lines.proofs.OpenedRegisters.{fill_reply_is, opened}
use Rattle.lines.proofs.opening.open_register.Goals as goal

pub returns-in_err-fill : goal.returns-in_err-fill
returns-in_err-fill g c =
    let e = err_from_is_err_and c.from_residual-in_err-fill.result c.from_residual-in_err-fill.ensures.1 in
    let done = c.in_err-fill.ensures in
    rw (e.1, e.2) (record {
      reply =
          done.reply
          ∙ fill_reply_is g.O.ClassOrder g.V.Value g.R.LocalRule c.args.order (said c.args.records.now) c.args.variant
          c.in_ok-register.register c.requires c.in_ok-register.ensures.reply c.args.memory.now;
      state = done.memory;
    })

pub returns : goal.returns
returns g c =
    let kept : KeptLaws g.O.ClassOrder g.R.LocalRule = record {
      few = g.met.O.ClassOrder.few;
      reflexive = g.met.O.ClassOrder.reflexive;
      antisymmetric = g.met.O.ClassOrder.antisymmetric;
      transitive = g.met.O.ClassOrder.transitive;
      monotone = g.met.O.ClassOrder.monotone;
      rivals = g.met.R.LocalRule.rivals;
    } in
    let made = c.in_ok-register.ensures in
    let done = c.in_ok-fill.ensures in
    record {
      reply =
          done.reply
          ∙ fill_reply_is g.O.ClassOrder g.V.Value g.R.LocalRule c.args.order (said c.args.records.now) c.args.variant
          c.in_ok-register.register c.requires made.reply c.args.memory.now;
      state =
          opened g.O.ClassOrder g.V.Value g.R.LocalRule c.args.order (said c.args.records.now) c.args.variant
          c.in_ok-register.register c.requires made.reply c.args.memory.now c.fill.new.memory kept made.laws done.memory done.laws;
    }
