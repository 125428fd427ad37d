use Rattle.std.proofs.lemmas.Result.{err_from_is_err_and}
use Rattle.lines.proofs.SessionStart.{words_refused, slips_refused, words_accepted, slips_accepted}
use Rattle.lines.proofs.plan.Plan.begin_serving.Goals as goal

pub returns-in_err-register-in-Words : goal.returns-in_err-register-in-Words
returns-in_err-register-in-Words c =
    let e = err_from_is_err_and c.from_residual.result c.from_residual.ensures.1 in
    rw (e.1, e.2) (record {
      answer = words_refused c.args.self c.args.supplied.now c.args.variant c.in-Words.is c.in_err-register-in-Words.field-0.0 c.open.new.memory
          c.in_err-register-in-Words.ensures.reply c.in_err-register-in-Words.ensures.state;
    })

pub returns-in_err-register-in-Slips : goal.returns-in_err-register-in-Slips
returns-in_err-register-in-Slips c =
    let e = err_from_is_err_and c.from_residual-in_err-register-in-Slips.result c.from_residual-in_err-register-in-Slips.ensures.1 in
    rw (e.1, e.2) (record {
      answer = slips_refused c.args.self c.args.supplied.now c.args.variant c.in-Slips.is c.in_err-register-in-Slips.field-0.0 c.open-in-Slips.new.memory
          c.in_err-register-in-Slips.ensures.reply c.in_err-register-in-Slips.ensures.state;
    })

pub returns-in_ok-register-in-Words : goal.returns-in_ok-register-in-Words
returns-in_ok-register-in-Words c = record {
  answer = words_accepted c.args.self c.args.supplied.now c.args.variant c.in-Words.is c.in_ok-register-in-Words.register c.open.new.memory
      c.in_ok-register-in-Words.ensures.reply c.in_ok-register-in-Words.ensures.state;
}

pub returns-in_ok-register-in-Slips : goal.returns-in_ok-register-in-Slips
returns-in_ok-register-in-Slips c = record {
  answer = slips_accepted c.args.self c.args.supplied.now c.args.variant c.in-Slips.is c.in_ok-register-in-Slips.register c.open-in-Slips.new.memory
      c.in_ok-register-in-Slips.ensures.reply c.in_ok-register-in-Slips.ensures.state;
}
