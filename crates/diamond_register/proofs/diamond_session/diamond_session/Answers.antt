use Rattle.std.proofs.lemmas.Result.{err_from_is_err_and}
use Rattle.diamond_register.proofs.AtDiamond.{set_up_is, not_played, played, lawfully_played}
use Rattle.diamond_register.proofs.diamond_session.diamond_session.Goals as goal

pub returns-in_err-register : goal.returns-in_err-register
returns-in_err-register c =
    let p = err_from_is_err_and c.from_residual.result c.from_residual.ensures.1 in
    let refused = set_up_is _ _ _ _ _ c.records.ensures c.in_err-register.ensures.reply in
    rw (p.1, p.2) (record { reply = not_played _ _ _ _ _ refused.0 refused.1; laws = tt })

pub returns : goal.returns
returns c =
    let stands = c.in_ok-register.ensures.laws in
    let ready = set_up_is _ _ _ _ _ c.records.ensures c.in_ok-register.ensures.reply in
    let done = c.session-replies.ensures in
    record {
      reply = played _ _ _ _ _ _ _ c.session-replies.result ready stands done.reply;
      laws = lawfully_played _ _ _ _ _ _ _ c.session-replies.result ready stands done.reply done.laws;
    }
