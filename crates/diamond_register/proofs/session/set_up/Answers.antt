use Rattle.std.proofs.lemmas.Result.{err_from_is_err_and}
use Rattle.diamond_register.proofs.Opening.{not_made, not_filled, filled, unused}
use Rattle.diamond_register.proofs.session.set_up.Goals as goal

pub returns-in_err-fill : goal.returns-in_err-fill
returns-in_err-fill g c =
    let p = err_from_is_err_and c.from_residual-in_err-fill.result c.from_residual-in_err-fill.ensures.1 in
    let made = c.in_ok-register.ensures in
    let refused = c.in_err-fill.ensures in
    rw (p.1, p.2) (record {
      reply = not_filled g.O.ClassOrder g.V.Value g.R.LocalRule _ _ _ _ c.in_ok-register.register _ _ made.reply refused.reply refused.memory;
      laws = tt;
    })

pub returns-in_err-register : goal.returns-in_err-register
returns-in_err-register g c =
    let p = err_from_is_err_and c.from_residual.result c.from_residual.ensures.1 in
    rw (p.1, p.2) (record {
      reply = not_made g.O.ClassOrder g.V.Value g.R.LocalRule _ _ _ _ _ c.in_err-register.ensures.reply;
      laws = tt;
    })

pub returns : goal.returns
returns g c =
    let o = g.O.ClassOrder in
    let v = g.V.Value in
    let r = g.R.LocalRule in
    let x = c.in_ok-register.register in
    let made = c.in_ok-register.ensures in
    let done = c.in_ok-fill.ensures in
    record {
      reply = filled o v r _ _ _ _ x _ made.reply done.reply done.memory;
      laws = record { topped = made.laws; stands = done.laws (unused o v r _ _ _ x made.reply) };
    }
