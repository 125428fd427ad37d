use Rattle.std.proofs.Common.{length, sym, arith}
use Rattle.std.proofs.lemmas.Bool.{eqb-false}
use Rattle.frames.proofs.Cutting.{cut_at_newline, cut_at_end, ends_at_newline, ends_at_end}
use Rattle.frames.proofs.first_line.first_line.Goals as goal

pub returns-in-Some : goal.returns-in-Some
returns-in-Some c =
    let input = c.args.input.now in
    let found = c.in-Some.ensures.reply in
    record { reply = cut_at_newline input c.in-Some.length found; laws = ends_at_newline input c.in-Some.length found }

pub returns-in-None : goal.returns-in-None
returns-in-None c =
    let input = c.args.input.now in
    let found = c.in-None.ensures.reply in
    let some = eqb-false (length input) 0 (sym c.if-is_empty.ensures) in
    record { reply = cut_at_end input found (omega arith); laws = ends_at_end input found }
