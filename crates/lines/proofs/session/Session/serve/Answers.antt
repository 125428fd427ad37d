use Rattle.std.proofs.Common.{◌-◌, length, take, drop, refl}
use Rattle.std.proofs.lemmas.List.{take_rest}
use Rattle.lines.proofs.Running.{starts, goes_on, ended}
use Rattle.lines.proofs.session.Session.serve.Goals as goal

pub loop-line-init : goal.loop-line-init
loop-line-init c = starts c.args.self.now c.args.supplied.now c.args.input.now c.args.output.now

pub loop-line-preserved : goal.loop-line-preserved
loop-line-preserved c =
    let d = c.in-Some.ensures.done in
    let w = c.loop-line.written in
    let t = c.loop-line.taken in
    let out = c.loop-line.output in
    goes_on c.args.self.now c.args.supplied.now c.args.input.now c.args.output.now c.loop-line.self c.loop-line.supplied out t w c.loop-line.invariant
    (take (length c.args.input.now - t) (drop t c.args.input.now)) (take (length out - w) (drop w out)) d.0 c.in-Some.line c.answer_line.new.self c.answer_line.new.supplied c.answer_line.new.output
    (take_rest c.args.input.now t) refl d.1

pub returns : goal.returns
returns c =
    let w = c.loop-line.written in
    let t = c.loop-line.taken in
    let out = c.loop-line.output in
    let z = ended c.args.self.now c.args.supplied.now c.args.input.now c.args.output.now c.loop-line.self c.loop-line.supplied out t w c.loop-line.invariant
    (take (length c.args.input.now - t) (drop t c.args.input.now)) (take (length out - w) (drop w out)) c.answer_line.new.self c.answer_line.new.supplied c.answer_line.new.output
    (take_rest c.args.input.now t) refl c.in_default.ensures.done in
    record { reply = z.reply; memory = z.memory; laws = z.laws }
