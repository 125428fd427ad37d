use Rattle.std.proofs.Common.{◌≡◌, Some, None, sym, ap, ◌∙◌, subst}
use Rattle.std.proofs.lemmas.Result.{err_from_is_err_and}
use Rattle.frames.specs.Decoding.{decoded}
use Rattle.lines.specs.Answers.{Meets}
use Rattle.lines.specs.Phases.{Answer}
use Rattle.lines.specs.Replies.{told}
use Rattle.lines.specs.Sessions.{phase_of}
use Rattle.lines.specs.Supplies.{rooms_of}
use Rattle.lines.specs.declared.line_fault.LineFault.TheVariants.{Malformed}
use Rattle.lines.proofs.MeetingAnswers.{read_none, is_malformed, is_unknown, is_frame}
use Rattle.lines.proofs.session.Session.hear.Goals as goal

pub returns-in_err-frame : goal.returns-in_err-frame
returns-in_err-frame c =
    let m = c.args.supplied.now in
    let z = read_none c.decode.result Malformed c.in_err-frame.field-0.0 c.in_err-frame.ensures.value in
    let none : decoded c.args.line.now ≡ None = sym c.decode.ensures.reply ∙ z.0 in
    let p = err_from_is_err_and c.from_residual.result c.from_residual.ensures.1 in
    rw (p.1, p.2, z.1) (record { answer = is_malformed (rooms_of m) (phase_of c.args.self.now m) m c.args.line.now none })

pub returns-in_err-operation : goal.returns-in_err-operation
returns-in_err-operation c =
    let m = c.args.supplied.now in
    let e : decoded c.args.line.now ≡ Some c.bytes-bytes.result.now = sym c.decode.ensures.reply ∙ c.in_ok-frame.ensures.ok_part ∙ ap Some (sym c.bytes-bytes.ensures.reply) in
    let p = err_from_is_err_and c.from_residual-in_err-operation.result c.from_residual-in_err-operation.ensures.1 in
    rw (p.1, p.2) (record {
      answer = is_unknown (rooms_of m) (phase_of c.args.self.now m) m c.args.line.now c.bytes-bytes.result.now c.in_err-operation.field-0.0 e c.in_err-operation.ensures;
    })

pub returns : goal.returns
returns c =
    let s = c.args.self.now in
    let m = c.args.supplied.now in
    let e : decoded c.args.line.now ≡ Some c.bytes-bytes.result.now = sym c.decode.ensures.reply ∙ c.in_ok-frame.ensures.ok_part ∙ ap Some (sym c.bytes-bytes.ensures.reply) in
    let a = is_frame (rooms_of m) (phase_of s m) m c.args.line.now c.bytes-bytes.result.now c.in_ok-operation.operation e c.in_ok-operation.ensures in
    record {
      answer = subst (λ (z : Answer). Meets (phase_of s m) m z (told c.act.result) (phase_of c.act.new.self c.act.new.supplied) c.act.new.supplied) (sym a) c.act.ensures.answer;
    }
