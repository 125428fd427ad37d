use Rattle.std.proofs.Common.{◌≡◌, ℕ, List, ◌++◌, length, take, drop, refl, ap, ◌∙◌, arith}
use Rattle.frames.specs.Lines.{lines}
use Rattle.frames.specs.Writing.{encoded_line}
use Rattle.lines.specs.Phases.{answered}
use Rattle.lines.specs.Sessions.{phase_of}
use Rattle.lines.specs.Supplies.{rooms_of}
use Rattle.lines.proofs.Running.{run_full}
use Rattle.lines.proofs.WrittenReplies.{length_line, is_written}
use Rattle.lines.proofs.session.Session.answer_line.Goals as goal

pub returns-then-output-lt-REPLY_ROOM : goal.returns-then-output-lt-REPLY_ROOM
returns-then-output-lt-REPLY_ROOM c =
    let s = c.args.self.now in
    let m = c.args.supplied.now in
    record {
      done = record {
        session = refl;
        memory = refl;
        output = refl;
        stops = run_full (rooms_of m) (length c.args.output.now) (phase_of s m) (lines c.args.input.now) c.if-output-lt-REPLY_ROOM.true;
      };
    }

pub returns : goal.returns
returns c =
    let s = c.args.self.now in
    let m = c.args.supplied.now in
    let input = c.args.input.now in
    let cut = c.in_ok-length.ensures.reply in
    let l = c.in_ok-length.field-0 in
    let text = take l.length input in
    let y = c.answer-reply.result in
    let bytes = c.deref.result.now in
    let z = is_written bytes c.args.output.now c.in_ok-written.written c.write_line.new.out c.in_ok-written.ensures.reply c.in_ok-written.ensures.memory in
    let met = c.answer-reply.ensures.answer in
    let reply : bytes ≡ (answered (rooms_of m) (phase_of s m) text).reply = c.deref.ensures.0 ∙ met.reply in
    record {
      done = (
        text,
        record {
          room = c.if-output-lt-REPLY_ROOM.false;
          line = cut.cut;
          taken = (cut.not_empty, cut.size_within);
          written = z.count ∙ ap (λ (b : List ℕ). length (encoded_line b)) reply;
          few = omega (arith, z.count, length_line bytes, c.deref.ensures.1);
          output = z.memory ∙ ap (λ (b : List ℕ). encoded_line b ++ drop c.in_ok-written.written c.args.output.now) reply;
          leaves = met.leaves;
        },
      );
    }
