use Rattle.std.proofs.Common.{◌/◌, length, take, None, Some, refl, sym, ◌∙◌, arith}
use Rattle.frames.proofs.OneForm.{decodes}
use Rattle.frames.proofs.Reading.{line_length_true, read_more, read_none, all_read, unused_left, before_nothing, decoded_malformed, decoded_no_pairs}
use Rattle.frames.proofs.decode.decode.Goals as goal

pub returns-then-not-is_line_length : goal.returns-then-not-is_line_length
returns-then-not-is_line_length c =
    let text = c.args.line.now in
    let reply = sym (decoded_malformed text (sym c.if-not-is_line_length.ensures.reply)) in
    record { reply = reply; laws = decodes text None reply }

pub loop-i-init : goal.loop-i-init
loop-i-init c =
    rw
    (c.into_iter-i-iterator.ensures.into_iter_gives, c.enumerate-i-items.ensures.source, c.enumerate-i-items.ensures.count, c.chunks_exact.ensures.rest, c.chunks_exact.ensures.size)
    (refl, record { right = sym c.if-not-is_line_length.ensures.reply; full = refl; so_far = omega arith; same = before_nothing _; unused = refl })

pub loop-i-preserved : goal.loop-i-preserved
loop-i-preserved c =
    let step = c.in-Some.ensures.steps in
    let size = c.loop-i.invariant.0 in (
      step.0.0 ∙ size,
      rw (step.1, step.2)
          (read_more c.args.line.now _ c.in-Some.pair.now _ c.loop-i.bytes _ c.loop-i.invariant.1 step.0.1.0 (step.0.1.1 ∙ size) c.in_ok-bytes.field-0 c.in_ok-bytes.ensures.reply),
    )

pub returns-in_err-bytes : goal.returns-in_err-bytes
returns-in_err-bytes c =
    let text = c.args.line.now in
    let step = c.in-Some.ensures.steps in
    let none = read_none text _ c.in-Some.pair.now _ c.loop-i.bytes _ c.loop-i.invariant.1 step.0.1.0 (step.0.1.1 ∙ c.loop-i.invariant.0) c.in_err-bytes.ensures.reply in
    let reply = c.from_residual.ensures ∙ sym (decoded_no_pairs text none) in
    record { reply = reply; laws = decodes text c.from_residual.result reply }

pub invariant_of-result : goal.invariant_of-result
invariant_of-result c =
    let text = c.args.line.now in
    let step = c.in-None.ensures.steps in
    let size = c.loop-i.invariant.0 in
    let read = c.loop-i.invariant.1 in
    let l = line_length_true (length text) read.right in
    let few = l.few in
    let reply = all_read text _ c.loop-i.bytes _ read (omega arith) in
    record {
      full = read.full;
      few = omega arith;
      fits = (decodes text (Some (take (length text / 2) c.loop-i.bytes)) reply).0;
      unused = unused_left text _ c.loop-i.bytes _ read (omega arith);
    }

pub returns : goal.returns
returns c =
    let text = c.args.line.now in
    let step = c.in-None.ensures.steps in
    let size = c.loop-i.invariant.0 in
    let reply = all_read text _ c.loop-i.bytes _ c.loop-i.invariant.1 (omega arith) in
    record { reply = reply; laws = decodes text (Some (take (length text / 2) c.loop-i.bytes)) reply }
