use Rattle.std.proofs.Common.{ℕ, ◌*◌, ◌<◌, ltb, List, length, get_or, drop, sym, ap, ◌∙◌, subst, arith}
use Rattle.std.proofs.lemmas.List.Elements.{All-from_get_or}
use Rattle.std.proofs.lemmas.Bool.{cond-true, lt-ltb}
use Rattle.frames.specs.Laws.{ReadsBack}
use Rattle.frames.specs.Writing.{line_size}
use Rattle.frames.proofs.Writing.{put_pair, put_newline, reads_back}
use Rattle.frames.proofs.write_line.write_line.Goals as goal

pub loop-i-preserved : goal.loop-i-preserved
loop-i-preserved c =
    put_pair c.loop-i.out c.args.out.now c.args.bytes.now c.loop-i.i _ _ c.loop-i-test.true (omega arith) (ap (λ z. get_or z 0 0) c.digits.ensures.reply) (ap (λ z. get_or z 1 0) c.digits.ensures.reply) c.loop-i.invariant

pub returns : goal.returns
returns c =
    let bytes = c.args.bytes.now in
    let memory = c.args.out.now in
    let room = lt-ltb (2 * length bytes) (length memory) c.if-end-out.false in
    let out = put_newline c.loop-i.out memory bytes c.loop-i.i c.loop-i-test.false (omega arith) c.if-end-out.false c.loop-i.invariant in
    let bounded = All-from_get_or (λ b. b < 256) bytes 0 (λ k h. omega (arith, c.type_inv.bytes k)) in
    record {
      reply = sym (cond-true (ltb (2 * length bytes) (length memory)) _ _ room);
      memory = out ∙ sym (cond-true (ltb (2 * length bytes) (length memory)) _ _ room);
      laws =
          let P : List ℕ → Type 0 = λ z. ReadsBack bytes z (line_size bytes) in
          subst P (sym out) (reads_back bytes (drop (line_size bytes) memory) bounded);
    }
