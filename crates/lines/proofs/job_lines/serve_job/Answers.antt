use Rattle.std.proofs.Common.{◌<◌, arith}
use Rattle.std.proofs.lemmas.List.Elements.{All-from_get_or}
use Rattle.jobs.specs.Represents.{setting}
use Rattle.lines.specs.Needs.{needed}
use Rattle.lines.specs.Replies.{told}
use Rattle.lines.proofs.ReadBack.{reads_back, same_room}
use Rattle.lines.proofs.job_lines.serve_job.Goals as goal

pub returns-clause-laws : goal.returns-clause-laws
returns-clause-laws g c =
    let o = g.O.ClassOrder in
    let v = g.V.Value in
    let r = g.R.LocalRule in
    let x = c.args.register.now in
    let m = c.args.memory.now in
    let x' = c.call_register.new.register in
    let m' = c.call_register.new.memory in
    let frame = c.args.frame.now in
    let served = c.call_register.ensures.served in
    let bytes = All-from_get_or (λ b. b < 256) frame 0 (λ k h. omega (arith, c.type_inv.frame k)) in
    reads_back v g.met.V.Value.encodes o r g.met.O.ClassOrder.reflexive x x' m m' (same_room (needed (setting o v r x)) m m' served.memory)
    c.args.job frame (told c.call_register.result) bytes served
