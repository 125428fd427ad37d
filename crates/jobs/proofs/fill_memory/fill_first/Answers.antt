use Rattle.jobs.proofs.Overwriting.{each_made, overwritten_front}
use Rattle.jobs.proofs.fill_memory.fill_first.Goals as goal

pub returns : goal.returns
returns g c =
    let fresh = c.args.fresh in
    overwritten_front _ c.args.places.now c.fill_with.new.self c.args.count c.requires.room c.fill_with.ensures.len
    (each_made _ _ fresh (λ y h z. ((g.met.F.FnMut.1.post_iff fresh tt y).1 (h, z), g.met.F.Fn.1.step_stays fresh tt y h z)) c.fill_with.new.self c.fill_with.ensures.ran.0 c.fill_with.ensures.ran.1)
