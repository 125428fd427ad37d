use Rattle.std.proofs.Common.{refl}
use Rattle.release_tickets.proofs.KeptRoom.{still_enough}
use Rattle.release_tickets.proofs.desk.Desk.begin.Goals as goal

pub invariant_of-self-in-Err-1 : goal.invariant_of-self-in-Err-1
invariant_of-self-in-Err-1 g c = record {
  lent = still_enough g.O.ClassOrder g.V.Value g.R.LocalRule c.args.self.now.register c.begin.new.register c.args.self.now.memory c.args.self.now.memory
      c.begin.ensures.state.0 (refl, refl, refl) c.args.self.now.lent;
}

pub invariant_of-self : goal.invariant_of-self
invariant_of-self g c = record {
  lent = still_enough g.O.ClassOrder g.V.Value g.R.LocalRule c.args.self.now.register c.begin.new.register c.args.self.now.memory c.args.self.now.memory
      c.begin.ensures.state.0 (refl, refl, refl) c.args.self.now.lent;
}
