use Rattle.release_tickets.proofs.KeptRoom.{still_enough}
use Rattle.release_tickets.proofs.desk.Desk.write.Goals as goal

pub invariant_of-self-in-Err-1 : goal.invariant_of-self-in-Err-1
invariant_of-self-in-Err-1 g c = record {
  lent = still_enough g.O.ClassOrder g.V.Value g.R.LocalRule c.args.self.now.register c.write.new.register c.args.self.now.memory c.write.new.memory
      c.write.ensures.state.0 c.write.ensures.memory.lengths c.args.self.now.lent;
}

pub invariant_of-self : goal.invariant_of-self
invariant_of-self g c = record {
  lent = still_enough g.O.ClassOrder g.V.Value g.R.LocalRule c.args.self.now.register c.write.new.register c.args.self.now.memory c.write.new.memory
      c.write.ensures.state.0 c.write.ensures.memory.lengths c.args.self.now.lent;
}
