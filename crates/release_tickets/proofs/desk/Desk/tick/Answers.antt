use Rattle.release_tickets.proofs.KeptRoom.{still_enough}
use Rattle.release_tickets.proofs.desk.Desk.tick.Goals as goal

pub invariant_of-self-in-Err-1 : goal.invariant_of-self-in-Err-1
invariant_of-self-in-Err-1 g c = record {
  lent = still_enough g.O.ClassOrder g.V.Value g.R.LocalRule c.args.self.now.register c.tick.new.self c.args.self.now.memory c.tick.new.memory
      c.tick.ensures.state.0 c.tick.ensures.memory.lengths c.args.self.now.lent;
}

pub invariant_of-self : goal.invariant_of-self
invariant_of-self g c = record {
  lent = still_enough g.O.ClassOrder g.V.Value g.R.LocalRule c.args.self.now.register c.tick.new.self c.args.self.now.memory c.tick.new.memory
      c.tick.ensures.state.0 c.tick.ensures.memory.lengths c.args.self.now.lent;
}
