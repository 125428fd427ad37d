use Rattle.release_tickets.proofs.KeptRoom.{still_enough}
use Rattle.release_tickets.proofs.desk.Desk.commit.Goals as goal

pub invariant_of-self : goal.invariant_of-self
invariant_of-self g c = record {
  lent = still_enough g.O.ClassOrder g.V.Value g.R.LocalRule c.args.self.now.register c.commit-reply.new.register c.args.self.now.memory c.commit-reply.new.memory
      c.commit-reply.ensures.state.0 c.commit-reply.ensures.memory.lengths c.args.self.now.lent;
}
