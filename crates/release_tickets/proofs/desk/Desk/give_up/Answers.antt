use Rattle.release_tickets.proofs.KeptRoom.{still_enough}
use Rattle.release_tickets.proofs.desk.Desk.give_up.Goals as goal

pub invariant_of-self : goal.invariant_of-self
invariant_of-self g c = record {
  lent = still_enough g.O.ClassOrder g.V.Value g.R.LocalRule c.args.self.now.register c.give_up-reply.new.register c.args.self.now.memory c.give_up-reply.new.memory
      c.give_up-reply.ensures.state.0 c.give_up-reply.ensures.memory.lengths c.args.self.now.lent;
}
