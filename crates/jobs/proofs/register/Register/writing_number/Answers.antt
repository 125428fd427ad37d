use Rattle.std.proofs.Common.{arith}
use Rattle.jobs.proofs.DeclaredBound.{declared_most}
use Rattle.jobs.proofs.register.Register.writing_number.Goals as goal

pub overflow_add-result : goal.overflow_add-result
overflow_add-result g c =
    let clock = c.args.self.now.clock in
    omega (arith, clock.within, c.declared.ensures.reply, declared_most clock.top c.grade.result clock.ticks)
