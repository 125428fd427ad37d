use Rattle.std.proofs.Common.{suc, ◌<◌, length, mod-lt, arith}
use Rattle.laws.specs.Clock.{tick_grade}
use Rattle.register_parts.proofs.Tables.{tick_table}
use Rattle.register_parts.proofs.clock.Clock.advance.Goals as goal

pub invariant_of-self : goal.invariant_of-self
invariant_of-self c =
    let x = c.args.self.now in
    let turn : tick_grade x.top x.ticks < suc x.top = mod-lt x.ticks (omega arith) in
    let within : tick_grade x.top x.ticks < length x.numbers = omega (arith, x.low) in record {
      low = x.low;
      within = omega (arith, c.if-self-ge-LAST_TICK.false);
      counted = rw c.from.ensures (tick_table x.numbers x.top x.ticks c.next-next.result c.next-next.ensures.reply within x.counted);
    }
