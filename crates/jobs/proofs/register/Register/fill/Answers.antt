use Rattle.std.proofs.Common.{◌≡◌, ◌*◌, sym, refl, ap, ◌∙◌, arith, rules}
use Rattle.laws.specs.Setting.{sum_below}
use Rattle.jobs.specs.Represents.{setting}
use Rattle.jobs.specs.SetUp.{FreshCell, FreshRule}
use Rattle.jobs.specs.Fill.{FreshMemory}
use Rattle.jobs.proofs.Overwriting.{overwritten_all}
use Rattle.jobs.proofs.Filling.{room, stands_fresh}
use Rattle.jobs.proofs.register.Register.fill.Goals as goal

pub first_cell-requires : goal.first_cell-requires
first_cell-requires g c = omega (arith, c.classes-classes.ensures.reply, (g.met.O.ClassOrder.few c.args.self.now.order).1)

pub returns : goal.returns
returns g c =
    let o = g.O.ClassOrder in
    let v = g.V.Value in
    let r = g.R.LocalRule in
    let x = c.args.self.now in
    let m = c.args.memory.now in
    let S = setting o v r x in
    let e = c.classes-classes.ensures.reply in
    let n : c.first_cell.result ≡ sum_below S.classes S.items = c.first_cell.ensures.reply ∙ ap (λ n. sum_below n S.items) e in
    let enough = sym c.if-not-has_enough.ensures.reply in
    let variant = sym c.if-not-has_variant.ensures in
    let filled : FreshMemory o v r x m (record {
      cells = record { ref_ptr = m.cells.ref_ptr; ghost_name = m.cells.ghost_name; now = c.fill_cells.new.cells };
      pending = record { ref_ptr = m.pending.ref_ptr; ghost_name = m.pending.ghost_name; now = c.fill_first.new.places };
      rules = record { ref_ptr = m.rules.ref_ptr; ghost_name = m.rules.ghost_name; now = c.fill_rules.new.rules };
    }) = record {
      lenders = (refl, refl, refl);
      cells = overwritten_all (FreshCell v) m.cells.now c.fill_cells.new.cells (sum_below S.classes S.items) c.fill_cells.ensures n (λ y p. p);
      pending = overwritten_all (λ value. value ≡ v.starting) m.pending.now c.fill_first.new.places (S.classes * 64) c.fill_first.ensures (omega (arith, e)) (λ y p. search rules);
      rules = overwritten_all (FreshRule r x.variant) m.rules.now c.fill_rules.new.rules S.classes c.fill_rules.ensures (omega (arith, e)) (λ y p. p);
    } in
    record {
      reply = rw (variant, enough);
      memory = filled;
      laws = λ unused. stands_fresh o v r x m _ (g.met.O.ClassOrder.few x.order).1 (room o v r x m enough) filled unused;
    }
