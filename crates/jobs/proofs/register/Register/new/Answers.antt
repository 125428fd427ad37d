use Rattle.std.proofs.Common.{◌≡◌, Err, Result, sym, refl, ap, ◌∙◌, subst}
use lib.ListN.{length-map}
use Rattle.std.proofs.lemmas.Result.{err_from_is_err_and}
use Rattle.orders.specs.Grades.{Greatest}
use Rattle.register_parts.specs.CheckedCounts.{said}
use Rattle.jobs.specs.SetUp.{counts_for, SetUp, TopReached}
use Rattle.register_parts.specs.declared.class_setup.ClassSetup.{ClassSetup}
use Rattle.jobs.specs.declared.register.Register.{Register}
use Rattle.register_parts.specs.declared.setup_fault.SetUpFault.{SetUpFault}
use Rattle.jobs.proofs.SettingUp.{other_count, bad_counts, good_counts}
use Rattle.jobs.proofs.register.Register.new.Goals as goal

pub returns-then-records-classes : goal.returns-then-records-classes
returns-then-records-classes g c =
    let n = length-map c.args.records.now (λ (x : ClassSetup). x.items) in
    record {
      reply = other_count g.O.ClassOrder c.args.order (g.O.ClassOrder.classes c.args.order) (said c.args.records.now) c.args.variant
          (λ e. c.if-records-classes.true (sym n ∙ e ∙ sym c.classes.ensures.reply));
      laws = tt;
    }

pub returns-in_err-counts : goal.returns-in_err-counts
returns-in_err-counts g c =
    let o = g.O.ClassOrder in
    let classes = o.classes c.args.order in
    let counts = said c.args.records.now in
    let n = length-map c.args.records.now (λ (x : ClassSetup). x.items) in
    let fault = c.in_err-counts.field-0.0 in
    let p = err_from_is_err_and c.from_residual.result c.from_residual.ensures.1 in
    let is : Err fault ≡ c.from_residual.result = sym (p.1 ∙ ap Err p.2) in
    record {
      reply = subst (λ (z : Result (Register g.row.O.Denot) SetUpFault). SetUp o c.args.order (counts_for classes counts) c.args.variant z) is
          (bad_counts o c.args.order classes counts c.args.variant (n ∙ c.if-records-classes.false ∙ c.classes.ensures.reply) fault c.in_err-counts.ensures.reply);
      laws = subst (TopReached o) is tt;
    }

pub returns : goal.returns
returns g c =
    let o = g.O.ClassOrder in
    let classes = o.classes c.args.order in
    let counts = said c.args.records.now in
    let n = length-map c.args.records.now (λ (x : ClassSetup). x.items) in
    let shows = c.fresh_clock-clock.ensures.reply in
    record {
      reply = good_counts o c.args.order classes counts c.args.variant (n ∙ c.if-records-classes.false ∙ c.classes.ensures.reply)
          c.in_ok-counts.counts.items _ c.in_ok-counts.ensures.reply
          (record { order_is = refl; counts_are = refl; variant_is = refl; clock_shows = (shows.0 ∙ c.top_grade.ensures.reply, shows.1); states_are = refl });
      laws = subst (Greatest classes (o.grade c.args.order)) (sym shows.0) c.top_grade.ensures.laws.0;
    }
