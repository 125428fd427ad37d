use Rattle.std.proofs.Common.{ℕ, Bool, get_or, sym, ◌∙◌, ap}
use Rattle.rules.specs.Claims.{forgotten}
use Rattle.register_parts.specs.LateJobs.{late_bay}
use Rattle.register_parts.specs.declared.bay.Bay.TheVariants.{Free}
use Rattle.jobs.proofs.Sweeping.{forget_none, forget_next, keep_next, forgets}
use Rattle.jobs.proofs.sweep.forget_late.Goals as goal
use Rattle.jobs.proofs.sweep.forget_late.Goals.{then-is_late, else-is_late}

pub loop-bay-init : goal.loop-bay-init
loop-bay-init g c = forget_none (λ b. late_bay c.args.grade c.args.tick (get_or c.args.bays.now b Free)) (g.R.LocalRule.meaning c.args.rule.now)

pub loop-bay-preserved : goal.loop-bay-preserved
loop-bay-preserved g c =
    let meaning = g.R.LocalRule.meaning in
    let b = c.loop-bay.bay in
    let late : ℕ → Bool = λ b. late_bay c.args.grade c.args.tick (get_or c.args.bays.now b Free) in
    let before = meaning c.args.rule.now in
    elim c.if-is_late.branch [
      | then-is_late w ↦ ap meaning w.rule-is ∙ w.forget.ensures.state ∙ forgets (meaning c.loop-bay.rule) b c.loop-bay-test.true ∙ ap (forgotten b) c.loop-bay.invariant
          ∙ forget_next late before b (sym c.is_late.ensures ∙ w.if-is_late.true)
      | else-is_late w ↦ ap meaning w.rule-is ∙ c.loop-bay.invariant ∙ keep_next late before b (sym c.is_late.ensures ∙ w.if-is_late.false)
    ]
