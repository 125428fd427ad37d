use Rattle.std.proofs.Common.{◌≡◌, ℕ, ◌<◌, List, map, length, get_or, ap, ◌∙◌, subst, arith, rules}
use Rattle.jobs.specs.Sweeps.{SweptBelow, claims_left}
use Rattle.jobs.specs.Parts.{class_in, with_class_in}
use Rattle.register_parts.specs.LateJobs.{closed_if_late}
use Rattle.register_parts.specs.declared.bay.Bay.{Bay}
use Rattle.jobs.proofs.RuleCalls.{rule_becomes}
use Rattle.jobs.proofs.SweptClasses.{swept_none, swept_next}
use Rattle.jobs.proofs.register.Register.sweep.Goals as goal

pub loop-class-init : goal.loop-class-init
loop-class-init g c = swept_none g.O.ClassOrder g.V.Value g.R.LocalRule c.args.tick c.args.self.now c.args.memory.now

pub loop-class-preserved : goal.loop-class-preserved
loop-class-preserved g c =
    let o = g.O.ClassOrder in
    let v = g.V.Value in
    let r = g.R.LocalRule in
    let x = c.args.self.now in
    let tick = c.args.tick in
    let x' = c.loop-class.self in
    let m' = c.loop-class.memory in
    let n = c.loop-class.class in
    let k = class_in x' n in
    let before = c.index-memory-class.result in
    let few = (g.met.O.ClassOrder.few x.order).1 in
    let class : n < o.classes x.order = omega (arith, c.classes-class-end.ensures.reply) in
    let there : n < length m'.rules.now = omega (arith, c.loop-class.invariant.rules, c.requires) in
    let state = c.close_late.ensures.state ∙ ap (λ (d : ℕ). map (closed_if_late d tick) k.bays) c.grade-grade.ensures.reply in
    let rule = c.forget_late.ensures ∙ ap (λ (d : ℕ). claims_left d tick k.bays 8 (r.meaning (get_or m'.rules.now n before))) c.grade-grade.ensures.reply in
    swept_next o v r tick x c.args.memory.now n x' _ m' _ class c.requires c.loop-class.invariant
    (ap (λ (bays : List Bay). with_class_in x' n (record { floor = k.floor; bays = bays })) state)
    (rule_becomes r m' n before c.forget_late.new.rule (claims_left (o.grade x'.order n) tick k.bays 8) there rule)
    (search rules) c.close_late.ensures.length few

pub returns : goal.returns
returns g c =
    let end : c.loop-class.class ≡ g.O.ClassOrder.classes c.args.self.now.order = omega (arith, c.classes-class-end.ensures.reply) in
    subst (λ (n : ℕ). SweptBelow g.O.ClassOrder g.V.Value g.R.LocalRule n c.args.tick c.args.self.now c.args.memory.now c.loop-class.self c.loop-class.memory)
    end c.loop-class.invariant
