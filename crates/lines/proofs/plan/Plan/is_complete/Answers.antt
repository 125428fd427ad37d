use Rattle.std.proofs.Common.{◌≡◌, Bool, true, false, not, ltb, leb, sym, refl, ap, ◌∙◌, arith}
use Rattle.std.proofs.lemmas.Bool.{leb-true, leb-false}
use Rattle.lines.specs.Plans.{CompleteIf}
use Rattle.lines.specs.declared.plan.Plan.{Plan}
use Rattle.lines.proofs.PlannedItems.{not_below, said_length}
use Rattle.lines.proofs.plan.Plan.is_complete.Goals as goal

complete : (p : Plan) (q : Bool) → leb p.wanted p.count ≡ q → CompleteIf p q
complete p true e = omega (arith, leb-true p.wanted p.count e, p.so_far)
complete p false e = leb-false p.wanted p.count e

pub returns : goal.returns
returns c =
    let p = c.args.self.now in
    let n = said_length p.count p.records (omega arith) in
    record {
      reply = not_below p.count p.wanted ∙ ap (λ k. not (ltb k p.wanted)) (sym n);
      classes = complete p (leb p.wanted p.count) refl;
    }
