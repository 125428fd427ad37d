use Rattle.std.proofs.Common.{◌≡◌, ℕ, None, Option, set, Some, sym, ap, ◌∙◌, arith}
use Rattle.exclusive_rule.specs.declared.hold.Hold.{Hold}
use Rattle.exclusive_rule.specs.Holds.{claims_of, held_also, hold_at, other_holder}
use Rattle.exclusive_rule.proofs.Holds.{after_claim}
use Rattle.exclusive_rule.proofs.Outcomes.{claim_refused, claim_granted, not_held}
use Rattle.exclusive_rule.proofs.exclusive.ExclusiveLocalRule.claim.Goals as goal
use Rattle.exclusive_rule.proofs.exclusive.ExclusiveLocalRule.claim.Goals.{in-Some+in_default, in-None}

pub returns-in-Some-other_holder : goal.returns-in-Some-other_holder
returns-in-Some-other_holder c =
    let other = c.in-Some-other_holder.ensures ∙ ap (λ (o : Option Hold). other_holder o c.args.bay) (sym c.in-Some.is) in
    let e = claim_refused c.args.access c.args.self.now.holds c.args.bay c.args.item (omega arith) (omega arith) c.in-Some-other_holder.other other in
    record { reply = sym (ap (λ o. o.reply) e); state = sym (ap (λ o. o.claims) e) }

pub returns : goal.returns
returns c =
    let access = c.args.access in
    let holds = c.args.self.now.holds in
    let bay = c.args.bay in
    let item = c.args.item in
    let taken : (◌≡◌ {A = Option ℕ} None (other_holder (hold_at holds item) bay)) × (c.match-self-i.hold ≡ held_also access bay (hold_at holds item)) =
    elim c.match-self-i.branch [
      | in-Some+in_default w ↦ (
        w.in_default.ensures ∙ ap (λ (o : Option Hold). other_holder o bay) (sym w.in-Some.is),
        w.hold-is ∙ w.with-hold.ensures ∙ ap (held_also access bay) (sym w.in-Some.is),
      )
      | in-None w ↦ (
        ap (λ (o : Option Hold). other_holder o bay) (sym w.in-None.is),
        w.hold-is ∙ w.new-hold.ensures ∙ ap (held_also access bay) (sym w.in-None.is),
      )
    ] in
    let e = claim_granted access holds bay item (omega arith) (omega arith) taken.0 in
    record {
      reply = sym (ap (λ o. o.reply) e);
      state =
          ap (λ y. claims_of (set holds item (Some y))) taken.1
          ∙ after_claim access holds item bay (omega arith) (omega arith) (not_held (hold_at holds item) bay taken.0)
          ∙ sym (ap (λ o. o.claims) e);
    }
