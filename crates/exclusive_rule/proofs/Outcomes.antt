-- What the calls on a table of holds come to.
use Rattle.std.specs.Bool.{then_some}
use Rattle.std.specs.Option.{option_map}
use Rattle.std.proofs.Common.{◌≡◌, ℕ, ◌<◌, eqb, false, List, replicate, Some, None, Option, sym, refl, ap, ◌∙◌, ⊎_elim, arith}
use Rattle.std.proofs.lemmas.Bool.{le-ltb, cases_eq, ne_eqb, cases_Bool, cond-true}
use Rattle.rules.specs.declared.access.Access.{Access}
use Rattle.rules.specs.declared.access.Access.TheVariants.{Write}
use Rattle.rules.specs.declared.rule_fault.RuleFault.TheVariants.{ClaimedBy}
use Rattle.rules.specs.Claims.{no_claims}
use Rattle.rules.specs.Calls.{accepted, refused, with_claim, claiming, settling, forgetting, fresh_claims}
use Rattle.rules.specs.Policies.{lock}
use Rattle.rules.proofs.InRange.{claim_in_range}
use Rattle.exclusive_rule.specs.declared.exclusive.Exclusive.{Exclusive}
use Rattle.exclusive_rule.specs.declared.hold.Hold.{Hold}
use Rattle.exclusive_rule.specs.Holds.{held_by_another, other_holder, hold_at, claims_of}
use Rattle.exclusive_rule.proofs.InTheWay.{answer_is}
use Rattle.exclusive_rule.proofs.Holds.{none_held, settles_alone}

module _ (access : Access) (holds : List (Option Hold)) (b i : ℕ) (one_of_eight : b < 8) (an_item : i < 64) where
  pub claim_refused : (n : ℕ) → Some n ≡ other_holder (hold_at holds i) b → claiming access (lock Write) (claims_of holds) b i ≡ refused (ClaimedBy n) (claims_of holds)
  claim_refused n e =
      claim_in_range (claims_of holds) b one_of_eight access i an_item (lock Write (claims_of holds) b i) (Some n) (sym (e ∙ answer_is holds b i))

  pub claim_granted : None ≡ other_holder (hold_at holds i) b → claiming access (lock Write) (claims_of holds) b i ≡ accepted (with_claim access b i (claims_of holds))
  claim_granted e =
      claim_in_range (claims_of holds) b one_of_eight access i an_item (lock Write (claims_of holds) b i) None (sym (e ∙ answer_is holds b i))

pub not_held : (o : Option Hold) (b : ℕ) → None ≡ other_holder o b → held_by_another o b ≡ false
not_held None b e = refl
not_held (Some h) b e =
    ⊎_elim (λ t. let c : ◌≡◌ {A = Option ℕ} None (Some h.bay) = e ∙ cond-true (held_by_another (Some h) b) (Some h.bay) None t in let z : ◌≡◌ {A = ℕ} 0 1 = cc in absurd (omega arith))
    (λ t. t) (cases_Bool (held_by_another (Some h) b))

-- Settling is no more than forgetting.
pub settles : (holds : List (Option Hold)) (b : ℕ) → forgetting (claims_of holds) b ≡ settling (claims_of holds) b
settles holds b = let e = settles_alone holds b in rw e

pub fresh_holds : (v : ℕ) → option_map (λ (e : Exclusive). claims_of e.holds) (then_some (eqb v 0) (record { holds = replicate 64 None })) ≡ fresh_claims 1 v
fresh_holds v =
    ⊎_elim
    (λ (e : v ≡ 0). rw e (ap Some (none_held 64)))
    (λ (ne : v ≡ 0 → ⊥).
    let first = ne_eqb v 0 ne in
    let past = le-ltb v 1 (omega arith) in
    rw (first, past) refl)
    (cases_eq v 0)
