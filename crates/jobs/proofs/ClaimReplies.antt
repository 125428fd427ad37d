-- What the reply of a local rule says of its claims afterwards.
use Rattle.std.proofs.Common.{◌≡◌, ℕ, ◌<◌, Some, None, Option, Ok, Err, sym, refl, ap, ◌∙◌}
use Rattle.std.proofs.lemmas.Bool.{lt-ltb}
use Rattle.rules.specs.Claims.{Claims, Policy}
use Rattle.rules.specs.Calls.{Outcome, with_claim, answered, claiming}
use Rattle.rules.specs.declared.access.Access.{Access}
use Rattle.rules.specs.declared.rule_fault.RuleFault.{RuleFault}
use Rattle.rules.specs.declared.rule_fault.RuleFault.TheVariants.{ClaimedBy}
use Rattle.jobs.proofs.Entrance.{ok_not_err}

module _ (access : Access) (policy : Policy) (k : Claims) (b i : ℕ) (in_bays : b < 8) (in_items : i < 64) where
  claim_is : claiming access policy k b i ≡ answered (policy k b i) (with_claim access b i k) k
  claim_is = rw (lt-ltb b 8 in_bays, lt-ltb i 64 in_items)

  -- Accepted: nothing was in the way, and the claim is made.
  pub claim_made : Ok tt ≡ (claiming access policy k b i).reply → (policy k b i ≡ None) × ((claiming access policy k b i).claims ≡ with_claim access b i k)
  claim_made e = go (policy k b i) refl
    where
      go : (a : Option ℕ) → policy k b i ≡ a → (policy k b i ≡ None) × ((claiming access policy k b i).claims ≡ with_claim access b i k)
      go None f = (f, rw (lt-ltb b 8 in_bays, lt-ltb i 64 in_items, f))
      go (Some rival) f =
          let p : Ok tt ≡ Err (ClaimedBy rival) = e ∙ ap (λ (z : Outcome). z.reply) claim_is ∙ rw f in
          ok_not_err p

  -- Refused: a bay was in the way and is named, and no claim is made.
  pub claim_denied : (e : RuleFault) → Err e ≡ (claiming access policy k b i).reply
      → (rival : ℕ) × (policy k b i ≡ Some rival) × (e ≡ ClaimedBy rival) × ((claiming access policy k b i).claims ≡ k)
  claim_denied e p = go (policy k b i) refl
    where
      go : (a : Option ℕ) → policy k b i ≡ a → (rival : ℕ) × (policy k b i ≡ Some rival) × (e ≡ ClaimedBy rival) × ((claiming access policy k b i).claims ≡ k)
      go None f =
          let q : Err e ≡ Ok tt = p ∙ ap (λ (z : Outcome). z.reply) claim_is ∙ rw f in
          ok_not_err (sym q)
      go (Some rival) f =
          let same : Err e ≡ Err (ClaimedBy rival) = p ∙ ap (λ (z : Outcome). z.reply) claim_is ∙ rw f in
          (rival, f, cc, rw (lt-ltb b 8 in_bays, lt-ltb i 64 in_items, f))
