-- The rule of one class in lent memory after a call on it.
use Rattle.std.proofs.Common.{◌≡◌, ℕ, ◌<◌, length, get_or, set, Result, sym, refl, ap, ◌∙◌}
use Rattle.std.proofs.lemmas.List.{get_or-map}
use Rattle.rules.specs.Claims.{Claims, no_claims}
use Rattle.rules.specs.Calls.{Outcome}
use Rattle.rules.specs.declared.rule_fault.RuleFault.{RuleFault}
use Rattle.rules.specs.declared.local_rule.LocalRule.{Ghosts as RuleGhosts}
use Rattle.jobs.specs.Represents.{claims_in}
use Rattle.jobs.specs.Lent.{with_rules, RuleBecomes}
use Rattle.jobs.specs.declared.memory.Memory.{Memory}

-- What the rule there means is what the memory means.
pub rule_there : {V R : Type 0} (r : RuleGhosts R) (m : Memory V R) (c : ℕ) (rule : R) → c < length m.rules.now → r.meaning (get_or m.rules.now c rule) ≡ claims_in r m.rules.now c
rule_there r m c rule h = sym (get_or-map r.meaning m.rules.now c rule (no_claims 0) h)

-- So what a call makes of the rule it makes of the memory.
pub rule_becomes : {V R : Type 0} (r : RuleGhosts R) (m : Memory V R) (c : ℕ) (before after : R) (f : Claims → Claims) → c < length m.rules.now
    → r.meaning after ≡ f (r.meaning (get_or m.rules.now c before)) → RuleBecomes r c (f (claims_in r m.rules.now c)) m (with_rules m (set m.rules.now c after))
rule_becomes r m c before after f h e = (after, refl, e ∙ ap f (rule_there r m c before h))

-- What a call with a reply comes to for the rule there, it comes to for what the memory means.
pub rule_called : {V R : Type 0} (r : RuleGhosts R) (m : Memory V R) (c : ℕ) (before after : R) (outcome : Claims → Outcome) (reply : Result (Unit {0}) RuleFault)
    → c < length m.rules.now
    → reply ≡ (outcome (r.meaning (get_or m.rules.now c before))).reply
    → r.meaning after ≡ (outcome (r.meaning (get_or m.rules.now c before))).claims
    → (reply ≡ (outcome (claims_in r m.rules.now c)).reply) × (r.meaning after ≡ (outcome (claims_in r m.rules.now c)).claims)
rule_called r m c before after outcome reply h p q =
    let e = rule_there r m c before h in
    (p ∙ ap (λ (k : Claims). (outcome k).reply) e, q ∙ ap (λ (k : Claims). (outcome k).claims) e)
