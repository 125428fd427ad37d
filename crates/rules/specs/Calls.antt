-- What each call on a rule comes to: its reply, and what the rule means afterwards.
use Rattle.std.specs.Prelude.{ℕ, cond, Some, None, Ok, Err, Option, Result, nat_lt}
use Rattle.rules.specs.declared.access.Access.{Access}
use Rattle.rules.specs.declared.access.Access.TheVariants.{Read, Write}
use Rattle.rules.specs.declared.rule_fault.RuleFault.{RuleFault}
use Rattle.rules.specs.declared.rule_fault.RuleFault.TheVariants.{NoSuchBay, NoSuchItem, ClaimedBy, Stale}
use Rattle.rules.specs.Claims.{Claims, Policy, no_claims, with_read, with_write, settled, forgotten}

pub record Outcome : Type 0 where
  pub reply : Result (Unit {0}) RuleFault
  pub claims : Claims

abbrev pub accepted : Claims → Outcome
accepted k = record { reply = Ok tt; claims = k }

-- A refusal changes nothing.
abbrev pub refused : RuleFault → Claims → Outcome
refused fault k = record { reply = Err fault; claims = k }

-- There are eight bays.
abbrev pub if_bay : ℕ → Claims → Outcome → Outcome
if_bay b k so = cond (nat_lt b 8) so (refused NoSuchBay k)

-- There are 64 items.
abbrev pub if_item : ℕ → Claims → Outcome → Outcome
if_item i k so = cond (nat_lt i 64) so (refused NoSuchItem k)

abbrev pub with_claim : Access → ℕ → ℕ → Claims → Claims
with_claim Read = with_read
with_claim Write = with_write

-- With nothing in the way the claim is made; otherwise the refusal names the bay in the way.
abbrev pub answered : Option ℕ → Claims → Claims → Outcome
answered None claimed k = accepted claimed
answered (Some b) claimed k = refused (ClaimedBy b) k

-- A claim of bay b on item i that is answered so.
abbrev pub claim_answered : Option ℕ → Access → Claims → ℕ → ℕ → Outcome
claim_answered rival access k b i = if_bay b k (if_item i k (answered rival (with_claim access b i k) k))

abbrev pub claiming : Access → Policy → Claims → ℕ → ℕ → Outcome
claiming access policy k b i = claim_answered (policy k b i) access k b i

abbrev pub settling : Claims → ℕ → Outcome
settling k b = if_bay b k (cond (k.stale b) (refused Stale k) (accepted (settled b k)))

abbrev pub forgetting : Claims → ℕ → Outcome
forgetting k b = if_bay b k (accepted (forgotten b k))

-- The number v where it is one of the n from 0.
abbrev pub one_of : ℕ → ℕ → Option ℕ
one_of n v = cond (nat_lt v n) (Some v) None

-- What a fresh rule of variant v means, out of n variants.
abbrev pub fresh_claims : ℕ → ℕ → Option Claims
fresh_claims n v = cond (nat_lt v n) (Some (no_claims v)) None
