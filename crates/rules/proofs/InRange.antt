-- What the calls come to for a bay and an item that are in range.
use Rattle.std.proofs.Common.{◌≡◌, ℕ, ◌<◌, false, Option}
use Rattle.std.proofs.lemmas.Bool.{lt-ltb}
use Rattle.rules.specs.declared.access.Access.{Access}
use Rattle.rules.specs.Claims.{Claims, forgotten, settled}
use Rattle.rules.specs.Calls.{accepted, answered, with_claim, claim_answered, settling, forgetting}

module _ (k : Claims) (b : ℕ) (h : b < 8) where
  pub claim_in_range : (access : Access) (i : ℕ) → i < 64 → (rival r : Option ℕ) → rival ≡ r
      → claim_answered rival access k b i ≡ answered r (with_claim access b i k) k
  claim_in_range access i l rival r e = let s = lt-ltb b 8 h in let t = lt-ltb i 64 l in rw (s, t, e)

  pub settle_in_range : k.stale b ≡ false → settling k b ≡ accepted (settled b k)
  settle_in_range fit = let s = lt-ltb b 8 h in rw (s, fit)

  pub forget_in_range : forgetting k b ≡ accepted (forgotten b k)
  forget_in_range = let s = lt-ltb b 8 h in rw s
