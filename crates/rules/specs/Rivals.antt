-- The law of every rule: a claim is refused only where another bay claims the same item, and the refusal names such a bay.
use Rattle.std.specs.Prelude.{◌≡◌, ℕ, ◌<◌, true, ◌||◌, Some}
use Rattle.rules.specs.Claims.{Claims, Policy}

-- Bay b' is another bay than b, and claims item i for reading or for writing.
pub record Rival (k : Claims) (b i b' : ℕ) : Type 0 where
  pub one_of_eight : b' < 8
  pub another : b' ≡ b → ⊥
  pub claims_it : (k.reads b' i || k.writes b' i) ≡ true

abbrev pub NamesARival : Policy → Type 0
NamesARival policy = (k : Claims) (b i b' : ℕ) → policy k b i ≡ Some b' → Rival k b i b'
