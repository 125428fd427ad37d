-- What a table of eight bays' claims means.
use Rattle.std.specs.Prelude.{◌≡◌, ℕ, ◌≤◌, Bool, false, ◌||◌, List, Result, MatchResult, slice_index_or}
use Rattle.sets.specs.Members.{Members, members, nothing, with_member, overlap}
use Rattle.sets.specs.declared.small_set.SmallSet.{SmallSet}
use Rattle.rules.specs.declared.access.Access.{Access}
use Rattle.rules.specs.declared.access.Access.TheVariants.{Read, Write}
use Rattle.rules.specs.declared.bay_claims.BayClaims.{BayClaims}
use Rattle.rules.specs.declared.chosen_rule.RuleKind.{RuleKind}
use Rattle.rules.specs.declared.chosen_rule.RuleKind.TheVariants.{Locking, Checking}
use Rattle.rules.specs.declared.chosen_rule.NoSuchKind.{NoSuchKind}
use Rattle.rules.specs.Claims.{Claims}

-- What one bay claims, and whether it is stale.
pub record OneBay : Type 0 where
  pub reads : Members
  pub writes : Members
  pub stale : Bool

abbrev pub one_bay : BayClaims → OneBay
one_bay x = record { reads = members x.reads; writes = members x.writes; stale = x.stale }

abbrev pub nothing_claimed : OneBay
nothing_claimed = record { reads = nothing; writes = nothing; stale = false }

abbrev pub one_claim_more : Access → ℕ → OneBay → OneBay
one_claim_more Read i x = record { reads = with_member i x.reads; writes = x.writes; stale = x.stale }
one_claim_more Write i x = record { reads = x.reads; writes = with_member i x.writes; stale = x.stale }

-- A bay once the items in `written` are overwritten: stale if it read one of them.
abbrev pub overwritten : SmallSet → BayClaims → BayClaims
overwritten written x = record { reads = x.reads; writes = x.writes; stale = x.stale || overlap (members written) (members x.reads) }

-- What is read past the end of a table.
abbrev pub no_bay : BayClaims
no_bay = let none : SmallSet = record { bits = 0 } in record { reads = none; writes = none; stale = false }

abbrev pub bay_at : List BayClaims → ℕ → BayClaims
bay_at bays b = slice_index_or bays b no_bay

-- What a table means, under variant v.
abbrev pub claims_of : ℕ → List BayClaims → Claims
claims_of v bays = record {
  variant = v;
  reads = λ b. members (bay_at bays b).reads;
  writes = λ b. members (bay_at bays b).writes;
  stale = λ b. (bay_at bays b).stale;
}

-- The variant numbers of the rule that is chosen at set-up.
abbrev pub kind_number : RuleKind → ℕ
kind_number Locking = 0
kind_number Checking = 1

-- The kind that has the number n; else an error with n, which no kind has.
abbrev pub KindNumbered : ℕ → Result RuleKind NoSuchKind → Type 0
KindNumbered n r = MatchResult r (λ kind. kind_number kind ≡ n) (λ e. (e.0 ≡ n) × (2 ≤ n))
