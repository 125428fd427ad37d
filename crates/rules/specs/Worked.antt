-- A worked case: a reader is overtaken under the check rule.
use Rattle.std.specs.Prelude.{◌≡◌, true, Ok, Err}
use Rattle.rules.specs.declared.access.Access.TheVariants.{Read, Write}
use Rattle.rules.specs.declared.rule_fault.RuleFault.TheVariants.{Stale}
use Rattle.rules.specs.Claims.{Claims, no_claims}
use Rattle.rules.specs.Calls.{Outcome, claiming, settling}
use Rattle.rules.specs.Policies.{nothing_in_the_way}

-- Bay 0 reads item 5, bay 1 writes it.
abbrev pub read_and_written : Claims
read_and_written = (claiming Write nothing_in_the_way (claiming Read nothing_in_the_way (no_claims 0) 0 5).claims 1 5).claims

-- Then bay 1 settles.
abbrev pub writer_settles : Outcome
writer_settles = settling read_and_written 1

-- The writer may settle; the reader is stale, and may not.
abbrev pub StaleReader : Type 0
StaleReader =
    (writer_settles.reply ≡ Ok tt) × (writer_settles.claims.stale 0 ≡ true) × ((settling writer_settles.claims 0).reply ≡ Err Stale)
