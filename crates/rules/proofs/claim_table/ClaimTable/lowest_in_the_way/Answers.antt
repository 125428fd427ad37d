use Rattle.std.proofs.Common.{◌≡◌, true, false, rules, of_calls}
use Rattle.std.proofs.lemmas.Iterator.{first_from_Range}
use Rattle.rules.specs.Policies.{in_the_way}
use Rattle.rules.specs.Tables.{claims_of}
use Rattle.rules.proofs.Lowest.{lowest_answered}
use Rattle.rules.proofs.claim_table.ClaimTable.lowest_in_the_way.Goals as goal

pub returns : goal.returns
returns c =
    let k = claims_of 0 c.args.self.now.bays in
    let way = in_the_way c.args.access k c.args.bay c.args.item in
    let found = first_from_Range _ _ _ _ (λ n. way n ≡ true) (λ n. way n ≡ false) c.find.ensures.ran (λ x q called. search (rules, of_calls)) (λ x q called. search (rules, of_calls)) in
    let answered = lowest_answered c.args.access k c.args.bay c.args.item c.find.result found in
    record { reply = answered.0; laws = answered.1 }
