use Rattle.std.proofs.Common.{◌≡◌, length, refl, ◌∙◌, arith, rules}
use Rattle.jobs.proofs.ItemSums.{sum_first}
use Rattle.jobs.proofs.first_cell.first_cell.Goals as goal

pub returns-clause-reply : goal.returns-clause-reply
returns-clause-reply c =
    let items = c.args.counts.now.items in
    let sixteen : length items ≡ 16 = search rules in
    let class : c.from.result ≡ c.args.class = omega arith in
    c.items_in_all.ensures ∙ sum_first items c.from.result (omega (arith, sixteen)) ∙ rw class refl
