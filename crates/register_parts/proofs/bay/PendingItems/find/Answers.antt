use Rattle.std.proofs.Common.{rules, eqb, arith}
use borrow.Author.Tests.{tests}
use Rattle.std.proofs.lemmas.Iterator.{YieldsList-from_slice}
use Rattle.std.proofs.lemmas.Iterator.Search.{position_from_yields_List}
use Rattle.register_parts.specs.PendingPlaces.{pending_items}
use Rattle.register_parts.proofs.ItemPlaces.{as_byte}
use Rattle.register_parts.proofs.bay.PendingItems.find.Goals as goal

pub returns-clause-reply : goal.returns-clause-reply
returns-clause-reply c =
    let items = pending_items c.args.self.now in
    as_byte (eqb c.args.item) items c.position.result c.map.result _ (omega (arith, c.items.ensures.few))
    (position_from_yields_List (eqb c.args.item) _ _ _ c.position.ensures.ran (YieldsList-from_slice items (search rules)) (λ x b q k. search (rules, tests)))
    (λ x y h q. search (rules, tests)) c.map.ensures.cases
