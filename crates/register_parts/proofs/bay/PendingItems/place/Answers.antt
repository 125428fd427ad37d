use Rattle.std.proofs.Common.{ℕ, Option, ap, ◌∙◌, unwrap_or}
use Rattle.register_parts.specs.PendingPlaces.{pending_items}
use Rattle.register_parts.proofs.ItemPlaces.{place_found}
use Rattle.register_parts.proofs.bay.PendingItems.place.Goals as goal

pub returns-clause-reply : goal.returns-clause-reply
returns-clause-reply c =
    c.unwrap_or.ensures ∙ ap (λ (o : Option ℕ). unwrap_or o c.len.result) c.find.ensures.reply ∙ place_found c.args.item (pending_items c.args.self.now) c.len.result c.len.ensures.reply
