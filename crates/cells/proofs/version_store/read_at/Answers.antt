use Rattle.std.proofs.Common.{rules, ◌≡◌, ◌<◌, length, get_or, sym, subst}
use Rattle.cells.specs.Laws.{Serves}
use Rattle.cells.proofs.Items.{item_serves}
use Rattle.cells.proofs.version_store.read_at.Goals as goal

pub returns-clause-laws : goal.returns-clause-laws
returns-clause-laws g c =
    let cells = c.args.cells.now in
    let index = c.args.index in
    let cell = c.in_ok-cell.cell.now in
    let within : index < length cells = search rules in
    let is : cell ≡ get_or cells index cell = search rules in
    subst (Serves c.args.number _) (sym c.read_at.ensures) (item_serves cells index cell within is c.args.number)
