use Rattle.std.proofs.Common.{rules, ◌≡◌, ◌<◌, length, get_or}
use Rattle.cells.proofs.Items.{item_latest}
use Rattle.cells.proofs.version_store.newest.Goals as goal

pub returns-clause-laws : goal.returns-clause-laws
returns-clause-laws g c =
    let cells = c.args.cells.now in
    let index = c.args.index in
    let cell = c.in_ok-cell.cell.now in
    let within : index < length cells = search rules in
    let is : cell ≡ get_or cells index cell = search rules in
    item_latest cells index cell within is
