use Rattle.std.proofs.Common.{rules, ◌≡◌, ◌<◌, length, get_or}
use Rattle.std.proofs.lemmas.Bool.{le-leb}
use Rattle.cells.proofs.Items.{memory_after, stores_after}
use Rattle.cells.proofs.version_store.store.Goals as goal

pub returns-clause-memory : goal.returns-clause-memory
returns-clause-memory g c =
    let cells = c.args.cells.now in
    let index = c.args.index in
    let cell = c.in_ok-cell.field-0.now in
    let within : index < length cells = search rules in
    let is : cell ≡ get_or cells index cell = search rules in
    memory_after cells index cell within is c.args.number c.args.value c.stored.result c.stored.ensures

pub returns-clause-laws : goal.returns-clause-laws
returns-clause-laws g c =
    let cells = c.args.cells.now in
    let index = c.args.index in
    let cell = c.in_ok-cell.field-0.now in
    let within : index < length cells = search rules in
    let is : cell ≡ get_or cells index cell = search rules in
    stores_after cells index cell within is c.args.number c.args.value c.stored.result c.stored.ensures (le-leb cell.newest.number c.args.number c.if-number-cell.false)
