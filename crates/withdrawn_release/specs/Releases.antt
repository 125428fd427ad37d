-- What publishing a release does to the two items of the catalogue, and what a reader is served.
use Rattle.std.specs.Prelude.{ℕ, List, Some, None, Ok, Err, Option, Result, slice_set}
use Rattle.cells.specs.Versions.{stored}
use Rattle.cells.specs.Cells.{item, store_reply, read_reply}
use Rattle.cells.specs.declared.version.Version.{Version}
use Rattle.cells.specs.declared.faults.ReadFault.{ReadFault}
use Rattle.cells.specs.declared.faults.StoreFault.{StoreFault}
use Rattle.withdrawn_release.specs.declared.release.Release.{Release}

abbrev pub Items : Type 0
Items = List (List (Version ℕ))

abbrev pub put : ℕ → ℕ → ℕ → Items → Items
put index n value items = slice_set items index (stored n value (item index items))

-- The second result, unless the first is a fault.
abbrev pub after_ok : {A B E : Type 0} → Result A E → B → (E → B) → B
after_ok (Ok a) next fault = next
after_ok (Err e) next fault = fault e

abbrev pub publish_reply : ℕ → Release → Items → Result (Unit {0}) StoreFault
publish_reply n r items = after_ok (store_reply 0 n items) (store_reply 1 n (put 0 n r.firmware items)) (λ e. Err e)

-- Firmware first; where that is refused, nothing changes.
abbrev pub published : ℕ → Release → Items → Items
published n r items = after_ok (store_reply 0 n items) (put 1 n r.layout (put 0 n r.firmware items)) (λ _. items)

abbrev pub together : Option (Version ℕ) → Option (Version ℕ) → Option Release
together None layout = None
together (Some firmware) None = None
together (Some firmware) (Some layout) = Some (record { firmware = firmware.value; layout = layout.value })

abbrev pub both : Result (Option (Version ℕ)) ReadFault → Result (Option (Version ℕ)) ReadFault → Result (Option Release) ReadFault
both (Ok firmware) (Ok layout) = Ok (together firmware layout)
both (Ok firmware) (Err e) = Err e
both (Err e) layout = Err e

abbrev pub served_reply : ℕ → Items → Result (Option Release) ReadFault
served_reply n items = both (read_reply 0 n items) (read_reply 1 n items)
