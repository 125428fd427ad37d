-- What the version store promises of an item, in words that do not say how its versions are searched or changed.
use Rattle.std.specs.Prelude.{◌≡◌, ℕ, ◌+◌, ◌<◌, ◌≤◌, true, List, length, All, Contains, Some, None, Ok, Err, Option, Result}
use Rattle.cells.specs.Versions.{version, kept, read_at, falling}
use Rattle.cells.specs.Cells.{item}
use Rattle.cells.specs.declared.version.Version.{Version}
use Rattle.cells.specs.declared.faults.ReadFault.{ReadFault}
use Rattle.cells.specs.declared.faults.StoreFault.{StoreFault}

module _ {V : Type 0} where
  -- A read at n is served one of the versions, with the greatest number not above n; or nothing, and then all numbers are above n.
  abbrev pub Serves : ℕ → List (Version V) → Option (Version V) → Type 0
  Serves n vs (Some x) = Contains vs x × (x.number ≤ n) × All (λ y. y.number ≤ n → y.number ≤ x.number) vs
  Serves n vs None = All (λ y. n < y.number) vs

  abbrev pub Reads : ℕ → List (Version V) → Result (Option (Version V)) ReadFault → Type 0
  Reads n vs (Ok found) = Serves n vs found
  Reads n vs (Err fault) = Unit {0}

  -- The newest version is one of the versions, and no number is above its own.
  abbrev pub Latest : List (Version V) → Result (Version V) ReadFault → Type 0
  Latest vs (Ok x) = Contains vs x × All (λ y. y.number ≤ x.number) vs
  Latest vs (Err fault) = Unit {0}

  -- What an accepted store of v under n does to the versions of an item.
  pub record Stores (n : ℕ) (v : V) (before after : List (Version V)) : Type 0 where
    pub ordered : falling after ≡ true
    pub few : length after ≤ kept
    -- Reads at n and above are served v.
    pub served : (m : ℕ) → n ≤ m → read_at m after ≡ Some (version n v)
    -- What a read below n is served afterwards it was served before.
    pub below : (m : ℕ) (x : Version V) → m < n → read_at m after ≡ Some x → read_at m before ≡ Some x
    -- Reads at the last numbers below n lose nothing.
    pub recent : (m : ℕ) → m < n → n < m + kept → read_at m after ≡ read_at m before

  -- By its reply: an accepted store does that to its item, and a refused one changes no item.
  abbrev pub Changes : ℕ → ℕ → V → List (List (Version V)) → Result (Unit {0}) StoreFault → List (List (Version V)) → Type 0
  Changes index n v before (Ok done) after = Stores n v (item index before) (item index after)
  Changes index n v before (Err fault) after = after ≡ before
