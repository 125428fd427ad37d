-- The places of a job's pending values: which item stands where.
use Rattle.std.specs.Prelude.{ℕ, zero, suc, cond, List, [], ◌∷◌, take, Some, None, Option, ◌==◌, nat_lt}
use Rattle.laws.specs.Actions.{pending_places}
use Rattle.register_parts.specs.declared.bay.PendingItems.{PendingItems}

-- The items that have a pending value, in the order of their places.
abbrev pub pending_items : PendingItems → List ℕ
pending_items p = take p.count p.items

-- The place for a value of item i: that of its earlier value, else the one behind the others.
abbrev pub place : ℕ → List ℕ → ℕ
place i [] = 0
place i (j ∷ items) = cond (i == j) 0 (suc (place i items))

-- That place, if one is left: none where every place has another item.
abbrev pub room_for : ℕ → List ℕ → Option ℕ
room_for i items = cond (nat_lt (place i items) pending_places) (Some (place i items)) None

-- The items once item i stands at place k, which is one of theirs or the next.
abbrev pub with_item : ℕ → ℕ → List ℕ → List ℕ
with_item k i [] = i ∷ []
with_item zero i (j ∷ items) = i ∷ items
with_item (suc k) i (j ∷ items) = j ∷ with_item k i items
