-- The numbers of set-up's faults, and the item counts that set-up accepts.
use Rattle.std.specs.Prelude.{ℕ, ◌-◌, Bool, true, cond, ◌&&◌, List, [], ◌∷◌, ◌++◌, map, length, replicate, Ok, Err, sum, Result, nat_le, nat_lt}
use Rattle.register_parts.specs.declared.class_setup.ClassSetup.{ClassSetup}
use Rattle.register_parts.specs.declared.item_counts.ItemCounts.{ItemCounts}
use Rattle.register_parts.specs.declared.setup_fault.SetUpFault.{SetUpFault}
use Rattle.register_parts.specs.declared.setup_fault.SetUpFault.TheVariants.{TooManyClasses, OtherClassCount, TooManyItems, TooManyItemsInAll, NoSuchVariant, TooLittleMemory}

-- Faults --------------------------------------------------------------------------------------------------------

abbrev pub setup_fault_number : SetUpFault → ℕ
setup_fault_number TooManyClasses = 5
setup_fault_number OtherClassCount = 5
setup_fault_number TooManyItems = 5
setup_fault_number TooManyItemsInAll = 5
setup_fault_number NoSuchVariant = 5
setup_fault_number TooLittleMemory = 7

-- Item counts ---------------------------------------------------------------------------------------------------

-- What the records of set-up say: the item counts, class by class.
abbrev pub said : List ClassSetup → List ℕ
said records = map (λ x. x.items) records

abbrev pub each_at_most : ℕ → List ℕ → Bool
each_at_most n [] = true
each_at_most n (x ∷ xs) = nat_le x n && each_at_most n xs

-- The counts of 16 classes: those without a record have no items.
abbrev pub for_16 : List ℕ → List ℕ
for_16 counts = counts ++ replicate (16 - length counts) 0

-- The counts, where they are in range.
abbrev pub checked_counts : List ℕ → Result (List ℕ) SetUpFault
checked_counts counts =
    cond (nat_lt 16 (length counts)) (Err TooManyClasses)
    (cond (each_at_most 64 counts) (cond (nat_lt 256 (sum counts)) (Err TooManyItemsInAll) (Ok (for_16 counts))) (Err TooManyItems))

abbrev pub counts_in : Result ItemCounts SetUpFault → Result (List ℕ) SetUpFault
counts_in (Ok x) = Ok x.items
counts_in (Err e) = Err e
