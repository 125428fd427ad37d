-- Which fault a refusal tells.
use Rattle.std.specs.Prelude.{◌≡◌, ℕ, cond, List, [], ◌∷◌, Some, None, Option, refl, ◌==◌}
use Rattle.register_parts.specs.declared.job_fault.JobFault.TheVariants.{TooLittleMemory, Unknown, BayNotFree, BayFree, BayClosed, NotDominated, NoSuchItem, OnlyReads, NoValue, TooManyPending, ClaimedBy, Overtaken, Stale, ClockAtEnd}
use Rattle.lines.specs.LineFaults.{fault_bytes}
use Rattle.lines.specs.declared.line_fault.LineFault.{LineFault}
use Rattle.lines.specs.declared.line_fault.LineFault.TheVariants.{Malformed, UnknownOperation, OutOfOrder, WrongLength, OutOfRange, Unfit, Refused}

-- The fault that goes by a number and names no bay.
abbrev pub numbered : ℕ → Option LineFault
numbered n =
    cond (n == 1) (Some Malformed)
    (cond (n == 2) (Some UnknownOperation)
    (cond (n == 3) (Some OutOfOrder)
    (cond (n == 4) (Some WrongLength)
    (cond (n == 5) (Some OutOfRange)
    (cond (n == 6) (Some Unfit)
    (cond (n == 7) (Some (Refused TooLittleMemory))
    (cond (n == 8) (Some (Refused Unknown))
    (cond (n == 9) (Some (Refused BayNotFree))
    (cond (n == 10) (Some (Refused BayFree))
    (cond (n == 11) (Some (Refused BayClosed))
    (cond (n == 12) (Some (Refused NotDominated))
    (cond (n == 13) (Some (Refused NoSuchItem))
    (cond (n == 14) (Some (Refused OnlyReads))
    (cond (n == 15) (Some (Refused NoValue))
    (cond (n == 16) (Some (Refused TooManyPending))
    (cond (n == 18) (Some (Refused Overtaken))
    (cond (n == 19) (Some (Refused Stale))
    (cond (n == 20) (Some (Refused ClockAtEnd)) None))))))))))))))))))

abbrev pub claimed : ℕ → ℕ → Option LineFault
claimed n bay = cond (n == 17) (Some (Refused (ClaimedBy bay))) None

-- The fault that the bytes of a reply tell, if they refuse a line.
abbrev pub told_fault : List ℕ → Option LineFault
told_fault [] = None
told_fault (n ∷ []) = numbered n
told_fault (n ∷ bay ∷ []) = claimed n bay
told_fault (n ∷ bay ∷ more ∷ rest) = None

-- Every fault is told by its bytes.
pub told_fault-fault_bytes : (fault : LineFault) → told_fault (fault_bytes fault) ≡ Some fault
told_fault-fault_bytes Malformed = refl
told_fault-fault_bytes UnknownOperation = refl
told_fault-fault_bytes OutOfOrder = refl
told_fault-fault_bytes WrongLength = refl
told_fault-fault_bytes OutOfRange = refl
told_fault-fault_bytes Unfit = refl
told_fault-fault_bytes (Refused TooLittleMemory) = refl
told_fault-fault_bytes (Refused Unknown) = refl
told_fault-fault_bytes (Refused BayNotFree) = refl
told_fault-fault_bytes (Refused BayFree) = refl
told_fault-fault_bytes (Refused BayClosed) = refl
told_fault-fault_bytes (Refused NotDominated) = refl
told_fault-fault_bytes (Refused NoSuchItem) = refl
told_fault-fault_bytes (Refused OnlyReads) = refl
told_fault-fault_bytes (Refused NoValue) = refl
told_fault-fault_bytes (Refused TooManyPending) = refl
told_fault-fault_bytes (Refused (ClaimedBy bay)) = refl
told_fault-fault_bytes (Refused Overtaken) = refl
told_fault-fault_bytes (Refused Stale) = refl
told_fault-fault_bytes (Refused ClockAtEnd) = refl
