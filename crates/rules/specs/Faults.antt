-- The numbers and the words under which a rule's faults are reported, and which of them the rule itself raises.
use Rattle.std.specs.Prelude.{ℕ, Bool, true, false, List, ◌++◌, Some, None, Option, codes}
use Rattle.std.specs.Fmt.{decimal}
use Rattle.rules.specs.declared.rule_fault.RuleFault.{RuleFault}
use Rattle.rules.specs.declared.rule_fault.RuleFault.TheVariants.{NoSuchBay, NoSuchItem, ClaimedBy, Stale}

abbrev pub fault_number : RuleFault → ℕ
fault_number NoSuchBay = 8
fault_number NoSuchItem = 13
fault_number (ClaimedBy b) = 17
fault_number Stale = 19

-- The other two are faults of the caller's arguments.
abbrev pub fault_of_rule : RuleFault → Bool
fault_of_rule NoSuchBay = false
fault_of_rule NoSuchItem = false
fault_of_rule (ClaimedBy b) = true
fault_of_rule Stale = true

abbrev pub named_bay : RuleFault → Option ℕ
named_bay NoSuchBay = None
named_bay NoSuchItem = None
named_bay (ClaimedBy b) = Some b
named_bay Stale = None

-- The fault in words, byte for byte.
abbrev pub fault_text : RuleFault → List ℕ
fault_text NoSuchBay = codes "no such bay"
fault_text NoSuchItem = codes "no such item"
fault_text (ClaimedBy b) = codes "no, bay " ++ (decimal b ++ codes " claims it")
fault_text Stale = codes "no, it is stale"
