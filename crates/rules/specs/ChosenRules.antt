-- The rule that is chosen at set-up: its type, and its ghost members as a record.
use Rattle.rules.specs.declared.chosen_rule.RuleKind.{RuleKind}
use Rattle.rules.specs.declared.local_rule.LocalRule.{Ghosts}
use Rattle.rules.specs.declared.table_rule.TableRule.{TableRule}
use Rattle.rules.specs.Policies.{chosen}
use Rattle.rules.specs.Tables.{claims_of, kind_number}

abbrev pub ChosenRule : Type 0
ChosenRule = TableRule RuleKind

abbrev pub chosen_rule : Ghosts ChosenRule
chosen_rule = record {
  meaning = λ s. claims_of (kind_number s.policy) s.table.bays;
  variants = 2;
  policy = chosen;
}
