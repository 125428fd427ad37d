-- The kinds of rule in words, byte by byte.
use Rattle.std.specs.Prelude.{ℕ, List, codes}
use Rattle.rules.specs.declared.chosen_rule.RuleKind.{RuleKind}
use Rattle.rules.specs.declared.chosen_rule.RuleKind.TheVariants.{Locking, Checking}

abbrev pub rule_words : RuleKind → List ℕ
rule_words Locking = codes "locks"
rule_words Checking = codes "check"
