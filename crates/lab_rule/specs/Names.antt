-- The rules as the definitions have them.
use Rattle.lab_defs_value.specs.Allowances as rule
use Rattle.lab_rule.specs.declared.name.RuleName.{RuleName}
use Rattle.lab_rule.specs.declared.name.RuleName.TheVariants as name

-- the rule with a name
abbrev pub rule_model : RuleName → rule.Rule
rule_model name.Cfrd = rule.cfrd
rule_model name.Margin = rule.margin
rule_model name.Reach = rule.reach
