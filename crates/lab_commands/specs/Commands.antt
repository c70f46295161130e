-- Commands and their faults as the definitions have them.
use Rattle.lab_defs_report.specs.Commands as model
use Rattle.lab_commands.specs.declared.command.Command.{Command}
use Rattle.lab_commands.specs.declared.command.Command.TheVariants as command
use Rattle.lab_rule.specs.Names.{rule_model}

-- the command that a value is
abbrev pub command_model : Command → model.Command
command_model command.ExpectUniform = model.expect_uniform
command_model command.Expect = model.expect
command_model command.BlueprintUniform = model.blueprint_uniform
command_model (command.BlueprintGiven weights) = model.blueprint_given weights
command_model (command.BlueprintSolve rounds) = model.blueprint_solve rounds
command_model (command.Bound seat) = model.bound seat
command_model (command.Show seat) = model.show seat
command_model (command.Propose seat node r weights) = model.propose seat node (rule_model r) weights
command_model (command.Resolve seat node r rounds) = model.resolve seat node (rule_model r) rounds
command_model (command.Cert seat) = model.cert seat
command_model (command.Deal words) = model.deal words
command_model (command.Play rounds seed) = model.play rounds seed
