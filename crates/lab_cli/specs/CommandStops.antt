-- Why a command is refused.
use Rattle.std.specs.Prelude.{◌≡◌, ◌<◌, ◌^◌, ℕ, length, Option, Some, None, ⊤}
use Rattle.lab_defs_report.specs.Commands.{Command, blueprint_given}
use Rattle.lab_defs_report.specs.Refusals.{refused_command}
use Rattle.lab_defs_report.specs.States.{SessionFault}
use Rattle.lab_input.specs.declared.stop.Stop.{Stop}
use Rattle.lab_input.specs.declared.stop.Stop.TheVariants.{Memory}
use Rattle.lab_input.specs.Stops.{IsRefusal}

-- the stop is the refusal of a fault, where there is one
abbrev pub RefusesCommand : ℕ → Option SessionFault → Stop → Type 0
RefusesCommand line None stop = stop ≡ Memory
RefusesCommand line (Some f) stop = IsRefusal (refused_command line f) stop

-- a command gives fewer weights than 32 bits count
abbrev pub GivesFew : Command → Type 0
GivesFew (blueprint_given weights) = length weights < 2 ^ 32
GivesFew _ = ⊤
