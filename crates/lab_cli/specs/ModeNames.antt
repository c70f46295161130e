-- The modes of the program as the definitions have them.
use Rattle.lab_defs_report.specs.Modes as model
use Rattle.lab_cli.specs.declared.mode.Mode.{Mode}
use Rattle.lab_cli.specs.declared.mode.Mode.TheVariants as mode

abbrev pub mode_model : Mode → model.Mode
mode_model mode.Session = model.session
mode_model mode.Check = model.check
mode_model mode.Print = model.print
