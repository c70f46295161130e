-- The exit statuses of the program.
use Rattle.std.specs.Prelude.{ℕ}
use Rattle.lab_cli.specs.declared.status.Status.{Status}
use Rattle.lab_cli.specs.declared.status.Status.TheVariants.{Done, BadWords, Refused, Memory, ReadFault, WriteFault}

-- the number of a status
abbrev pub number_of : Status → ℕ
number_of Done = 0
number_of BadWords = 1
number_of Refused = 2
number_of Memory = 3
number_of ReadFault = 4
number_of WriteFault = 5
