-- The faults of a text as the definitions have them.
use Rattle.std.specs.Prelude.{Option, Some, None}
use Rattle.lab_defs_text.specs.Faults as fault
use Rattle.lab_lex.specs.Faults.{lex_model}
use Rattle.lab_world.specs.Drafts.{assemble_fault}
use Rattle.lab_world.specs.declared.parts.AssembleFault.{AssembleFault}
use Rattle.lab_world.specs.declared.parts.AssembleFault.TheVariants as assemble
use Rattle.lab_text.specs.declared.line_fault.LineFault.{LineFault}
use Rattle.lab_text.specs.declared.line_fault.LineFault.TheVariants as line
use Rattle.lab_text.specs.declared.fault.TextFault.{TextFault}
use Rattle.lab_text.specs.declared.fault.TextFault.TheVariants as text

-- the fault that the definitions have, none for want of memory
abbrev pub text_fault : TextFault → Option fault.TextFault
text_fault (text.CutShort line) = Some (fault.cut_short line)
text_fault (text.NoNewline line) = Some (fault.no_newline line)
text_fault (text.ExtraLine line) = Some (fault.extra_line line)
text_fault (text.Lex line f) = Some (fault.in_line line (fault.lexical (lex_model f)))
text_fault (text.BadWord line place) = Some (fault.in_line line (fault.bad_word_at place))
text_fault (text.Twice line place) = Some (fault.in_line line (fault.twice_at place))
text_fault (text.Assemble f) = assemble_fault f
text_fault text.Memory = None

-- likewise of a line
abbrev pub line_fault : LineFault → Option fault.LineFault
line_fault (line.Lex f) = Some (fault.lexical (lex_model f))
line_fault (line.BadWord place) = Some (fault.bad_word_at place)
line_fault (line.Twice place) = Some (fault.twice_at place)
line_fault line.Memory = None

-- the fault of a text that a fault of its parts is: want of memory is that of the text, and no fault of the parts
abbrev pub fault_of_parts : AssembleFault → TextFault
fault_of_parts assemble.Memory = text.Memory
fault_of_parts f = text.Assemble f
