-- The faults of words as the definitions have them.
use Rattle.lab_defs_text.specs.Faults as fault
use Rattle.lab_lex.specs.declared.fault.LexFault.{LexFault}
use Rattle.lab_lex.specs.declared.fault.LexFault.TheVariants as lex

abbrev pub lex_model : LexFault → fault.LexFault
lex_model (lex.BadSpace place) = fault.bad_space_at place
lex_model (lex.BadName place) = fault.bad_name_at place
lex_model (lex.BadNumber place) = fault.bad_number_at place
lex_model (lex.OutOfRange place) = fault.out_of_range_at place
