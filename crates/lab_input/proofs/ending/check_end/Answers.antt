use Rattle.lab_input.proofs.EndLemmas.{not_ended, none_came, taken_after}
use Rattle.lab_input.proofs.ending.check_end.Goals as goal

pub returns-in-Err-AllowancePassed-clause-stop : goal.returns-in-Err-AllowancePassed-clause-stop
returns-in-Err-AllowancePassed-clause-stop g c =
    not_ended _ _ _ _ _ (rw (c.allow.ensures, c.in-Err-AllowancePassed.field-0-is) at c.in-Err-AllowancePassed.ensures.stop) c.refused.ensures

pub returns-in-Err-ReadFault-clause-stop : goal.returns-in-Err-ReadFault-clause-stop
returns-in-Err-ReadFault-clause-stop g c =
    none_came _ _ _ c.args.done (rw (c.allow.ensures, c.in-Err-ReadFault.field-0-is) at c.in-Err-ReadFault.ensures.stop)

pub returns-in-Err-Memory-clause-stop : goal.returns-in-Err-Memory-clause-stop
returns-in-Err-Memory-clause-stop g c =
    taken_after _ _ _ _ (rw (c.allow.ensures, c.in-Err-Memory.field-0-is) at c.in-Err-Memory.ensures.stop)
