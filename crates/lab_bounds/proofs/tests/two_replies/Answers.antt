use Rattle.std.proofs.Common.{◌≡◌, sym, subst}
use Rattle.lab_defs_value.specs.Smallness.{IsSmall}
use Rattle.lab_form.specs.Forms.{FormValue, form_model}
use Rattle.lab_best.proofs.CallerLemmas.{small_for}
use Rattle.lab_bounds.proofs.SmallFormLemmas.{tested, tested_small, tested_made}
use Rattle.lab_bounds.proofs.tests.two_replies.Goals as goal

-- the form that was made
made : (c : goal.After-add_row-6) → c.add_row-6.new.self ≡ tested
made c =
    tested_made _ _ _ _ _ _ _ _ _ _ c.in_ok-form.ensures c.add_set.ensures c.add_set-2.ensures c.add_set-3.ensures c.add_row.ensures c.add_row-2.ensures c.add_row-3.ensures c.add_row-4.ensures c.add_row-5.ensures c.add_row-6.ensures

pub returns-clause-small : goal.returns-clause-small
returns-clause-small c = subst (λ (f : FormValue). IsSmall 4 1 (form_model f)) (sym (made c)) (small_for tested 4 2 tested_small).0

pub returns-clause-small_for_two : goal.returns-clause-small_for_two
returns-clause-small_for_two c = subst (λ (f : FormValue). IsSmall 1 2 (form_model f)) (sym (made c)) (small_for tested 4 2 tested_small).1
