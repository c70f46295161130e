-- What callers may cite.

-- chains of parents step by step, and sets of the program as the definitions have them
pub use Rattle.lab_form.proofs.PathLemmas.{Below, ParentsBelow, chain_step, chain_short, model_length, model_actions, model_parent, parents_below}
-- a step that is there is at a place among those of the sets
pub use Rattle.lab_form.proofs.ChainLemmas.{step_placed}
-- the numbers of a walk: those of the items that pass, and sums over them
pub use Rattle.lab_form.proofs.NumberLemmas.{last_more, last_none, numbers_pass, numbers_all, total_numbers, total_items}
-- the last decision of a step by that above its set, and when 32 bits hold it
pub use Rattle.lab_form.proofs.DecisionLemmas.{by_parents, step_more, no_decision, decision_step, decides_at, passes_at, decided, passed, decision_fits, short_exact, above_exact, rows_exact}
-- the set of that decision, and that the decisions above sets are exact
pub use Rattle.lab_form.proofs.SetLemmas.{no_set, set_decided, set_step, above_short}
-- a form of the program as the definitions have it, seat by seat, is well made
pub use Rattle.lab_form.proofs.ModelLemmas.{step_there, model_below, whole_path_last, whole_path_chain, form_sets, form_actions, row_path, seat_step, form_is}
