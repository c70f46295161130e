use Rattle.std.proofs.Common.{◌≡◌, ◌+◌}
use Rattle.lab_form.specs.Forms.{form_model}
use Rattle.lab_regret.specs.Kept.{FitsRoom}
use Rattle.lab_session.specs.Solved.{IsSolved}
use Rattle.lab_session.proofs.solve.play.Given as goal

abbrev pub invariant-loop : goal.invariant-loop
invariant-loop l = record {
  solved : IsSolved (form_model l.form) l.fn.regrets.grid1 l.fn.regrets.grid2 (l.fn.regrets.rounds + l.counter) l.regrets;
  fits : FitsRoom l.regrets l.form;
}
