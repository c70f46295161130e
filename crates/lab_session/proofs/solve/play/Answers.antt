use Rattle.std.proofs.Common.{◌≡◌, ◌+◌, ◌<◌, arith, refl, sym, ap, ◌∙◌, subst}
use Rattle.lab_form.specs.Forms.{form_model}
use Rattle.lab_session.specs.Solved.{IsSolved}
use Rattle.lab_session.proofs.SolvedLemmas.{one_more, fits_on, small_kept}
use Rattle.lab_session.proofs.solve.play.Goals as goal

pub loop-init : goal.loop-init
loop-init c = record {
  solved = record { grid1 = refl; grid2 = refl; rounds = omega arith; kept = c.requires.kept };
  fits = c.requires.fits;
}

pub round-requires-clause-rounds : goal.round-requires-clause-rounds
round-requires-clause-rounds c = omega (arith, c.loop.invariant.solved.rounds, c.requires.most, c.loop-test.true)

pub round-requires-clause-fits : goal.round-requires-clause-fits
round-requires-clause-fits c = c.loop.invariant.fits

pub round-requires-clause-small : goal.round-requires-clause-small
round-requires-clause-small c = small_kept (form_model c.args.form.now) _ _ _ c.loop.regrets c.loop.invariant.solved c.requires.small

pub round-requires-clause-kept : goal.round-requires-clause-kept
round-requires-clause-kept c = c.loop.invariant.solved.kept

pub loop-preserved : goal.loop-preserved
loop-preserved c = record {
  solved = subst (λ n. IsSolved (form_model c.args.form.now) c.args.regrets.now.grid1 c.args.regrets.now.grid2 n c.round.new.self) (omega arith)
      (one_more (form_model c.args.form.now) _ _ _ c.loop.regrets c.round.new.self c.loop.invariant.solved c.round.ensures);
  fits = fits_on (form_model c.args.form.now) c.args.form.now c.loop.regrets c.round.new.self _ _ _ c.round.ensures c.loop.invariant.fits;
}

pub returns : goal.returns
returns c =
    let all : c.args.regrets.now.rounds + c.loop.counter ≡ c.args.regrets.now.rounds + c.args.rounds = omega (arith, c.loop-test.false, c.loop.auto.counter-end) in
    subst (λ n. IsSolved (form_model c.args.form.now) c.args.regrets.now.grid1 c.args.regrets.now.grid2 n c.loop.regrets) all c.loop.invariant.solved
