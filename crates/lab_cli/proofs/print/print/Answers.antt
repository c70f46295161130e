use Rattle.std.proofs.Common.{sym, ap, ◌∙◌, subst}
use Rattle.lab_defs_text.specs.Texts.{canonical}
use Rattle.lab_defs_report.specs.GameModes.{read_text}
use Rattle.lab_world.specs.Games.{game_model}
use Rattle.lab_input.specs.declared.stop.Stop.TheVariants as stop
use Rattle.lab_input.specs.Stops.{Denies}
use Rattle.lab_cli.proofs.AnsweredLemmas.{print_refuses, answered_cut_off, answered_denied}
use Rattle.lab_cli.proofs.ContinuedLemmas.{answered_passed}
use Rattle.lab_cli.proofs.AloneLemmas.{print_alone, answered_not_ended, answered_unwritten, answered_alone}
use Rattle.lab_cli.proofs.StopLemmas.{other_passed}
use Rattle.lab_cli.proofs.print.print.Goals as goal

pub returns-in_err-part-clause-answered : goal.returns-in_err-part-clause-answered
returns-in_err-part-clause-answered g c =
    answered_passed c.in_err-part.field-0.0 _ c.from_residual.ensures (answered_cut_off _ c.in_err-part.field-0.0 print_refuses c.in_err-part.ensures.stop)

pub returns-in_err-game-clause-answered : goal.returns-in_err-game-clause-answered
returns-in_err-game-clause-answered g c =
    answered_passed c.in_err-game.field-0.0 _ c.from_residual-in_err-game.ensures
    (answered_denied _ c.in_err-game.field-0.0 print_refuses c.in_ok-part.ensures.part c.in_ok-part.ensures.ahead
    (subst (λ t. Denies (read_text t) c.in_err-game.field-0.0) c.as_slice.ensures.value c.in_err-game.ensures))

pub returns-in_err-check_end-clause-answered : goal.returns-in_err-check_end-clause-answered
returns-in_err-check_end-clause-answered g c =
    answered_passed c.in_err-check_end.field-0.0 _ c.from_residual-in_err-check_end.ensures
    (answered_not_ended _ c.in_err-check_end.field-0.0 c.in_ok-part.ensures.part
    (print_alone c.in_ok-part.part.text.items c.in_ok-part.part.done (game_model c.in_ok-game.game)
    (ap read_text (sym c.as_slice.ensures.value) ∙ c.in_ok-game.ensures))
    c.in_err-check_end.ensures.stop)

pub returns-in_err-check_end-clause-no_read_fault : goal.returns-in_err-check_end-clause-no_read_fault
returns-in_err-check_end-clause-no_read_fault g c =
    λ other. c.in_err-check_end.ensures.no_fault (other_passed c.in_err-check_end.field-0.0 stop.ReadFault c.from_residual-in_err-check_end.result c.from_residual-in_err-check_end.ensures other) ∙ c.in_ok-part.ensures.no_fault (λ e. cc)

pub returns-in_default-clause-answered : goal.returns-in_default-clause-answered
returns-in_default-clause-answered g c = answered_unwritten _ c.in_ok-part.ensures.part c.in_ok-check_end.ensures.takes c.in_ok-check_end.ensures.end

pub returns-clause-answered : goal.returns-clause-answered
returns-clause-answered g c =
    answered_alone (canonical (game_model c.in_ok-game.game)) _ c.write_all.result c.in_ok-part.ensures.part c.in_ok-check_end.ensures.takes c.in_ok-check_end.ensures.end
    (print_alone c.in_ok-part.part.text.items c.in_ok-part.part.done (game_model c.in_ok-game.game)
    (ap read_text (sym c.as_slice.ensures.value) ∙ c.in_ok-game.ensures))
    (c.as_slice-2.ensures.value ∙ c.in-Ok.ensures.written)
    (record { whole = c.write_all.ensures.whole; front = c.write_all.ensures.front; only = c.write_all.ensures.only })

pub returns-clause-no_read_fault : goal.returns-clause-no_read_fault
returns-clause-no_read_fault g c = λ _. c.in_ok-check_end.ensures.no_fault (λ e. cc) ∙ c.in_ok-part.ensures.no_fault (λ e. cc)
