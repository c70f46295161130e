-- Games on which there is no session.
use Rattle.std.proofs.Common.{ℕ, Option, Some, None, sym, subst}
use Rattle.std.specs.Prelude.{IfSome, IsSomeAnd}
use Rattle.lab_defs_report.specs.GameModes.{accepted_at}
use Rattle.lab_world.specs.declared.game.Game.{Game}
use Rattle.lab_world.specs.declared.place.WorldId.{WorldId}
use Rattle.lab_world.specs.Games.{game_model}
use Rattle.lab_unfold.specs.declared.history.UnfoldFault.{UnfoldFault}
use Rattle.lab_unfold.specs.Faults as unfolds
use Rattle.lab_recall.specs.declared.fault.RecallFault.{RecallFault}
use Rattle.lab_recall.specs.Faults as recalls
use Rattle.lab_session.specs.declared.start.StartFault.TheVariants.{Unfold, Recall}
use Rattle.lab_session.specs.Sessions.{IsStartFault, AreWorlds}
use Rattle.lab_input.specs.declared.stop.Stop.{Stop}
use Rattle.lab_input.specs.Stops.{Denies, RefusesUnfolding, RefusesRecall}
use Rattle.lab_input.proofs.CallerLemmas.{unfolding_denied, recall_denied}

-- what holds of a value that is there
if_there : {X : Type 0} (P : X → Type 0) (o : Option X) → IsSomeAnd o P → IfSome o P
if_there P None h = absurd h
if_there P (Some x) h = h

-- the worlds that are handed back with a game are those of its fault
pub worlds_of_fault : (game back : Game) (f : RecallFault) (first second : WorldId) → IsStartFault game (Recall back f first second) → AreWorlds (game_model back) f first.0 second.0
worlds_of_fault game back f first second h = subst (λ g. AreWorlds (game_model g) f first.0 second.0) (sym h.0) h.3

-- a game that does not unfold is refused for it
pub unfolding_refused : (game back : Game) (line : ℕ) (f : UnfoldFault) (s : Stop) → IsStartFault game (Unfold back f) → RefusesUnfolding (game_model back) line (unfolds.fault_in f) s
    → Denies (accepted_at line (game_model game)) s
unfolding_refused game back line f s h r =
    unfolding_denied (game_model game) line f s (if_there _ (unfolds.fault_in f) h.1) (subst (λ g. RefusesUnfolding (game_model g) line (unfolds.fault_in f) s) h.0 r)

-- and so is one without perfect recall
pub recall_refused : (game back : Game) (line : ℕ) (f : RecallFault) (first second : WorldId) (s : Stop) → IsStartFault game (Recall back f first second)
    → RefusesRecall (game_model back) line (recalls.fault_in f) s → Denies (accepted_at line (game_model game)) s
recall_refused game back line f first second s h r =
    recall_denied (game_model game) line f s h.1 (if_there _ (recalls.fault_in f) h.2) (subst (λ g. RefusesRecall (game_model g) line (recalls.fault_in f) s) h.0 r)
