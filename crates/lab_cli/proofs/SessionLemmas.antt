-- The replies of a session after the lines of its game.
use Rattle.std.proofs.Common.{◌≡◌, ℕ, ◌+◌, Bool, [], Option, Result, Ok, refl, ap, ◌∙◌, arith}
use Rattle.std.proofs.KnownBytes.{Appends-nil}
use Rattle.lab_defs_text.specs.Words.{Bytes, lines}
use Rattle.lab_defs_text.specs.Games.{GameModel}
use Rattle.lab_defs_report.specs.Cuts.{game_limit, commands_limit, cut_at}
use Rattle.lab_defs_report.specs.GameModes.{playable}
use Rattle.lab_defs_report.specs.Headline.{start}
use Rattle.lab_defs_report.specs.Modes.{session, is_built_command}
use Rattle.lab_defs_report.specs.Sessions.{session_cut}
use Rattle.lab_input.proofs.CallerLemmas.{cut_after}
use Rattle.lab_input.specs.GameParts.{IsGamePart}
use Rattle.lab_input.specs.declared.stop.Stop.{Stop}
use Rattle.lab_cli.specs.Answering.{Answered}
use Rattle.lab_cli.proofs.AnsweredLemmas.{answered_in}
use Rattle.lab_cli.proofs.ContinuedLemmas.{led_none, answered_after}
use Rattle.lab_cli.proofs.ReplyLemmas.{replies_from}

-- an input cut after a game that can be played is answered with the replies
game_replied : (ended : Bool) (text : Bytes) (n : ℕ) (more : Bytes) (g : GameModel) → playable text n ≡ Ok g
    → session_cut is_built_command ended (cut_at text n (lines more)) ≡ replies_from n 1 commands_limit (start g) ended more
game_replied ended text n more g e = rw (session_cut, e) refl

-- the commands after a game were answered
pub answered_commands : (old left new written_old written_new : Option Bytes) (ahead text : Bytes) (n : ℕ) (g : GameModel) (r : Result (Unit {0}) Stop) → IsGamePart old ahead left text n → playable text n ≡ Ok g
    → Answered (replies_from n 1 commands_limit (start g)) commands_limit ahead left new written_old written_new r
    → Answered (answered_in session) (game_limit + commands_limit) [] old new written_old written_new r
answered_commands old left new written_old written_new ahead text n g r part e h =
    answered_after (answered_in session) (replies_from n 1 commands_limit (start g)) (game_limit + commands_limit) commands_limit [] text [] ahead old left new written_old written_old written_new r
    (λ ended more. ap (session_cut is_built_command ended) (cut_after old ahead left text n part ended more) ∙ game_replied ended text n more g e ∙ led_none (replies_from n 1 commands_limit (start g) ended more))
    (omega (arith, part.short)) part.takes (Appends-nil written_old) h
