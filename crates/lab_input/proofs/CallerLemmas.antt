-- What a caller cites of the lines of games, and of limits on lines.

-- an input is cut after the lines of a game, whatever follows them
pub use Rattle.lab_input.proofs.PartLemmas.{cut_after}
-- the bytes of a game, those held after it and those that came then; a count of faults that rose
pub use Rattle.lab_input.proofs.PartLemmas.{given_and_more, rose_earlier}
-- the first line of bytes, with a line feed or without one
pub use Rattle.lab_input.proofs.LineLimits.{one_line, first_line}
-- which limit the first line passes, whatever code is given for the bytes that are allowed; none within the limits
pub use Rattle.lab_input.proofs.LineLimits.{feeds, FirstPasses, limit_passes, allowance_passes, none_passed, line_passes_none}
-- a game that does not unfold, or has no perfect recall, is not accepted; nor is the text of a game that is not; an error that is passed on
pub use Rattle.lab_input.proofs.FaultLemmas.{unfolding_denied, recall_denied, game_denied, gives_denied}
