-- The lines of a game, read from a source.
use Rattle.std.specs.Prelude.{◌≡◌, ◌≤◌, ◌<◌, ◌+◌, ◌++◌, ℕ, [], ◌∷◌, length, Option, Bool, false, IsTrue}
use Rattle.std.specs.Io.KnownBytes.{Consumes, IsAtEnd}
use Rattle.lab_io.specs.Reading.{Takes}
use Rattle.lab_io.specs.declared.line_reader.TheConstants.{READ_AHEAD}
use Rattle.lab_defs_text.specs.Words.{Bytes}
use Rattle.lab_defs_report.specs.Refusals.{Refusal, refused, refusal_line}
use Rattle.lab_defs_report.specs.Cuts.{game_limit, cut_at, cut_refused, cut_open}
use Rattle.lab_defs_report.specs.Modes.{input_cut}
use lib.Chars.{codes}
use Rattle.lab_input.specs.declared.refusals.Rejection.{Rejection}
use Rattle.lab_input.specs.declared.stop.Stop.{Stop}
use Rattle.lab_input.specs.declared.stop.Stop.TheVariants.{Refused, ReadFault, WriteFault, Memory}
use Rattle.lab_input.specs.Stops.{line_of}

-- the bytes that came next are the lines of a game, the last of which is the first that is `done`
pub record IsGamePart (old : Option Bytes) (ahead : Bytes) (new : Option Bytes) (text : Bytes) (done : ℕ) : Type 0 where
  pub takes : Takes [] old ahead new text
  pub cuts : input_cut false text ≡ cut_at text done ([] ∷ [])
  pub short : length text ≤ game_limit
  pub few : done ≤ length text

-- some bytes were taken: those that a reader had ahead, with these, are no more than a limit and those that it holds
pub record TakesSome (limit : ℕ) (ahead : Bytes) (old new : Option Bytes) : Type 0 where
  pub taken : Bytes
  pub consumed : Consumes old new taken
  pub within : length (ahead ++ taken) ≤ limit + READ_AHEAD

-- a refusal that is known of the bytes that were taken, read to the end or not
pub record IsCutOff (old new : Option Bytes) (kept : Rejection) : Type 0 where
  pub takes : TakesSome game_limit [] old new
  pub ended : Bool
  pub at_end : IsTrue ended → IsAtEnd new
  pub refusal : Refusal
  pub cuts : input_cut ended takes.taken ≡ cut_refused refusal
  pub tells : line_of kept ≡ refusal_line refusal

-- the bytes that were taken hold no whole game, and nothing is wrong with them so far
pub record IsOpen (old new : Option Bytes) : Type 0 where
  pub takes : TakesSome game_limit [] old new
  pub cuts : input_cut false takes.taken ≡ cut_open

-- why there are no lines of a game
abbrev pub CutsOff : (old new : Option Bytes) → Stop → Type 0
CutsOff old new (Refused kept) = IsCutOff old new kept
CutsOff old new ReadFault = IsOpen old new
CutsOff old new WriteFault = ⊥
CutsOff old new Memory = TakesSome game_limit [] old new

-- the refusal of a byte after the line `done`
pub record IsExtra (ahead : Bytes) (old new : Option Bytes) (done : ℕ) (kept : Rejection) : Type 0 where
  pub takes : TakesSome 0 ahead old new
  pub some : 0 < length (ahead ++ takes.taken)
  pub tells : line_of kept ≡ refusal_line (refused (done + 1) (codes "ExtraLine") [])

-- no byte came
pub record IsBare (ahead : Bytes) (old new : Option Bytes) : Type 0 where
  pub takes : TakesSome 0 ahead old new
  pub none : ahead ++ takes.taken ≡ []

-- why the end of an input was not found after the line `done`
abbrev pub NotEnded : Bytes → (old new : Option Bytes) → (done : ℕ) → Stop → Type 0
NotEnded ahead old new done (Refused kept) = IsExtra ahead old new done kept
NotEnded ahead old new done ReadFault = IsBare ahead old new
NotEnded ahead old new done WriteFault = ⊥
NotEnded ahead old new done Memory = TakesSome 0 ahead old new
