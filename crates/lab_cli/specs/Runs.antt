-- What a run has read and written, by its status.
use Rattle.std.specs.Prelude.{◌≡◌, ◌≢◌, ◌≤◌, ◌+◌, List, [], ◌++◌, length, Bool, true, false, None, Some, ⊤}
use Rattle.std.specs.declared.option.Option.{Option}
use Rattle.std.specs.Io.KnownBytes.{Appends}
use Rattle.lab_io.specs.declared.line_reader.TheConstants.{READ_AHEAD}
use Rattle.lab_defs_text.specs.Words.{Bytes}
use Rattle.lab_defs_report.specs.Answers.{answer}
use Rattle.lab_defs_report.specs.Cuts.{game_limit, commands_limit}
use Rattle.lab_defs_report.specs.Laws.{IsFront}
use Rattle.lab_defs_report.specs.Modes.{this_program, mode_in, mode_answer, report_in, replies_in, is_refused_in}
use Rattle.lab_cli.specs.declared.status.Status.{Status}
use Rattle.lab_cli.specs.declared.status.Status.TheVariants.{Done, BadWords, Refused, Memory, ReadFault, WriteFault}

-- where a run is done, or refused, what was written is the whole report, without a refusal or with one; where the source failed,
-- it is all that the bytes that were taken are answered with, and no refusal
abbrev pub EndsAs : Status → List Bytes → (taken left written : Bytes) → Type 0
EndsAs Done words taken left written = (written ≡ report_in this_program words (taken ++ left)) × (is_refused_in this_program words (taken ++ left) ≡ false)
EndsAs Refused words taken left written = (written ≡ report_in this_program words (taken ++ left)) × (is_refused_in this_program words (taken ++ left) ≡ true)
EndsAs ReadFault words taken left written = mode_answer this_program false taken (mode_in this_program words) ≡ answer written
EndsAs _ words taken left written = ⊤

-- of an input `taken` was read and `left` was not, and `written` was written
pub record HasRun (status : Status) (words : List Bytes) (taken left written : Bytes) : Type 0 where
  -- never more than the report of the whole input
  pub front : IsFront written (report_in this_program words (taken ++ left))
  -- nor, where some of it was not read, than the replies to what was
  pub early : left ≢ [] → IsFront written (replies_in this_program words taken)
  pub ends : EndsAs status words taken left written
  pub to_the_end : status ≡ Done → left ≡ []
  -- no more is read than a game and its commands may have, and one buffer
  pub within : length taken ≤ game_limit + commands_limit + READ_AHEAD

-- what a run has done, where the source tells its bytes and the sink what was written
abbrev pub Tells : Status → List Bytes → (left_before left_after written_before written_after : Option Bytes) → Type 0
Tells status words None left_after before after = ⊤
Tells status words (Some input) None before after = ⊥
Tells status words (Some input) (Some left) before after =
    (taken : Bytes) × (written : Bytes) × (input ≡ taken ++ left) × Appends before after written × HasRun status words taken left written

-- the answers to words of a mode where nothing failed: by whether the report has a refusal, or for want of memory
abbrev pub IsAnswer : Status → Bool → Type 0
IsAnswer Done refused = refused ≡ false
IsAnswer Refused refused = refused ≡ true
IsAnswer Memory refused = ⊤
IsAnswer _ refused = ⊥

-- the answers to words that are no mode
abbrev pub IsRejection : Status → Type 0
IsRejection BadWords = ⊤
IsRejection Memory = ⊤
IsRejection WriteFault = ⊤
IsRejection _ = ⊥
