-- The lines of refusals and of replies.
use Rattle.std.specs.Prelude.{◌≡◌, ℕ, List, [], ◌∷◌, ◌++◌, flat_map}
use Rattle.std.specs.declared.option.Option.{Option}
use Rattle.std.specs.Io.KnownBytes.{Appends}
use lib.Chars.{codes}
use Rattle.lab_defs_text.specs.Lines.{joined}
use Rattle.lab_defs_text.specs.Numbers.{numeral}
use Rattle.lab_defs_text.specs.Words.{Bytes}
use Rattle.lab_session.specs.Answers.{expect_words, blueprint_words, bound_words, show_words}
use Rattle.lab_lines.specs.declared.reply.Reply.{Reply}
use Rattle.lab_lines.specs.declared.reply.Reply.TheVariants.{Expect, Blueprint, Bound, Show}

-- words, each after a space
abbrev pub spaced : List Bytes → Bytes
spaced ws = flat_map (λ w. 32 ∷ w) ws

-- the line of a refusal, by the text of its further words
abbrev pub refusal_text : (line : ℕ) → (code rest : Bytes) → Bytes
refusal_text line code rest = codes "refused " ++ (numeral line ++ (32 ∷ (code ++ (rest ++ (10 ∷ [])))))

-- the words of a reply
abbrev pub reply_words : Reply → List Bytes
reply_words (Expect f) = expect_words f
reply_words (Blueprint first second) = blueprint_words first second
reply_words (Bound seat f) = bound_words seat f
reply_words (Show seat weights) = show_words seat weights.now

-- the line of a reply
abbrev pub reply_text : Reply → Bytes
reply_text r = joined (reply_words r) ++ (10 ∷ [])

-- a piece was added to a line: the first bytes of both were written, and the others are held
pub record Adds (before after : Bytes) (written_old written_new : Option Bytes) (piece : Bytes) : Type 0 where
  pub first : Bytes
  pub appended : Appends written_old written_new first
  pub split : before ++ piece ≡ first ++ after
