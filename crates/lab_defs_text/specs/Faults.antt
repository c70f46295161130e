-- What may be wrong with a text. Lines count from 1, and so do the places of the words of a line.
use Rattle.std.specs.Prelude.{ℕ}

-- a word that is wrong in itself
pub data LexFault : Type 0 where
  bad_space_at : (place : ℕ) → LexFault
  bad_name_at : (place : ℕ) → LexFault
  bad_number_at : (place : ℕ) → LexFault
  out_of_range_at : (place : ℕ) → LexFault

-- a line that may not be where it is: a word that is wrong in itself, one other than what is wanted, or a name that was given before
pub data LineFault : Type 0 where
  lexical : (fault : LexFault) → LineFault
  bad_word_at : (place : ℕ) → LineFault
  twice_at : (place : ℕ) → LineFault

-- a text that is none: it ends too early, goes on too long, has a wrong line, or its lines do not make a game
pub data TextFault : Type 0 where
  cut_short : (line : ℕ) → TextFault
  no_newline : (line : ℕ) → TextFault
  extra_line : (line : ℕ) → TextFault
  in_line : (line : ℕ) (fault : LineFault) → TextFault
  unknown_name : (line place : ℕ) → TextFault
  extra_row : (line : ℕ) → TextFault
  missing_row : (line first second : ℕ) → TextFault
  no_root : (line : ℕ) → TextFault
