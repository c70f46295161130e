-- What a reader with an allowance is seen as, what it gives, and what it has taken where it stops before the end.
use Rattle.std.specs.Prelude.{◌≡◌, ℕ, ◌+◌, ◌<◌, ◌≤◌, ◌==◌, Bool, not, IsTrue, List, [], ◌∷◌, ◌++◌, length, take, slice_index}
use Rattle.std.specs.List.{list_all}
use Rattle.std.specs.declared.option.Option.{Option}
use Rattle.std.specs.Io.KnownBytes.{Consumes, IsAtEnd}
use Rattle.lab_io.specs.declared.line_reader.TheConstants.{READ_AHEAD, LINE_LIMIT}
use Rattle.lab_io.specs.declared.line_reader.Took.{Took}
use Rattle.lab_io.specs.declared.line_reader.Took.TheVariants.{Line, End}
use Rattle.lab_io.specs.declared.line_reader.ReadStop.{ReadStop}
use Rattle.lab_io.specs.declared.line_reader.ReadStop.TheVariants.{NoNewline, LineTooLong, AllowancePassed, ReadFault, Memory}

-- a reader: the bytes read ahead and not yet given, the line that it keeps, how many more bytes it may give, and whether it may still read
pub record Reader : Type 0 where
  pub ahead : List ℕ
  pub line : List ℕ
  pub allowance : ℕ
  pub live : Bool

-- the given bytes came next: those read ahead and those then taken from the source are the given bytes and those read ahead now
pub record Takes (ahead_old : List ℕ) (left_old : Option (List ℕ)) (ahead_new : List ℕ) (left_new : Option (List ℕ)) (given : List ℕ) : Type 0 where
  pub taken : List ℕ
  pub consumed : Consumes left_old left_new taken
  pub split : ahead_old ++ taken ≡ given ++ ahead_new

-- a fact holds of the bytes that a stop was at: those read ahead and some then taken from the source, together at most a buffer past the allowance
pub record StoppedAfter (ahead : List ℕ) (old new : Option (List ℕ)) (allowance : ℕ) (Why : List ℕ → Type 0) : Type 0 where
  pub taken : List ℕ
  pub consumed : Consumes old new taken
  pub within : length (ahead ++ taken) ≤ allowance + READ_AHEAD
  pub why : Why (ahead ++ taken)

-- whether no byte is a line feed
abbrev pub no_feed : List ℕ → Bool
no_feed bytes = list_all (λ c. not (c == 10)) bytes

-- a line without its line feed: no byte of it is one, and it is within the limit
pub record IsLine (bytes : List ℕ) : Type 0 where
  pub unended : IsTrue (no_feed bytes)
  pub short : length bytes ≤ LINE_LIMIT

-- the bytes that a call gave of the input: a line and its line feed, or none at the end
abbrev pub given_by : Took → List ℕ → List ℕ
given_by Line line = line ++ 10 ∷ []
given_by End line = []

-- what is kept of the input: a line, or nothing at the end
abbrev pub IsKept : Took → List ℕ → Type 0
IsKept Line line = IsLine line
IsKept End line = line ≡ []

-- the input ended where a line would begin: no byte stood ahead, none stands there now, and the source has none
pub record IsEnd (ahead_old ahead_new : List ℕ) (left : Option (List ℕ)) : Type 0 where
  pub none_before : ahead_old ≡ []
  pub none_now : ahead_new ≡ []
  pub at_end : IsAtEnd left

-- the byte past the longest line is no line feed, and all before it are within the allowance
pub record PassesLimit (allowance : ℕ) (bytes : List ℕ) : Type 0 where
  pub long : LINE_LIMIT < length bytes
  pub unended : IsTrue (no_feed (take (LINE_LIMIT + 1) bytes))
  pub reached : LINE_LIMIT ≤ allowance

-- the byte past the allowance stands in a line within the limit, or is the line feed of one
pub record PassesAllowance (allowance : ℕ) (bytes : List ℕ) : Type 0 where
  pub long : allowance < length bytes
  pub unended : IsTrue (no_feed (take allowance bytes))
  pub reached : allowance ≤ LINE_LIMIT
  pub at_limit : allowance ≡ LINE_LIMIT → slice_index bytes LINE_LIMIT ≡ 10

-- why the bytes gave no line, where the source then has these left
abbrev pub LineStop : ℕ → Option (List ℕ) → ReadStop → List ℕ → Type 0
LineStop allowance left NoNewline bytes = (0 < length bytes) × IsLine bytes × (length bytes ≤ allowance) × IsAtEnd left
LineStop allowance left LineTooLong bytes = PassesLimit allowance bytes
LineStop allowance left AllowancePassed bytes = PassesAllowance allowance bytes
LineStop allowance left ReadFault bytes = IsLine bytes × (length bytes ≤ allowance)
LineStop allowance left Memory bytes = Unit {0}

-- why the bytes were not all given
abbrev pub RestStop : ℕ → ReadStop → List ℕ → Type 0
RestStop allowance NoNewline bytes = ⊥
RestStop allowance LineTooLong bytes = ⊥
RestStop allowance AllowancePassed bytes = allowance < length bytes
RestStop allowance ReadFault bytes = length bytes ≤ allowance
RestStop allowance Memory bytes = length bytes ≤ allowance
