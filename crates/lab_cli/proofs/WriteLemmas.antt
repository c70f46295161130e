-- Prefixes of what is written.
use Rattle.std.proofs.Common.{◌≡◌, [], ◌++◌, take, drop, Option, refl, sym, ap, ◌∙◌, append-nil}
use Rattle.std.proofs.lemmas.List.{append_assoc, take-append-drop}
use Rattle.std.specs.Io.KnownBytes.{Appends}
use Rattle.lab_io.specs.Causes.{AppendsFront}
use Rattle.lab_defs_text.specs.Words.{Bytes}
use Rattle.lab_defs_report.specs.Laws.{IsFront}

-- a prefix of a piece that was written, as bytes of its own
pub prefix_written : (a b : Option Bytes) (piece : Bytes) → AppendsFront a b piece → (written : Bytes) × Appends a b written × IsFront written piece
prefix_written a b piece f = (take f.0 piece, f.2, (drop f.0 piece, sym (take-append-drop f.0 piece)))

-- nothing is a prefix of all bytes
pub none_front : (whole : Bytes) → IsFront [] whole
none_front whole = (whole, refl)

-- so are all of them
pub whole_front : (front whole : Bytes) → whole ≡ front → IsFront front whole
whole_front front whole e = ([], e ∙ sym (append-nil front))

-- a prefix of a prefix is one
pub front_trans : (a b c : Bytes) → IsFront a b → IsFront b c → IsFront a c
front_trans a b c f g = (f.0 ++ g.0, g.1 ∙ ap (λ x. x ++ g.0) f.1 ∙ append_assoc a f.0 g.0)

-- a prefix after the same bytes is one
pub front_after : (before a b : Bytes) → IsFront a b → IsFront (before ++ a) (before ++ b)
front_after before a b f = (f.0, ap (λ x. before ++ x) f.1 ∙ sym (append_assoc before a f.0))
