-- Lines to which pieces are added.
use Rattle.std.proofs.Common.{◌≡◌, [], ◌∷◌, ◌++◌, refl, sym, ap, ◌∙◌, subst, append_assoc}
use Rattle.std.specs.declared.option.Option.{Option}
use Rattle.std.specs.Io.KnownBytes.{Appends}
use Rattle.std.proofs.KnownBytes.{Appends-nil, Appends-trans}
use Rattle.lab_io.specs.Causes.{AppendsFront}
use Rattle.lab_defs_text.specs.Words.{Bytes}
use Rattle.lab_lines.specs.Lines.{Adds}
use Rattle.lab_lines.proofs.PrefixLemmas.{AppendsFront-second}

-- a piece that is held
pub adds_held : (before piece : Bytes) (written : Option Bytes) → Adds before (before ++ piece) written written piece
adds_held before piece written = record { first = []; appended = Appends-nil written; split = refl }

-- a piece that is held after what was there was written
pub adds_written : (before piece : Bytes) (old new : Option Bytes) → Appends old new before → Adds before piece old new piece
adds_written before piece old new h = record { first = before; appended = h; split = refl }

-- one piece after another
pub Adds-trans : (a b c : Bytes) (old mid new : Option Bytes) (first second : Bytes) → Adds a b old mid first → Adds b c mid new second → Adds a c old new (first ++ second)
Adds-trans a b c old mid new first second h k = record {
  first = h.first ++ k.first;
  appended = Appends-trans old mid new h.first k.first h.appended k.appended;
  split = sym (append_assoc a first second) ∙ ap (λ t. t ++ second) h.split ∙ append_assoc h.first b second ∙ ap (λ t. h.first ++ t) k.split ∙ sym (append_assoc h.first k.first c);
}

-- what is held was written with what follows it
pub Adds-whole : (a b : Bytes) (old mid new : Option Bytes) (piece rest : Bytes) → Adds a b old mid piece → Appends mid new (b ++ rest) → Appends old new ((a ++ piece) ++ rest)
Adds-whole a b old mid new piece rest h k =
    subst (Appends old new) (sym (append_assoc h.first b rest) ∙ ap (λ t. t ++ rest) (sym h.split)) (Appends-trans old mid new h.first (b ++ rest) h.appended k)

-- or a prefix of it
pub Adds-front : (a b : Bytes) (old mid new : Option Bytes) (piece rest : Bytes) → Adds a b old mid piece → AppendsFront mid new (b ++ rest) → AppendsFront old new ((a ++ piece) ++ rest)
Adds-front a b old mid new piece rest h k =
    subst (AppendsFront old new) (sym (append_assoc h.first b rest) ∙ ap (λ t. t ++ rest) (sym h.split)) (AppendsFront-second old mid new h.first (b ++ rest) h.appended k)

-- a space was added, and then a piece
pub spaced_piece : (before spaced after piece : Bytes) → spaced ≡ before ++ (32 ∷ []) → after ≡ spaced ++ piece → after ≡ before ++ (32 ∷ piece)
spaced_piece before spaced after piece e h = h ∙ ap (λ t. t ++ piece) e ∙ append_assoc before (32 ∷ []) piece
