-- Bytes that were written or read in two steps.
use Rattle.std.proofs.Common.{ℕ, ◌+◌, ◌++◌, List, take, drop, None, Some, append_assoc, refl}
use Rattle.std.proofs.Math.Seq.{take-add}
use Rattle.std.specs.declared.option.Option.{Option}
use Rattle.std.specs.Io.KnownBytes.{Appends, Consumes}

-- two fronts of a piece, one written after the other, are one front
pub Appends-more : (a b c : Option (List ℕ)) (piece : List ℕ) (i n : ℕ) → Appends a b (take i piece) → Appends b c (take n (drop i piece)) → Appends a c (take (i + n) piece)
Appends-more None b c piece i n p q = tt
Appends-more (Some xs) None c piece i n p q = elim p [ ]
Appends-more (Some xs) (Some ys) None piece i n p q = elim q [ ]
Appends-more (Some xs) (Some ys) (Some zs) piece i n p q = rw (take-add, q, p, append_assoc) refl

-- bytes that were read, and those read after them, were read together
pub Consumes-append : (a b c : Option (List ℕ)) (before after : List ℕ) → Consumes a b before → Consumes b c after → Consumes a c (before ++ after)
Consumes-append None b c before after p q = tt
Consumes-append (Some xs) None c before after p q = elim p [ ]
Consumes-append (Some xs) (Some ys) None before after p q = elim q [ ]
Consumes-append (Some xs) (Some ys) (Some zs) before after p q = rw (p, q, append_assoc) refl
