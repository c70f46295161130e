-- Prefixes of what was to be written in several steps.
use Rattle.std.proofs.Common.{◌++◌, ◌+◌, sym, subst, length, take, length-append, arith}
use Rattle.std.proofs.lemmas.List.{take-append-le}
use Rattle.std.proofs.Math.Seq.{take-append-add}
use Rattle.std.specs.declared.option.Option.{Option}
use Rattle.std.specs.Io.KnownBytes.{Appends}
use Rattle.std.proofs.KnownBytes.{Appends-trans}
use Rattle.lab_io.specs.Causes.{AppendsFront}
use Rattle.lab_defs_text.specs.Words.{Bytes}

-- a prefix of the first bytes is one of them all
pub AppendsFront-first : (a b : Option Bytes) (first second : Bytes) → AppendsFront a b first → AppendsFront a b (first ++ second)
AppendsFront-first a b first second p =
    (p.0, rw length-append (omega (arith, p.1)), subst (Appends a b) (sym (take-append-le p.0 first second p.1)) p.2)

-- the first bytes, and then a prefix of the second, are a prefix of them all
pub AppendsFront-second : (a b c : Option Bytes) (first second : Bytes) → Appends a b first → AppendsFront b c second → AppendsFront a c (first ++ second)
AppendsFront-second a b c first second whole p =
    (length first + p.0, rw length-append (omega (arith, p.1)), subst (Appends a c) (sym (take-append-add first second p.0)) (Appends-trans a b c first (take p.0 second) whole p.2))
