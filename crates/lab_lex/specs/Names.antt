-- Names that stand in other bytes.
use Rattle.std.specs.Borrow.{Bor}
use Rattle.lab_defs_text.specs.Words.{Bytes}

-- the bytes of a name
abbrev pub name_bytes : Bor Bytes → Bytes
name_bytes n = n.now
