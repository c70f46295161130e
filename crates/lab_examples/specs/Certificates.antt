-- Certificates of the even split in three-card Kuhn poker on a grid of 2.
use Rattle.std.specs.Prelude.{◌++◌}
use lib.Chars.{codes}
use Rattle.lab_defs_text.specs.Words.{Bytes}

-- its first and tenth bound are given, then what follows the weights
abbrev pub certificate_by : (first tenth weights : Bytes) → Bytes
certificate_by first tenth weights =
    codes "{\"bounds\":[\"" ++ (first ++ (codes "\",\"-6\",\"2\",\"14\",\"-2\",\"2\",\"6\",\"-2\",\"2\",\"" ++ (tenth
    ++ (codes "\",\"-4\",\"0\",\"8\"],\"seat\":1,\"weights\":[1,1,1,1,1,1,1,1,1,1,1" ++ weights))))

-- its first bound is the greatest of a reply's
abbrev pub certificate_with : (tenth weights : Bytes) → Bytes
certificate_with tenth weights = certificate_by (codes "10") tenth weights

-- a certificate of seat 1 of Kuhn poker on grid 2, by the uniform table
abbrev pub kuhn_certificate : Bytes
kuhn_certificate = certificate_with (codes "6") (codes ",1]}")

-- a bound too low
abbrev pub loose_certificate : Bytes
loose_certificate = certificate_with (codes "5") (codes ",1]}")

-- a weight too few
abbrev pub short_certificate : Bytes
short_certificate = certificate_with (codes "6") (codes "]}")

-- a key too many
abbrev pub longer_certificate : Bytes
longer_certificate = certificate_with (codes "6") (codes ",1],\"x\":0}")

-- its first bound is any number that a word spells
abbrev pub bounded_certificate : Bytes → Bytes
bounded_certificate first = certificate_by first (codes "6") (codes ",1]}")
