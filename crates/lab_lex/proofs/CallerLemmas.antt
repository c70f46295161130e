-- Laws for the callers of this crate.
use Rattle.std.proofs.Common.{◌≡◌, List, Bool, false, None, position}
use Rattle.std.specs.List.{list_any}
use Rattle.lab_lex.proofs.Positions.{list_any-from_None}

-- where a search finds nothing, nothing passes its test
pub nothing_passes : {A : Type 0} (p : A → Bool) (xs : List A) → position p xs ≡ None → list_any p xs ≡ false
nothing_passes p xs e = list_any-from_None p xs e
