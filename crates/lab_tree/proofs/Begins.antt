-- Lists that begin others.
use Rattle.std.proofs.Common.{◌≡◌, ℕ, ◌<◌, List, [], ◌∷◌, true, false, eqb, length, refl, arith}
use Rattle.std.proofs.lemmas.Bool.{eq-eqb, and_from, and_right}
use Rattle.lab_defs_game.specs.Nodes.{begins}

-- a list begins itself
pub begins_itself : (p : List ℕ) → begins p p ≡ true
begins_itself [] = refl
begins_itself (x ∷ p) = and_from _ (begins p p) (eq-eqb x x refl) (begins_itself p)

-- no list begins a shorter one
pub too_long : (P y : List ℕ) → length y < length P → begins P y ≡ false
too_long [] y l = absurd (omega arith)
too_long (p ∷ P) [] l = refl
too_long (p ∷ P) (z ∷ y) l = and_right (eqb p z) (begins P y) (too_long P y (omega arith))
