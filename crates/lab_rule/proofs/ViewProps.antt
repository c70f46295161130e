-- What holds of a view can be read of its field.
use Rattle.std.proofs.Common.{ℕ, inl, inr, Option, Some, None, List, ap, arith}
use Rattle.std.proofs.Props.{props}
use Rattle.std.specs.Coded.{×_prop, Unit-prop, le_prop}
use Rattle.std.proofs.Math.Logic.{∥∥₁_elim}
use Rattle.std.proofs.Math.Nat.{ℕ_set}
use Rattle.lab_defs_game.specs.Seats.{IsSeat}
use Rattle.lab_defs_game.specs.Paths.{SetAction}
use Rattle.lab_defs_value.specs.Parents.{IsStepBelow}
use Rattle.lab_defs_value.specs.Views.{View, IsFollow, IsView}

-- a step is below a number in one way
step_prop : (actions : List ℕ) (n : ℕ) (o : Option SetAction) → IsProp (IsStepBelow actions n o)
step_prop actions n None = Unit-prop
step_prop actions n (Some t) = ×_prop le_prop le_prop

-- a set follows a step in one way
follow_prop : (v : View) (i : ℕ) (o : Option (ℕ × ℕ)) → IsProp (IsFollow v i o)
follow_prop v i None = hlevel props
follow_prop v i (Some f) = hlevel props

-- a seat is one of two in one way
seat_prop : (seat : ℕ) → IsProp (IsSeat seat)
seat_prop seat (inl a) (inl b) = ap inl (ℕ_set seat 1 a b)
seat_prop seat (inl a) (inr b) = absurd (omega (arith, a, b))
seat_prop seat (inr a) (inl b) = absurd (omega (arith, a, b))
seat_prop seat (inr a) (inr b) = ap inr (ℕ_set seat 2 a b)

-- a view is one in one way
view_prop : (v : View) → IsProp (IsView v)
view_prop v = hlevel (props, step_prop, follow_prop, seat_prop)

pub view_is : (v : View) → ∥ IsView v ∥₁ → IsView v
view_is v ok = ∥∥₁_elim ok (view_prop v) (λ h. h)
