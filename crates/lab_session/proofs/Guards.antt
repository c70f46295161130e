-- What is kept of both seats is guarded.
use Rattle.std.proofs.Common.{◌≡◌, ℕ, sym, subst, inl, inr, refl}
use Rattle.lab_defs_text.specs.Games.{GameModel}
use Rattle.lab_defs_game.specs.Accepted.{IsAccepted}
use Rattle.lab_defs_game.specs.Forms.{game_actions}
use Rattle.lab_defs_game.specs.Seats.{grid_of}
use Rattle.lab_defs_report.specs.States.{profile_of}
use Rattle.lab_defs_report.specs.Headline.{IsGuarded}
use Rattle.lab_laws.proofs.SessionJudging.{IsFull, AreKept, fresh_kept, guarded}
use Rattle.lab_table.specs.Tables.{TableValue}
use Rattle.lab_table.proofs.CallerLemmas.{weights_sum}
use Rattle.lab_session.specs.Boards.{IsTableFor}
use Rattle.lab_session.specs.Kept.{AreSides, profile_in}
use Rattle.lab_session.specs.declared.side.Sides.{Sides}

-- the bounds are those of the tables
pub sides_profile : (g : GameModel) (s : Sides) → AreSides g s → profile_in s ≡ profile_of g s.one.table.weights s.two.table.weights
sides_profile g s are =
    λ i. record { table1 = s.one.table.weights; table2 = s.two.table.weights; bounds1 = are.one.tight i; bounds2 = are.two.tight i }

-- a table of a seat is full
table_full : (g : GameModel) (seat : ℕ) (t : TableValue) → IsTableFor g seat t → IsFull g seat t.weights
table_full g seat t is = record { long = is.weights.count; sums = weights_sum (grid_of g seat) (game_actions g seat) t.weights is.weights }

-- so both seats are guarded
pub sides_guarded : (g : GameModel) → IsAccepted g → (s : Sides) → AreSides g s → IsGuarded g (profile_in s) 1 × IsGuarded g (profile_in s) 2
sides_guarded g ok s are =
    let kept = subst (AreKept g) (sym (sides_profile g s are))
    (fresh_kept g ok s.one.table.weights s.two.table.weights (table_full g 1 s.one.table are.one.table) (table_full g 2 s.two.table are.two.table)) in
    (guarded g ok (profile_in s) kept 1 (inl refl), guarded g ok (profile_in s) kept 2 (inr refl))
