-- Rounds of regret matching on a form, one after another.
use Rattle.std.proofs.Common.{◌≡◌, ℕ, ◌+◌, ◌<◌, ◌≤◌, refl, sym, subst}
use Rattle.lab_defs_game.specs.Forms.{Form}
use Rattle.lab_defs_value.specs.Smallness.{IsSmall}
use Rattle.lab_form.specs.Forms.{FormValue}
use Rattle.lab_regret.specs.Kept.{RegretsValue, regrets_on, FitsRoom}
use Rattle.lab_session.specs.Solved.{IsSolved}

-- what is kept of a form after some rounds is solved
pub on_solved : (f : Form) (v w : RegretsValue) (d1 d2 n : ℕ) → w ≡ regrets_on v f d1 d2 n → IsSolved f d1 d2 n w
on_solved f v w d1 d2 n e =
    subst (IsSolved f d1 d2 n) (sym e) (record { grid1 = refl; grid2 = refl; rounds = refl; kept = record { actions1 = refl; actions2 = refl; tally = refl } })

-- and the form still fits
pub fits_on : (f : Form) (g : FormValue) (v w : RegretsValue) (d1 d2 n : ℕ) → w ≡ regrets_on v f d1 d2 n → FitsRoom v g → FitsRoom w g
fits_on f g v w d1 d2 n e fits =
    subst (λ (u : RegretsValue). FitsRoom u g) (sym e)
    (record { sets1 = fits.sets1; sets2 = fits.sets2; rows = fits.rows; weights1 = fits.weights1; weights2 = fits.weights2 })

-- one round more
pub one_more : (f : Form) (d1 d2 n : ℕ) (v w : RegretsValue) → IsSolved f d1 d2 n v → w ≡ regrets_on v f v.grid1 v.grid2 (v.rounds + 1) → IsSolved f d1 d2 (n + 1) w
one_more f d1 d2 n v w s e =
    subst (λ d. IsSolved f d d2 (n + 1) w) s.grid1
    (subst (λ d. IsSolved f v.grid1 d (n + 1) w) s.grid2
    (subst (λ k. IsSolved f v.grid1 v.grid2 (k + 1) w) s.rounds (on_solved f v w v.grid1 v.grid2 (v.rounds + 1) e)))

-- the form is small for the kept grids
pub small_kept : (f : Form) (d1 d2 n : ℕ) (v : RegretsValue) → IsSolved f d1 d2 n v → IsSmall d1 d2 f → IsSmall v.grid1 v.grid2 f
small_kept f d1 d2 n v s small = subst (λ d. IsSmall v.grid1 d f) (sym s.grid2) (subst (λ d. IsSmall d d2 f) (sym s.grid1) small)
