-- Small forms: those on which no number that the program computes gets too large.
use Rattle.std.specs.Prelude.{ℕ, ◌+◌, ◌*◌, ◌^◌, ◌<◌, ◌≤◌, max, unsigned_abs, List, length, All}
use Rattle.lab_defs_game.specs.Forms.{FormSet, Row, Form, actions_of, path_of, pad_of, deciding, decisions_to}

-- how many factors a seat brings to a row: its deciding sets there, and its pad
abbrev pub factors_at : Form → ℕ → Row → ℕ
factors_at f seat z = deciding (actions_of f seat) (path_of z seat) + pad_of z seat

-- the most that a row may come to: its worth, at least 1, by the grid for each factor of either seat
abbrev pub row_size : (grid1 grid2 : ℕ) → Form → Row → ℕ
row_size grid1 grid2 f z = max 1 (unsigned_abs z.worth) * (grid1 ^ factors_at f 1 z * grid2 ^ factors_at f 2 z)

-- no row of a form comes to more than a number
abbrev pub HasRows : (grid1 grid2 : ℕ) → Form → ℕ → Type 0
HasRows grid1 grid2 f most = All (λ z. row_size grid1 grid2 f z ≤ most) f.rows

-- the grid for each deciding set up to any of some sets, itself counted, comes to no more than a number
abbrev pub HasReach : (grid : ℕ) → List FormSet → ℕ → Type 0
HasReach grid sets most = (I : ℕ) → I < length sets → grid ^ decisions_to sets I ≤ most

-- a form is small: grids from 1 up to 2^12, at most 2^17 rows, none that comes to more than 2^77, at most 2^16 actions at each set, and no way to a set with more than 2^77
pub record IsSmall (grid1 grid2 : ℕ) (f : Form) : Type 0 where
  pub grids : (1 ≤ grid1) × (grid1 ≤ 2 ^ 12) × (1 ≤ grid2) × (grid2 ≤ 2 ^ 12)
  pub few : length f.rows ≤ 2 ^ 17
  pub rows : HasRows grid1 grid2 f (2 ^ 77)
  pub actions : All (λ n. n ≤ 2 ^ 16) (actions_of f 1) × All (λ n. n ≤ 2 ^ 16) (actions_of f 2)
  pub ways : HasReach grid1 f.sets1 (2 ^ 77) × HasReach grid2 f.sets2 (2 ^ 77)
