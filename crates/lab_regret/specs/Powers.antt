-- Powers of a grid in a list.
use Rattle.std.specs.Prelude.{ℕ, ◌≡◌, ◌^◌, ◌<◌, ◌≤◌, List, slice_index}

-- each of the first powers that is at most 2^77 has its place
abbrev pub ArePowers : (grid : ℕ) → List ℕ → Type 0
ArePowers grid powers = (k : ℕ) → k < 78 → grid ^ k ≤ 2 ^ 77 → slice_index powers k ≡ grid ^ k
