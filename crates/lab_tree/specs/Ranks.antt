-- Places in a list, by what is there.
use Rattle.std.specs.Prelude.{ℕ, ◌≡◌, ◌<◌, List, length, slice_index, slice_index_or}

-- no number is at two places
abbrev pub AreApart : {K : Type 0} → List (K × ℕ) → Type 0
AreApart {K} order = (i j : ℕ) (d : K × ℕ) → i < length order → j < length order → (slice_index_or order i d).1 ≡ (slice_index_or order j d).1 → i ≡ j

-- each of the first n numbers has its place
abbrev pub AreRanks : {K : Type 0} → List (K × ℕ) → List ℕ → ℕ → Type 0
AreRanks {K} order ranks n = (j : ℕ) (d : K × ℕ) → j < n → slice_index ranks (slice_index_or order j d).1 ≡ j
