-- The first histories of those that are seen alike, each with its key.
use Rattle.std.specs.Prelude.{ℕ, List, [], map, filter, Bool, ◌&&◌, ◌==◌, slice_index, slice_index_or}
use Rattle.std.specs.List.{range_with_len}
use Rattle.lab_defs_game.specs.Histories.{History}

-- whether the history with this number passes the test and is the first of those that are seen alike
abbrev pub is_first : (test : History → Bool) → List History → List ℕ → ℕ → Bool
is_first test hs firsts n = test (slice_index_or hs n []) && (slice_index firsts n == n)

-- those of the first n histories that are, with their keys
abbrev pub keyed : {K : Type 0} → (test : History → Bool) (key : History → K) → List History → List ℕ → ℕ → List (K × ℕ)
keyed test key hs firsts n = filter (λ p. is_first test hs firsts p.1) (map (λ i. (key (slice_index_or hs i []), i)) (range_with_len 0 n))
