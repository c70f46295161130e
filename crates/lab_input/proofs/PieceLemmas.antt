-- Pieces of bytes between separators, one after another.
use Rattle.std.proofs.Common.{◌≡◌, ℕ, suc, zero, ◌+◌, ◌-◌, ◌<◌, List, [], ◌∷◌, drop, slice_index_or, refl, arith}
use Rattle.lab_defs_text.specs.Words.{Bytes}

-- a piece after the first one
pub piece_after : (xs ys : List Bytes) (i n : ℕ) → ys ≡ drop 1 xs → i < n → slice_index_or xs (n - i) [] ≡ slice_index_or ys (n - (i + 1)) []
piece_after xs ys i n e h = let k : n - i ≡ suc (n - (i + 1)) = omega (arith, h) in rw (e, k) (next xs (n - (i + 1)))
  where
    next : (xs : List Bytes) (k : ℕ) → slice_index_or xs (suc k) [] ≡ slice_index_or (drop 1 xs) k []
    next [] zero = refl
    next [] (suc k) = refl
    next (x ∷ xs) k = refl
