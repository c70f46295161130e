-- The roundings of zeros, one after the other.
use Rattle.std.proofs.Common.{◌≡◌, ℕ, ◌+◌, ◌<◌, ◌≤◌, List, [], ◌∷◌, ◌++◌, length, drop, replicate, pos, sym, ap, ◌∙◌, subst, append_assoc}
use Rattle.std.proofs.lemmas.List.{drop_more, length-replicate, append-nil}
use Rattle.std.proofs.Math.ListN.{drop_of_length-le}
use Rattle.lab_defs_value.specs.Rounding.{rounded, even_part}
use Rattle.lab_defs_value.specs.Tables.{uniform_table}
use Rattle.lab_defs_value.specs.Matching.{zeros}
use Rattle.lab_defs_value.proofs.RoundedTables.{rounded_whole, zero_shares_law}
use Rattle.lab_defs_value.proofs.RoundingLemmas.{even_split}
use Rattle.lab_defs_value.proofs.UniformLemmas.{rounded_length}
use Rattle.lab_form.specs.declared.items.FormSet.{FormSet}
use Rattle.lab_form.specs.Forms.{actions_in, weight_count}
use Rattle.lab_table.specs.Tables.{all_weights}
use Rattle.lab_table.proofs.PlaceLemmas.{all_is}

-- the roundings of so many zeros
abbrev zeros_rounded : (d n : ℕ) → List ℕ
zeros_rounded d n = rounded d (replicate n (pos 0))

-- so many zeros have as many roundings
zeros_length : (d n : ℕ) → length (zeros_rounded d n) ≡ n
zeros_length d n = rounded_length d (replicate n (pos 0)) ∙ length-replicate n (pos 0)

-- one more
pub even_more : (d n a m : ℕ) (done next all : List ℕ) → a < n → next ≡ done ++ m ∷ [] → m ≡ even_part d n a → done ++ drop a (zeros_rounded d n) ≡ all → next ++ drop (a + 1) (zeros_rounded d n) ≡ all
even_more d n a m done next all l pushed part h =
    let rest = drop (a + 1) (zeros_rounded d n) in
    let there : a < length (zeros_rounded d n) = subst (λ k. a < k) (sym (zeros_length d n)) l in
    ap (λ xs. xs ++ rest) pushed ∙ append_assoc done (m ∷ []) rest
    ∙ ap (λ x. done ++ x ∷ rest) (part ∙ sym (even_split d n a l))
    ∙ ap (λ xs. done ++ xs) (sym (drop_more (zeros_rounded d n) a 0 there)) ∙ h

-- and all of them
pub even_done : (d n a : ℕ) (done all : List ℕ) → n ≤ a → done ++ drop a (zeros_rounded d n) ≡ all → done ≡ all
even_done d n a done all l h =
    let none : drop a (zeros_rounded d n) ≡ [] = drop_of_length-le (zeros_rounded d n) (subst (λ m. m ≤ a) (sym (zeros_length d n)) l) in
    sym (append-nil done) ∙ ap (λ xs. done ++ xs) (sym none) ∙ h

-- the uniform table has all weights
pub uniform_length : (d : ℕ) (sets : List FormSet) → length (uniform_table d (actions_in sets)) ≡ weight_count sets
uniform_length d sets =
    let ns = actions_in sets in
    ap length (sym (zero_shares_law d ns)) ∙ (rounded_whole d ns (zeros ns) (length-replicate (all_weights ns) (pos 0))).0 ∙ all_is sets
