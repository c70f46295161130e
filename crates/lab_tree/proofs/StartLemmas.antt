-- How many sets stand at nodes before one.
use Rattle.std.proofs.Common.{◌≡◌, ℕ, zero, suc, ◌+◌, ◌<◌, ◌≤◌, List, [], ◌∷◌, Bool, true, false, length, get_or, arith, inl, inr, ◌⊎◌}
use Rattle.std.specs.Prelude.{nat_lt}
use Rattle.std.proofs.lemmas.Bool.{lt-ltb, le-ltb, ltb-true}
use Rattle.lab_defs_game.specs.Keys.{count}
use Rattle.lab_defs_game.proofs.NumberLemmas.{count_at_true, count_at_false, count_le_length, is_true_or}
use Rattle.lab_tree.specs.declared.info.SetInfo.{SetInfo}
use Rattle.lab_tree.specs.SetValues.{start_of, AreRising}

-- a test that passes less counts less
pub count_less : {K : Type 0} (p q : K → Bool) (xs : List K) → ((x : K) → p x ≡ true → q x ≡ true) → count p xs ≤ count q xs
count_less p q [] imp = omega arith
count_less p q (x ∷ xs) imp = at (is_true_or (p x)) (is_true_or (q x)) (count_less p q xs imp)
  where
    at : (p x ≡ true) ⊎ (p x ≡ false) → (q x ≡ true) ⊎ (q x ≡ false) → count p xs ≤ count q xs → count p (x ∷ xs) ≤ count q (x ∷ xs)
    at (inl e) f rest = omega (arith, count_at_true p x xs e, count_at_true q x xs (imp x e), rest)
    at (inr e) (inl f) rest = omega (arith, count_at_false p x xs e, count_at_true q x xs f, rest)
    at (inr e) (inr f) rest = omega (arith, count_at_false p x xs e, count_at_false q x xs f, rest)

-- the sets behind the first one
rising_rest : (x : SetInfo) (xs : List SetInfo) → AreRising (x ∷ xs) → AreRising xs
rising_rest x xs r i j d le lj = r (suc i) (suc j) d (omega (arith, le)) (omega (arith, lj))

-- a set at an earlier node is counted, and so are those before it
pub start_behind : (sets : List SetInfo) (n i : ℕ) (d : SetInfo) → AreRising sets → i < length sets → (get_or sets i d).node.0 < n → i + 1 ≤ start_of sets n
start_behind [] n i d r l e = absurd (omega (arith, l))
start_behind (x ∷ xs) n zero d r l e = omega (arith, count_at_true (λ (s : SetInfo). nat_lt s.node.0 n) x xs (lt-ltb x.node.0 n e))
start_behind (x ∷ xs) n (suc i) d r l e =
    let first = r 0 (suc i) d (omega arith) l in
    omega (arith, count_at_true (λ (s : SetInfo). nat_lt s.node.0 n) x xs (lt-ltb x.node.0 n (omega (arith, first, e))), start_behind xs n i d (rising_rest x xs r) (omega (arith, l)) e)

-- a set at another node is not, nor are those behind it
pub start_before : (sets : List SetInfo) (n i : ℕ) (d : SetInfo) → AreRising sets → i < length sets → n ≤ (get_or sets i d).node.0 → start_of sets n ≤ i
start_before [] n i d r l e = absurd (omega (arith, l))
start_before (x ∷ []) n zero d r l e = omega (arith, count_at_false (λ (s : SetInfo). nat_lt s.node.0 n) x [] (le-ltb x.node.0 n e))
start_before (x ∷ y ∷ xs) n zero d r l e =
    let next = r 0 1 d (omega arith) (omega arith) in
    omega (arith, count_at_false (λ (s : SetInfo). nat_lt s.node.0 n) x (y ∷ xs) (le-ltb x.node.0 n e), start_before (y ∷ xs) n zero d (rising_rest x (y ∷ xs) r) (omega arith) (omega (arith, next, e)))
start_before (x ∷ xs) n (suc i) d r l e = at (is_true_or (nat_lt x.node.0 n)) (start_before xs n i d (rising_rest x xs r) (omega (arith, l)) e)
  where
    at : (nat_lt x.node.0 n ≡ true) ⊎ (nat_lt x.node.0 n ≡ false) → start_of xs n ≤ i → start_of (x ∷ xs) n ≤ suc i
    at (inl t) rest = omega (arith, count_at_true (λ (s : SetInfo). nat_lt s.node.0 n) x xs t, rest)
    at (inr f) rest = omega (arith, count_at_false (λ (s : SetInfo). nat_lt s.node.0 n) x xs f, rest)

-- no more are counted than there are
pub start_within : (sets : List SetInfo) (n : ℕ) → start_of sets n ≤ length sets
start_within sets n = count_le_length (λ s. nat_lt s.node.0 n) sets

-- before a later node stand no fewer
pub start_more : (sets : List SetInfo) (n m : ℕ) → n ≤ m → start_of sets n ≤ start_of sets m
start_more sets n m l = count_less (λ s. nat_lt s.node.0 n) (λ s. nat_lt s.node.0 m) sets (λ s e. lt-ltb s.node.0 m (omega (arith, ltb-true s.node.0 n e, l)))
