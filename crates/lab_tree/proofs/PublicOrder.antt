-- Two lists of which the shorter has come to its end compare as their lengths do.
use Rattle.std.proofs.Common.{◌≡◌, ℕ, zero, suc, ◌≤◌, List, [], ◌∷◌, cond, eqb, min, drop, map, length, refl, sym, ap, ◌∙◌, arith, inl, inr, ◌<◌, ◌⊎◌}
use Rattle.std.specs.Ordering.{nat_cmp}
use Rattle.std.specs.declared.cmp.Ordering.{Ordering}
use Rattle.std.specs.declared.cmp.Ordering.TheVariants.{Less, Equal, Greater}
use Rattle.std.proofs.lemmas.Bool.{lt-ltb, le-ltb, ne_eqb, eq-eqb, cases_order}
use Rattle.lab_defs_game.specs.Keys.{list_cmp}
use Rattle.lab_defs_game.specs.Sets.{publics}
use Rattle.lab_unfold.specs.Items.{item_model}
use Rattle.lab_unfold.specs.declared.item.Item.{Item}

is_less : (a b : ℕ) → a < b → nat_cmp a b ≡ Less
is_less a b l = ap (λ t. cond t Less (cond (eqb a b) Equal Greater)) (lt-ltb a b l)

is_same : (a b : ℕ) → a ≡ b → nat_cmp a b ≡ Equal
is_same a b e = ap (λ t. cond t Less (cond (eqb a b) Equal Greater)) (le-ltb a b (omega arith)) ∙ ap (λ t. cond t Equal Greater) (eq-eqb a b e)

is_greater : (a b : ℕ) → b < a → nat_cmp a b ≡ Greater
is_greater a b l = ap (λ t. cond t Less (cond (eqb a b) Equal Greater)) (le-ltb a b (omega arith)) ∙ ap (λ t. cond t Equal Greater) (ne_eqb a b (λ e. omega arith))

-- numbers with one more compare alike
one_more : (a b : ℕ) → nat_cmp a b ≡ nat_cmp (suc a) (suc b)
one_more a b = at (cases_order a b)
  where
    at : (a ≡ b) ⊎ ((a < b) ⊎ (b < a)) → nat_cmp a b ≡ nat_cmp (suc a) (suc b)
    at (inl e) = is_same a b e ∙ sym (is_same (suc a) (suc b) (ap suc e))
    at (inr (inl l)) = is_less a b l ∙ sym (is_less (suc a) (suc b) (omega arith))
    at (inr (inr l)) = is_greater a b l ∙ sym (is_greater (suc a) (suc b) (omega arith))

-- what is left compares as the lengths, where one list has come to its end
ends_compare : (s t : List Item) (i : ℕ) → i ≤ length s → i ≤ length t → (i ≡ length s) ⊎ (i ≡ length t)
    → list_cmp (publics (map item_model (drop i s))) (publics (map item_model (drop i t))) ≡ nat_cmp (length s) (length t)
ends_compare [] [] zero a b e = sym (is_same 0 0 refl)
ends_compare [] [] (suc i) a b e = absurd (omega arith)
ends_compare [] (y ∷ t) zero a b e = sym (is_less 0 (suc (length t)) (omega arith))
ends_compare [] (y ∷ t) (suc i) a b e = absurd (omega arith)
ends_compare (x ∷ s) [] zero a b e = sym (is_greater (suc (length s)) 0 (omega arith))
ends_compare (x ∷ s) [] (suc i) a b e = absurd (omega arith)
ends_compare (x ∷ s) (y ∷ t) zero a b (inl e) = absurd (omega arith)
ends_compare (x ∷ s) (y ∷ t) zero a b (inr e) = absurd (omega arith)
ends_compare (x ∷ s) (y ∷ t) (suc i) a b (inl e) = ends_compare s t i (omega arith) (omega arith) (inl (omega arith)) ∙ one_more (length s) (length t)
ends_compare (x ∷ s) (y ∷ t) (suc i) a b (inr e) = ends_compare s t i (omega arith) (omega arith) (inr (omega arith)) ∙ one_more (length s) (length t)

min_cases : (m n : ℕ) → (min m n ≡ m) ⊎ (min m n ≡ n)
min_cases m n = at (cases_order m n)
  where
    at : (m ≡ n) ⊎ ((m < n) ⊎ (n < m)) → (min m n ≡ m) ⊎ (min m n ≡ n)
    at (inl e) = inl (omega arith)
    at (inr (inl l)) = inl (omega arith)
    at (inr (inr l)) = inr (omega arith)

-- the answer at the end of the shorter list
pub closing : (s t : List Item) (i k : ℕ) (r : Ordering) → k ≡ min (length s) (length t) → k ≤ i → i ≤ k
    → list_cmp (publics (map item_model (drop i s))) (publics (map item_model (drop i t))) ≡ list_cmp (publics (map item_model s)) (publics (map item_model t))
    → r ≡ nat_cmp (length s) (length t) → r ≡ list_cmp (publics (map item_model s)) (publics (map item_model t))
closing s t i k r e lo hi so_far answer = answer ∙ sym (ends_compare s t i (omega arith) (omega arith) (at (min_cases (length s) (length t)))) ∙ so_far
  where
    at : (min (length s) (length t) ≡ length s) ⊎ (min (length s) (length t) ≡ length t) → (i ≡ length s) ⊎ (i ≡ length t)
    at (inl m) = inl (omega arith)
    at (inr m) = inr (omega arith)
