-- The places of numbers in a list.
use Rattle.std.proofs.Common.{◌≡◌, ℕ, ◌+◌, ◌<◌, ◌≤◌, List, length, get_or, sym, ap, ◌∙◌, arith, inl, inr, ◌⊎◌}
use Rattle.std.specs.Prelude.{slice_set}
use Rattle.std.proofs.lemmas.Bool.{cases_lt}
use Rattle.std.proofs.lemmas.Grind.{get_or-set_at}
use Rattle.std.proofs.lemmas.List.{get_or_default, get_or-set_other}
use Rattle.lab_tree.specs.Ranks.{AreApart, AreRanks}

module _ {K : Type 0} where
  -- one number more has its place
  pub ranks_more : (order : List (K × ℕ)) (ranks : List ℕ) (n : ℕ) (c : K × ℕ) → AreApart order → n < length order → (get_or order n c).1 < length ranks
      → AreRanks order ranks n → AreRanks order (slice_set ranks (get_or order n c).1 n) (n + 1)
  ranks_more order ranks n c apart ln lr old j d lj = at (cases_lt j n)
    where
      same : get_or order n d ≡ get_or order n c
      same = get_or_default order n d c ln

      at : (j < n) ⊎ (n ≤ j) → get_or (slice_set ranks (get_or order n c).1 n) (get_or order j d).1 0 ≡ j
      at (inl l) =
          get_or-set_other ranks (get_or order n c).1 (get_or order j d).1 n 0
          (λ e. let k = apart j n d (omega (arith, l, ln)) ln (e ∙ ap (λ (p : K × ℕ). p.1) (sym same)) in absurd (omega (arith, k, l)))
          ∙ old j d l
      at (inr l) =
          let e : j ≡ n = omega (arith, l, lj) in
          get_or-set_at ranks (get_or order n c).1 (get_or order j d).1 n 0 (ap (λ m. (get_or order m d).1) e ∙ ap (λ (p : K × ℕ). p.1) same) lr ∙ sym e
