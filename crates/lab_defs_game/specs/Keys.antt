-- Distinct keys in an order, and the number of a key: how many keys come before it.
use Rattle.std.specs.Prelude.{ℕ, ◌+◌, List, [], ◌∷◌, Bool, if◌then◌else◌}
use Rattle.std.specs.declared.cmp.Ordering.{Ordering}
use Rattle.std.specs.Ordering.{is_lt, nat_cmp}
use Rattle.std.specs.Cmp.Lexicographic.{slice_cmp}
use Rattle.std.specs.BTreeSet.{insert_key}

-- how many pass the test
abbrev pub count : {K : Type 0} → (K → Bool) → List K → ℕ
count p [] = 0
count p (x ∷ xs) = (if p x then 1 else 0) + count p xs

module _ {K : Type 0} (cmp : K → K → Ordering) where
  -- the keys `done`, in order, with the keys ks put among them
  abbrev pub merged : List K → List K → List K
  merged done [] = done
  merged done (k ∷ ks) = merged (insert_key cmp done k) ks

  -- the distinct keys in order
  abbrev pub in_order : List K → List K
  in_order ks = merged [] ks

  -- how many of the keys come before k
  abbrev pub number_of : List K → K → ℕ
  number_of ks k = count (λ x. is_lt (cmp x k)) ks

-- lists of numbers, lexicographically, a prefix before what it begins
abbrev pub list_cmp : List ℕ → List ℕ → Ordering
list_cmp = slice_cmp nat_cmp
