-- Chains: the numbers of the sets with a parent and of the rows that end at a set, the last first.
use Rattle.std.specs.Prelude.{ℕ, suc, ◌==◌, ◌<◌, List, [], ◌∷◌, ◌++◌, Bool, true, false, Option, Some, None, ⊤, if◌then◌else◌}
use Rattle.lab_form.specs.declared.items.SetId.{SetId}
use Rattle.lab_form.specs.declared.items.FormSet.{FormSet}
use Rattle.lab_form.specs.declared.items.FormRow.{FormRow}
use Rattle.lab_form.specs.Forms.{last_of}

-- the numbers, counted from n, of the items that pass, the last first
abbrev pub last_to_first_from : {A : Type 0} → (A → Bool) → ℕ → List A → List ℕ
last_to_first_from p n [] = []
last_to_first_from p n (x ∷ xs) = last_to_first_from p (suc n) xs ++ (if p x then n ∷ [] else [])

-- the numbers of the items that pass, the last first
abbrev pub last_to_first : {A : Type 0} → (A → Bool) → List A → List ℕ
last_to_first p xs = last_to_first_from p 0 xs

-- whether a step is at this set; for no set, whether there is no step
abbrev pub is_at : Option SetId → Option (SetId × ℕ) → Bool
is_at None None = true
is_at None (Some t) = false
is_at (Some s) None = false
is_at (Some s) (Some t) = t.0.0 == s.0

-- the numbers of the sets with this parent, the last first; for no set, of those without a parent
abbrev pub children_of : List FormSet → Option SetId → List ℕ
children_of sets parent = last_to_first (λ s. is_at parent s.parent) sets

-- the numbers of the rows whose last step of a seat is at this set, the last first; for no set, of those without a step of the seat
abbrev pub rows_of : ℕ → List FormRow → Option SetId → List ℕ
rows_of seat rows set = last_to_first (λ r. is_at set (last_of r seat)) rows

-- a set among so many, or none
abbrev pub IsSetThere : ℕ → Option SetId → Type 0
IsSetThere n None = ⊤
IsSetThere n (Some s) = s.0 < n
