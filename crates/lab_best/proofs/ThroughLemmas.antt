-- Sums over the sets and rows after a set, by their chains.
use Rattle.std.proofs.Common.{◌≡◌, ℕ, suc, ◌+◌, ◌<◌, ◌≤◌, ℤ, pos, Bool, true, false, cond, eqb, ◌&&◌, List, [], ◌∷◌, length, get_or, Option, Some, None, refl, sym, ap, ◌∙◌, arith, zero-add}
use Rattle.std.specs.Option.{option_map}
use Rattle.std.proofs.lemmas.List.{length-append}
use Rattle.lab_math.specs.Sums.{total, sum_over}
use Rattle.lab_math.proofs.BelowLemmas.{total_below_cong}
use Rattle.lab_math.proofs.NaturalSums.{sum_over-append}
use Rattle.lab_math.proofs.Totals.{total_cong}
use Rattle.lab_defs_game.specs.Paths.{SetAction, is_taken}
use Rattle.lab_defs_game.specs.Forms.{parent_at}
use Rattle.lab_form.specs.declared.items.SetId.{SetId}
use Rattle.lab_form.specs.declared.items.FormSet.{FormSet}
use Rattle.lab_form.specs.declared.items.FormRow.{FormRow}
use Rattle.lab_form.specs.Forms.{last_of, taken_model, sets_model}
use Rattle.lab_form.specs.Chains.{last_to_first_from, last_to_first, is_at, children_of, rows_of}
use Rattle.lab_form.proofs.CallerLemmas.{model_parent, total_numbers, total_items}
use Rattle.lab_best.specs.Parts.{part_at, children_value}
use Rattle.lab_best.specs.Rows.{set_at}

-- what reads as a row past the last one
abbrev pub no_row : FormRow
no_row = record { worth = record { 0 = pos 0 }; last = []; pads = [] }

-- ---- sums

-- a part at a step of the set, 0 at other steps, is what counts where the step is the action at the place
part_is : (set : SetId) (first i : ℕ) (value : ℤ) (o : Option (SetId × ℕ)) → cond (is_at (Some set) o) (part_at first o value i) (pos 0) ≡ cond (is_taken (record { set = set.0; action = first + i }) (option_map taken_model o)) value (pos 0)
part_is set first i value None = refl
part_is set first i value (Some t) = at (eqb t.0.0 set.0) (eqb t.1 (first + i))
  where
    at : (b c : Bool) → cond b (cond c value (pos 0)) (pos 0) ≡ cond (b && c) value (pos 0)
    at true c = refl
    at false c = refl

-- the parts of the children of a set are the values of the sets that follow the action
pub children_total : (sets : List FormSet) (B : ℕ → ℤ) (set : SetId) (first i : ℕ) → total (λ n. part_at first (set_at sets n).parent (B n) i) (children_of sets (Some set)) ≡ children_value sets B set.0 (first + i)
children_total sets B set first i =
    let none : FormSet = record { parent = None; actions = 0; first_weight = 0 } in
    let t : SetAction = record { set = set.0; action = first + i } in
    total_numbers (λ (s : FormSet). is_at (Some set) s.parent) sets (λ n. part_at first (set_at sets n).parent (B n) i) none
    ∙ total_below_cong (length sets) (λ n. cond (is_at (Some set) (get_or sets n none).parent) (part_at first (set_at sets n).parent (B n) i) (pos 0)) (λ n. cond (is_taken t (parent_at (sets_model sets) n)) (B n) (pos 0))
    (λ n l. part_is set first i (B n) (get_or sets n none).parent ∙ ap (λ o. cond (is_taken t o) (B n) (pos 0)) (sym (model_parent sets n none l)))

-- the parts of the rows at a set are what the rows count for whose last step is the action
pub rows_total : (seat : ℕ) (rows : List FormRow) (h : FormRow → ℤ) (set : SetId) (first i : ℕ)
    → total (λ n. part_at first (last_of (get_or rows n no_row) seat) (h (get_or rows n no_row)) i) (rows_of seat rows (Some set))
    ≡ total (λ r. cond (is_taken (record { set = set.0; action = first + i }) (option_map taken_model (last_of r seat))) (h r) (pos 0)) rows
rows_total seat rows h set first i =
    total_items (λ (r : FormRow). is_at (Some set) (last_of r seat)) rows (λ (r : FormRow). part_at first (last_of r seat) (h r) i) no_row
    ∙ total_cong (λ (r : FormRow). cond (is_at (Some set) (last_of r seat)) (part_at first (last_of r seat) (h r) i) (pos 0))
    (λ (r : FormRow). cond (is_taken (record { set = set.0; action = first + i }) (option_map taken_model (last_of r seat))) (h r) (pos 0)) rows
    (λ r. part_is set first i (h r) (last_of r seat))

-- ---- sizes

-- no more numbers pass than there are items
pub numbers_few : {A : Type 0} (p : A → Bool) (xs : List A) → length (last_to_first p xs) ≤ length xs
numbers_few p xs = from 0 xs
  where
    one : (b : Bool) (n : ℕ) → length (cond b (n ∷ []) []) ≤ 1
    one true n = omega arith
    one false n = omega arith

    from : (n : ℕ) (zs : List _) → length (last_to_first_from p n zs) ≤ length zs
    from n [] = omega arith
    from n (z ∷ zs) = omega (arith, length-append (last_to_first_from p (suc n) zs) (cond (p z) (n ∷ []) []), one (p z) n, from (suc n) zs)

-- over the numbers that pass the sizes sum to no more than over all
pub numbers_size : {A W : Type 0} (p : A → Bool) (xs : List A) (size : W → ℕ) (ws : List W) (d : W) → length ws ≡ length xs → sum_over (λ n. size (get_or ws n d)) (last_to_first p xs) ≤ sum_over size ws
numbers_size p xs size ws d same = from 0 xs ws (λ n. size (get_or ws n d)) (λ j l. ap (λ k. size (get_or ws k d)) (zero-add j)) same
  where
    one : (b : Bool) (f : ℕ → ℕ) (n : ℕ) → sum_over f (cond b (n ∷ []) []) ≤ f n
    one true f n = omega arith
    one false f n = omega arith

    from : (n : ℕ) (zs : List _) (vs : List _) (f : ℕ → ℕ) → ((j : ℕ) → j < length vs → f (n + j) ≡ size (get_or vs j d)) → length vs ≡ length zs → sum_over f (last_to_first_from p n zs) ≤ sum_over size vs
    from n [] vs f h e = omega arith
    from n (z ∷ zs) [] f h e = absurd (omega (arith, e))
    from n (z ∷ zs) (v ∷ vs) f h e =
        let first : f n ≡ size v = ap f (omega arith) ∙ h 0 (omega arith) in
        let later : (j : ℕ) → j < length vs → f (suc n + j) ≡ size (get_or vs j d) = λ j l. ap f (omega arith) ∙ h (suc j) (omega (arith, l)) in
        omega (arith, sum_over-append f (last_to_first_from p (suc n) zs) (cond (p z) (n ∷ []) []), one (p z) f n, first, from (suc n) zs vs f later (omega (arith, e)))
