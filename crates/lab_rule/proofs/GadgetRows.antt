-- The gadget that the program writes is that of the definitions.
use Rattle.std.proofs.Common.{◌≡◌, ℕ, zero, suc, ◌+◌, ◌<◌, inl, inr, ℤ, List, [], ◌∷◌, ◌++◌, map, length, get_or, Option, Some, None, refl, sym, ap, ◌∙◌, subst, arith}
use Rattle.std.specs.List.{range_with_len}
use Rattle.std.specs.Option.{option_map}
use Rattle.std.proofs.lemmas.List.{get_or-map, length-map, map-append}
use Rattle.std.proofs.lemmas.List.FromFn.{get_or-map-range_with_len, length-map-range_with_len}
use Rattle.std.proofs.lemmas.Simd.{map-map}
use Rattle.lab_math.proofs.Ranges.{map_range_same}
use Rattle.lab_defs_game.specs.Forms as model
use Rattle.lab_defs_game.specs.Paths.{SetAction, last_step, last_after}
use Rattle.lab_defs_game.specs.Seats.{IsSeat, other}
use Rattle.lab_defs_value.specs.Allowances.{Rule}
use Rattle.lab_defs_value.specs.Gadgets.{gadget_sets, terminate_step, raised, entered_path, sets_entered, with_path, terminate_row, gadget}
use Rattle.lab_defs_value.proofs.Chains.{path_of_chain, chain_of_path}
use Rattle.lab_defs_value.proofs.Entries.{entered_below, entered_ok, ending_ok}
use Rattle.lab_form.specs.declared.items.SetId.{SetId}
use Rattle.lab_form.specs.declared.items.FormSet.{FormSet}
use Rattle.lab_form.specs.declared.items.FormRow.{FormRow}
use Rattle.lab_form.specs.Forms.{FormValue, sets_of, last_of, empty_form, IsStepBelow, IsNextRow, AreSets, AreRows, taken_model, sets_model, whole_path, row_model, form_model}
use Rattle.lab_form.proofs.CallerLemmas.{model_actions, model_parent, model_below, whole_path_last, whole_path_chain}
use Rattle.lab_rule.specs.Gadgets.{with_sets, with_rows, step_id, raised_step, opponent_sets, entered_row, further_row, further_rows, RootsFirst}
use Rattle.lab_rule.proofs.StepLemmas.{no_set}
use Rattle.lab_rule.proofs.FactorLemmas.{no_row}
use Rattle.lab_rule.proofs.GadgetLemmas.{count_is, opponent_model, raised_there, terminate_there}

-- ---- paths

-- the last step of a path of raised steps
raised_last : (n : ℕ) (t : SetAction) (ts : List SetAction) → last_after (Some (raised n t)) (map (raised n) ts) ≡ option_map (raised n) (last_after (Some t) ts)
raised_last n t [] = refl
raised_last n t (u ∷ ts) = raised_last n u ts

-- so of a path that is entered
last_entered : (rule : Rule) (n : ℕ) (path : List SetAction) → last_step (entered_path rule n path) ≡ option_map (raised n) (last_step path)
last_entered rule n [] = refl
last_entered rule n (t ∷ ts) = raised_last n t ts

module _ (rule : Rule) (roots : ℕ) (sets : List FormSet) (ok : AreSets sets) (first : RootsFirst roots sets) where
  -- the sets of the subgame, and of the gadget
  abbrev old : List model.FormSet
  old = sets_model sets

  abbrev all : List model.FormSet
  all = sets_entered rule roots (sets_model sets)

  abbrev further : ℕ
  further = length (gadget_sets rule roots)

  -- what follows none is entered
  begins : (I : ℕ) → I < length (model.actions_in old) → model.parent_at old I ≡ None → I < roots
  begins I l e =
      let there : I < length sets = subst (λ n. I < n) (ap length (model_actions sets) ∙ length-map sets (λ (s : FormSet). s.actions)) l in
      first I there (at (get_or sets I no_set).parent (sym (model_parent sets I no_set there) ∙ e))
    where
      at : (o : Option (SetId × ℕ)) → option_map taken_model o ≡ None → o ≡ None
      at None h = refl
      at (Some t) h = cc

  -- the last step of a path that is entered
  last_is : (step : Option (SetId × ℕ)) → IsStepBelow sets step → option_map taken_model (option_map (raised_step rule roots) step) ≡ last_step (entered_path rule further (whole_path sets step))
  last_is step b = at step ∙ ap (option_map (raised further)) (sym (whole_path_last sets ok step b)) ∙ sym (last_entered rule further (whole_path sets step))
    where
      at : (step : Option (SetId × ℕ)) → option_map taken_model (option_map (raised_step rule roots) step) ≡ option_map (raised further) (option_map taken_model step)
      at None = refl
      at (Some t) = ap (λ n. Some (raised n (taken_model t))) (count_is rule roots)

  -- the path to a step of the subgame is entered
  pub entered_whole : (step : Option (SetId × ℕ)) → IsStepBelow sets step → whole_path (opponent_sets rule roots sets) (option_map (raised_step rule roots) step) ≡ entered_path rule further (whole_path sets step)
  entered_whole step b =
      let below = model_below sets ok in
      let path = whole_path sets step in
      let along = path_of_chain old below path (whole_path_chain sets ok step b) in
      let chain = chain_of_path all (entered_below rule roots old begins below) (entered_path rule further path) (entered_ok rule roots old begins path along) in
      ap (λ (ss : List model.FormSet). model.chain ss (option_map taken_model (option_map (raised_step rule roots) step))) (opponent_model rule roots sets)
      ∙ ap (model.chain all) (last_is step b) ∙ sym chain.parents

  -- the path of a further row is one step
  pub further_whole : (root : ℕ) → root < roots → whole_path (opponent_sets rule roots sets) (Some (step_id (terminate_step rule root))) ≡ terminate_step rule root ∷ []
  further_whole root l =
      let below = model_below sets ok in
      let chain = chain_of_path all (entered_below rule roots old begins below) (terminate_step rule root ∷ []) (ending_ok rule roots old begins root l) in
      ap (λ (ss : List model.FormSet). model.chain ss (Some (terminate_step rule root))) (opponent_model rule roots sets) ∙ sym chain.parents

-- ---- rows

-- images that are equal where a fact holds
map_where : {X Y : Type 0} (P : X → Type 0) (F G : X → Y) (xs : List X) → ((i : ℕ) (d : X) → i < length xs → P (get_or xs i d)) → ((x : X) → P x → F x ≡ G x) → map F xs ≡ map G xs
map_where P F G [] ok same = refl
map_where P F G (x ∷ xs) ok same = ap (λ y. y ∷ map F xs) (same x (ok 0 x (omega arith))) ∙ ap (λ ys. G x ∷ ys) (map_where P F G xs (λ i d l. ok (suc i) d (omega (arith, l))) same)

-- the form that the program writes: by the subgame and how many factors the opponent brings
abbrev pub gadget_value : Rule → FormValue → (keeper roots factors : ℕ) → (limits : ℕ → ℤ) → (set_room row_room : ℕ) → FormValue
gadget_value rule f keeper roots factors limits set_room row_room =
    let o = other keeper in
    with_rows (with_sets (with_sets (empty_form set_room row_room) keeper (sets_of f keeper)) o (opponent_sets rule roots (sets_of f o)))
    (map (entered_row rule o roots) f.rows ++ further_rows rule o factors limits roots)

module _ (rule : Rule) (f : FormValue) (roots factors : ℕ) (limits : ℕ → ℤ) (set_room row_room : ℕ) (ok1 : AreSets f.sets1) (ok2 : AreSets f.sets2) (rows : AreRows f.sets1 f.sets2 f.rows) where
  -- the rows for a seat that keeps, by those of the subgame and the further ones
  abbrev first_row : ℕ → model.Row → model.Row
  first_row o z = with_path o (entered_path rule (length (gadget_sets rule roots)) (model.path_of z o)) z

  rows_by : (o : ℕ) (sets1 sets2 : List FormSet) → ((r : FormRow) → IsNextRow f.sets1 f.sets2 r → row_model sets1 sets2 (entered_row rule o roots r) ≡ first_row o (row_model f.sets1 f.sets2 r))
      → ((i : ℕ) → i < roots → row_model sets1 sets2 (further_row rule o factors i (limits i)) ≡ terminate_row rule o factors i (limits i))
      → map (row_model sets1 sets2) (map (entered_row rule o roots) f.rows ++ further_rows rule o factors limits roots)
      ≡ map (first_row o) (map (row_model f.sets1 f.sets2) f.rows) ++ map (λ i. terminate_row rule o factors i (limits i)) (range_with_len 0 roots)
  rows_by o sets1 sets2 one more =
      let made = row_model sets1 sets2 in
      let last = further_rows rule o factors limits roots in
      map-append made (map (entered_row rule o roots) f.rows) last
      ∙ ap (λ (zs : List model.Row). zs ++ map made last)
      (map-map made (entered_row rule o roots) f.rows
      ∙ map_where (IsNextRow f.sets1 f.sets2) (λ r. made (entered_row rule o roots r)) (λ r. first_row o (row_model f.sets1 f.sets2 r)) f.rows rows one
      ∙ sym (map-map (first_row o) (row_model f.sets1 f.sets2) f.rows))
      ∙ ap (λ (zs : List model.Row). map (first_row o) (map (row_model f.sets1 f.sets2) f.rows) ++ zs)
      (map-map made (λ i. further_row rule o factors i (limits i)) (range_with_len 0 roots)
      ∙ map_range_same (λ i. made (further_row rule o factors i (limits i))) (λ i. terminate_row rule o factors i (limits i)) 0 0 roots (λ k l. more (0 + k) (omega (arith, l))))

  -- seat 1 keeps
  for_one : RootsFirst roots f.sets2 → form_model (gadget_value rule f 1 roots factors limits set_room row_room) ≡ gadget rule 2 roots factors limits (form_model f)
  for_one first =
      let S = opponent_sets rule roots f.sets2 in
      let made : FormValue = gadget_value rule f 1 roots factors limits set_room row_room in
      ap (λ (zs : List model.Row). record { sets1 = sets_model f.sets1; sets2 = sets_model S; rows = zs })
      (rows_by 2 f.sets1 S
      (λ r next. ap (λ path. record { worth = r.worth.0; path1 = whole_path f.sets1 (last_of r 1); path2 = path; pad1 = get_or r.pads 0 0; pad2 = get_or r.pads 1 0 }) (entered_whole rule roots f.sets2 ok2 first (last_of r 2) next.two))
      (λ i l. let z = terminate_row rule 2 factors i (limits i) in ap (λ path. record { worth = z.worth; path1 = whole_path f.sets1 None; path2 = path; pad1 = 0; pad2 = factors }) (further_whole rule roots f.sets2 ok2 first i l)
      ∙ ap (λ path. record { worth = z.worth; path1 = path; path2 = terminate_step rule i ∷ []; pad1 = 0; pad2 = factors }) (no_path (length (sets_model f.sets1)) (sets_model f.sets1))))
      ∙ ap (λ (ss : List model.FormSet). record { sets1 = sets_model f.sets1; sets2 = ss; rows = (gadget rule 2 roots factors limits (form_model f)).rows }) (opponent_model rule roots f.sets2)
    where
      no_path : (n : ℕ) (ss : List model.FormSet) → model.chain_within ss n None ≡ []
      no_path zero ss = refl
      no_path (suc n) ss = refl

  -- seat 2 keeps
  for_two : RootsFirst roots f.sets1 → form_model (gadget_value rule f 2 roots factors limits set_room row_room) ≡ gadget rule 1 roots factors limits (form_model f)
  for_two first =
      let S = opponent_sets rule roots f.sets1 in
      ap (λ (zs : List model.Row). record { sets1 = sets_model S; sets2 = sets_model f.sets2; rows = zs })
      (rows_by 1 S f.sets2
      (λ r next. ap (λ path. record { worth = r.worth.0; path1 = path; path2 = whole_path f.sets2 (last_of r 2); pad1 = get_or r.pads 0 0; pad2 = get_or r.pads 1 0 }) (entered_whole rule roots f.sets1 ok1 first (last_of r 1) next.one))
      (λ i l. let z = terminate_row rule 1 factors i (limits i) in ap (λ path. record { worth = z.worth; path1 = path; path2 = whole_path f.sets2 None; pad1 = factors; pad2 = 0 }) (further_whole rule roots f.sets1 ok1 first i l)
      ∙ ap (λ path. record { worth = z.worth; path1 = terminate_step rule i ∷ []; path2 = path; pad1 = factors; pad2 = 0 }) (no_path (length (sets_model f.sets2)) (sets_model f.sets2))))
      ∙ ap (λ (ss : List model.FormSet). record { sets1 = ss; sets2 = sets_model f.sets2; rows = (gadget rule 1 roots factors limits (form_model f)).rows }) (opponent_model rule roots f.sets1)
    where
      no_path : (n : ℕ) (ss : List model.FormSet) → model.chain_within ss n None ≡ []
      no_path zero ss = refl
      no_path (suc n) ss = refl

-- whoever keeps
pub gadget_is : (rule : Rule) (f : FormValue) (roots factors : ℕ) (limits : ℕ → ℤ) (set_room row_room keeper : ℕ) → IsSeat keeper → AreSets (sets_of f keeper) → AreSets (sets_of f (other keeper))
    → AreRows f.sets1 f.sets2 f.rows → RootsFirst roots (sets_of f (other keeper)) → form_model (gadget_value rule f keeper roots factors limits set_room row_room) ≡ gadget rule (other keeper) roots factors limits (form_model f)
gadget_is rule f roots factors limits set_room row_room keeper (inl e) =
    subst (λ k. AreSets (sets_of f k) → AreSets (sets_of f (other k)) → AreRows f.sets1 f.sets2 f.rows → RootsFirst roots (sets_of f (other k))
    → form_model (gadget_value rule f k roots factors limits set_room row_room) ≡ gadget rule (other k) roots factors limits (form_model f)) (sym e)
    (λ own others rows first. for_one rule f roots factors limits set_room row_room own others rows first)
gadget_is rule f roots factors limits set_room row_room keeper (inr e) =
    subst (λ k. AreSets (sets_of f k) → AreSets (sets_of f (other k)) → AreRows f.sets1 f.sets2 f.rows → RootsFirst roots (sets_of f (other k))
    → form_model (gadget_value rule f k roots factors limits set_room row_room) ≡ gadget rule (other k) roots factors limits (form_model f)) (sym e)
    (λ own others rows first. for_two rule f roots factors limits set_room row_room others own rows first)

-- ---- the form as it is written

-- the sets of both seats
abbrev pub sets_value : Rule → FormValue → (keeper roots set_room row_room : ℕ) → FormValue
sets_value rule f keeper roots set_room row_room =
    let o = other keeper in
    with_sets (with_sets (empty_form set_room row_room) keeper (sets_of f keeper)) o (opponent_sets rule roots (sets_of f o))

-- the rows of the subgame may be added to them
entered_stand : (rule : Rule) (f : FormValue) (roots o i : ℕ) (d : FormRow) → i < length (map (entered_row rule o roots) f.rows) → AreRows f.sets1 f.sets2 f.rows → (sets1 sets2 : List FormSet)
    → ((r : FormRow) → IsNextRow f.sets1 f.sets2 r → IsNextRow sets1 sets2 (entered_row rule o roots r)) → IsNextRow sets1 sets2 (get_or (map (entered_row rule o roots) f.rows) i d)
entered_stand rule f roots o i d l rows sets1 sets2 one =
    let there : i < length f.rows = omega (arith, l, length-map f.rows (entered_row rule o roots)) in
    subst (IsNextRow sets1 sets2) (sym (get_or-map (entered_row rule o roots) f.rows i no_row d there)) (one (get_or f.rows i no_row) (rows i no_row there))

pub entered_rows_there : (rule : Rule) (f : FormValue) (roots set_room row_room keeper : ℕ) → IsSeat keeper → AreRows f.sets1 f.sets2 f.rows →
    let g = sets_value rule f keeper roots set_room row_room in AreRows g.sets1 g.sets2 (map (entered_row rule (other keeper) roots) f.rows)
entered_rows_there rule f roots set_room row_room keeper (inl e) =
    subst (λ k. AreRows f.sets1 f.sets2 f.rows → let g = sets_value rule f k roots set_room row_room in AreRows g.sets1 g.sets2 (map (entered_row rule (other k) roots) f.rows)) (sym e)
    (λ rows i d l. entered_stand rule f roots 2 i d l rows f.sets1 (opponent_sets rule roots f.sets2) (λ r next. record { one = next.one; two = raised_there rule roots f.sets2 (last_of r 2) next.two }))
entered_rows_there rule f roots set_room row_room keeper (inr e) =
    subst (λ k. AreRows f.sets1 f.sets2 f.rows → let g = sets_value rule f k roots set_room row_room in AreRows g.sets1 g.sets2 (map (entered_row rule (other k) roots) f.rows)) (sym e)
    (λ rows i d l. entered_stand rule f roots 1 i d l rows (opponent_sets rule roots f.sets1) f.sets2 (λ r next. record { one = raised_there rule roots f.sets1 (last_of r 1) next.one; two = next.two }))

-- so may the further rows
further_stand : (rule : Rule) (o factors : ℕ) (limits : ℕ → ℤ) (roots i : ℕ) (d : FormRow) → i < length (further_rows rule o factors limits roots) → (sets1 sets2 : List FormSet)
    → ((root : ℕ) → root < roots → IsNextRow sets1 sets2 (further_row rule o factors root (limits root))) → IsNextRow sets1 sets2 (get_or (further_rows rule o factors limits roots) i d)
further_stand rule o factors limits roots i d l sets1 sets2 one =
    let there : i < roots = omega (arith, l, length-map-range_with_len (λ i. further_row rule o factors i (limits i)) 0 roots) in
    subst (IsNextRow sets1 sets2) (sym (get_or-map-range_with_len (λ i. further_row rule o factors i (limits i)) 0 roots i i d there (omega arith))) (one i there)

pub further_rows_there : (rule : Rule) (f : FormValue) (roots factors : ℕ) (limits : ℕ → ℤ) (set_room row_room keeper : ℕ) → IsSeat keeper →
    let g = sets_value rule f keeper roots set_room row_room in AreRows g.sets1 g.sets2 (further_rows rule (other keeper) factors limits roots)
further_rows_there rule f roots factors limits set_room row_room keeper (inl e) =
    subst (λ k. let g = sets_value rule f k roots set_room row_room in AreRows g.sets1 g.sets2 (further_rows rule (other k) factors limits roots)) (sym e)
    (λ i d l. further_stand rule 2 factors limits roots i d l f.sets1 (opponent_sets rule roots f.sets2) (λ root r. record { one = tt; two = terminate_there rule roots root f.sets2 r }))
further_rows_there rule f roots factors limits set_room row_room keeper (inr e) =
    subst (λ k. let g = sets_value rule f k roots set_room row_room in AreRows g.sets1 g.sets2 (further_rows rule (other k) factors limits roots)) (sym e)
    (λ i d l. further_stand rule 1 factors limits roots i d l (opponent_sets rule roots f.sets1) f.sets2 (λ root r. record { one = terminate_there rule roots root f.sets1 r; two = tt }))
