-- Sizes of parts, and what they say of places that are known, placed and in order.
use Rattle.std.proofs.Common.{◌≡◌, ℕ, ◌+◌, ◌*◌, ◌^◌, ◌<◌, ◌≤◌, true, List, [], ◌∷◌, length, map, Ok, refl, subst, arith}
use Rattle.std.specs.Prelude.{◌&&◌, nat_lt, nat_le}
use Rattle.std.specs.List.{list_all, range_with_len}
use Rattle.std.specs.Borrow.{Bor}
use Rattle.std.proofs.lemmas.Bool.{and_parts, and_from, leb-true, ltb-true, lt-ltb}
use Rattle.lab_math.specs.Sums.{sum_over}
use Rattle.lab_defs_text.specs.Steps.{◌>>=◌, each}
use Rattle.lab_defs_text.specs.Words.{Bytes, apart_after, are_names}
use Rattle.lab_defs_text.specs.Games as model
use Rattle.lab_defs_text.specs.Drafts as draft
use Rattle.lab_defs_text.specs.Parts.{part_outcome_ok, part_row_ok, part_ok}
use Rattle.lab_defs_text.specs.Assembly.{KnownRow, KnownPlace, known_world, known_end, PlacedPlace, placed_world, placed_end, known, known_outcome, known_row, known_place, place_rows, placed, row_at, ordered}
use Rattle.lab_defs_text.proofs.GameLemmas.{names_fine}
use Rattle.lab_defs_text.proofs.StepLemmas.{bind_ok, ok_carries}
use Rattle.lab_defs_game.specs.Chance.{row_total}
use Rattle.lab_world.specs.declared.parts.PartPlace.{PartPlace}
use Rattle.lab_world.specs.Drafts.{part_place_of}
use Rattle.lab_world.specs.Sizes.{row_size, place_size, sizes_ok, known_actions, placed_actions, model_actions}
use Rattle.lab_world.specs.Stages.{weights_fit, known_fits}
use Rattle.lab_world.specs.Wholes.{with_new, all_action_names}
use Rattle.lab_world.proofs.ActionNameLemmas.{with_new_few}

-- ---- weights of rows

-- a known outcome has the weight of its part
weight_kept : (ns ts : List Bytes) (p : draft.PartOutcome) (o : model.Outcome) → known_outcome ns ts p ≡ Ok o → o.weight ≡ p.weight
weight_kept ns ts p o e =
    let a = bind_ok (known ns p.line 3 p.next) (λ n. known ts p.line 4 p.own1 >>= λ x. known ts p.line 5 p.own2 >>= λ y. known ts p.line 6 p.public >>= λ z. Ok (record { weight = p.weight; next = n; own1 = x; own2 = y; public = z })) o e in
    let b = bind_ok (known ts p.line 4 p.own1) (λ x. known ts p.line 5 p.own2 >>= λ y. known ts p.line 6 p.public >>= λ z. Ok (record { weight = p.weight; next = a.0; own1 = x; own2 = y; public = z })) o a.2 in
    let c = bind_ok (known ts p.line 5 p.own2) (λ y. known ts p.line 6 p.public >>= λ z. Ok (record { weight = p.weight; next = a.0; own1 = b.0; own2 = y; public = z })) o b.2 in
    let d = bind_ok (known ts p.line 6 p.public) (λ z. Ok (record { weight = p.weight; next = a.0; own1 = b.0; own2 = c.0; public = z })) o c.2 in
    let made : model.Outcome = record { weight = p.weight; next = a.0; own1 = b.0; own2 = c.0; public = d.0 } in
    ok_carries (λ (v : model.Outcome). v.weight ≡ p.weight) made o d.2 refl

-- each outcome adds at most 2 ^ 20 to the total
total_most : (ns ts : List Bytes) (ps : List draft.PartOutcome) (os : List model.Outcome) → list_all part_outcome_ok ps ≡ true → each (known_outcome ns ts) ps ≡ Ok os → row_total os ≤ 1048576 * length ps
total_most ns ts [] os f e = ok_carries (λ (v : List model.Outcome). row_total v ≤ 0) [] os e (omega arith)
total_most ns ts (p ∷ ps) os f e =
    let g = and_parts (part_outcome_ok p) (list_all part_outcome_ok ps) f in
    let w = and_parts (nat_le 1 p.weight) (nat_le p.weight 1048576) g.0 in
    let a = bind_ok (known_outcome ns ts p) (λ y. each (known_outcome ns ts) ps >>= λ ys. Ok (y ∷ ys)) os e in
    let b = bind_ok (each (known_outcome ns ts) ps) (λ ys. Ok (a.0 ∷ ys)) os a.2 in
    let most = leb-true p.weight 1048576 w.1 in
    let same = weight_kept ns ts p a.0 a.1 in
    let rest = total_most ns ts ps b.0 g.1 b.1 in
    ok_carries (λ (v : List model.Outcome). row_total v ≤ 1048576 * length (p ∷ ps)) (a.0 ∷ b.0) os b.2 (omega (arith, most, same, rest))

-- known rows are as many as their parts, and their weights fit
record RowsKnown (ps : List draft.PartRow) (rs : List KnownRow) : Type 0 where
  count : length rs ≡ length ps
  weights : list_all weights_fit rs ≡ true

-- rows that are known
rows_known : (ns ts : List Bytes) (ps : List draft.PartRow) (rs : List KnownRow) → list_all part_row_ok ps ≡ true → sum_over row_size ps < 2 ^ 32 → each (known_row ns ts) ps ≡ Ok rs → RowsKnown ps rs
rows_known ns ts [] rs f few e = ok_carries (λ (v : List KnownRow). RowsKnown [] v) [] rs e (record { count = refl; weights = refl })
rows_known ns ts (p ∷ ps) rs f few e =
    let g = and_parts (part_row_ok p) (list_all part_row_ok ps) f in
    let h = and_parts (nat_lt 0 (length p.outcomes)) (list_all part_outcome_ok p.outcomes) g.0 in
    let a = bind_ok (known_row ns ts p) (λ y. each (known_row ns ts) ps >>= λ ys. Ok (y ∷ ys)) rs e in
    let b = bind_ok (each (known_row ns ts) ps) (λ ys. Ok (a.0 ∷ ys)) rs a.2 in
    let c = bind_ok (each (known_outcome ns ts) p.outcomes) (λ os. Ok (record { line = p.line; first = p.first; second = p.second; outcomes = os })) a.0 a.1 in
    let most = total_most ns ts p.outcomes c.0 h.1 c.1 in
    let made : KnownRow = record { line = p.line; first = p.first; second = p.second; outcomes = c.0 } in
    let fits : weights_fit made ≡ true = lt-ltb (row_total c.0) (2 ^ 64) (omega (arith, most, few)) in
    let first = ok_carries (λ (v : KnownRow). weights_fit v ≡ true) made a.0 c.2 fits in
    let rest = rows_known ns ts ps b.0 g.1 (omega (arith, few)) b.1 in
    ok_carries (λ (v : List KnownRow). RowsKnown (p ∷ ps) v) (a.0 ∷ b.0) rs b.2
    (record { count = omega (arith, rest.count); weights = and_from (weights_fit a.0) (list_all weights_fit b.0) first rest.weights })

-- no fewer items than rows
rows_most : (ps : List draft.PartRow) → length ps ≤ sum_over row_size ps
rows_most [] = omega arith
rows_most (p ∷ ps) = let rest = rows_most ps in omega (arith, rest)

-- ---- places

-- what a place that is known has of the sizes of its part
record PlaceKnown (p : draft.PartPlace) (k : KnownPlace) : Type 0 where
  fits : known_fits k ≡ true
  actions : known_actions k ≤ place_size p

-- a place that is known
place_known : (ns ts : List Bytes) (p : draft.PartPlace) (k : KnownPlace) → part_ok p ≡ true → place_size p < 2 ^ 32 → known_place ns ts p ≡ Ok k → PlaceKnown p k
place_known ns ts (draft.part_end n line z) k f few e = ok_carries (λ (x : KnownPlace). PlaceKnown (draft.part_end n line z) x) (known_end z) k e (record { fits = refl; actions = omega arith })
place_known ns ts (draft.part_world w) k f few e =
    let h = and_parts (are_names w.one) (are_names w.two && list_all part_row_ok w.rows) f in
    let i = and_parts (are_names w.two) (list_all part_row_ok w.rows) h.1 in
    let a = bind_ok (each (known_row ns ts) w.rows) (λ rs. Ok (known_world w.line w.one w.two rs)) k e in
    let rows = rows_known ns ts w.rows a.0 i.1 (omega (arith, few)) a.1 in
    let most = rows_most w.rows in
    let apart = and_from (apart_after [] w.one) (apart_after [] w.two) (names_fine w.one h.0).apart (names_fine w.two i.0).apart in
    let counts = and_from (nat_lt (length w.one) (2 ^ 32)) (nat_lt (length w.two) (2 ^ 32)) (lt-ltb (length w.one) (2 ^ 32) (omega (arith, few))) (lt-ltb (length w.two) (2 ^ 32) (omega (arith, few))) in
    let rest = and_from (nat_lt (length a.0) (2 ^ 32)) (list_all weights_fit a.0) (lt-ltb (length a.0) (2 ^ 32) (omega (arith, few, most, rows.count))) rows.weights in
    ok_carries (λ (x : KnownPlace). PlaceKnown (draft.part_world w) x) (known_world w.line w.one w.two a.0) k a.2 (record {
      fits = and_from (apart_after [] w.one && apart_after [] w.two) ((nat_lt (length w.one) (2 ^ 32) && nat_lt (length w.two) (2 ^ 32)) && (nat_lt (length a.0) (2 ^ 32) && list_all weights_fit a.0)) apart
          (and_from (nat_lt (length w.one) (2 ^ 32) && nat_lt (length w.two) (2 ^ 32)) (nat_lt (length a.0) (2 ^ 32) && list_all weights_fit a.0) counts rest);
      actions = omega arith;
    })

-- a place whose rows are placed has the actions of the known place
pub placed_same : (k : KnownPlace) (q : PlacedPlace) → placed k ≡ Ok q → placed_actions q ≡ known_actions k
placed_same (known_end z) q e = ok_carries (λ (x : PlacedPlace). placed_actions x ≡ 0) (placed_end z) q e refl
placed_same (known_world line one two rows) q e =
    let a = bind_ok (place_rows one two [] rows) (λ ps. Ok (placed_world line one two ps)) q e in
    ok_carries (λ (x : PlacedPlace). placed_actions x ≡ length one + length two) (placed_world line one two a.0) q a.2 refl

-- likewise one whose rows are in order
pub ordered_same : (q : PlacedPlace) (m : model.Place) → ordered q ≡ Ok m → model_actions m ≡ placed_actions q
ordered_same (placed_end z) m e = ok_carries (λ (x : model.Place). model_actions x ≡ 0) (model.an_end z) m e refl
ordered_same (placed_world line one two ps) m e =
    let a = bind_ok (each (row_at line (length two) ps) (range_with_len 0 (length one * length two))) (λ rows. Ok (model.a_world (record { one = one; two = two; rows = rows }))) m e in
    ok_carries (λ (x : model.Place). model_actions x ≡ length one + length two) (model.a_world (record { one = one; two = two; rows = a.0 })) m a.2 refl

-- a place adds no more names than it has actions
pub action_names_few : (names : List Bytes) (m : model.Place) → length (all_action_names names (m ∷ [])) ≤ length names + model_actions m
action_names_few names (model.an_end z) = omega arith
action_names_few names (model.a_world w) =
    let one = with_new_few names w.one in
    let two = with_new_few (with_new names w.one) w.two in
    omega (arith, one, two)

-- ---- places one after another

-- what holds of the next place and of those after it, where there are n names of actions
pub record NextKnown (n : ℕ) (ps : List (PartPlace (Bor Bytes))) (k : KnownPlace) : Type 0 where
  pub fits : known_fits k ≡ true
  pub few : n + known_actions k < 2 ^ 32
  pub fine : list_all part_ok (map (part_place_of []) ps) ≡ true
  pub rest : (m : ℕ) → m ≤ n + known_actions k → m + sum_over place_size (map (part_place_of []) ps) < 2 ^ 32

-- the next place, `left` being all that are left
pub next_known : (ns ts : List Bytes) (n : ℕ) (p : PartPlace (Bor Bytes)) (ps left : List (PartPlace (Bor Bytes))) (k : KnownPlace) → left ≡ p ∷ ps → list_all part_ok (map (part_place_of []) left) ≡ true
    → n + sum_over place_size (map (part_place_of []) left) < 2 ^ 32 → known_place ns ts (part_place_of [] p) ≡ Ok k → NextKnown n ps k
next_known ns ts n p ps left k here fine few e =
    let place = part_place_of [] p in
    let parts = map (part_place_of []) ps in
    let f = and_parts (part_ok place) (list_all part_ok parts) (subst (λ (xs : List (PartPlace (Bor Bytes))). list_all part_ok (map (part_place_of []) xs) ≡ true) here fine) in
    let g : n + (place_size place + sum_over place_size parts) < 2 ^ 32 = subst (λ (xs : List (PartPlace (Bor Bytes))). n + sum_over place_size (map (part_place_of []) xs) < 2 ^ 32) here few in
    let h = place_known ns ts place k f.0 (omega (arith, g)) e in
    record { fits = h.fits; few = omega (arith, g, h.actions); fine = f.1; rest = λ m le. omega (arith, g, h.actions, le) }

-- what the test of sizes says
pub sizes_few : (ps : List draft.PartPlace) → sizes_ok ps ≡ true → sum_over place_size ps < 2 ^ 32
sizes_few ps e = ltb-true (sum_over place_size ps) (2 ^ 32) e
