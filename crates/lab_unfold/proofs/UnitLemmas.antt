-- Chance units, as they are made and as they are defined.
use Rattle.std.proofs.Common.{◌≡◌, ℕ, zero, suc, ◌+◌, ◌-◌, ◌*◌, ◌/◌, ◌^◌, ◌<◌, ◌≤◌, List, [], ◌∷◌, ◌++◌, length, get_or, map, filter, flat_map, drop, Bool, true, false, cond, Option, Some, None, refl, sym, ap, ◌∙◌, subst, arith, inl, inr}
use Rattle.std.specs.Prelude.{◌&&◌, ◌==◌, nat_le, nat_lt}
use Rattle.std.specs.List.{list_all}
use Rattle.std.proofs.lemmas.Bool.{and_parts, ltb-true, eqb-true, leb-true, leb-false, le-leb, lt-leb}
use Rattle.std.proofs.lemmas.List.{drop_more, drop-map}
use Rattle.std.proofs.lemmas.Nat.{mul-le}
use Rattle.lab_math.proofs.DivisorLemmas.{gcd_is, quotient_pos}
use Rattle.lab_math.proofs.Members.{In, in_map, in_from_map, in_get_or}
use Rattle.lab_math.specs.Divisors.{gcd, lcm, lcm_of}
use Rattle.lab_defs_text.specs.Games.{GameModel, Place, a_world, an_end}
use Rattle.lab_defs_text.specs.Texts.{place_at, is_world, place_ok, row_ok, outcome_ok, game_ok}
use Rattle.lab_defs_game.specs.Chance.{row_total, totals_at, chance_unit, units_from, scale}
use Rattle.lab_defs_game.specs.Histories as model
use Rattle.lab_defs_game.specs.Unfolding.{told_scale}
use Rattle.lab_defs_game.proofs.FormLemmas.{world_ok}
use Rattle.lab_defs_text.proofs.GameLemmas.{world_fine}
use Rattle.lab_world.specs.declared.place.Row.{Row}
use Rattle.lab_world.specs.Models.{row_model}
use Rattle.lab_unfold.specs.declared.history.History.{History}
use Rattle.lab_world.specs.Filled.{is_row}
use Rattle.lab_unfold.specs.Values.{history_in}
use Rattle.lab_unfold.specs.Units.{lcm_with, unit_with, unit_of}
use Rattle.lab_world.proofs.CallerLemmas.{total_pos}

-- ---- what is told

-- a number up to the limit is told
pub told_some : (k : ℕ) → k ≤ 2 ^ 80 → told_scale k ≡ Some k
told_some k l = ap (λ b. cond b (Some k) None) (le-leb k (2 ^ 80) l)

-- one above it is not
pub told_none : (k : ℕ) → 2 ^ 80 < k → told_scale k ≡ None
told_none k l = ap (λ b. cond b (Some k) None) (lt-leb k (2 ^ 80) l)

-- what is told is the number, and it is up to the limit
pub told_is : (k n : ℕ) → told_scale k ≡ Some n → (n ≡ k) × (k ≤ 2 ^ 80)
told_is k n e = at (nat_le k (2 ^ 80)) refl e
  where
    same : ◌≡◌ {A = Option ℕ} (Some k) (Some n) → n ≡ k
    same e = cc

    never : ◌≡◌ {A = Option ℕ} None (Some n) → ⊥
    never e = cc

    at : (b : Bool) → nat_le k (2 ^ 80) ≡ b → cond b (Some k) None ≡ Some n → (n ≡ k) × (k ≤ 2 ^ 80)
    at true q f = (same f, leb-true k (2 ^ 80) q)
    at false q f = absurd (never f)

-- where nothing is told the number is above the limit
pub told_past : (k : ℕ) → told_scale k ≡ None → 2 ^ 80 < k
told_past k e = at (nat_le k (2 ^ 80)) refl e
  where
    never : ◌≡◌ {A = Option ℕ} (Some k) None → ⊥
    never e = cc

    at : (b : Bool) → nat_le k (2 ^ 80) ≡ b → ◌≡◌ {A = Option ℕ} (cond b (Some k) None) None → 2 ^ 80 < k
    at true q f = absurd (never f)
    at false q f = leb-false k (2 ^ 80) q

-- ---- least common multiples

-- all numbers of a list are at least 1
abbrev pub AllPos : List ℕ → Type 0
AllPos ns = (n : ℕ) → In n ns → 0 < n

-- a multiple is no less than the second number
lcm_grows : (a b : ℕ) → 0 < a → b ≤ lcm a b
lcm_grows a b some = omega (arith, mul-le 1 b (a / gcd a b) b (quotient_pos a (gcd a b) some (gcd_is a b).0) (omega arith))

-- nor are those of more numbers
pub lcm_with_grows : (ns : List ℕ) (m : ℕ) → AllPos ns → m ≤ lcm_with ns m
lcm_with_grows [] m p = omega arith
lcm_with_grows (n ∷ ns) m p = omega (arith, lcm_grows n (lcm_with ns m) (p n (inl refl)), lcm_with_grows ns m (λ k i. p k (inr i)))

-- with the last of the numbers only it is no greater
pub lcm_with_drop : (ns : List ℕ) (i m : ℕ) → AllPos ns → lcm_with (drop i ns) m ≤ lcm_with ns m
lcm_with_drop [] zero m p = omega arith
lcm_with_drop [] (suc i) m p = omega arith
lcm_with_drop (n ∷ ns) zero m p = omega arith
lcm_with_drop (n ∷ ns) (suc i) m p = omega (arith, lcm_grows n (lcm_with ns m) (p n (inl refl)), lcm_with_drop ns i m (λ k i. p k (inr i)))

-- the multiple of all
lcm_append : (ns ms : List ℕ) → lcm_with ns (lcm_of ms) ≡ lcm_of (ns ++ ms)
lcm_append [] ms = refl
lcm_append (n ∷ ns) ms = ap (lcm n) (lcm_append ns ms)

-- ---- totals

-- what all pass one passes
passes_in : {X : Type 0} (p : X → Bool) (xs : List X) (x : X) → list_all p xs ≡ true → In x xs → p x ≡ true
passes_in p [] x e i = absurd i
passes_in p (y ∷ xs) x e (inl q) = subst (λ z. p z ≡ true) q (and_parts (p y) (list_all p xs) e).0
passes_in p (y ∷ xs) x e (inr i) = passes_in p xs x (and_parts (p y) (list_all p xs) e).1 i

-- totals of a place are at least 1
totals_pos : (g : GameModel) (p : Place) → place_ok g p ≡ true → AllPos (totals_at p)
totals_pos g (an_end z) ok n i = absurd i
totals_pos g (a_world w) ok n i =
    let r = in_from_map row_total w.rows n i in
    let fine = and_parts (nat_lt 0 (length r.0)) (list_all (outcome_ok g) r.0) (passes_in (row_ok g) w.rows r.0 (world_fine g w ok).rows r.1) in
    subst (λ k. 0 < k) r.2 (total_pos g r.0 (ltb-true 0 (length r.0) fine.0) fine.1)

-- so are those of a place with a number
pub place_totals : (g : GameModel) → game_ok g ≡ true → (n : ℕ) → AllPos (totals_at (place_at g n))
place_totals g ok n = at (is_world (place_at g n)) refl
  where
    none : (p : Place) → is_world p ≡ false → AllPos (totals_at p)
    none (an_end z) e k i = absurd i
    none (a_world w) e k i = absurd (never e)
      where
        never : ◌≡◌ {A = Bool} true false → ⊥
        never e = cc

    at : (b : Bool) → is_world (place_at g n) ≡ b → AllPos (totals_at (place_at g n))
    at true e = totals_pos g (place_at g n) (world_ok g n ok e)
    at false e = none (place_at g n) e

-- the totals of rows are those that they have
pub row_totals : (rows : List Row) → list_all is_row rows ≡ true → map (λ (r : Row). r.total) rows ≡ map row_total (map row_model rows)
row_totals [] e = refl
row_totals (r ∷ rows) e =
    let all = and_parts (is_row r) (list_all is_row rows) e in
    let rest = and_parts (nat_lt 0 (length r.outcomes)) ((r.total == row_total (row_model r)) && nat_lt 0 r.total) all.0 in
    let same = and_parts (r.total == row_total (row_model r)) (nat_lt 0 r.total) rest.1 in
    ap (λ n. n ∷ map (λ (r : Row). r.total) rows) (eqb-true r.total (row_total (row_model r)) same.0) ∙ ap (λ ns. row_total (row_model r) ∷ ns) (row_totals rows all.1)

-- they are at least 1
pub rows_pos : (rows : List Row) → list_all is_row rows ≡ true → AllPos (map (λ (r : Row). r.total) rows)
rows_pos rows e n i =
    let r = in_from_map (λ (r : Row). r.total) rows n i in
    let all = and_parts (nat_lt 0 (length r.0.outcomes)) ((r.0.total == row_total (row_model r.0)) && nat_lt 0 r.0.total) (passes_in is_row rows r.0 e r.1) in
    subst (λ k. 0 < k) r.2 (ltb-true 0 r.0.total (and_parts (r.0.total == row_total (row_model r.0)) (nat_lt 0 r.0.total) all.1).1)

-- the total of a row is at least 1
pub row_some : (rows : List Row) (i : ℕ) (d : Row) → list_all is_row rows ≡ true → i < length rows → 0 < (get_or rows i d).total
row_some rows i d ok l = rows_pos rows ok (get_or rows i d).total (in_map (λ (r : Row). r.total) rows (get_or rows i d) (in_get_or rows i d l))

-- from the end on the next total is that of the row before
pub totals_next : (rows : List Row) (later unit multiple : ℕ) (d : Row) → later < length rows
    → multiple ≡ lcm_with (map (λ (r : Row). r.total) (drop (length rows - later) rows)) unit
    → lcm (get_or rows (length rows - 1 - later) d).total multiple ≡ lcm_with (map (λ (r : Row). r.total) (drop (length rows - (later + 1)) rows)) unit
totals_next rows later unit multiple d l so_far =
    let i : ℕ = length rows - (later + 1) in
    let here : length rows - 1 - later ≡ i = omega (arith, l) in
    let next : length rows - later ≡ i + 1 = omega (arith, l) in
    ap (lcm (get_or rows (length rows - 1 - later) d).total) (so_far ∙ ap (λ k. lcm_with (map (λ (r : Row). r.total) (drop k rows)) unit) next)
    ∙ ap (λ k. lcm (get_or rows k d).total (lcm_with (map (λ (r : Row). r.total) (drop (i + 1) rows)) unit)) here
    ∙ ap (λ rs. lcm_with (map (λ (r : Row). r.total) rs) unit) (sym (drop_more rows i d (omega (arith, l))))

-- above the limit it stays there
pub totals_none : (rows : List Row) (later unit multiple : ℕ) (d : Row) → list_all is_row rows ≡ true → later < length rows
    → multiple ≡ lcm_with (map (λ (r : Row). r.total) (drop (length rows - later) rows)) unit → 2 ^ 80 < lcm (get_or rows (length rows - 1 - later) d).total multiple
    → told_scale (lcm_with (map row_total (map row_model rows)) unit) ≡ None
totals_none rows later unit multiple d ok l so_far past =
    let i : ℕ = length rows - (later + 1) in
    let less = lcm_with_drop (map (λ (r : Row). r.total) rows) i unit (rows_pos rows ok) in
    let next = totals_next rows later unit multiple d l so_far ∙ ap (λ ns. lcm_with ns unit) (sym (drop-map (λ (r : Row). r.total) i rows)) in
    ap (λ ns. told_scale (lcm_with ns unit)) (sym (row_totals rows ok)) ∙ told_none (lcm_with (map (λ (r : Row). r.total) rows) unit) (omega (arith, less, next, past))

-- once all totals are there it is told
pub totals_end : (rows : List Row) (later unit multiple : ℕ) → list_all is_row rows ≡ true → length rows ≤ later
    → multiple ≡ lcm_with (map (λ (r : Row). r.total) (drop (length rows - later) rows)) unit → multiple ≤ 2 ^ 80
    → ◌≡◌ {A = Option ℕ} (Some multiple) (told_scale (lcm_with (map row_total (map row_model rows)) unit))
totals_end rows later unit multiple ok l so_far told =
    let none : length rows - later ≡ 0 = omega (arith, l) in
    let all = so_far ∙ ap (λ k. lcm_with (map (λ (r : Row). r.total) (drop k rows)) unit) none ∙ ap (λ ns. lcm_with ns unit) (row_totals rows ok) in
    sym (told_some multiple told) ∙ ap told_scale all

-- a multiple is at least 1
pub lcm_some : (a b : ℕ) → 0 < a → 0 < b → 0 < lcm a b
lcm_some a b some there = omega (arith, lcm_grows a b some, there)

-- ---- units

-- with a history the unit grows
unit_grows : (g : GameModel) → game_ok g ≡ true → (t : ℕ) (h : History) (m : ℕ) → m ≤ unit_with g t h m
unit_grows g ok t h m = at (h.depth == t)
  where
    at : (b : Bool) → m ≤ cond b (lcm_with (totals_at (place_at g h.world.0)) m) m
    at true = lcm_with_grows (totals_at (place_at g h.world.0)) m (place_totals g ok h.world.0)
    at false = omega arith

-- with the last of the histories only it is no greater
pub unit_drop : (g : GameModel) → game_ok g ≡ true → (t : ℕ) (hs : List History) (i : ℕ) → unit_of g t (drop i hs) ≤ unit_of g t hs
unit_drop g ok t [] zero = omega arith
unit_drop g ok t [] (suc i) = omega arith
unit_drop g ok t (h ∷ hs) zero = omega arith
unit_drop g ok t (h ∷ hs) (suc i) = omega (arith, unit_grows g ok t h (unit_of g t hs), unit_drop g ok t hs i)

-- a unit is at least 1
pub unit_some : (g : GameModel) → game_ok g ≡ true → (t : ℕ) (hs : List History) → 0 < unit_of g t hs
unit_some g ok t [] = omega arith
unit_some g ok t (h ∷ hs) = omega (arith, unit_grows g ok t h (unit_of g t hs), unit_some g ok t hs)

-- the unit by all histories
unit_same : (g : GameModel) (t : ℕ) (hs : List model.History)
    → unit_of g t (map (history_in g) hs) ≡ lcm_of (flat_map (λ h. totals_at (model.place_of g h)) (filter (λ h. length h == t) (filter (λ h. is_world (model.place_of g h)) hs)))
unit_same g t [] = refl
unit_same g t (h ∷ hs) = at (model.place_of g h) refl (unit_same g t hs)
  where
    totals : model.History → List ℕ
    totals k = totals_at (model.place_of g k)

    inner : List model.History
    inner = filter (λ k. is_world (model.place_of g k)) hs

    there : List model.History
    there = filter (λ k. length k == t) inner

    m : ℕ
    m = unit_of g t (map (history_in g) hs)

    right : Bool → ℕ
    right b = lcm_of (flat_map totals (filter (λ k. length k == t) (cond b (h ∷ inner) inner)))

    by : (b : Bool) → m ≡ lcm_of (flat_map totals there) → cond b (lcm_with (totals h) m) m ≡ lcm_of (flat_map totals (cond b (h ∷ there) there))
    by true e = ap (lcm_with (totals h)) e ∙ lcm_append (totals h) (flat_map totals there)
    by false e = e

    nothing : (b : Bool) → cond b m m ≡ m
    nothing true = refl
    nothing false = refl

    at : (p : Place) → model.place_of g h ≡ p → m ≡ lcm_of (flat_map totals there) → cond (length h == t) (lcm_with (totals h) m) m ≡ right (is_world (model.place_of g h))
    at (a_world w) e same = by (length h == t) same ∙ sym (ap (λ q. right (is_world q)) e)
    at (an_end z) e same = ap (λ q. cond (length h == t) (lcm_with (totals_at q) m) m) e ∙ nothing (length h == t) ∙ same ∙ sym (ap (λ q. right (is_world q)) e)

-- it is the chance unit
pub unit_is : (g : GameModel) (t : ℕ) (items : List History) → items ≡ map (history_in g) (model.histories g) → unit_of g t items ≡ chance_unit g t
unit_is g t items e = ap (unit_of g t) e ∙ unit_same g t (model.histories g)

-- a chance unit is at least 1
pub chance_unit_some : (g : GameModel) → game_ok g ≡ true → (t : ℕ) → 0 < chance_unit g t
chance_unit_some g ok t = subst (λ n. 0 < n) (unit_same g t (model.histories g)) (unit_some g ok t (map (history_in g) (model.histories g)))

-- from the end on the next history is the one before
pub unit_next : (g : GameModel) (t : ℕ) (items : List History) (later unit : ℕ) (d : History) → later < length items → unit ≡ unit_of g t (drop (length items - later) items)
    → unit_with g t (get_or items (length items - 1 - later) d) unit ≡ unit_of g t (drop (length items - (later + 1)) items)
unit_next g t items later unit d l so_far =
    let i : ℕ = length items - (later + 1) in
    let here : length items - 1 - later ≡ i = omega (arith, l) in
    let next : length items - later ≡ i + 1 = omega (arith, l) in
    ap (unit_with g t (get_or items (length items - 1 - later) d)) (so_far ∙ ap (λ k. unit_of g t (drop k items)) next)
    ∙ ap (λ k. unit_with g t (get_or items k d) (unit_of g t (drop (i + 1) items))) here
    ∙ ap (unit_of g t) (sym (drop_more items i d (omega (arith, l))))

-- above the limit it stays there
pub unit_none : (g : GameModel) → game_ok g ≡ true → (t : ℕ) (items : List History) (later unit : ℕ) (d : History) → items ≡ map (history_in g) (model.histories g) → later < length items
    → unit ≡ unit_of g t (drop (length items - later) items) → None ≡ told_scale (unit_with g t (get_or items (length items - 1 - later) d) unit)
    → told_scale (chance_unit g t) ≡ None
unit_none g ok t items later unit d e l so_far none =
    let past = told_past (unit_with g t (get_or items (length items - 1 - later) d) unit) (sym none) in
    let less = unit_drop g ok t items (length items - (later + 1)) in
    let next = unit_next g t items later unit d l so_far in
    told_none (chance_unit g t) (omega (arith, past, less, next, unit_is g t items e))

-- once all histories are there it is told
pub unit_end : (g : GameModel) (t : ℕ) (items : List History) (later unit : ℕ) → items ≡ map (history_in g) (model.histories g) → length items ≤ later
    → unit ≡ unit_of g t (drop (length items - later) items) → unit ≤ 2 ^ 80 → ◌≡◌ {A = Option ℕ} (Some unit) (told_scale (chance_unit g t))
unit_end g t items later unit e l so_far told =
    let none : length items - later ≡ 0 = omega (arith, l) in
    sym (told_some unit told) ∙ ap told_scale (so_far ∙ ap (λ k. unit_of g t (drop k items)) none ∙ unit_is g t items e)

-- ---- the scale

-- from the end on the next unit is that of the step before
pub units_next : (g : GameModel) (later k : ℕ) → later < g.horizon → k ≡ units_from g (g.horizon - later) later
    → chance_unit g (g.horizon - 1 - later) * k ≡ units_from g (g.horizon - (later + 1)) (later + 1)
units_next g later k l e =
    let here : g.horizon - 1 - later ≡ g.horizon - (later + 1) = omega (arith, l) in
    let next : g.horizon - later ≡ g.horizon - (later + 1) + 1 = omega (arith, l) in
    let more : suc later ≡ later + 1 = omega arith in
    ap (λ n. chance_unit g (g.horizon - 1 - later) * n) (e ∙ ap (λ t. units_from g t later) next)
    ∙ ap (λ t. chance_unit g t * units_from g (g.horizon - (later + 1) + 1) later) here
    ∙ ap (units_from g (g.horizon - (later + 1))) more

-- units are at least 1 together
pub units_some : (g : GameModel) → game_ok g ≡ true → (t n : ℕ) → 0 < units_from g t n
units_some g ok t zero = omega arith
units_some g ok t (suc n) = mul-le 1 1 (chance_unit g t) (units_from g (t + 1) n) (chance_unit_some g ok t) (units_some g ok (t + 1) n)

-- the units of later steps are no more than those of more steps
units_grow : (g : GameModel) → game_ok g ≡ true → (m t n : ℕ) → units_from g (t + m) n ≤ units_from g t (m + n)
units_grow g ok zero t n =
    let a : t + zero ≡ t = omega arith in
    let b : zero + n ≡ n = omega arith in
    subst (λ k. units_from g (t + zero) n ≤ units_from g t k) (sym b) (subst (λ k. units_from g k n ≤ units_from g t n) (sym a) (omega arith))
units_grow g ok (suc m) t n =
    let a : t + suc m ≡ t + 1 + m = omega arith in
    let b : suc m + n ≡ suc (m + n) = omega arith in
    let rest = units_grow g ok m (t + 1) n in
    let more = mul-le 1 (units_from g (t + 1) (m + n)) (chance_unit g t) (units_from g (t + 1) (m + n)) (chance_unit_some g ok t) (omega arith) in
    subst (λ k. units_from g (t + suc m) n ≤ units_from g t k) (sym b) (subst (λ k. units_from g k n ≤ chance_unit g t * units_from g (t + 1) (m + n)) (sym a) (omega (arith, rest, more)))

-- nor more than the scale
pub units_scale : (g : GameModel) → game_ok g ≡ true → (t n : ℕ) → t + n ≡ g.horizon → units_from g t n ≤ scale g
units_scale g ok t n e =
    let zero_t : 0 + t ≡ t = omega arith in
    subst (λ k. units_from g t n ≤ units_from g 0 k) e (subst (λ k. units_from g k n ≤ units_from g 0 (t + n)) zero_t (units_grow g ok t 0 n))

-- nor is one unit
pub unit_scale : (g : GameModel) → game_ok g ≡ true → (t n : ℕ) → t + suc n ≡ g.horizon → chance_unit g t ≤ scale g
unit_scale g ok t n e =
    let more = mul-le (chance_unit g t) 1 (chance_unit g t) (units_from g (t + 1) n) (omega arith) (units_some g ok (t + 1) n) in
    let all : units_from g t (suc n) ≤ scale g = units_scale g ok t (suc n) e in
    omega (arith, more, all)

-- a unit above the limit makes the scale so
pub unit_past : (g : GameModel) → game_ok g ≡ true → (later : ℕ) → later < g.horizon → None ≡ told_scale (chance_unit g (g.horizon - 1 - later)) → told_scale (scale g) ≡ None
unit_past g ok later l none =
    let past = told_past (chance_unit g (g.horizon - 1 - later)) (sym none) in
    let less = unit_scale g ok (g.horizon - 1 - later) later (omega (arith, l)) in
    told_none (scale g) (omega (arith, past, less))

-- so does a product of units
pub product_past : (g : GameModel) → game_ok g ≡ true → (later k : ℕ) → later < g.horizon → k ≡ units_from g (g.horizon - later) later
    → None ≡ told_scale (chance_unit g (g.horizon - 1 - later) * k) → told_scale (scale g) ≡ None
product_past g ok later k l so_far none =
    let past = told_past (chance_unit g (g.horizon - 1 - later) * k) (sym none) in
    let less = units_scale g ok (g.horizon - (later + 1)) (later + 1) (omega (arith, l)) in
    told_none (scale g) (omega (arith, past, less, units_next g later k l so_far))

-- once all units are there the scale is told
pub scale_end : (g : GameModel) (later k : ℕ) → later ≡ g.horizon → k ≡ units_from g (g.horizon - later) later → k ≤ 2 ^ 80 → ◌≡◌ {A = Option ℕ} (Some k) (told_scale (scale g))
scale_end g later k e so_far told =
    let none : g.horizon - later ≡ 0 = omega (arith, e) in
    sym (told_some k told) ∙ ap told_scale (so_far ∙ ap (λ t. units_from g t later) none ∙ ap (units_from g 0) e)
