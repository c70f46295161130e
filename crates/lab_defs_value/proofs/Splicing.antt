-- Splices: where their weights come from, and what they leave alone.
use Rattle.std.proofs.Common.{◌≡◌, ℕ, zero, suc, ◌+◌, ◌*◌, ◌-◌, ◌^◌, ◌<◌, ◌≤◌, pos, ◌*ℤ◌, List, [], ◌∷◌, ◌++◌, Bool, true, false, cond, Option, Some, None, length, get_or, take, drop, refl, sym, ap, ◌∙◌, arith, length-append, length-take-le}
use Rattle.std.specs.Prelude.{nat_lt, nat_le, ◌||◌, slice_index}
use Rattle.std.proofs.lemmas.Bool.{and_parts, leb-true, ltb-true}
use Rattle.std.proofs.lemmas.List.{get_or_append_left, get_or-append_right, get_or-take, get_or-drop, length-drop}
use Rattle.lab_math.specs.Sums.{sum_over, product_over}
use Rattle.lab_math.proofs.Totals.{total_filter, total_cong_all}
use Rattle.lab_defs_game.specs.Forms.{Row, actions_of, path_of, pad_of, decides, parent_of}
use Rattle.lab_defs_game.specs.Paths.{SetAction}
use Rattle.lab_defs_value.specs.Tables.{weights_of, first_weight, factor}
use Rattle.lab_defs_value.specs.Parents.{passes_through}
use Rattle.lab_defs_value.proofs.Chains.{IsPath, paths_follow}
use Rattle.lab_defs_value.specs.Replies.{Strategy, opponent, reply_sets, reply_factors, worth_to, worth_against, tail}
use Rattle.lab_defs_value.specs.Splices.{FitsSpan, spliced, with_table, stays_outside}
use Rattle.lab_defs_value.specs.Laws.{SpliceLaw, StayLaw}

-- ---- the places of weights

-- the weights of a set come before those of the next one
first_weight_next : (ns : List ℕ) (J : ℕ) → J < length ns → first_weight ns (suc J) ≡ first_weight ns J + weights_of (slice_index ns J)
first_weight_next [] J l = absurd (omega (arith, l))
first_weight_next (n ∷ ns) zero l = omega arith
first_weight_next (n ∷ ns) (suc J) l = omega (arith, first_weight_next ns J (omega (arith, l)))

-- later sets have later weights
first_weight_le : (ns : List ℕ) (J K : ℕ) → J ≤ K → first_weight ns J ≤ first_weight ns K
first_weight_le [] J K h = nothing J K
  where
    nothing : (J K : ℕ) → sum_over weights_of (take J []) ≤ sum_over weights_of (take K [])
    nothing zero K = omega arith
    nothing (suc J) K = omega arith
first_weight_le (n ∷ ns) zero K h = omega arith
first_weight_le (n ∷ ns) (suc J) zero h = absurd (omega (arith, h))
first_weight_le (n ∷ ns) (suc J) (suc K) h = omega (arith, first_weight_le ns J K (omega (arith, h)))

-- a deciding set is there
pub decides_there : (ns : List ℕ) (J : ℕ) → decides ns J ≡ true → J < length ns
decides_there [] zero e = cc
decides_there [] (suc J) e = cc
decides_there (n ∷ ns) zero e = omega arith
decides_there (n ∷ ns) (suc J) e = omega (arith, decides_there ns J e)

-- the weight of an action at a deciding set comes before those of each later set
weight_before : (ns : List ℕ) (J K a : ℕ) → decides ns J ≡ true → a < slice_index ns J → J < K → first_weight ns J + a < first_weight ns K
weight_before ns J K a e l h =
    let next = first_weight_next ns J (decides_there ns J e) in
    let le = first_weight_le ns (suc J) K (omega (arith, h)) in
    let many : weights_of (slice_index ns J) ≡ slice_index ns J = ap (λ b. cond b (slice_index ns J) 0) e in
    omega (arith, next, le, many, l)

-- ---- three pieces

-- a place in the first piece
in_first : (p q i : ℕ) (table proposal : List ℕ) → p ≤ length table → i < p → get_or (take p table ++ proposal ++ drop q table) i 0 ≡ get_or table i 0
in_first p q i table proposal long l =
    get_or_append_left (take p table ++ proposal) (drop q table) 0 i (omega (arith, length-append (take p table) proposal, length-take-le p table long, l))
    ∙ get_or_append_left (take p table) proposal 0 i (omega (arith, length-take-le p table long, l))
    ∙ get_or-take p table i 0 l

-- a place in the second
in_second : (p q i : ℕ) (table proposal : List ℕ) → p ≤ length table → p + length proposal ≡ q → p ≤ i → i < q → get_or (take p table ++ proposal ++ drop q table) i 0 ≡ get_or proposal (i - p) 0
in_second p q i table proposal long e ge l =
    get_or_append_left (take p table ++ proposal) (drop q table) 0 i (omega (arith, length-append (take p table) proposal, length-take-le p table long, l, e))
    ∙ get_or-append_right (take p table) proposal p i 0 (length-take-le p table long) ge

-- a place in the third
in_third : (p q i : ℕ) (table proposal : List ℕ) → p ≤ length table → p + length proposal ≡ q → q ≤ i → get_or (take p table ++ proposal ++ drop q table) i 0 ≡ get_or table i 0
in_third p q i table proposal long e ge =
    let same : q + (i - q) ≡ i = omega (arith, ge) in
    get_or-append_right (take p table ++ proposal) (drop q table) q i 0 (omega (arith, length-append (take p table) proposal, length-take-le p table long, e)) ge
    ∙ get_or-drop q table (i - q) 0 ∙ ap (λ k. get_or table k 0) same

-- the pieces together are as long as the table
three_long : (p q : ℕ) (table proposal : List ℕ) → p ≤ length table → q ≤ length table → p + length proposal ≡ q → length (take p table ++ proposal ++ drop q table) ≡ length table
three_long p q table proposal long there e =
    omega (arith, length-append (take p table ++ proposal) (drop q table), length-append (take p table) proposal, length-take-le p table long, length-drop q table, e, there)

-- ---- the weights of a splice

-- where the span's weights begin and end, in a table that fits
record Places (ns : List ℕ) (start end : ℕ) (table proposal : List ℕ) : Type 0 where
  begins : first_weight ns start ≤ length table
  ends : first_weight ns end ≤ length table

-- they lie in the table
places_of : (ns : List ℕ) (start end : ℕ) (table proposal : List ℕ) → FitsSpan ns start end table proposal → Places ns start end table proposal
places_of ns start end table proposal f = record {
  begins = omega (arith, f.whole, first_weight_le ns start (length ns) (omega (arith, f.ordered, f.within)));
  ends = omega (arith, f.whole, first_weight_le ns end (length ns) f.within);
}

-- outside the span the factors are the table's
pub factor_outside : (ns : List ℕ) (start end : ℕ) (table proposal : List ℕ) → FitsSpan ns start end table proposal → (t : SetAction) → t.action < slice_index ns t.set
    → (nat_lt t.set start || nat_le end t.set) ≡ true → factor ns (spliced ns start end table proposal) t ≡ factor ns table t
factor_outside ns start end table proposal f t l out = by (decides ns t.set) refl
  where
    at : decides ns t.set ≡ true → (b : Bool) → nat_lt t.set start ≡ b → (b || nat_le end t.set) ≡ true
        → slice_index (spliced ns start end table proposal) (first_weight ns t.set + t.action) ≡ slice_index table (first_weight ns t.set + t.action)
    at d true e o =
        in_first (first_weight ns start) (first_weight ns end) (first_weight ns t.set + t.action) table proposal (places_of ns start end table proposal f).begins
        (weight_before ns t.set start t.action d l (ltb-true t.set start e))
    at d false e o =
        in_third (first_weight ns start) (first_weight ns end) (first_weight ns t.set + t.action) table proposal (places_of ns start end table proposal f).begins f.part
        (omega (arith, first_weight_le ns end t.set (leb-true end t.set o)))

    by : (b : Bool) → decides ns t.set ≡ b
        → cond b (slice_index (spliced ns start end table proposal) (first_weight ns t.set + t.action)) 1 ≡ cond b (slice_index table (first_weight ns t.set + t.action)) 1
    by true d = at d (nat_lt t.set start) refl out
    by false d = refl

-- the law of splices
pub splice_law : SpliceLaw
splice_law ns start end table proposal f =
    let places = places_of ns start end table proposal f in (
      three_long (first_weight ns start) (first_weight ns end) table proposal places.begins places.ends f.part,
      factor_outside ns start end table proposal f,
      λ J a ge l d k.
          let before : first_weight ns J + a < first_weight ns end = weight_before ns J end a d k l in
          let after : first_weight ns start ≤ first_weight ns J = first_weight_le ns start J ge in
          let same : first_weight ns J + a - first_weight ns start ≡ first_weight ns J - first_weight ns start + a = omega (arith, after) in
          in_second (first_weight ns start) (first_weight ns end) (first_weight ns J + a) table proposal places.begins f.part (omega (arith, after)) before
          ∙ ap (λ i. get_or proposal i 0) same,
    )

-- ---- rows that stay outside

-- two tables have one product on a path that stays outside
product_outside : (ns : List ℕ) (parent : ℕ → Option SetAction) (start end : ℕ) (table proposal : List ℕ) → FitsSpan ns start end table proposal → (before : Option SetAction) (path : List SetAction)
    → IsPath ns parent before path → stays_outside start end path ≡ true → product_over (factor ns (spliced ns start end table proposal)) path ≡ product_over (factor ns table) path
product_outside ns parent start end table proposal f before [] h out = refl
product_outside ns parent start end table proposal f before (t ∷ ts) h out =
    let o = and_parts (nat_lt t.set start || nat_le end t.set) (stays_outside start end ts) out in
    ap (λ x. x * product_over (factor ns (spliced ns start end table proposal)) ts) (factor_outside ns start end table proposal f t h.2.1 o.0)
    ∙ ap (λ x. factor ns table t * x) (product_outside ns parent start end table proposal f (Some t) ts h.3 o.1)

-- the strategy after a splice
abbrev pub spliced_strategy : Strategy → ℕ → ℕ → List ℕ → Strategy
spliced_strategy s start end proposal = with_table s (spliced (actions_of s.form s.keeper) start end s.table proposal)

-- the keeper's path on a row follows parents
abbrev pub HasOwnPath : Strategy → Row → Type 0
HasOwnPath s z = IsPath (actions_of s.form s.keeper) (parent_of s.form s.keeper) None (path_of z s.keeper)

-- a row whose keeper's path stays outside is worth the same
pub worth_outside : (s : Strategy) (start end : ℕ) (proposal : List ℕ) → FitsSpan (actions_of s.form s.keeper) start end s.table proposal → (z : Row) → HasOwnPath s z
    → stays_outside start end (path_of z s.keeper) ≡ true → worth_against (spliced_strategy s start end proposal) z ≡ worth_against s z
worth_outside s start end proposal f z h out =
    ap (λ x. worth_to (opponent s) z.worth *ℤ pos (x * s.grid ^ pad_of z s.keeper))
    (product_outside (actions_of s.form s.keeper) (parent_of s.form s.keeper) start end s.table proposal f None (path_of z s.keeper) h out)

-- the law of what stays
pub stay_law : StayLaw
stay_law s keeps start end proposal f I out r =
    let s' = spliced_strategy s start end proposal in
    let o = opponent s in
    let m = reply_factors s in
    let tail_at = λ (z : Row). tail (reply_sets s) m r I (path_of z o) in
    let through = λ (z : Row). passes_through I (path_of z o) in
    total_filter through (λ z. worth_against s' z *ℤ pos (tail_at z)) s.form.rows
    ∙ total_cong_all (λ z. HasOwnPath s z × (through z ≡ true → stays_outside start end (path_of z s.keeper) ≡ true)) _ (λ z. cond (through z) (worth_against s z *ℤ pos (tail_at z)) (pos 0)) s.form.rows
    (λ k d l. (paths_follow s.form s.keeper keeps k d l, out k d l))
    (λ z h. at z (through z) (tail_at z) h.0 h.1)
    ∙ sym (total_filter through (λ z. worth_against s z *ℤ pos (tail_at z)) s.form.rows)
  where
    at : (z : Row) (b : Bool) (t : ℕ) → HasOwnPath s z → (b ≡ true → stays_outside start end (path_of z s.keeper) ≡ true)
        → cond b (worth_against (spliced_strategy s start end proposal) z *ℤ pos t) (pos 0) ≡ cond b (worth_against s z *ℤ pos t) (pos 0)
    at z true t h o = ap (λ w. w *ℤ pos t) (worth_outside s start end proposal f z h (o refl))
    at z false t h o = refl
