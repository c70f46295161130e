-- The uniform table is a table: its weights sum to the grid at each deciding set.
use Rattle.std.proofs.Common.{◌≡◌, ℕ, suc, ◌+◌, ◌-◌, ◌<◌, ◌≤◌, pos, ℤ, List, [], ◌∷◌, map, flat_map, take, length, get_or, replicate, Bool, true, false, cond, refl, sym, ap, ◌∙◌, subst, arith}
use Rattle.std.specs.Prelude.{◌&&◌, nat_lt, nat_le, if◌then◌else◌, slice_index}
use Rattle.std.proofs.lemmas.List.{length-append, length-map, length-replicate}
use Rattle.std.proofs.lemmas.List.Concat.{get_or-flat_map}
use Rattle.std.proofs.lemmas.Bool.{leb-true}
use Rattle.lab_math.specs.Sums.{sum_over}
use Rattle.lab_math.proofs.BelowLemmas.{sum_below_cong}
use Rattle.lab_defs_game.specs.Forms.{decides}
use Rattle.lab_defs_value.specs.Rounding.{even_part, rounded, handed_out, share_size, part, may_gain}
use Rattle.lab_defs_value.specs.Tables.{weights_of, first_weight, uniform_table}
use Rattle.lab_defs_value.specs.WholeLaws.{UniformLaw}
use Rattle.lab_defs_value.proofs.RoundingLemmas.{even_split}
use Rattle.lab_defs_value.proofs.Pools.{parts_sum}

-- as many are handed out as there are shares
handed_length : (grid many whole left : ℕ) (ss : List ℕ) → length (handed_out grid many whole left ss) ≡ length ss
handed_length grid many whole left [] = refl
handed_length grid many whole left (s ∷ ss) = ap suc (handed_length grid many whole (left - (if may_gain whole s && nat_lt 0 left then 1 else 0)) ss)

-- as many weights as shares
pub rounded_length : (grid : ℕ) (shares : List ℤ) → length (rounded grid shares) ≡ length shares
rounded_length grid shares =
    let sizes = map share_size shares in
    handed_length grid (length sizes) (sum_over (λ s. s) sizes) (grid - sum_over (part grid (length sizes) (sum_over (λ s. s) sizes)) sizes) sizes ∙ length-map shares share_size

-- the weights of a set with n actions
abbrev pub split_at : ℕ → ℕ → List ℕ
split_at grid n = if nat_le 2 n then rounded grid (replicate n (pos 0)) else []

-- they are as many as it has weights
split_length : (grid n : ℕ) → length (split_at grid n) ≡ weights_of n
split_length grid n = at (nat_le 2 n)
  where
    at : (b : Bool) → length (cond b (rounded grid (replicate n (pos 0))) []) ≡ cond b n 0
    at true = rounded_length grid (replicate n (pos 0)) ∙ length-replicate n (pos 0)
    at false = refl

-- the weights of the first sets are as many as are before those of the next
before_length : (grid : ℕ) (ns : List ℕ) → length (flat_map (split_at grid) ns) ≡ sum_over weights_of ns
before_length grid [] = refl
before_length grid (n ∷ ns) =
    length-append (split_at grid n) (flat_map (split_at grid) ns)
    ∙ ap (λ m. m + length (flat_map (split_at grid) ns)) (split_length grid n) ∙ ap (λ m. weights_of n + m) (before_length grid ns)

-- the weight of an action of a deciding set
pub weight_is : (grid : ℕ) (actions : List ℕ) (set a : ℕ) → set < length actions → decides actions set ≡ true → a < slice_index actions set
    → slice_index (uniform_table grid actions) (first_weight actions set + a) ≡ even_part grid (slice_index actions set) a
weight_is grid actions set a l d la =
    let n = slice_index actions set in
    let here : split_at grid n ≡ rounded grid (replicate n (pos 0)) = ap (λ b. cond b (rounded grid (replicate n (pos 0))) []) d in
    let len : length (split_at grid n) ≡ n = ap length here ∙ rounded_length grid (replicate n (pos 0)) ∙ length-replicate n (pos 0) in
    ap (λ m. get_or (uniform_table grid actions) (m + a) 0) (sym (before_length grid (take set actions)))
    ∙ get_or-flat_map (split_at grid) actions set a 0 0 l (subst (λ m. a < m) (sym len) la)
    ∙ ap (λ ws. get_or ws a 0) here
    ∙ even_split grid n a la

-- the law of the uniform table
pub uniform_law : UniformLaw
uniform_law grid actions set l d =
    let n = slice_index actions set in
    let two : 2 ≤ n = leb-true 2 n d in
    sum_below_cong n (λ a. slice_index (uniform_table grid actions) (first_weight actions set + a)) (even_part grid n) (λ a less. weight_is grid actions set a l d less)
    ∙ parts_sum grid n (omega (arith, two))
