-- Units that are left, handed out over parts.
use Rattle.std.proofs.Common.{◌≡◌, ℕ, ◌+◌, ◌-◌, ◌<◌, ◌≤◌, List, [], ◌∷◌, ◌++◌, map, length, take, drop, get_or, refl, sym, ap, subst, ◌∙◌, arith, append_assoc, length-drop}
use lib.ListN.{set}
use Rattle.std.proofs.lemmas.Grind.{take-set_at}
use Rattle.std.specs.Prelude.{◌&&◌, nat_lt, if◌then◌else◌}
use Rattle.std.proofs.lemmas.List.{length-map, drop-set-lt, get_or-drop, drop_more}
use Rattle.std.specs.List.{All}
use Rattle.lab_units.specs.declared.worth.Worth.{Worth}
use Rattle.lab_math.specs.Sums.{sum_over}
use Rattle.lab_defs_value.specs.Rounding.{rounded, handed_out, part, may_gain, share_size}
use Rattle.lab_table.specs.Sizes.{sizes, gained}

-- units handed out over the parts of shares are units handed out
gained_is : (grid many whole left : ℕ) (ss : List ℕ) → gained whole left ss (map (part grid many whole) ss) ≡ handed_out grid many whole left ss
gained_is grid many whole left [] = refl
gained_is grid many whole left (s ∷ ss) =
    let gain = if may_gain whole s && nat_lt 0 left then 1 else 0 in
    ap (λ t. (part grid many whole s + gain) ∷ t) (gained_is grid many whole (left - gain) ss)

-- there are as many sizes as shares
length-sizes : (shares : List Worth) → length (sizes shares) ≡ length shares
length-sizes shares = length-map (map (λ (w : Worth). w.0) shares) share_size ∙ length-map shares (λ (w : Worth). w.0)

-- the weights, by what the passes over the shares found
pub rounded_is : (d whole left : ℕ) (shares : List Worth) (parts out : List ℕ) → whole ≡ sum_over (λ s. s) (sizes shares)
    → left ≡ d - sum_over (part d (length shares) whole) (sizes shares) → parts ≡ map (part d (length shares) whole) (sizes shares)
    → out ≡ gained whole left (sizes shares) parts → out ≡ rounded d (map (λ (w : Worth). w.0) shares)
rounded_is d whole left shares parts out w l p o =
    o ∙ ap (gained whole left (sizes shares)) p
    ∙ gained_is d (length shares) whole left (sizes shares)
    ∙ ap (λ n. handed_out d (length shares) whole n (sizes shares)) l
    ∙ ap (λ n. handed_out d n whole (d - sum_over (part d n whole) (sizes shares)) (sizes shares)) (sym (length-sizes shares))
    ∙ ap (λ n. handed_out d (length (sizes shares)) n (d - sum_over (part d (length (sizes shares)) n) (sizes shares)) (sizes shares)) w

-- one share more
pub handed_more : (whole left g i : ℕ) (shares : List Worth) (out : List ℕ) (z : Worth) → i < length shares → length out ≡ length shares
    → g ≡ (if may_gain whole (share_size (get_or shares i z).0) && nat_lt 0 left then 1 else 0)
    → take (i + 1) (set out i (get_or out i 0 + g)) ++ gained whole (left - g) (sizes (drop (i + 1) shares)) (drop (i + 1) (set out i (get_or out i 0 + g)))
    ≡ take i out ++ gained whole left (sizes (drop i shares)) (drop i out)
handed_more whole left g i shares out z l e h =
    let x = get_or out i 0 + g in
    let rest = gained whole (left - g) (sizes (drop (i + 1) shares)) (drop (i + 1) out) in
    let m : i < length out = omega (arith, l, e) in
    ap (λ t. t ++ gained whole (left - g) (sizes (drop (i + 1) shares)) (drop (i + 1) (set out i x))) (take-set_at out i (i + 1) x refl m)
    ∙ ap (λ t. (take i out ++ x ∷ []) ++ gained whole (left - g) (sizes (drop (i + 1) shares)) t) (drop-set-lt (i + 1) out i x (omega arith))
    ∙ append_assoc (take i out) (x ∷ []) rest
    ∙ ap (λ n. take i out ++ ((get_or out i 0 + n) ∷ gained whole (left - n) (sizes (drop (i + 1) shares)) (drop (i + 1) out))) h
    ∙ sym (ap (λ ss. take i out ++ gained whole left (sizes ss) (drop i out)) (drop_more shares i z l)
    ∙ ap (λ ps. take i out ++ gained whole left (sizes (get_or shares i z ∷ drop (i + 1) shares)) ps) (drop_more out i 0 m))

-- what is within a bound stays so after the place that is written
pub within_more : (d i x : ℕ) (out : List ℕ) → All (λ p. p ≤ d) (drop i out) → All (λ p. p ≤ d) (drop (i + 1) (set out i x))
within_more d i x out all = subst (All (λ p. p ≤ d)) (sym (drop-set-lt (i + 1) out i x (omega arith))) (λ k e l. at k e l)
  where
    at : (k e : ℕ) → k < length (drop (i + 1) out) → get_or (drop (i + 1) out) k e ≤ d
    at k e l =
        let next : i + 1 + k ≡ i + (k + 1) = omega arith in
        let same : get_or (drop (i + 1) out) k e ≡ get_or (drop i out) (k + 1) e = get_or-drop (i + 1) out k e ∙ ap (λ n. get_or out n e) next ∙ sym (get_or-drop i out (k + 1) e) in
        let below : k + 1 < length (drop i out) = omega (arith, l, length-drop i out, length-drop (i + 1) out) in
        subst (λ n. n ≤ d) (sym same) (all (k + 1) e below)
