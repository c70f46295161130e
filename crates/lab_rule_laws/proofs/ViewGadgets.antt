-- A gadget on a view: how many sets, rows and weights it has.
use Rattle.std.proofs.Common.{◌≡◌, ℕ, zero, suc, ◌+◌, ◌*◌, ◌≤◌, List, [], ◌∷◌, ◌++◌, Bool, true, false, cond, None, length, replicate, refl, sym, ap, subst, arith}
use Rattle.std.specs.Prelude.{nat_le}
use Rattle.std.proofs.lemmas.List.{length-append, length-replicate}
use Rattle.lab_math.specs.Sums.{sum_over}
use Rattle.lab_math.proofs.NaturalSums.{sum_over-append}
use Rattle.lab_defs_game.specs.Forms.{FormSet, sets_of, actions_in, actions_of}
use Rattle.lab_defs_game.specs.Seats.{other}
use Rattle.lab_defs_value.specs.Tables.{weights_of, first_weight}
use Rattle.lab_defs_value.specs.Replies.{factors_in}
use Rattle.lab_defs_value.specs.Allowances.{Rule, cfrd, reach, margin}
use Rattle.lab_defs_value.specs.Gadgets.{gadget_sets, entered_sets}
use Rattle.lab_defs_value.specs.Views.{root_limit}
use Rattle.lab_defs_value.proofs.GadgetSets.{gadget_law}
use Rattle.lab_rule_laws.specs.ViewLaws.{ViewGadgetLaw}

-- ---- weights

-- all weights are those of each set
all_weights : (actions : List ℕ) → first_weight actions (length actions) ≡ sum_over weights_of actions
all_weights [] = refl
all_weights (n ∷ actions) = ap (λ k. weights_of n + k) (all_weights actions)

-- at most as many as there are actions
few_weights : (n : ℕ) → weights_of n ≤ n
few_weights n = at (nat_le 2 n)
  where
    at : (b : Bool) → cond b n 0 ≤ n
    at true = omega arith
    at false = omega arith

-- two at each of some sets with two actions
two_weights : (roots : ℕ) → sum_over weights_of (actions_in (replicate roots (record { parent = None; actions = 2 }))) ≤ 2 * roots
two_weights zero = omega arith
two_weights (suc roots) = let rest = two_weights roots in omega (arith, rest)

-- the gadget sets have at most two weights for each root set
gadget_weights : (rule : Rule) (roots : ℕ) → sum_over weights_of (actions_in (gadget_sets rule roots)) ≤ 2 * roots
gadget_weights cfrd roots = two_weights roots
gadget_weights reach roots = two_weights roots
gadget_weights margin roots = let few = few_weights roots in omega (arith, few)

-- ---- sets

-- there are as many sets after the gadget sets as in the subgame
entered_many : (rule : Rule) (further I : ℕ) (sets : List FormSet) → length (entered_sets rule further I sets) ≡ length sets
entered_many rule further I [] = refl
entered_many rule further I (x ∷ xs) = ap suc (entered_many rule further (I + 1) xs)

-- and one gadget set for each root set, or one
gadget_many : (rule : Rule) (roots : ℕ) → length (gadget_sets rule roots) ≤ roots + 1
gadget_many cfrd roots = let n = length-replicate {A = FormSet} roots (record { parent = None; actions = 2 }) in omega (arith, n)
gadget_many reach roots = let n = length-replicate {A = FormSet} roots (record { parent = None; actions = 2 }) in omega (arith, n)
gadget_many margin roots = omega arith

-- the law of gadgets on views
pub view_gadget_law : ViewGadgetLaw
view_gadget_law rule v ok allowances =
    let o = other v.keeper in
    let f = v.form in
    let law = gadget_law rule v.keeper v.roots (factors_in f o) (root_limit v allowances) f in
    let first = gadget_sets rule v.roots in
    let few = gadget_many rule v.roots in
    let same = entered_many rule (length first) 0 (sets_of f o) in
    let both = length-append first (entered_sets rule (length first) 0 (sets_of f o)) in
    let weights = gadget_weights rule v.roots in
    let sum = sum_over-append weights_of (actions_in first) (actions_of f o) in
    let old = all_weights (actions_of f o) in
    let new = all_weights (actions_in first ++ actions_of f o) in (
      law.0.sets,
      subst (λ ss. length ss ≤ length (sets_of f o) + v.roots + 1) (sym law.1) (omega (arith, few, same, both)),
      law.5,
      subst (λ ns. first_weight ns (length ns) ≤ first_weight (actions_of f o) (length (actions_of f o)) + 2 * v.roots) (sym law.2) (omega (arith, weights, sum, old, new)),
    )
