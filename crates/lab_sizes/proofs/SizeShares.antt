-- How large regrets are in an accepted game, and how large what their rounding computes.
use Rattle.std.proofs.Common.{ℕ, ◌*◌, ◌^◌, ◌≤◌, ℤ, pos, negsuc, get_or, arith, mul-le-mul}
use Rattle.std.specs.Prelude.{unsigned_abs}
use Rattle.std.proofs.lemmas.List.Elements.{recursion_from_All}
use Rattle.lab_defs_game.specs.Forms.{form_of}
use Rattle.lab_defs_value.specs.Rounding.{share_size}
use Rattle.lab_defs_game.specs.Seats.{grid_of}
use Rattle.lab_defs_value.specs.Gadgets.{gadget_form}
use Rattle.lab_defs_value.proofs.GameForms.{game_form_law}
use Rattle.lab_defs_value.proofs.GameGadgets.{game_gadget_law}
use Rattle.lab_sizes.proofs.SizeCounts.{small_law}
use Rattle.lab_sizes.proofs.SizeSums.{sum_most}
use Rattle.lab_sizes.proofs.SizeRegrets.{regret_size_law}
use Rattle.lab_sizes.specs.Sizes.{RoundSizeLaw, ShareSizeLaw}

-- the law of rounds
pub round_size_law : RoundSizeLaw
round_size_law g ok rounds le seat is =
    let small = small_law g ok in
    let forms = game_form_law g ok.good ok.recalls in (
      regret_size_law (grid_of g 1) (grid_of g 2) (form_of g) forms.0 forms.1 small.0 rounds le seat is,
      λ rule keeper k node table bounds has some.
          let both = game_gadget_law g rule keeper node table bounds ok.good ok.recalls k some in
          regret_size_law (grid_of g 1) (grid_of g 2) (gadget_form g rule keeper node table bounds) both.0 both.1 (small.2 keeper k node table bounds has rule) rounds le seat is,
    )

-- a share's size is at most its number's
share_most : (x : ℤ) (n : ℕ) → unsigned_abs x ≤ n → share_size x ≤ n
share_most (pos k) n h = h
share_most (negsuc k) n h = omega arith

-- the law of shares
pub share_size_law : ShareSizeLaw
share_size_law grid shares small few all =
    let P = λ (x : ℤ). unsigned_abs x ≤ 2 ^ 107 in
    let each = recursion_from_All P shares all in
    let sum = sum_most P share_size (2 ^ 107) shares each (λ x h. share_most x (2 ^ 107) h) in (
      omega (arith, sum, few),
      λ k d l. times (share_size (get_or shares k d)) (share_most (get_or shares k d) (2 ^ 107) (all k d l)),
    )
  where
    times : (n : ℕ) → n ≤ 2 ^ 107 → grid * n ≤ 2 ^ 119
    times n h = let l : grid * n ≤ 4096 * 2 ^ 107 = mul-le-mul small h in omega (arith, l)
