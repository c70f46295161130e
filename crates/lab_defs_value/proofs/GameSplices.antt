-- A splice in the subgame of a node changes the weights at the sets inside alone.
use Rattle.std.proofs.Common.{◌≡◌, ℕ, zero, suc, ◌+◌, ◌-◌, ◌<◌, List, length, get_or, ◌&&◌, refl, sym, ap, ◌∙◌, subst, arith}
use Rattle.std.specs.Prelude.{nat_le, nat_lt, slice_index, slice_range}
use Rattle.std.specs.List.{range_with_len}
use Rattle.std.proofs.Math.Seq.{take-length}
use Rattle.std.proofs.lemmas.Bool.{and_parts, leb-true, ltb-true, le-leb, lt-ltb}
use Rattle.lab_math.specs.Sums.{sum_over}
use Rattle.lab_math.proofs.Members.{In, in_range, in_from_range}
use Rattle.lab_defs_text.specs.Games.{GameModel}
use Rattle.lab_defs_text.specs.Texts.{one_of}
use Rattle.lab_defs_game.specs.Forms.{game_actions}
use Rattle.lab_defs_game.specs.Nodes.{span_from, span_to, subgame_sets}
use Rattle.lab_defs_game.proofs.SetNumbers.{tests_same, span_within, subgame_sets_between}
use Rattle.lab_defs_game.proofs.FormLemmas.{game_actions_length}
use Rattle.lab_defs_value.specs.Tables.{weights_of, first_weight, weight_count}
use Rattle.lab_defs_value.specs.Splices.{FitsSpan}
use Rattle.lab_defs_value.specs.Subgames.{span_at, weights_inside}
use Rattle.lab_defs_value.specs.GameLaws.{GameSpliceLaw}
use Rattle.lab_defs_value.proofs.Lying.{lies_from_in, in_from_lies}
use Rattle.lab_defs_value.proofs.Splicing.{splice_law}
use Rattle.lab_defs_value.proofs.SubgameRows.{span_actions_are, first_weight_from, not_inside}

-- the weights of all sets are those of each
weights_all : (ns : List ℕ) → first_weight ns (length ns) ≡ sum_over weights_of ns
weights_all ns = ap (sum_over weights_of) (take-length ns)

module _ (g : GameModel) (seat : ℕ) (node : List ℕ) where
  -- a set is inside exactly where its number lies in the span
  pub lies_inside : (J : ℕ) → one_of (subgame_sets g seat node) J ≡ (nat_le (span_from g seat node) J && nat_lt J (span_to g seat node))
  lies_inside J =
      let start = span_from g seat node in
      let end = span_to g seat node in
      let between = subgame_sets_between g seat node in
      tests_same (one_of (subgame_sets g seat node) J) (nat_le start J && nat_lt J end)
      (λ e.
      let r = in_from_range J start (end - start) (subst (λ xs. In J xs) between (in_from_lies (subgame_sets g seat node) J e)) in
      ap (λ b. b && nat_lt J end) (le-leb start J r.0) ∙ lt-ltb J end (omega (arith, r.0, r.1)))
      (λ e.
      let p = and_parts (nat_le start J) (nat_lt J end) e in
      let ge = leb-true start J p.0 in
      let l = ltb-true J end p.1 in
      lies_from_in (subgame_sets g seat node) J (subst (λ xs. In J xs) (sym between) (in_range J start (end - start) ge (omega (arith, ge, l)))))

  -- as many weights as the seat has inside lie between the ends of its span
  pub weights_between : first_weight (game_actions g seat) (span_to g seat node) ≡ first_weight (game_actions g seat) (span_from g seat node) + weights_inside g seat node
  weights_between =
      let ns = game_actions g seat in
      let start = span_from g seat node in
      let end = span_to g seat node in
      let whole : end ≡ start + (end - start) = omega arith in
      ap (first_weight ns) whole ∙ first_weight_from ns start (end - start)
      ∙ ap (λ n. first_weight ns start + n) (sym (ap (λ ms. first_weight ms (length ms)) (span_actions_are (span_at g seat node)) ∙ weights_all (slice_range ns start end)))

  -- a proposal with as many fits a table
  pub fits_span : (table proposal : List ℕ) → length table ≡ weight_count g seat → length proposal ≡ weights_inside g seat node
      → FitsSpan (game_actions g seat) (span_from g seat node) (span_to g seat node) table proposal
  fits_span table proposal whole long = record {
    ordered = omega arith;
    within = omega (arith, span_within g seat node, game_actions_length g seat);
    whole = whole;
    part = omega (arith, weights_between, long);
  }

  -- the first set inside is the start of the span
  pub first_of_span : span_from g seat node < span_to g seat node → slice_index (subgame_sets g seat node) 0 ≡ span_from g seat node
  first_of_span l =
      ap (λ xs. slice_index xs 0) (subgame_sets_between g seat node)
      ∙ first (span_from g seat node) (span_to g seat node - span_from g seat node) (omega (arith, l))
    where
      first : (s n : ℕ) → 0 < n → get_or (range_with_len s n) 0 0 ≡ s
      first s zero l = absurd (omega (arith, l))
      first s (suc n) l = refl

-- the law of splices in a game
pub game_splice_law : GameSpliceLaw
game_splice_law g seat node table proposal whole long =
    let ns = game_actions g seat in
    let start = span_from g seat node in
    let end = span_to g seat node in
    let law = splice_law ns start end table proposal (fits_span g seat node table proposal whole long) in (
      law.0,
      λ J a inside d l.
          let p = and_parts (nat_le start J) (nat_lt J end) (sym (lies_inside g seat node J) ∙ inside) in
          let ge = leb-true start J p.0 in
          let lt = ltb-true J end p.1 in
          law.2 J a ge lt d l
          ∙ ap (λ I. slice_index proposal (first_weight ns J - first_weight ns I + a)) (sym (first_of_span g seat node (omega (arith, ge, lt)))),
      λ t there l off. law.1 t l (not_inside start end t.set (sym (lies_inside g seat node t.set) ∙ off)),
    )
