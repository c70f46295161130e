use Rattle.std.proofs.Common.{[], map, string_bytes, ap, sym, subst, ◌∙◌}
use Rattle.lab_defs_text.specs.Agreement.{Agrees}
use Rattle.lab_defs_text.specs.Drafts.{Draft}
use Rattle.lab_defs_text.specs.Assembly.{assembled}
use Rattle.lab_world.specs.Drafts.{part_place_by, part_place_of, may_assemble, assemble_fault}
use Rattle.lab_world.specs.Games.{game_model}
use Rattle.lab_world.proofs.PartLemmas.{parts_named}
use Rattle.lab_world.proofs.game.Game.assemble.Goals as goal

pub assemble_named-requires-clause-named : goal.assemble_named-requires-clause-named
assemble_named-requires-clause-named c = c.requires.named ∙ sym (parts_named c.args.parts c.from_vec.result c.as_str.result (ap (λ ps. map (part_place_of []) ps) c.from_vec.ensures ∙ c.in_ok-places.ensures ∙ ap (λ ps. map (part_place_by string_bytes []) ps) c.as_slice.ensures) c.as_str.ensures.value).count

pub assemble_named-requires-clause-fit : goal.assemble_named-requires-clause-fit
assemble_named-requires-clause-fit c = ap may_assemble (parts_named c.args.parts c.from_vec.result c.as_str.result (ap (λ ps. map (part_place_of []) ps) c.from_vec.ensures ∙ c.in_ok-places.ensures ∙ ap (λ ps. map (part_place_by string_bytes []) ps) c.as_slice.ensures) c.as_str.ensures.value).draft ∙ c.requires.fit

pub returns : goal.returns
returns c = subst (λ (d : Draft). Agrees game_model assemble_fault c.assemble_named.result (assembled d)) (parts_named c.args.parts c.from_vec.result c.as_str.result (ap (λ ps. map (part_place_of []) ps) c.from_vec.ensures ∙ c.in_ok-places.ensures ∙ ap (λ ps. map (part_place_by string_bytes []) ps) c.as_slice.ensures) c.as_str.ensures.value).draft c.assemble_named.ensures
