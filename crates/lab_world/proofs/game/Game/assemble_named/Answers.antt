use Rattle.std.proofs.Common.{◌≡◌, ◌^◌, nat_lt, [], List, Result, Err, map, true, ap, sym, subst, ◌∙◌}
use Rattle.std.specs.List.{list_all}
use Rattle.std.specs.Borrow.{Bor}
use Rattle.std.proofs.lemmas.Result.{err_from_is_err_and}
use Rattle.lab_defs_text.specs.Agreement.{Agrees, FaultAgrees}
use Rattle.lab_defs_text.specs.Words.{Bytes}
use Rattle.lab_defs_text.specs.Faults.{TextFault}
use Rattle.lab_defs_text.specs.Assembly.{assembled}
use Rattle.lab_defs_text.specs.Parts.{part_ok}
use Rattle.lab_world.specs.declared.parts.AssembleFault.{AssembleFault}
use Rattle.lab_world.specs.declared.parts.PartPlace.{PartPlace}
use Rattle.lab_world.specs.declared.game.Game.{Game}
use Rattle.lab_world.specs.Drafts.{part_place_of, named_draft_of, assemble_fault}
use Rattle.lab_world.specs.Games.{game_model}
use Rattle.lab_world.specs.Models.{place_model}
use Rattle.lab_world.specs.Sizes.{sizes_ok}
use Rattle.lab_world.specs.Wholes.{all_action_names, place_fits}
use Rattle.lab_world.specs.Stages.{Rooted, rooted_of}
use Rattle.lab_world.proofs.PartLemmas.{named, parts_that_fit, rooted_same, assembled_game, assembled_fault, whole_is}
use Rattle.lab_world.proofs.game.Game.assemble_named.Goals as goal

pub rooted_places-requires-clause-fine : goal.rooted_places-requires-clause-fine
rooted_places-requires-clause-fine c =
    let p = c.args.parts in
    subst (λ (ps : List (PartPlace (Bor Bytes))). list_all part_ok (map (part_place_of []) ps) ≡ true) (sym c.into_vec.ensures)
    (sym (named [] [] p.names p.places c.requires.named).ok_same ∙ (parts_that_fit (named_draft_of p) c.requires.fit).places)

pub rooted_places-requires-clause-few : goal.rooted_places-requires-clause-few
rooted_places-requires-clause-few c =
    let p = c.args.parts in
    subst (λ (ps : List (PartPlace (Bor Bytes))). sizes_ok (map (part_place_of []) ps) ≡ true) (sym c.into_vec.ensures)
    (ap (λ n. nat_lt n (2 ^ 32)) (sym (named [] [] p.names p.places c.requires.named).size_same) ∙ (parts_that_fit (named_draft_of p) c.requires.fit).sizes)

pub returns-in_err-numbered : goal.returns-in_err-numbered
returns-in_err-numbered c =
    let p = c.args.parts in
    let same = rooted_same p c.into_vec.result.items (sym c.into_vec.ensures) in
    let fault = c.in_err-numbered.field-0.0 in
    let q = err_from_is_err_and c.from_residual.result c.from_residual.ensures.1 in
    let answer = assembled (named_draft_of p) in
    let agrees = assembled_fault p (assemble_fault fault) c.requires.named (subst (λ (r : Result Rooted TextFault). FaultAgrees (assemble_fault fault) r) (sym same) c.in_err-numbered.ensures.places) in
    subst (λ (r : Result Game AssembleFault). Agrees game_model assemble_fault r answer) (sym (q.1 ∙ ap Err q.2)) agrees

pub invariant_of-result : goal.invariant_of-result
invariant_of-result c =
    let p = c.args.parts in
    let same = rooted_same p c.into_vec.result.items (sym c.into_vec.ensures) in
    let made = c.in_ok-numbered.field-0 in
    let actions = made.numbered.actions in
    let places : map (place_model actions) c.from_vec.result ≡ (rooted_of made).places = ap (map (place_model actions)) c.from_vec.ensures in
    let game = assembled_game p (rooted_of made) actions c.from_vec.result c.requires.named (same ∙ c.in_ok-numbered.ensures.places) places in
    record {
      whole = whole_is (named_draft_of p) p.grid p.horizon p.recall p.tokens p.names actions c.from_vec.result (record { 0 = made.root }) c.requires.fit game
          (ap (list_all (place_fits _)) c.from_vec.ensures ∙ c.in_ok-numbered.ensures.numbered.fits) (c.in_ok-numbered.ensures.numbered.names ∙ ap (all_action_names []) (sym places));
    }

pub returns : goal.returns
returns c =
    let p = c.args.parts in
    let same = rooted_same p c.into_vec.result.items (sym c.into_vec.ensures) in
    let made = c.in_ok-numbered.field-0 in
    let actions = made.numbered.actions in
    assembled_game p (rooted_of made) actions c.from_vec.result c.requires.named (same ∙ c.in_ok-numbered.ensures.places) (ap (map (place_model actions)) c.from_vec.ensures)
