use Rattle.std.proofs.Common.{◌≡◌, [], List, Ok, map, true, false, ap, sym, ◌∙◌, rules}
use Rattle.lab_defs_text.specs.Games as model
use Rattle.lab_defs_text.specs.Assembly.{is_world_at}
use Rattle.lab_world.specs.declared.place.Place.{Place}
use Rattle.lab_world.specs.Drafts.{part_place_of}
use Rattle.lab_world.specs.Models.{place_model}
use Rattle.lab_world.proofs.MadeLemmas.{root_is_world, root_is_end}
use Rattle.lab_world.proofs.rooted.rooted_places.Goals as goal

pub returns-then-not-is_world-clause-places : goal.returns-then-not-is_world-clause-places
returns-then-not-is_world-clause-places c =
    let made = c.in_ok-made.ensures.made in
    let whole = c.in_ok-numbered.ensures.places made.places made.made in
    let actions = c.in_ok-numbered.numbered.actions in
    let root = c.in_ok-root.root in
    let none : c.is_world.result ≡ false = search rules in
    let end = ap (is_world_at root) (sym whole.numbered.same) ∙ ap (λ (ps : List Place). is_world_at root (map (place_model actions) ps)) (sym c.as_slice.ensures.value) ∙ sym (c.is_world.ensures actions) ∙ none in
    root_is_end c.args.names.now c.args.tokens.now c.args.line c.args.root.now (map (part_place_of []) c.args.places.items) made.places root whole.places made.known c.in_ok-root.ensures whole.made end

pub returns-clause-places : goal.returns-clause-places
returns-clause-places c =
    let made = c.in_ok-made.ensures.made in
    let whole = c.in_ok-numbered.ensures.places made.places made.made in
    let actions = c.in_ok-numbered.numbered.actions in
    let root = c.in_ok-root.root in
    let there : c.is_world.result ≡ true = search rules in
    let world = ap (is_world_at root) (sym whole.numbered.same) ∙ ap (λ (ps : List Place). is_world_at root (map (place_model actions) ps)) (sym c.as_slice.ensures.value) ∙ sym (c.is_world.ensures actions) ∙ there in
    root_is_world c.args.names.now c.args.tokens.now c.args.line c.args.root.now (map (part_place_of []) c.args.places.items) made.places root whole.places made.known c.in_ok-root.ensures whole.made world
    ∙ ap (λ (ms : List model.Place). Ok (record { places = ms; root = root })) (sym whole.numbered.same)
