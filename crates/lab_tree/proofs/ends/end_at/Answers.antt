use Rattle.std.proofs.Common.{◌≡◌, ℕ, ◌<◌, length, cond, true, sym, ap, ◌∙◌, Option, Some, None}
use Rattle.std.specs.Prelude.{not}
use Rattle.lab_defs_game.specs.Histories.{histories, is_terminal}
use Rattle.lab_defs_game.specs.Nodes.{node_of}
use Rattle.lab_unfold.proofs.CallerLemmas.{here_below, number_is}
use Rattle.lab_unfold.specs.Parents.{history_at}
use Rattle.lab_world.specs.Games.{game_model}
use Rattle.lab_tree.specs.declared.end.End.{End}
use Rattle.lab_tree.specs.declared.info.NodeId.{NodeId}
use Rattle.lab_tree.specs.Trees.{node_id}
use Rattle.lab_tree.specs.Ends.{end_in}
use Rattle.lab_tree.proofs.Reading.{said_at}
use Rattle.lab_tree.proofs.ends.end_at.Goals as goal

-- a node and a history, as they are told
abbrev told : ℕ → ℕ → Option End
told node history = Some (record { node = node; history = history })

pub returns : goal.returns
returns c =
    let g = game_model c.args.game.now in
    let n = c.args.number in
    let below : n < length (histories g) = here_below g c.args.items.now n c.requires.unfolded c.requires.there in
    let node = said_at g (λ h. node_id (node_of g h)) c.args.nodes.now n (record { 0 = 0 }) c.requires.nodes below in
    let terminal : is_terminal g (history_at g n) ≡ true = ap not (sym c.leads_on.ensures ∙ c.if-leads_on.false) in
    ap (λ (m : NodeId). told m.0 n) node
    ∙ ap (told (node_of g (history_at g n))) (sym (number_is g n below))
    ∙ sym (ap (λ b. cond b (Some (end_in g (history_at g n))) None) terminal)
