use Rattle.std.proofs.Common.{◌≡◌, refl, inl, inr, ap, ◌∙◌, arith}
use Rattle.std.specs.Prelude.{Ok}
use Rattle.lab_defs_text.specs.Games.{GameModel}
use Rattle.lab_defs_game.specs.Accepted.{IsAccepted}
use Rattle.lab_defs_game.specs.Forms.{form_of}
use Rattle.lab_form.specs.Forms.{FormValue, form_model}
use Rattle.lab_tree.specs.Trees.{TreeValue, tree_of}
use Rattle.lab_tree.specs.TreeForms.{tree_form, FormLaw}
use Rattle.lab_world.specs.Games.{game_model}
use Rattle.lab_session.proofs.TableLemmas.{form_few, even_found}
use Rattle.lab_session.proofs.board.made_parts.Goals as goal

-- the form of a game's tree is that of the game
model : (g : GameModel) → IsAccepted g → (f : FormValue) (t : TreeValue) → f ≡ tree_form t → t ≡ tree_of g → FormLaw → form_model f ≡ form_of g
model g ok f t form tree law = ap form_model (form ∙ ap tree_form tree) ∙ law g ok

pub uniform-requires-clause-few : goal.uniform-requires-clause-few
uniform-requires-clause-few c = omega (arith, form_few (game_model c.args.game.now) c.requires.accepted c.in-Ok.form (model (game_model c.args.game.now) c.requires.accepted c.in-Ok.form c.args.tree.now c.in-Ok.ensures c.requires.tree c.forms.ensures.form) 1 (inl refl))

pub uniform-requires-2-clause-few : goal.uniform-requires-2-clause-few
uniform-requires-2-clause-few c = omega (arith, form_few (game_model c.args.game.now) c.requires.accepted c.in-Ok.form (model (game_model c.args.game.now) c.requires.accepted c.in-Ok.form c.args.tree.now c.in-Ok.ensures c.requires.tree c.forms.ensures.form) 2 (inr refl))

pub returns : goal.returns
returns c =
    let g = game_model c.args.game.now in
    record {
      accepted = c.requires.accepted;
      tree = c.requires.tree;
      form = c.in-Ok.ensures ∙ ap tree_form c.requires.tree;
      model = model (game_model c.args.game.now) c.requires.accepted c.in-Ok.form c.args.tree.now c.in-Ok.ensures c.requires.tree c.forms.ensures.form;
      even1 = even_found g c.in-Ok.form (model (game_model c.args.game.now) c.requires.accepted c.in-Ok.form c.args.tree.now c.in-Ok.ensures c.requires.tree c.forms.ensures.form) 1 (inl refl) {E = Unit {0}} (Ok c.in_ok-even1.even1) c.in_ok-even1.ensures;
      even2 = even_found g c.in-Ok.form (model (game_model c.args.game.now) c.requires.accepted c.in-Ok.form c.args.tree.now c.in-Ok.ensures c.requires.tree c.forms.ensures.form) 2 (inr refl) {E = Unit {0}} (Ok c.in_ok-even2.even2) c.in_ok-even2.ensures;
    }
