use Rattle.std.proofs.Common.{◌∙◌, sym}
use Rattle.std.specs.Cmp.Derive.Mapped.{lex_map}
use Rattle.lab_defs_game.specs.Sets.{item_cmp}
use Rattle.lab_unfold.specs.Items.{item_model}
use Rattle.lab_tree.proofs.set_key.compare_items.Goals as goal

pub returns : goal.returns
returns c = c.cmp.ensures ∙ sym (lex_map item_model item_cmp c.args.one.now c.args.two.now)
