-- What is counted of a game, as the program has it.
use Rattle.std.specs.Prelude.{[], ◌∷◌, ◌++◌, length, slice_index_or}
use lib.Chars.{codes}
use Rattle.lab_defs_text.specs.Words.{Bytes}
use Rattle.lab_defs_text.specs.Numbers.{numeral}
use Rattle.lab_defs_text.specs.Lines.{joined}
use Rattle.lab_defs_game.specs.Counts as model
use Rattle.lab_tree.specs.Trees.{TreeValue}
use Rattle.lab_cli.specs.declared.counts.Counts.{Counts}

-- as the definitions have it
abbrev pub counts_model : Counts → model.Counts
counts_model c = record { histories = c.histories; nodes = c.nodes; sets1 = c.sets1; sets2 = c.sets2; most1 = c.most1; most2 = c.most2; scale = c.scale }

-- the line that tells it
abbrev pub counts_text : Counts → Bytes
counts_text c =
    joined (codes "game" ∷ codes "histories" ∷ numeral c.histories ∷ codes "nodes" ∷ numeral c.nodes ∷ codes "sets" ∷ numeral c.sets1 ∷ numeral c.sets2
    ∷ codes "most" ∷ numeral c.most1 ∷ numeral c.most2 ∷ codes "scale" ∷ numeral c.scale ∷ []) ++ (10 ∷ [])

-- what is counted of a tree: all sets of a seat are inside the subgame of the first node
abbrev pub tree_counts : TreeValue → model.Counts
tree_counts t = record {
  histories = length t.unfolded.items;
  nodes = length t.nodes;
  sets1 = (slice_index_or t.one.spans 0 (record { from = 0; to = 0 })).to;
  sets2 = (slice_index_or t.two.spans 0 (record { from = 0; to = 0 })).to;
  most1 = t.unfolded.scale.most1;
  most2 = t.unfolded.scale.most2;
  scale = t.unfolded.scale.k;
}
