-- The parts of the tree of a game.
use Rattle.std.proofs.Common.{◌≡◌, ℕ, ◌<◌, ◌≤◌, List, [], ◌∷◌, length, get_or, map, None, refl, sym, ap, ◌∙◌, arith, inl, inr, ◌⊎◌, subst}
use Rattle.std.proofs.lemmas.List.{get_or-map, length-map}
use Rattle.std.specs.Ordering.{is_lt}
use Rattle.lab_defs_game.specs.Keys.{list_cmp}
use Rattle.lab_defs_text.specs.Games.{GameModel}
use Rattle.lab_defs_text.specs.Texts.{is_world}
use Rattle.lab_defs_game.specs.Histories.{History, histories, inner_histories, place_of}
use Rattle.lab_defs_game.specs.Laws.{AlikeNames}
use Rattle.lab_defs_game.specs.Nodes as nodes
use Rattle.lab_defs_game.specs.Recall.{recall_fault}
use Rattle.lab_defs_game.specs.Sets.{publics, seen, set_cmp, sets}
use Rattle.lab_defs_game.specs.Unfolding.{unfold_fault}
use Rattle.lab_defs_game.proofs.GameLemmas.{nodes_ascending}
use Rattle.lab_defs_game.proofs.KeyLemmas.{length_merged}
use Rattle.lab_defs_game.proofs.NumberLemmas.{count_le_length, length-filter, number_at}
use Rattle.lab_defs_game.proofs.Orders.{list_total}
use Rattle.lab_defs_game.proofs.RecallLemmas.{recall_law}
use Rattle.lab_unfold.specs.Values.{history_in, unfolded}
use Rattle.lab_tree.specs.SetValues.{sets_in}
use Rattle.lab_defs_game.specs.Accepted.{IsAccepted}
use Rattle.lab_tree.specs.TreeParts.{AreParts, AreSeatParts, IsSpan, parts_in, paths_in, seat_with, tree_with}
use Rattle.lab_tree.specs.NodeValues.{nodes_in, parent_node, without_last}
use Rattle.lab_tree.specs.WayLaws.{tree_sets, AreStarts, AreParents, IsParentNode}
use Rattle.lab_tree.proofs.NodeLemmas.{end_within, last_split}
use Rattle.lab_tree.proofs.PathLaws.{paths_law}
use Rattle.lab_tree.proofs.SetLaws.{at_nodes_law}
use Rattle.lab_tree.proofs.GroupLaws.{grouped_law}
use Rattle.lab_tree.proofs.SpanLemmas.{count_images, starts_long, start_read}
use Rattle.lab_tree.proofs.WayLaws.{way_law}
use Rattle.lab_tree.specs.Paths.{ArePaths, HavePaths}
use Rattle.lab_tree.specs.Places.{item_of, AreAtNodes}
use Rattle.lab_tree.specs.Ways.{AreWays, bases_of}
use Rattle.std.proofs.lemmas.List.FromFn.{length-map-range_with_len}
use Rattle.lab_tree.specs.Trees.{node_id, row_in, seat_in, set_at, set_in, span_in, tree_of}
use Rattle.lab_defs_game.specs.Nodes.{ends_by_nodes}
use Rattle.lab_tree.proofs.EndLemmas.{histories_few}
use Rattle.lab_tree.proofs.FormLaws.{form_parts_law, rows_are}
use Rattle.lab_tree.proofs.RowLemmas.{ends_few}

-- where no fault of recall is found, the histories of each set have the same actions
pub alike_names : (g : GameModel) (seat : ℕ) → recall_fault g ≡ None → (seat ≡ 1) ⊎ (seat ≡ 2) → AlikeNames g seat
alike_names g seat e (inl one) = subst (AlikeNames g) (sym one) ((recall_law g).0 e).0
alike_names g seat e (inr two) = subst (AlikeNames g) (sym two) ((recall_law g).0 e).1

-- there are no more sets than histories
pub sets_few : (g : GameModel) (seat : ℕ) → length (sets g seat) ≤ length (histories g)
sets_few g seat =
    omega (
      arith,
      length_merged set_cmp (map (seen g seat) (inner_histories g)) [],
      length-map (inner_histories g) (seen g seat),
      length-filter (λ (h : History). is_world (place_of g h)) (histories g),
      count_le_length (λ (h : History). is_world (place_of g h)) (histories g),
    )

-- the sets inside a subgame are some of the seat's
spans_within : (g : GameModel) (seat : ℕ) (node : List ℕ) → IsSpan (length (sets_in g seat).sets) (span_in g seat node)
spans_within g seat node =
    let within = end_within (map publics (sets g seat)) node in
    let before = count_images (λ p. is_lt (list_cmp p node)) publics (sets g seat) in
    let inside = count_images (nodes.begins node) publics (sets g seat) in
    (omega arith, omega (arith, within, before, inside, length-map (sets g seat) publics, length-map (sets g seat) (set_in g seat)))

-- the parts of a seat
seat_parts : (g : GameModel) (seat : ℕ) → IsAccepted g → AreSeatParts (length (map (history_in g) (histories g))) (length (nodes.nodes g)) (sets_in g seat)
seat_parts g seat ok = record {
  set_of = length-map (histories g) (set_at g seat) ∙ sym (length-map (histories g) (history_in g));
  node_sets = length-map (nodes.nodes g) (λ p. map (set_in g seat) (nodes.node_sets g seat p));
  spans = length-map (nodes.nodes g) (span_in g seat);
  few = omega (arith, length-map (sets g seat) (set_in g seat), sets_few g seat, histories_few g ok.unfolds);
  inside = λ n l.
      let low : n < length (nodes.nodes g) = omega (arith, l, length-map (nodes.nodes g) (span_in g seat)) in
      subst (IsSpan (length (sets_in g seat).sets)) (sym (get_or-map (span_in g seat) (nodes.nodes g) n [] (record { from = 0; to = 0 }) low)) (spans_within g seat (get_or (nodes.nodes g) n []));
}

-- the sets of a seat start at their nodes
starts_are : (g : GameModel) (seat : ℕ) → AreStarts g (tree_sets g seat) (sets_in g seat).starts
starts_are g seat = record { long = starts_long g seat; is = λ n l. start_read g seat n (omega (arith, l, starts_long g seat)) }

-- the parent of a node is the node without the last token
parent_is : (g : GameModel) (node : List ℕ) → IsParentNode g node (parent_node g node)
parent_is g [] = refl
parent_is g (t ∷ ts) = let r = last_split t ts in (without_last (t ∷ ts), r.0, r.1, refl)

-- that of each node
parents_are : (g : GameModel) → AreParents g (nodes_in g).parents
parents_are g = record {
  long = length-map (nodes.nodes g) (parent_node g);
  is = λ n l.
      let ln : n < length (nodes.nodes g) = omega (arith, l, length-map (nodes.nodes g) (parent_node g)) in
      subst (IsParentNode g (get_or (nodes.nodes g) n [])) (sym (get_or-map (parent_node g) (nodes.nodes g) n [] None ln)) (parent_is g (get_or (nodes.nodes g) n []));
}

-- the sets of a seat stand on ways
ways_are : (g : GameModel) (seat : ℕ) → AreWays (length (sets_in g seat).sets) (sets_in g seat).starts (nodes_in g).parents
ways_are g seat = way_law g seat (sets_in g seat).starts (nodes_in g).parents (starts_are g seat) (parents_are g)

-- they stand at nodes, behind where those of their nodes start
at_nodes_are : (g : GameModel) (seat : ℕ) → AreAtNodes (sets_in g seat).sets (sets_in g seat).starts (bases_of (sets_in g seat).starts (nodes_in g).parents)
at_nodes_are g seat = at_nodes_law g seat (sets_in g seat).starts (nodes_in g).parents (starts_are g seat) (parents_are g)

-- they have paths
pub have_paths : (g : GameModel) (seat : ℕ) → unfold_fault g ≡ None → HavePaths (sets_in g seat).sets (sets_in g seat).starts (nodes_in g).parents
have_paths g seat ok = record {
  few = omega (arith, length-map (sets g seat) (set_in g seat), sets_few g seat, histories_few g ok);
  ways = ways_are g seat;
  grouped = grouped_law g seat;
  nodes = at_nodes_are g seat;
}

-- the paths of the tree
paths_are : (g : GameModel) (seat : ℕ) → (seat_with (sets_in g seat) (paths_in g seat) (nodes_in g).parents).paths ≡ (seat_in g seat).paths
paths_are g seat = paths_law g seat (sets_in g seat).starts (nodes_in g).parents (starts_are g seat) (parents_are g)

-- what stands on the paths of a seat
seat_paths : (g : GameModel) (seat : ℕ) → ArePaths (paths_in g seat) (sets_in g seat).starts (nodes_in g).parents
seat_paths g seat =
    let n : length (paths_in g seat).items ≡ length (sets_in g seat).sets = length-map-range_with_len (item_of (sets_in g seat).sets (sets_in g seat).starts (paths_in g seat).bases) 0 (length (sets_in g seat).sets) in
    record { ways = subst (λ k. AreWays k (sets_in g seat).starts (nodes_in g).parents) (sym n) (ways_are g seat); bases = refl }

-- all parts
pub parts_are : (g : GameModel) → IsAccepted g → AreParts (parts_in g)
parts_are g ok = record {
  node_of = length-map (histories g) (λ h. node_id (nodes.node_of g h)) ∙ sym (length-map (histories g) (history_in g));
  parents = length-map (nodes.nodes g) (parent_node g);
  ends = refl;
  after = λ n l. omega (arith, number_at list_cmp list_total (nodes.nodes g) n [] (nodes_ascending g) l);
  paths1 = seat_paths g 1;
  paths2 = seat_paths g 2;
  one = seat_parts g 1 ok;
  two = seat_parts g 2 ok;
  node_rows = length-map (nodes.nodes g) (λ p. map (row_in g) (nodes.node_ends g p));
  form = form_parts_law g ok;
  few = omega (arith, ap length (rows_are g), length-map (ends_by_nodes g) (row_in g), ends_few g, histories_few g ok.unfolds);
}

-- the parts of the tree of a game make it
pub tree_is : (g : GameModel) → tree_with (parts_in g) ≡ tree_of g
tree_is g = same (paths_are g 1) (paths_are g 2)
  where
    same : (seat_with (sets_in g 1) (paths_in g 1) (nodes_in g).parents).paths ≡ (seat_in g 1).paths → (seat_with (sets_in g 2) (paths_in g 2) (nodes_in g).parents).paths ≡ (seat_in g 2).paths → tree_with (parts_in g) ≡ tree_of g
    same a b = λ i. record {
      unfolded = unfolded g;
      nodes = nodes.nodes g;
      node_of = (nodes_in g).node_of;
      one = record { sets = (sets_in g 1).sets; set_of = (sets_in g 1).set_of; node_sets = (sets_in g 1).node_sets; spans = (sets_in g 1).spans; paths = a i };
      two = record { sets = (sets_in g 2).sets; set_of = (sets_in g 2).set_of; node_sets = (sets_in g 2).node_sets; spans = (sets_in g 2).spans; paths = b i };
      node_rows = (tree_of g).node_rows;
    }
