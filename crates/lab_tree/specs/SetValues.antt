-- The information sets of a seat, as the program has them.
use Rattle.std.specs.Prelude.{ℕ, ◌≡◌, ◌+◌, ◌-◌, ◌<◌, ◌≤◌, List, length, map, true, if◌then◌else◌, Option, Some, None, nat_lt, slice_index, slice_index_or, slice_range}
use Rattle.std.specs.List.{range_with_len}
use Rattle.std.specs.Option.{option_map}
use Rattle.lab_defs_text.specs.Games.{GameModel}
use Rattle.lab_defs_game.specs.Keys.{count}
use Rattle.lab_defs_game.specs.Histories.{histories}
use Rattle.lab_defs_game.specs.Sets as model
use Rattle.lab_defs_game.specs.Nodes as nodes
use Rattle.lab_defs_game.specs.Paths.{parent}
use Rattle.lab_form.specs.declared.items.SetId.{SetId}
use Rattle.lab_form.specs.declared.items.Span.{Span}
use Rattle.lab_unfold.specs.Firsts.{is_inner}
use Rattle.lab_tree.specs.declared.info.SetInfo.{SetInfo}
use Rattle.lab_unfold.specs.Parents.{history_at}
use Rattle.lab_tree.specs.Trees.{set_id, node_id, taken_in, set_in, set_at, span_in}

-- the sets of a seat in order, the set of each history that is not terminal, for each number of a node, and after them, how many sets are at nodes before it, the sets at each node, and those inside its subgame
pub record SetsValue : Type 0 where
  pub sets : List SetInfo
  pub set_of : List (Option SetId)
  pub starts : List ℕ
  pub node_sets : List (List SetInfo)
  pub spans : List Span

-- how many of these sets are at nodes before the one with a number
abbrev pub start_of : List SetInfo → ℕ → ℕ
start_of sets n = count (λ s. nat_lt s.node.0 n) sets

-- that of each of so many nodes, and of the number after them
abbrev pub starts_of : List SetInfo → ℕ → List ℕ
starts_of sets n = map (start_of sets) (range_with_len 0 (n + 1))

-- the sets at each node, by where they start
abbrev pub sets_between : List SetInfo → List ℕ → List (List SetInfo)
sets_between sets starts = map (λ n. slice_range sets (slice_index starts n) (slice_index starts (n + 1))) (range_with_len 0 (length starts - 1))

-- the sets of a subgame from its node on up to the end of its nodes, by where they start
abbrev pub span_at : List ℕ → ℕ → ℕ → Span
span_at starts node end = record { from = slice_index starts node; to = slice_index starts end }

abbrev pub sets_in : GameModel → ℕ → SetsValue
sets_in g seat =
    let sets = map (set_in g seat) (model.sets g seat) in
    record {
      sets = sets;
      set_of = map (set_at g seat) (histories g);
      starts = starts_of sets (length (nodes.nodes g));
      node_sets = map (λ p. map (set_in g seat) (nodes.node_sets g seat p)) (nodes.nodes g);
      spans = map (span_in g seat) (nodes.nodes g);
    }

-- what a seat has seen beside the number of a history that is not terminal, along which it was
abbrev pub HasSeen : GameModel → ℕ → List model.Item × ℕ → Type 0
HasSeen g seat p = (p.1 < length (histories g)) × (is_inner g (history_at g p.1) ≡ true) × (model.seen g seat (history_at g p.1) ≡ p.0)

-- the set with a number, by what was seen along a history of it
abbrev pub set_with : GameModel → ℕ → List model.Item → (number first_weight : ℕ) → SetInfo
set_with g seat s number first_weight = record {
  id = set_id number;
  node = node_id (nodes.node_number g (model.publics s));
  parent = option_map taken_in (parent g seat s);
  actions = model.set_actions g seat s;
  first_weight = first_weight;
}

-- the set of the history with a number, by the first one of its set and that one's rank
abbrev pub ranked_set : GameModel → (firsts ranks : List ℕ) → ℕ → Option SetId
ranked_set g firsts ranks i = if is_inner g (history_at g i) then Some (set_id (slice_index ranks (slice_index firsts i))) else None

-- no set is at a node before that of an earlier one
abbrev pub AreRising : List SetInfo → Type 0
AreRising sets = (i j : ℕ) (d : SetInfo) → i ≤ j → j < length sets → (slice_index_or sets i d).node.0 ≤ (slice_index_or sets j d).node.0

-- the sets of each node end where those of the next one start, at most after the last one
abbrev pub AreBounds : List SetInfo → List ℕ → Type 0
AreBounds sets starts = (n : ℕ) → n + 1 < length starts → (slice_index starts n ≤ slice_index starts (n + 1)) × (slice_index starts (n + 1) ≤ length sets)
