-- The first of the histories that are alike.
use Rattle.std.specs.Prelude.{ℕ, ◌≡◌, ◌<◌, ◌≤◌, List, [], length, slice_index, slice_index_or, Bool, true, false, ◌&&◌, if◌then◌else◌}
use Rattle.std.specs.Ordering.{is_eq}
use Rattle.lab_defs_text.specs.Games.{GameModel}
use Rattle.lab_defs_text.specs.Texts.{is_world}
use Rattle.lab_defs_game.specs.Keys.{list_cmp}
use Rattle.lab_defs_game.specs.Histories.{History, histories, place_of}
use Rattle.lab_defs_game.specs.Sets.{seen, public_list, publics}
use Rattle.lab_defs_game.specs.Recall.{owns, same_list, one_set, place_of_first}

-- whether a history is not terminal
abbrev pub is_inner : GameModel → History → Bool
is_inner g h = is_world (place_of g h)

-- two histories with one public list
abbrev pub one_node : GameModel → History → History → Bool
one_node g h k = is_eq (list_cmp (public_list g h) (public_list g k))

-- two histories that are not terminal, with the same private and public tokens of a seat
abbrev pub same_tokens : GameModel → ℕ → History → History → Bool
same_tokens g seat h k =
    is_inner g h && (is_inner g k && (same_list (owns (seen g seat h)) (owns (seen g seat k)) && same_list (publics (seen g seat h)) (publics (seen g seat k))))

-- f is the number of the first of these histories that is akin to the one with the number i
pub record IsFirstAkin (akin : History → History → Bool) (hs : List History) (i f : ℕ) : Type 0 where
  pub within : f ≤ i
  pub same : akin (slice_index_or hs f []) (slice_index_or hs i []) ≡ true
  pub before : (k : ℕ) → k < f → akin (slice_index_or hs k []) (slice_index_or hs i []) ≡ false

-- for each of these histories that passes the test, the number of the first history that is akin to it
pub record AreFirsts (test : History → Bool) (akin : History → History → Bool) (hs : List History) (firsts : List ℕ) : Type 0 where
  pub count : length firsts ≡ length hs
  pub below : (i : ℕ) → i < length hs → slice_index firsts i < length hs
  pub first : (i : ℕ) → i < length hs → test (slice_index_or hs i []) ≡ true → slice_index firsts i ≡ place_of_first (λ k. akin k (slice_index_or hs i [])) hs

-- the number of the first history of a history's node
abbrev pub node_first : GameModel → History → ℕ
node_first g h = place_of_first (λ k. one_node g k h) (histories g)

-- the number of the first history of a history's information set of a seat; 0 where the history is terminal
abbrev pub set_first : GameModel → ℕ → History → ℕ
set_first g seat h = if is_inner g h then place_of_first (λ k. one_set g seat k h) (histories g) else 0
