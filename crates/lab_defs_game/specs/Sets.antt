-- What a seat has seen, and its information sets with their numbers.
use Rattle.std.specs.Prelude.{ℕ, ◌+◌, List, [], ◌∷◌, map, ◌==◌, if◌then◌else◌, nat_le}
use Rattle.std.specs.declared.cmp.Ordering.{Ordering}
use Rattle.std.specs.Ordering.{is_eq, nat_cmp, on, then_cmp}
use Rattle.std.specs.Cmp.Lexicographic.{slice_cmp}
use Rattle.lab_math.specs.Sums.{greatest_over}
use Rattle.lab_defs_text.specs.Games.{GameModel}
use Rattle.lab_defs_text.specs.Texts.{place_at}
use Rattle.lab_defs_game.specs.Keys.{in_order, number_of, list_cmp}
use Rattle.lab_defs_game.specs.Histories.{History, Step, outcome_of, place_of, actions_at, histories, inner_histories}

-- what a seat sees of one step: the place of its own action, its private token, the public token
pub record Item : Type 0 where
  pub action : ℕ
  pub own : ℕ
  pub public : ℕ

-- what a seat sees of a step from the place n
abbrev pub item_of : GameModel → ℕ → ℕ → Step → Item
item_of g seat n s = record {
  action = if seat == 1 then s.action1 else s.action2;
  own = if seat == 1 then (outcome_of g n s).own1 else (outcome_of g n s).own2;
  public = (outcome_of g n s).public;
}

-- what a seat sees along steps from the place n
abbrev pub seen_from : GameModel → ℕ → ℕ → History → List Item
seen_from g seat n [] = []
seen_from g seat n (s ∷ h) = item_of g seat n s ∷ seen_from g seat (outcome_of g n s).next h

-- what a seat has seen along a history
abbrev pub seen : GameModel → ℕ → History → List Item
seen g seat h = seen_from g seat g.root h

-- the public tokens along steps from the place n
abbrev pub public_from : GameModel → ℕ → History → List ℕ
public_from g n [] = []
public_from g n (s ∷ h) = (outcome_of g n s).public ∷ public_from g (outcome_of g n s).next h

-- the public list of a history: a node is all histories with one public list
abbrev pub public_list : GameModel → History → List ℕ
public_list g h = public_from g g.root h

-- the public list of a seen list
abbrev pub publics : List Item → List ℕ
publics s = map (λ x. x.public) s

-- by the own action, then by the private token, then by the public token
abbrev pub item_cmp : Item → Item → Ordering
item_cmp = then_cmp (on (λ x. x.action) nat_cmp) (then_cmp (on (λ x. x.own) nat_cmp) (on (λ x. x.public) nat_cmp))

-- sets by public list, then by seen list
abbrev pub set_cmp : List Item → List Item → Ordering
set_cmp = then_cmp (on publics list_cmp) (slice_cmp item_cmp)

-- the information sets of a seat in order, each by what the seat has seen in its histories
abbrev pub sets : GameModel → ℕ → List (List Item)
sets g seat = in_order set_cmp (map (seen g seat) (inner_histories g))

-- the number of a set
abbrev pub set_number : GameModel → ℕ → List Item → ℕ
set_number g seat s = number_of set_cmp (sets g seat) s

-- how many actions the seat has at the first of these histories that is in the set
abbrev pub first_actions : GameModel → ℕ → List Item → List History → ℕ
first_actions g seat s [] = 0
first_actions g seat s (h ∷ hs) = if is_eq (set_cmp (seen g seat h) s) then actions_at seat (place_of g h) else first_actions g seat s hs

-- how many actions the seat has at a set
abbrev pub set_actions : GameModel → ℕ → List Item → ℕ
set_actions g seat s = first_actions g seat s (inner_histories g)

-- how many worlds where the seat has two or more actions steps from the place n pass
abbrev pub decisions_from : GameModel → ℕ → ℕ → History → ℕ
decisions_from g seat n [] = 0
decisions_from g seat n (s ∷ h) = (if nat_le 2 (actions_at seat (place_at g n)) then 1 else 0) + decisions_from g seat (outcome_of g n s).next h

-- the most decisions of a seat on one history
abbrev pub most_decisions : GameModel → ℕ → ℕ
most_decisions g seat = greatest_over (decisions_from g seat g.root) (histories g)
