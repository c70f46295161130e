-- Games given by the names of their places and tokens.
use Rattle.std.specs.Prelude.{ℕ, ◌+◌, ◌==◌, ℤ, pos, negsuc, List, [], ◌∷◌, ◌++◌, length, map, flat_map, position, unwrap_or, if◌then◌else◌}
use Rattle.std.specs.Ordering.{int_cmp, int_eq}
use Rattle.std.specs.Str.{bytes_eq}
use lib.Chars.{codes}
use Rattle.lab_defs_text.specs.Words.{Bytes}
use Rattle.lab_defs_text.specs.Numbers.{numeral}
use Rattle.lab_defs_text.specs.Games.{GameModel, by_acts, Outcome, Place, a_world, an_end}
use Rattle.lab_defs_game.specs.Keys.{in_order}

-- where an outcome leads: to a world, or to the end with a payoff
pub data Next : Type 0 where
  to_world : (name : Bytes) → Next
  to_end : (payoff : ℤ) → Next

-- an outcome, its tokens by their names
pub record Lead : Type 0 where
  pub weight : ℕ
  pub next : Next
  pub own1 : Bytes
  pub own2 : Bytes
  pub public : Bytes

-- a world with its name, the actions of each seat, and the outcomes of each joint action
pub record Scene : Type 0 where
  pub name : Bytes
  pub one : List Bytes
  pub two : List Bytes
  pub rows : List (List Lead)

-- an end with its name
pub record Finish : Type 0 where
  pub name : Bytes
  pub payoff : ℤ

-- a whole game: it starts in the first scene
pub record Plan : Type 0 where
  pub grid : ℕ
  pub horizon : ℕ
  pub tokens : List Bytes
  pub scenes : List Scene
  pub finishes : List Finish

-- the empty token, and the action of a seat that does not act
abbrev pub nothing : Bytes
nothing = codes "-"

-- the action of a seat that does not act
abbrev pub pass : Bytes
pass = codes "."

-- an outcome of weight 1 that shows nothing but a public token
abbrev pub leads : Next → Bytes → Lead
leads next public = record { weight = 1; next = next; own1 = nothing; own2 = nothing; public = public }

-- an action, and what it leads to
pub record Move : Type 0 where
  pub action : Bytes
  pub lead : Lead

-- an action that is shown to all
abbrev pub open_move : Bytes → Next → Move
open_move action next = record { action = action; lead = leads next action }

-- a scene where one seat acts and the other passes
abbrev pub turn : Bytes → ℕ → List Move → Scene
turn name seat moves = record {
  name = name;
  one = if seat == 1 then map (λ m. m.action) moves else pass ∷ [];
  two = if seat == 1 then pass ∷ [] else map (λ m. m.action) moves;
  rows = map (λ m. m.lead ∷ []) moves;
}

-- a scene where both seats pass
abbrev pub dealing : Bytes → List Lead → Scene
dealing name outcomes = record { name = name; one = pass ∷ []; two = pass ∷ []; rows = outcomes ∷ [] }

-- a number inside a name: `m` comes before a negative one
abbrev pub number_word : ℤ → Bytes
number_word (pos n) = numeral n
number_word (negsuc n) = codes "m" ++ numeral (n + 1)

-- the name of the end with a payoff
abbrev pub end_name : ℤ → Bytes
end_name z = codes "e-" ++ number_word z

-- the payoffs of the ends that outcomes lead to
abbrev pub payoffs_in : List Lead → List ℤ
payoffs_in [] = []
payoffs_in (l ∷ ls) = elim l.next [ to_end z ↦ z ∷ payoffs_in ls | to_world n ↦ payoffs_in ls ]

-- an end for each payoff that occurs, in ascending order
abbrev pub finishes_of : List Scene → List Finish
finishes_of scenes = map (λ z. record { name = end_name z; payoff = z }) (in_order int_cmp (flat_map (λ s. flat_map payoffs_in s.rows) scenes))

-- ---- numbered

-- the number of a name in a list
abbrev pub number_in : List Bytes → Bytes → ℕ
number_in names name = unwrap_or (position (bytes_eq name) names) 0

-- the number of a place: the scenes come first, then the finishes
abbrev pub next_number : Plan → Next → ℕ
next_number p (to_world name) = number_in (map (λ s. s.name) p.scenes) name
next_number p (to_end z) = length p.scenes + unwrap_or (position (λ f. int_eq f.payoff z) p.finishes) 0

-- an outcome with its names as numbers
abbrev pub outcome_of_lead : Plan → Lead → Outcome
outcome_of_lead p l = record {
  weight = l.weight;
  next = next_number p l.next;
  own1 = number_in p.tokens l.own1;
  own2 = number_in p.tokens l.own2;
  public = number_in p.tokens l.public;
}

-- a scene with its names as numbers
abbrev pub place_of_scene : Plan → Scene → Place
place_of_scene p s = a_world (record { one = s.one; two = s.two; rows = map (map (outcome_of_lead p)) s.rows })

-- the game of a plan
abbrev pub game_of_plan : Plan → GameModel
game_of_plan p = record {
  grid = p.grid;
  horizon = p.horizon;
  recall = by_acts;
  tokens = p.tokens;
  names = map (λ s. s.name) p.scenes ++ map (λ f. f.name) p.finishes;
  places = map (place_of_scene p) p.scenes ++ map (λ f. an_end f.payoff) p.finishes;
  root = 0;
}
