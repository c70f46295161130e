-- Games of the worked examples.
use Rattle.std.specs.Prelude.{ℕ, pos, negsuc, List, [], ◌∷◌, Some, None}
use lib.Chars.{codes}
use Rattle.lab_defs_text.specs.Words.{Bytes}
use Rattle.lab_defs_text.specs.Games.{GameModel, Place, a_world, an_end, Outcome, by_acts, by_seen}
use Rattle.lab_defs_game.specs.Paths.{SetAction}
use Rattle.lab_defs_game.specs.Nodes.{PathItem}
use Rattle.lab_defs_game.specs.Counts.{Counts}

-- an outcome: its weight, the next place, both private tokens and the public one
abbrev pub to : (weight next own1 own2 public : ℕ) → Outcome
to weight next own1 own2 public = record { weight = weight; next = next; own1 = own1; own2 = own2; public = public }

-- a world by both lists of actions and its rows
abbrev pub world : List Bytes → List Bytes → List (List Outcome) → Place
world one two rows = a_world (record { one = one; two = two; rows = rows })

-- an action at a set
abbrev pub at : (set action : ℕ) → SetAction
at set action = record { set = set; action = action }

-- a set that follows none
abbrev pub first : ℕ → PathItem
first set = record { set = set; follows = None }

-- a set, which item it follows by which action, and as which of how many
abbrev pub later : (set before action place total : ℕ) → PathItem
later set before action place total = record { set = set; follows = Some (record { before = before; action = action; place = place; total = total }) }

-- histories, nodes, sets of each seat, most decisions of each seat, scale
abbrev pub counted : (histories nodes sets1 sets2 most1 most2 scale : ℕ) → Counts
counted histories nodes sets1 sets2 most1 most2 scale = record {
  histories = histories;
  nodes = nodes;
  sets1 = sets1;
  sets2 = sets2;
  most1 = most1;
  most2 = most2;
  scale = scale;
}

-- Kuhn poker with three cards, a chip as ante and a chip to bet
abbrev pub kuhn : GameModel
kuhn = record {
  grid = 12;
  horizon = 4;
  recall = by_acts;
  tokens = codes "-" ∷ codes "c1" ∷ codes "c2" ∷ codes "c3" ∷ codes "check" ∷ codes "bet" ∷ codes "fold" ∷ codes "call" ∷ [];
  names = codes "deal" ∷ codes "k-1-2-0" ∷ codes "k-1-2-c" ∷ codes "k-1-2-b" ∷ codes "k-1-2-cb" ∷ codes "k-1-3-0" ∷ codes "k-1-3-c" ∷ codes "k-1-3-b" ∷ codes "k-1-3-cb" ∷ codes "k-2-1-0" ∷ codes "k-2-1-c" ∷ codes "k-2-1-b" ∷ codes "k-2-1-cb" ∷ codes "k-2-3-0" ∷ codes "k-2-3-c" ∷ codes "k-2-3-b" ∷ codes "k-2-3-cb" ∷ codes "k-3-1-0" ∷ codes "k-3-1-c" ∷ codes "k-3-1-b" ∷ codes "k-3-1-cb" ∷ codes "k-3-2-0" ∷ codes "k-3-2-c" ∷ codes "k-3-2-b" ∷ codes "k-3-2-cb" ∷ codes "e-m2" ∷ codes "e-m1" ∷ codes "e-1" ∷ codes "e-2" ∷ [];
  places = world (codes "." ∷ []) (codes "." ∷ []) ((to 1 1 1 2 0 ∷ to 1 5 1 3 0 ∷ to 1 9 2 1 0 ∷ to 1 13 2 3 0 ∷ to 1 17 3 1 0 ∷ to 1 21 3 2 0 ∷ []) ∷ [])
      ∷ world (codes "check" ∷ codes "bet" ∷ []) (codes "." ∷ []) ((to 1 2 0 0 4 ∷ []) ∷ (to 1 3 0 0 5 ∷ []) ∷ [])
      ∷ world (codes "." ∷ []) (codes "check" ∷ codes "bet" ∷ []) ((to 1 26 0 0 4 ∷ []) ∷ (to 1 4 0 0 5 ∷ []) ∷ [])
      ∷ world (codes "." ∷ []) (codes "fold" ∷ codes "call" ∷ []) ((to 1 27 0 0 6 ∷ []) ∷ (to 1 25 0 0 7 ∷ []) ∷ [])
      ∷ world (codes "fold" ∷ codes "call" ∷ []) (codes "." ∷ []) ((to 1 26 0 0 6 ∷ []) ∷ (to 1 25 0 0 7 ∷ []) ∷ [])
      ∷ world (codes "check" ∷ codes "bet" ∷ []) (codes "." ∷ []) ((to 1 6 0 0 4 ∷ []) ∷ (to 1 7 0 0 5 ∷ []) ∷ [])
      ∷ world (codes "." ∷ []) (codes "check" ∷ codes "bet" ∷ []) ((to 1 26 0 0 4 ∷ []) ∷ (to 1 8 0 0 5 ∷ []) ∷ [])
      ∷ world (codes "." ∷ []) (codes "fold" ∷ codes "call" ∷ []) ((to 1 27 0 0 6 ∷ []) ∷ (to 1 25 0 0 7 ∷ []) ∷ [])
      ∷ world (codes "fold" ∷ codes "call" ∷ []) (codes "." ∷ []) ((to 1 26 0 0 6 ∷ []) ∷ (to 1 25 0 0 7 ∷ []) ∷ [])
      ∷ world (codes "check" ∷ codes "bet" ∷ []) (codes "." ∷ []) ((to 1 10 0 0 4 ∷ []) ∷ (to 1 11 0 0 5 ∷ []) ∷ [])
      ∷ world (codes "." ∷ []) (codes "check" ∷ codes "bet" ∷ []) ((to 1 27 0 0 4 ∷ []) ∷ (to 1 12 0 0 5 ∷ []) ∷ [])
      ∷ world (codes "." ∷ []) (codes "fold" ∷ codes "call" ∷ []) ((to 1 27 0 0 6 ∷ []) ∷ (to 1 28 0 0 7 ∷ []) ∷ [])
      ∷ world (codes "fold" ∷ codes "call" ∷ []) (codes "." ∷ []) ((to 1 26 0 0 6 ∷ []) ∷ (to 1 28 0 0 7 ∷ []) ∷ [])
      ∷ world (codes "check" ∷ codes "bet" ∷ []) (codes "." ∷ []) ((to 1 14 0 0 4 ∷ []) ∷ (to 1 15 0 0 5 ∷ []) ∷ [])
      ∷ world (codes "." ∷ []) (codes "check" ∷ codes "bet" ∷ []) ((to 1 26 0 0 4 ∷ []) ∷ (to 1 16 0 0 5 ∷ []) ∷ [])
      ∷ world (codes "." ∷ []) (codes "fold" ∷ codes "call" ∷ []) ((to 1 27 0 0 6 ∷ []) ∷ (to 1 25 0 0 7 ∷ []) ∷ [])
      ∷ world (codes "fold" ∷ codes "call" ∷ []) (codes "." ∷ []) ((to 1 26 0 0 6 ∷ []) ∷ (to 1 25 0 0 7 ∷ []) ∷ [])
      ∷ world (codes "check" ∷ codes "bet" ∷ []) (codes "." ∷ []) ((to 1 18 0 0 4 ∷ []) ∷ (to 1 19 0 0 5 ∷ []) ∷ [])
      ∷ world (codes "." ∷ []) (codes "check" ∷ codes "bet" ∷ []) ((to 1 27 0 0 4 ∷ []) ∷ (to 1 20 0 0 5 ∷ []) ∷ [])
      ∷ world (codes "." ∷ []) (codes "fold" ∷ codes "call" ∷ []) ((to 1 27 0 0 6 ∷ []) ∷ (to 1 28 0 0 7 ∷ []) ∷ [])
      ∷ world (codes "fold" ∷ codes "call" ∷ []) (codes "." ∷ []) ((to 1 26 0 0 6 ∷ []) ∷ (to 1 28 0 0 7 ∷ []) ∷ [])
      ∷ world (codes "check" ∷ codes "bet" ∷ []) (codes "." ∷ []) ((to 1 22 0 0 4 ∷ []) ∷ (to 1 23 0 0 5 ∷ []) ∷ [])
      ∷ world (codes "." ∷ []) (codes "check" ∷ codes "bet" ∷ []) ((to 1 27 0 0 4 ∷ []) ∷ (to 1 24 0 0 5 ∷ []) ∷ [])
      ∷ world (codes "." ∷ []) (codes "fold" ∷ codes "call" ∷ []) ((to 1 27 0 0 6 ∷ []) ∷ (to 1 28 0 0 7 ∷ []) ∷ [])
      ∷ world (codes "fold" ∷ codes "call" ∷ []) (codes "." ∷ []) ((to 1 26 0 0 6 ∷ []) ∷ (to 1 28 0 0 7 ∷ []) ∷ [])
      ∷ an_end (negsuc 1)
      ∷ an_end (negsuc 0)
      ∷ an_end (pos 1)
      ∷ an_end (pos 2)
      ∷ [];
  root = 0;
}

-- seat 2 may take 1 at once or go in and get a private colour; seat 1 then chooses unseeing
abbrev pub fork : GameModel
fork = record {
  grid = 3;
  horizon = 2;
  recall = by_acts;
  tokens = codes "-" ∷ codes "in" ∷ codes "out" ∷ codes "red" ∷ codes "blue" ∷ [];
  names = codes "start" ∷ codes "warm" ∷ codes "cold" ∷ codes "win" ∷ codes "lose" ∷ codes "tie" ∷ [];
  places = world (codes "." ∷ []) (codes "out" ∷ codes "in" ∷ []) ((to 1 4 0 0 2 ∷ []) ∷ (to 1 1 0 3 1 ∷ to 1 2 0 4 1 ∷ []) ∷ [])
      ∷ world (codes "l" ∷ codes "r" ∷ []) (codes "." ∷ []) ((to 1 4 0 0 0 ∷ []) ∷ (to 1 3 0 0 0 ∷ []) ∷ [])
      ∷ world (codes "l" ∷ codes "r" ∷ []) (codes "." ∷ []) ((to 1 4 0 0 0 ∷ []) ∷ (to 1 5 0 0 0 ∷ []) ∷ [])
      ∷ an_end (pos 1)
      ∷ an_end (negsuc 0)
      ∷ an_end (pos 0)
      ∷ [];
  root = 0;
}

-- four steps of weight 65,536, and a payoff of 1
abbrev pub chain : GameModel
chain = record {
  grid = 2;
  horizon = 4;
  recall = by_acts;
  tokens = codes "-" ∷ [];
  names = codes "a" ∷ codes "b" ∷ codes "c" ∷ codes "d" ∷ codes "e" ∷ [];
  places = world (codes "." ∷ []) (codes "." ∷ []) ((to 65536 1 0 0 0 ∷ []) ∷ [])
      ∷ world (codes "." ∷ []) (codes "." ∷ []) ((to 65536 2 0 0 0 ∷ []) ∷ [])
      ∷ world (codes "." ∷ []) (codes "." ∷ []) ((to 65536 3 0 0 0 ∷ []) ∷ [])
      ∷ world (codes "." ∷ []) (codes "." ∷ []) ((to 65536 4 0 0 0 ∷ []) ∷ [])
      ∷ an_end (pos 1)
      ∷ [];
  root = 0;
}

-- the same with a payoff of 2
abbrev pub heavy_chain : GameModel
heavy_chain = record {
  grid = 2;
  horizon = 4;
  recall = by_acts;
  tokens = codes "-" ∷ [];
  names = codes "a" ∷ codes "b" ∷ codes "c" ∷ codes "d" ∷ codes "e" ∷ [];
  places = world (codes "." ∷ []) (codes "." ∷ []) ((to 65536 1 0 0 0 ∷ []) ∷ [])
      ∷ world (codes "." ∷ []) (codes "." ∷ []) ((to 65536 2 0 0 0 ∷ []) ∷ [])
      ∷ world (codes "." ∷ []) (codes "." ∷ []) ((to 65536 3 0 0 0 ∷ []) ∷ [])
      ∷ world (codes "." ∷ []) (codes "." ∷ []) ((to 65536 4 0 0 0 ∷ []) ∷ [])
      ∷ an_end (pos 2)
      ∷ [];
  root = 0;
}

-- six steps of weight 65,536, and a payoff of -3
abbrev pub long_chain : GameModel
long_chain = record {
  grid = 2;
  horizon = 6;
  recall = by_acts;
  tokens = codes "-" ∷ [];
  names = codes "a" ∷ codes "b" ∷ codes "c" ∷ codes "d" ∷ codes "e" ∷ codes "f" ∷ codes "e0" ∷ [];
  places = world (codes "." ∷ []) (codes "." ∷ []) ((to 65536 1 0 0 0 ∷ []) ∷ [])
      ∷ world (codes "." ∷ []) (codes "." ∷ []) ((to 65536 2 0 0 0 ∷ []) ∷ [])
      ∷ world (codes "." ∷ []) (codes "." ∷ []) ((to 65536 3 0 0 0 ∷ []) ∷ [])
      ∷ world (codes "." ∷ []) (codes "." ∷ []) ((to 65536 4 0 0 0 ∷ []) ∷ [])
      ∷ world (codes "." ∷ []) (codes "." ∷ []) ((to 65536 5 0 0 0 ∷ []) ∷ [])
      ∷ world (codes "." ∷ []) (codes "." ∷ []) ((to 65536 6 0 0 0 ∷ []) ∷ [])
      ∷ an_end (negsuc 2)
      ∷ [];
  root = 0;
}

-- a world that leads to itself
abbrev pub loop : GameModel
loop = record {
  grid = 2;
  horizon = 3;
  recall = by_acts;
  tokens = codes "-" ∷ [];
  names = codes "a" ∷ [];
  places = world (codes "." ∷ []) (codes "." ∷ []) ((to 1 0 0 0 0 ∷ []) ∷ [])
      ∷ [];
  root = 0;
}

-- a world that leads to itself in two ways
abbrev pub doubling : GameModel
doubling = record loop { horizon = 32; places = world (codes "." ∷ []) (codes "." ∷ []) ((to 1 0 0 0 0 ∷ to 1 0 0 0 0 ∷ []) ∷ []) ∷ [] }

-- a step by some outcomes, where place 1 is a world that leads to itself in two ways, and place 2 an end
abbrev pub late_doubling : List Outcome → GameModel
late_doubling outcomes = record {
  grid = 2;
  horizon = 16;
  recall = by_acts;
  tokens = codes "-" ∷ [];
  names = codes "start" ∷ codes "a" ∷ codes "e" ∷ [];
  places = world (codes "." ∷ []) (codes "." ∷ []) (outcomes ∷ [])
      ∷ world (codes "." ∷ []) (codes "." ∷ []) ((to 1 1 0 0 0 ∷ to 1 1 0 0 0 ∷ []) ∷ [])
      ∷ an_end (pos 0)
      ∷ [];
  root = 0;
}

-- one set with two worlds, where the first seat has other actions
abbrev pub differs : GameModel
differs = record {
  grid = 2;
  horizon = 2;
  recall = by_acts;
  tokens = codes "-" ∷ [];
  names = codes "start" ∷ codes "x" ∷ codes "y" ∷ codes "e" ∷ [];
  places = world (codes "." ∷ []) (codes "." ∷ []) ((to 1 1 0 0 0 ∷ to 1 2 0 0 0 ∷ []) ∷ [])
      ∷ world (codes "l" ∷ codes "r" ∷ []) (codes "." ∷ []) ((to 1 3 0 0 0 ∷ []) ∷ (to 1 3 0 0 0 ∷ []) ∷ [])
      ∷ world (codes "l" ∷ []) (codes "." ∷ []) ((to 1 3 0 0 0 ∷ []) ∷ [])
      ∷ an_end (pos 0)
      ∷ [];
  root = 0;
}

-- the same, for the second seat
abbrev pub differs_behind : GameModel
differs_behind = record {
  grid = 2;
  horizon = 2;
  recall = by_acts;
  tokens = codes "-" ∷ [];
  names = codes "start" ∷ codes "x" ∷ codes "y" ∷ codes "e" ∷ [];
  places = world (codes "." ∷ []) (codes "." ∷ []) ((to 1 1 0 0 0 ∷ to 1 2 0 0 0 ∷ []) ∷ [])
      ∷ world (codes "." ∷ []) (codes "l" ∷ codes "r" ∷ []) ((to 1 3 0 0 0 ∷ []) ∷ (to 1 3 0 0 0 ∷ []) ∷ [])
      ∷ world (codes "." ∷ []) (codes "l" ∷ []) ((to 1 3 0 0 0 ∷ []) ∷ [])
      ∷ an_end (pos 0)
      ∷ [];
  root = 0;
}

-- the seat does not see its own action
abbrev pub forgets : GameModel
forgets = record {
  grid = 2;
  horizon = 2;
  recall = by_seen;
  tokens = codes "-" ∷ [];
  names = codes "start" ∷ codes "x" ∷ codes "e" ∷ [];
  places = world (codes "a" ∷ codes "b" ∷ []) (codes "." ∷ []) ((to 1 1 0 0 0 ∷ []) ∷ (to 1 1 0 0 0 ∷ []) ∷ [])
      ∷ world (codes "." ∷ []) (codes "." ∷ []) ((to 1 2 0 0 0 ∷ []) ∷ [])
      ∷ an_end (pos 0)
      ∷ [];
  root = 0;
}

-- the same, for the second seat
abbrev pub forgets_behind : GameModel
forgets_behind = record {
  grid = 2;
  horizon = 2;
  recall = by_seen;
  tokens = codes "-" ∷ [];
  names = codes "start" ∷ codes "x" ∷ codes "e" ∷ [];
  places = world (codes "." ∷ []) (codes "a" ∷ codes "b" ∷ []) ((to 1 1 0 0 0 ∷ []) ∷ (to 1 1 0 0 0 ∷ []) ∷ [])
      ∷ world (codes "." ∷ []) (codes "." ∷ []) ((to 1 2 0 0 0 ∷ []) ∷ [])
      ∷ an_end (pos 0)
      ∷ [];
  root = 0;
}
