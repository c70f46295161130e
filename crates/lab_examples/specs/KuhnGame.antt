-- Three-card Kuhn poker on a grid of 2.
use Rattle.std.specs.Prelude.{ℕ, ℤ, pos, negsuc, List, [], ◌∷◌}
use lib.Chars.{codes}
use Rattle.lab_defs_text.specs.Words.{Bytes}
use Rattle.lab_defs_value.specs.Expectation.{uniform_of}
use Rattle.lab_defs_value.specs.Replies.{Strategy, strategy_of}
use Rattle.lab_defs_value.specs.Splices.{replaced}
use Rattle.lab_defs_text.specs.Games.{GameModel, Place, a_world, an_end, Outcome, by_acts}

-- an outcome of weight 1: the next place, and the tokens
abbrev outcome : ℕ → ℕ → ℕ → ℕ → Outcome
outcome next own1 own2 public = record { weight = 1; next = next; own1 = own1; own2 = own2; public = public }

abbrev pass : List Bytes
pass = codes "." ∷ []

abbrev check_bet : List Bytes
check_bet = codes "check" ∷ codes "bet" ∷ []

abbrev fold_call : List Bytes
fold_call = codes "fold" ∷ codes "call" ∷ []

abbrev tokens : List Bytes
tokens = codes "-" ∷ codes "c1" ∷ codes "c2" ∷ codes "c3" ∷ codes "check" ∷ codes "bet" ∷ codes "fold" ∷ codes "call" ∷ []

abbrev names : List Bytes
names = codes "deal"
    ∷ codes "k-1-2-0"
    ∷ codes "k-1-2-c"
    ∷ codes "k-1-2-b"
    ∷ codes "k-1-2-cb"
    ∷ codes "k-1-3-0"
    ∷ codes "k-1-3-c"
    ∷ codes "k-1-3-b"
    ∷ codes "k-1-3-cb"
    ∷ codes "k-2-1-0"
    ∷ codes "k-2-1-c"
    ∷ codes "k-2-1-b"
    ∷ codes "k-2-1-cb"
    ∷ codes "k-2-3-0"
    ∷ codes "k-2-3-c"
    ∷ codes "k-2-3-b"
    ∷ codes "k-2-3-cb"
    ∷ codes "k-3-1-0"
    ∷ codes "k-3-1-c"
    ∷ codes "k-3-1-b"
    ∷ codes "k-3-1-cb"
    ∷ codes "k-3-2-0"
    ∷ codes "k-3-2-c"
    ∷ codes "k-3-2-b"
    ∷ codes "k-3-2-cb"
    ∷ codes "e-m2"
    ∷ codes "e-m1"
    ∷ codes "e-1"
    ∷ codes "e-2"
    ∷ []

-- the deal, then for each deal what follows a check and a bet, and the ends
abbrev places : List Place
places =
    a_world (record { one = pass; two = pass; rows = (outcome 1 1 2 0 ∷ outcome 5 1 3 0 ∷ outcome 9 2 1 0 ∷ outcome 13 2 3 0 ∷ outcome 17 3 1 0 ∷ outcome 21 3 2 0 ∷ []) ∷ [] })
    ∷ a_world (record { one = check_bet; two = pass; rows = (outcome 2 0 0 4 ∷ []) ∷ (outcome 3 0 0 5 ∷ []) ∷ [] })
    ∷ a_world (record { one = pass; two = check_bet; rows = (outcome 26 0 0 4 ∷ []) ∷ (outcome 4 0 0 5 ∷ []) ∷ [] })
    ∷ a_world (record { one = pass; two = fold_call; rows = (outcome 27 0 0 6 ∷ []) ∷ (outcome 25 0 0 7 ∷ []) ∷ [] })
    ∷ a_world (record { one = fold_call; two = pass; rows = (outcome 26 0 0 6 ∷ []) ∷ (outcome 25 0 0 7 ∷ []) ∷ [] })
    ∷ a_world (record { one = check_bet; two = pass; rows = (outcome 6 0 0 4 ∷ []) ∷ (outcome 7 0 0 5 ∷ []) ∷ [] })
    ∷ a_world (record { one = pass; two = check_bet; rows = (outcome 26 0 0 4 ∷ []) ∷ (outcome 8 0 0 5 ∷ []) ∷ [] })
    ∷ a_world (record { one = pass; two = fold_call; rows = (outcome 27 0 0 6 ∷ []) ∷ (outcome 25 0 0 7 ∷ []) ∷ [] })
    ∷ a_world (record { one = fold_call; two = pass; rows = (outcome 26 0 0 6 ∷ []) ∷ (outcome 25 0 0 7 ∷ []) ∷ [] })
    ∷ a_world (record { one = check_bet; two = pass; rows = (outcome 10 0 0 4 ∷ []) ∷ (outcome 11 0 0 5 ∷ []) ∷ [] })
    ∷ a_world (record { one = pass; two = check_bet; rows = (outcome 27 0 0 4 ∷ []) ∷ (outcome 12 0 0 5 ∷ []) ∷ [] })
    ∷ a_world (record { one = pass; two = fold_call; rows = (outcome 27 0 0 6 ∷ []) ∷ (outcome 28 0 0 7 ∷ []) ∷ [] })
    ∷ a_world (record { one = fold_call; two = pass; rows = (outcome 26 0 0 6 ∷ []) ∷ (outcome 28 0 0 7 ∷ []) ∷ [] })
    ∷ a_world (record { one = check_bet; two = pass; rows = (outcome 14 0 0 4 ∷ []) ∷ (outcome 15 0 0 5 ∷ []) ∷ [] })
    ∷ a_world (record { one = pass; two = check_bet; rows = (outcome 26 0 0 4 ∷ []) ∷ (outcome 16 0 0 5 ∷ []) ∷ [] })
    ∷ a_world (record { one = pass; two = fold_call; rows = (outcome 27 0 0 6 ∷ []) ∷ (outcome 25 0 0 7 ∷ []) ∷ [] })
    ∷ a_world (record { one = fold_call; two = pass; rows = (outcome 26 0 0 6 ∷ []) ∷ (outcome 25 0 0 7 ∷ []) ∷ [] })
    ∷ a_world (record { one = check_bet; two = pass; rows = (outcome 18 0 0 4 ∷ []) ∷ (outcome 19 0 0 5 ∷ []) ∷ [] })
    ∷ a_world (record { one = pass; two = check_bet; rows = (outcome 27 0 0 4 ∷ []) ∷ (outcome 20 0 0 5 ∷ []) ∷ [] })
    ∷ a_world (record { one = pass; two = fold_call; rows = (outcome 27 0 0 6 ∷ []) ∷ (outcome 28 0 0 7 ∷ []) ∷ [] })
    ∷ a_world (record { one = fold_call; two = pass; rows = (outcome 26 0 0 6 ∷ []) ∷ (outcome 28 0 0 7 ∷ []) ∷ [] })
    ∷ a_world (record { one = check_bet; two = pass; rows = (outcome 22 0 0 4 ∷ []) ∷ (outcome 23 0 0 5 ∷ []) ∷ [] })
    ∷ a_world (record { one = pass; two = check_bet; rows = (outcome 27 0 0 4 ∷ []) ∷ (outcome 24 0 0 5 ∷ []) ∷ [] })
    ∷ a_world (record { one = pass; two = fold_call; rows = (outcome 27 0 0 6 ∷ []) ∷ (outcome 28 0 0 7 ∷ []) ∷ [] })
    ∷ a_world (record { one = fold_call; two = pass; rows = (outcome 26 0 0 6 ∷ []) ∷ (outcome 28 0 0 7 ∷ []) ∷ [] })
    ∷ an_end (negsuc 1)
    ∷ an_end (negsuc 0)
    ∷ an_end (pos 1)
    ∷ an_end (pos 2)
    ∷ []

-- each seat has one of three cards and an ante of 1, and may bet 1 more
abbrev pub kuhn : GameModel
kuhn = record { grid = 2; horizon = 4; recall = by_acts; tokens = tokens; names = names; places = places; root = 0 }

-- seat 1 splits evenly
abbrev pub even1 : Strategy
even1 = strategy_of kuhn 1 (uniform_of kuhn 1)

-- seat 2 splits evenly
abbrev pub even2 : Strategy
even2 = strategy_of kuhn 2 (uniform_of kuhn 2)

-- what seat 2 can earn at best against seat 1's even split, at its set before the deal, at a card each, after a check and a bet, and after both
abbrev pub best_against_even1 : List ℤ
best_against_even1 = pos 10 ∷ negsuc 5 ∷ pos 2 ∷ pos 14 ∷ negsuc 1 ∷ pos 2 ∷ pos 6 ∷ negsuc 1 ∷ pos 2 ∷ pos 6 ∷ negsuc 3 ∷ pos 0 ∷ pos 8 ∷ []

-- what seat 1 can earn at best against seat 2's even split
abbrev pub best_against_even2 : List ℤ
best_against_even2 = pos 6 ∷ negsuc 1 ∷ pos 2 ∷ pos 6 ∷ negsuc 3 ∷ pos 0 ∷ pos 6 ∷ negsuc 1 ∷ pos 0 ∷ pos 4 ∷ negsuc 1 ∷ pos 2 ∷ pos 6 ∷ []

-- the node after a check
abbrev pub checked : List ℕ
checked = 0 ∷ 4 ∷ []

-- the node after a check and a bet
abbrev pub checked_bet : List ℕ
checked_bet = 0 ∷ 4 ∷ 5 ∷ []

-- the even split of a seat, with weights in place of those of a subgame
abbrev pub even_but : ℕ → List ℕ → List ℕ → Strategy
even_but seat node weights = strategy_of kuhn seat (replaced kuhn seat node (uniform_of kuhn seat) weights)
