-- The five kinds of generated games, after matching pennies, Kuhn poker, Leduc poker, goofspiel and liar's dice.
use Rattle.std.specs.Prelude.{ℕ, zero, suc, ◌+◌, ◌-◌, ◌*◌, ◌/◌, ◌%◌, ◌==◌, ◌&&◌, ◌||◌, not, nat_le, nat_lt, ℤ, pos, neg_ℤ, ◌+ℤ◌, ◌-ℤ◌, List, [], ◌∷◌, ◌++◌, length, map, flat_map, filter, Bool, if◌then◌else◌, Option, Some, None}
use Rattle.std.specs.List.{range_with_len, join_with_byte}
use Rattle.std.specs.Ordering.{int_cmp, on, then_cmp}
use Rattle.std.specs.declared.cmp.Ordering.{Ordering}
use Rattle.std.specs.Str.{bytes_eq}
use lib.Chars.{codes}
use Rattle.lab_defs_text.specs.Words.{Bytes}
use Rattle.lab_defs_text.specs.Numbers.{numeral}
use Rattle.lab_defs_text.specs.Games.{GameModel}
use Rattle.lab_defs_game.specs.Keys.{count, in_order, list_cmp}
use Rattle.lab_defs_report.specs.Plans.{Next, to_world, to_end, Lead, Scene, Plan, nothing, leads, Move, open_move, turn, dealing, number_word, finishes_of, game_of_plan}

-- the kinds of generated games
pub data GameKind : Type 0 where
  pennies : GameKind
  kuhn : GameKind
  leduc : GameKind
  goofspiel : GameKind
  dice : GameKind

-- the kind that a word names
abbrev pub kind_named : Bytes → Option GameKind
kind_named word =
    if bytes_eq word (codes "pennies") then Some pennies else if bytes_eq word (codes "kuhn") then Some kuhn else if bytes_eq word (codes "leduc") then Some leduc
    else if bytes_eq word (codes "goofspiel") then Some goofspiel else if bytes_eq word (codes "dice") then Some dice else None

-- the least and the greatest size
abbrev pub least_size : GameKind → ℕ
least_size pennies = 2
least_size kuhn = 3
least_size leduc = 4
least_size goofspiel = 2
least_size dice = 2

-- the greatest size of a kind
abbrev pub greatest_size : GameKind → ℕ
greatest_size pennies = 16
greatest_size kuhn = 12
greatest_size leduc = 18
greatest_size goofspiel = 5
greatest_size dice = 5

-- whether a size has this form: leduc has two cards of each rank
abbrev pub is_even_enough : GameKind → ℕ → Bool
is_even_enough leduc n = n % 2 == 0
is_even_enough _ n = nat_le 0 n

-- whether a kind has a size: within its range, and even for Leduc poker
abbrev pub is_size : GameKind → ℕ → Bool
is_size kind n = nat_le (least_size kind) n && (nat_le n (greatest_size kind) && is_even_enough kind n)

-- the numbers from 1 to n
abbrev pub up_to : ℕ → List ℕ
up_to n = range_with_len 1 n

-- a letter or a word with a number
abbrev pub marked : Bytes → ℕ → Bytes
marked word n = word ++ numeral n

-- pieces with dashes between them
abbrev pub dashed : List Bytes → Bytes
dashed pieces = join_with_byte 45 pieces

-- all pairs of a number of each list, the first list slower
abbrev pub pairs : List ℕ → List ℕ → List (ℕ × ℕ)
pairs xs ys = flat_map (λ x. map (λ y. (x, y)) ys) xs

-- ---- pennies: equal sides win for seat 1

-- the names of n sides
abbrev pub sides : ℕ → List Bytes
sides n = map (marked (codes "s")) (up_to n)

-- both seats show a side: equal ones win for seat 1
abbrev pub toss : ℕ → Scene
toss n = record {
  name = codes "toss";
  one = sides n;
  two = sides n;
  rows = map (λ p. leads (to_end (if p.0 == p.1 then pos 1 else neg_ℤ (pos 1))) nothing ∷ []) (pairs (up_to n) (up_to n));
}

-- matching pennies with n sides
abbrev pub pennies_plan : ℕ → Plan
pennies_plan n = record {
  grid = 12;
  horizon = 1;
  tokens = nothing ∷ [];
  scenes = toss n ∷ [];
  finishes = record { name = codes "win"; payoff = pos 1 } ∷ record { name = codes "lose"; payoff = neg_ℤ (pos 1) } ∷ [];
}

-- ---- kuhn: one card each, one bet

-- the name of a card
abbrev pub card : ℕ → Bytes
card n = marked (codes "c") n

-- the name of a place after the cards a and b are dealt
abbrev pub kuhn_name : (a b : ℕ) → Bytes → Bytes
kuhn_name a b position = dashed (codes "k" ∷ numeral a ∷ numeral b ∷ position ∷ [])

-- the higher card wins the stake
abbrev pub kuhn_showdown : (a b stake : ℕ) → Next
kuhn_showdown a b stake = to_end (if nat_lt b a then pos stake else neg_ℤ (pos stake))

-- what follows the cards a and b: seat 1 checks or bets, and so on
abbrev pub kuhn_scenes : (a b : ℕ) → List Scene
kuhn_scenes a b =
    turn (kuhn_name a b (codes "0")) 1 (open_move (codes "check") (to_world (kuhn_name a b (codes "c"))) ∷ open_move (codes "bet") (to_world (kuhn_name a b (codes "b"))) ∷ [])
    ∷ turn (kuhn_name a b (codes "c")) 2 (open_move (codes "check") (kuhn_showdown a b 1) ∷ open_move (codes "bet") (to_world (kuhn_name a b (codes "cb"))) ∷ [])
    ∷ turn (kuhn_name a b (codes "b")) 2 (open_move (codes "fold") (to_end (pos 1)) ∷ open_move (codes "call") (kuhn_showdown a b 2) ∷ [])
    ∷ turn (kuhn_name a b (codes "cb")) 1 (open_move (codes "fold") (to_end (neg_ℤ (pos 1))) ∷ open_move (codes "call") (kuhn_showdown a b 2) ∷ [])
    ∷ []

-- the cards that seats can have: two different ones
abbrev pub kuhn_deals : ℕ → List (ℕ × ℕ)
kuhn_deals n = filter (λ p. not (p.0 == p.1)) (pairs (up_to n) (up_to n))

-- the outcome of a deal: a token for each seat, nothing for all
abbrev pub deal_lead : ℕ → Bytes → Bytes → Bytes → Lead
deal_lead weight name own1 own2 = record { weight = weight; next = to_world name; own1 = own1; own2 = own2; public = nothing }

-- the deal, and what follows each
abbrev pub kuhn_all : ℕ → List Scene
kuhn_all n =
    dealing (codes "deal") (map (λ p. deal_lead 1 (kuhn_name p.0 p.1 (codes "0")) (card p.0) (card p.1)) (kuhn_deals n)) ∷ flat_map (λ p. kuhn_scenes p.0 p.1) (kuhn_deals n)

-- Kuhn poker with n cards
abbrev pub kuhn_plan : ℕ → Plan
kuhn_plan n = record {
  grid = 12;
  horizon = 4;
  tokens = (nothing ∷ map card (up_to n)) ++ (codes "check" ∷ codes "bet" ∷ codes "fold" ∷ codes "call" ∷ []);
  scenes = kuhn_all n;
  finishes = finishes_of (kuhn_all n);
}

-- ---- leduc: two cards of each rank, two rounds of bets, a third card between them

-- the ranks of the cards of the seats, and of the third card
pub record Ranks : Type 0 where
  pub first : ℕ
  pub second : ℕ
  pub third : ℕ

-- whether all three are equal, and whether all differ
abbrev pub are_equal : Ranks → Bool
are_equal r = (r.first == r.second) && (r.second == r.third)

-- whether three ranks are all different
abbrev pub are_apart : Ranks → Bool
are_apart r = not ((r.first == r.second) || ((r.second == r.third) || (r.first == r.third)))

-- the triples of ranks that can be dealt, in ascending order: all but three equal ones, since each rank has two cards
abbrev pub leduc_deals : ℕ → List Ranks
leduc_deals ranks =
    filter (λ r. not (are_equal r)) (flat_map (λ a. map (λ p. record { first = a; second = p.0; third = p.1 }) (pairs (up_to ranks) (up_to ranks))) (up_to ranks))

-- the bets of a round so far: `c` for a check or a call, `r` for a raise
abbrev pub raises : Bytes → ℕ
raises bets = count (λ c. c == 114) bets

-- the word of a position: `0` where there was no bet
abbrev pub position_word : Bytes → Bytes
position_word [] = codes "0"
position_word (c ∷ cs) = c ∷ cs

-- the bets after which a seat acts
abbrev pub positions : List Bytes
positions = [] ∷ codes "c" ∷ codes "r" ∷ codes "cr" ∷ codes "rr" ∷ codes "crr" ∷ []

-- the bets that close a round
abbrev pub closings : List Bytes
closings = codes "cc" ∷ codes "rc" ∷ codes "crc" ∷ codes "rrc" ∷ codes "crrc" ∷ []

-- a round: what its names begin with, what a seat has put in before it, what a raise adds, and where an action leads that closes it with these bets
pub record BetRound : Type 0 where
  pub prefix : Bytes
  pub base : ℕ
  pub size : ℕ
  pub close : Bytes → Bytes → Lead

-- the seat that acts, by the number of bets
abbrev pub acting : Bytes → ℕ
acting bets = if length bets % 2 == 0 then 1 else 2

-- a seat that folds loses what it has put in
abbrev pub fold_move : BetRound → Bytes → Move
fold_move round bets =
    let loss = pos (round.base + round.size * (raises bets - 1)) in
    open_move (codes "fold") (to_end (if acting bets == 1 then neg_ℤ loss else loss))

-- a check or a call goes on after no bet, and else closes the round
abbrev pub call_move : BetRound → Bytes → Bytes → Move
call_move round [] action = open_move action (to_world (round.prefix ++ codes "c"))
call_move round (c ∷ cs) action = record { action = action; lead = round.close action ((c ∷ cs) ++ codes "c") }

-- a raise
abbrev pub raise_move : BetRound → Bytes → Move
raise_move round bets = open_move (codes "raise") (to_world (round.prefix ++ (bets ++ codes "r")))

-- the actions of a position, by the raises so far: no raise can be folded to, two are the most
abbrev pub bet_moves : BetRound → Bytes → List Move
bet_moves round bets =
    if raises bets == 0 then call_move round bets (codes "check") ∷ raise_move round bets ∷ []
    else if raises bets == 1 then fold_move round bets ∷ call_move round bets (codes "call") ∷ raise_move round bets ∷ []
    else fold_move round bets ∷ call_move round bets (codes "call") ∷ []

-- the scenes of a round of betting, one for each position
abbrev pub round_scenes : BetRound → List Scene
round_scenes round = map (λ bets. turn (round.prefix ++ position_word bets) (acting bets) (bet_moves round bets)) positions

-- who has the third card's rank wins the stake, else the higher rank; equal ranks earn nothing
abbrev pub leduc_showdown : Ranks → ℕ → Next
leduc_showdown r stake =
    to_end (if r.first == r.third then pos stake else if r.second == r.third then neg_ℤ (pos stake)
    else if nat_lt r.second r.first then pos stake else if nat_lt r.first r.second then neg_ℤ (pos stake) else pos 0)

-- what the names of places begin with after a deal
abbrev pub leduc_prefix : Ranks → Bytes
leduc_prefix r = codes "l-" ++ (numeral r.first ++ (numeral r.second ++ (numeral r.third ++ codes "-")))

-- what closes the first round shows the third card
abbrev pub first_round : Ranks → BetRound
first_round r = record {
  prefix = leduc_prefix r;
  base = 1;
  size = 2;
  close = λ action bets. leads (to_world (leduc_prefix r ++ (bets ++ codes "-0"))) (action ++ (45 ∷ numeral r.third));
}

-- the second round, after the bets that closed the first: a raise adds 4, and what closes it is a showdown
abbrev pub second_round : Ranks → Bytes → BetRound
second_round r closing =
    let base = 1 + 2 * raises closing in
    record {
      prefix = leduc_prefix r ++ (closing ++ codes "-");
      base = base;
      size = 4;
      close = λ action bets. leads (leduc_showdown r (base + 4 * raises bets)) action;
    }

-- both rounds after a deal
abbrev pub leduc_scenes : Ranks → List Scene
leduc_scenes r = round_scenes (first_round r) ++ flat_map (λ closing. round_scenes (second_round r closing)) closings

-- the name of a rank
abbrev pub rank : ℕ → Bytes
rank n = marked (codes "r") n

-- the deal, with weight 8 where the ranks are all different and else 4, and what follows each
abbrev pub leduc_all : ℕ → List Scene
leduc_all ranks =
    dealing (codes "deal") (map (λ r. deal_lead (if are_apart r then 8 else 4) (leduc_prefix r ++ codes "0") (rank r.first) (rank r.second)) (leduc_deals ranks))
    ∷ flat_map leduc_scenes (leduc_deals ranks)

-- Leduc poker with n cards, two of each rank
abbrev pub leduc_plan : ℕ → Plan
leduc_plan n =
    let ranks = n / 2 in
    record {
      grid = 60;
      horizon = 9;
      tokens = (nothing ∷ map rank (up_to ranks)) ++ ((codes "check" ∷ codes "call" ∷ codes "raise" ∷ codes "fold" ∷ [])
          ++ (map (marked (codes "check-")) (up_to ranks) ++ map (marked (codes "call-")) (up_to ranks)));
      scenes = leduc_all ranks;
      finishes = finishes_of (leduc_all ranks);
    }

-- ---- goofspiel: the higher card takes a prize as great as the number of cards left

-- the cards left to each seat in ascending order, and what seat 1 is ahead by
pub record Hands : Type 0 where
  pub cards1 : List ℕ
  pub cards2 : List ℕ
  pub lead : ℤ

-- cards as digits in a row
abbrev pub digits_of : List ℕ → Bytes
digits_of cards = flat_map numeral cards

-- the name of a place of goofspiel: the cards left to each seat, and the lead of seat 1
abbrev pub hands_name : Hands → Bytes
hands_name h = dashed (codes "g" ∷ digits_of h.cards1 ∷ digits_of h.cards2 ∷ number_word h.lead ∷ [])

-- cards without one of them
abbrev pub without : ℕ → List ℕ → List ℕ
without card cards = filter (λ c. not (c == card)) cards

-- the lead of seat 1 after a bid of each seat: the higher card takes the prize, as great as the number of cards left
abbrev pub lead_after : Hands → ℕ × ℕ → ℤ
lead_after h bids =
    let prize = pos (length h.cards1) in
    if nat_lt bids.1 bids.0 then h.lead +ℤ prize else if nat_lt bids.0 bids.1 then h.lead -ℤ prize else h.lead

-- the hands after a bid of each seat
abbrev pub bid_hands : Hands → ℕ × ℕ → Hands
bid_hands h bids = record { cards1 = without bids.0 h.cards1; cards2 = without bids.1 h.cards2; lead = lead_after h bids }

-- who took the prize
abbrev pub taken_word : ℕ × ℕ → Bytes
taken_word bids = if nat_lt bids.1 bids.0 then codes "win1" else if nat_lt bids.0 bids.1 then codes "win2" else codes "tie"

-- after the last card the lead is what seat 1 earns
abbrev pub next_of_hands : Hands → Next
next_of_hands h = if length h.cards1 == 0 then to_end h.lead else to_world (hands_name h)

-- the scene of some hands: both seats bid at once, and all see who took the prize
abbrev pub goofspiel_scene : Hands → Scene
goofspiel_scene h = record {
  name = hands_name h;
  one = map numeral h.cards1;
  two = map numeral h.cards2;
  rows = map (λ bids. leads (next_of_hands (bid_hands h bids)) (taken_word bids) ∷ []) (pairs h.cards1 h.cards2);
}

-- cards of equal numbers in the order of the numbers that their digits spell
abbrev pub hands_cmp : Hands → Hands → Ordering
hands_cmp = then_cmp (on (λ h. h.cards1) list_cmp) (then_cmp (on (λ h. h.cards2) list_cmp) (on (λ h. h.lead) int_cmp))

-- the hands that some hands lead to, each once, in order
abbrev pub next_hands : List Hands → List Hands
next_hands hs = in_order hands_cmp (flat_map (λ h. map (bid_hands h) (pairs h.cards1 h.cards2)) hs)

-- hands, and those that they lead to in fewer than n bids
abbrev pub hands_within : ℕ → List Hands → List Hands
hands_within zero hs = []
hands_within (suc n) hs = hs ++ hands_within n (next_hands hs)

-- the scenes of all hands that can come up, by the number of cards left descending
abbrev pub goofspiel_all : ℕ → List Scene
goofspiel_all n = map goofspiel_scene (hands_within n (record { cards1 = up_to n; cards2 = up_to n; lead = pos 0 } ∷ []))

-- goofspiel with n cards each
abbrev pub goofspiel_plan : ℕ → Plan
goofspiel_plan n = record {
  grid = 12;
  horizon = n;
  tokens = nothing ∷ codes "win1" ∷ codes "win2" ∷ codes "tie" ∷ [];
  scenes = goofspiel_all n;
  finishes = finishes_of (goofspiel_all n);
}

-- ---- dice: one die each, bids that claim more and more

-- whether a bid is true: the first n claim one die of a face, the others both
abbrev pub is_true_bid : (faces a b bid : ℕ) → Bool
is_true_bid faces a b bid = if nat_le bid faces then (a == bid) || (b == bid) else (a == bid - faces) && (b == bid - faces)

-- the name of a place of liar's dice: the dice of both seats, the last bid, and the seat that acts
abbrev pub dice_name : (a b bid seat : ℕ) → Bytes
dice_name a b bid seat = dashed (codes "d" ∷ numeral a ∷ numeral b ∷ numeral bid ∷ numeral seat ∷ [])

-- the bids above one
abbrev pub bids_above : (faces bid : ℕ) → List ℕ
bids_above faces bid = range_with_len (bid + 1) (2 * faces - bid)

-- the seat that doubts a bid wins where it is false, and else the other
abbrev pub liar_move : (faces a b bid seat : ℕ) → Move
liar_move faces a b bid seat =
    let winner = if is_true_bid faces a b bid then 3 - seat else seat in
    open_move (codes "liar") (to_end (if winner == 1 then pos 1 else neg_ℤ (pos 1)))

-- a seat bids higher, or doubts the last bid where there is one
abbrev pub dice_scene : (faces a b bid seat : ℕ) → Scene
dice_scene faces a b bid seat =
    turn (dice_name a b bid seat) seat (map (λ j. open_move (marked (codes "b") j) (to_world (dice_name a b j (3 - seat)))) (bids_above faces bid)
    ++ (if bid == 0 then [] else liar_move faces a b bid seat ∷ []))

-- the last bid and the seat that acts: seat 1 begins, and does not act after bid 1
abbrev pub dice_turns : ℕ → List (ℕ × ℕ)
dice_turns faces = (0, 1) ∷ filter (λ t. not ((t.0 == 1) && (t.1 == 1))) (pairs (up_to (2 * faces)) (up_to 2))

-- the name of a face
abbrev pub face : ℕ → Bytes
face n = marked (codes "f") n

-- the roll of both dice, and what follows each
abbrev pub dice_all : ℕ → List Scene
dice_all faces =
    let rolls = pairs (up_to faces) (up_to faces) in
    dealing (codes "deal") (map (λ p. deal_lead 1 (dice_name p.0 p.1 0 1) (face p.0) (face p.1)) rolls)
    ∷ flat_map (λ p. map (λ t. dice_scene faces p.0 p.1 t.0 t.1) (dice_turns faces)) rolls

-- liar's dice with one die each of n faces
abbrev pub dice_plan : ℕ → Plan
dice_plan faces = record {
  grid = 12;
  horizon = 2 * faces + 2;
  tokens = (nothing ∷ map face (up_to faces)) ++ (map (marked (codes "b")) (up_to (2 * faces)) ++ (codes "liar" ∷ []));
  scenes = dice_all faces;
  finishes = finishes_of (dice_all faces);
}

-- ---- the game of a kind and a size

-- the game of a kind and a size, by names
abbrev pub plan_of : GameKind → ℕ → Plan
plan_of pennies n = pennies_plan n
plan_of kuhn n = kuhn_plan n
plan_of leduc n = leduc_plan n
plan_of goofspiel n = goofspiel_plan n
plan_of dice n = dice_plan n

-- the game of a kind and a size
abbrev pub generated : GameKind → ℕ → GameModel
generated kind n = game_of_plan (plan_of kind n)
