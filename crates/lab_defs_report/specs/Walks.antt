-- Walks through a game, by words of 64 bits that are drawn with.
use Rattle.std.specs.Prelude.{ℕ, zero, suc, ◌+◌, ◌-◌, ◌*◌, ◌/◌, ◌^◌, ℤ, pos, ◌+ℤ◌, List, [], ◌∷◌, ◌++◌, length, map, take, drop, slice_index, nat_le, nat_lt, if◌then◌else◌, Result, Ok, Err}
use Rattle.rand_core.specs.Stream.{Stream, next_u64}
use Rattle.rand_core.specs.Steps.{stream_of, steps_u64_low}
use Rattle.rand_core.specs.Pcg32Seed.{pcg32_seed}
use Rattle.rand_pcg.specs.Pcg.{pcg64, pcg64_of_seed}
use Rattle.lab_math.specs.Sums.{sum_over}
use Rattle.lab_defs_text.specs.Games.{GameModel}
use Rattle.lab_defs_text.specs.Texts.{is_world}
use Rattle.lab_defs_text.specs.Steps.{◌>>=◌}
use Rattle.lab_defs_game.specs.Histories.{History, row_of, place_of, payoff}
use Rattle.lab_defs_game.specs.Sets.{seen, set_number}
use Rattle.lab_defs_game.specs.Forms.{game_actions, decides}
use Rattle.lab_defs_value.specs.Tables.{first_weight}

-- ---- draws

-- the number of the first item whose weights so far sum to more than n
abbrev pub item_at : List ℕ → ℕ → ℕ
item_at [] n = 0
item_at (w ∷ ws) n = if nat_lt n w then 0 else suc (item_at ws (n - w))

-- the item that a word draws: the word's part of 2 ^ 64, of all the weights
abbrev pub drawn : List ℕ → ℕ → ℕ
drawn weights word = item_at weights (word * sum_over (λ w. w) weights / 2 ^ 64)

-- the words that are left to draw with, and how many were used
pub record Words : Type 0 where
  pub left : List ℕ
  pub used : ℕ

-- the item that the next word draws, or how many words are needed
abbrev pub drawn_next : List ℕ → List ℕ → ℕ → Result (ℕ × Words) ℕ
drawn_next weights [] used = Err (used + 1)
drawn_next weights (word ∷ left) used = Ok (drawn weights word, record { left = left; used = used + 1 })

-- a choice by weights: a word is used only where there are two or more
abbrev pub chosen : List ℕ → Words → Result (ℕ × Words) ℕ
chosen weights ws = if nat_le 2 (length weights) then drawn_next weights ws.left ws.used else Ok (0, ws)

-- ---- walks

-- a table's weights at the set with a number, none at a pass
abbrev pub weights_at : (actions table : List ℕ) → ℕ → List ℕ
weights_at actions table set = if decides actions set then take (slice_index actions set) (drop (first_weight actions set) table) else []

-- the weights of a seat's actions where a history leads
abbrev pub weights_on : GameModel → ℕ → List ℕ → History → List ℕ
weights_on g seat table h = weights_at (game_actions g seat) table (set_number g seat (seen g seat h))

-- one step: seat 1 draws, then seat 2, then chance
abbrev pub walked_on : GameModel → (table1 table2 : List ℕ) → History → Words → Result (History × Words) ℕ
walked_on g table1 table2 h ws =
    chosen (weights_on g 1 table1 h) ws >>= λ a. chosen (weights_on g 2 table2 h) a.1 >>= λ b.
    chosen (map (λ o. o.weight) (row_of (place_of g h) a.0 b.0)) b.1 >>= λ c. Ok (h ++ record { action1 = a.0; action2 = b.0; outcome = c.0 } ∷ [], c.1)

-- at most n steps on, to an end
abbrev pub walk_within : ℕ → GameModel → (table1 table2 : List ℕ) → History → Words → Result (History × Words) ℕ
walk_within zero g table1 table2 h ws = Ok (h, ws)
walk_within (suc n) g table1 table2 h ws =
    if is_world (place_of g h) then (walked_on g table1 table2 h ws >>= λ r. walk_within n g table1 table2 r.0 r.1) else Ok (h, ws)

-- the walk from the root to an end, and the words after it; or how many words are needed
abbrev pub walk : GameModel → (table1 table2 words : List ℕ) → Result (History × Words) ℕ
walk g table1 table2 words = walk_within g.horizon g table1 table2 [] (record { left = words; used = 0 })

-- ---- rounds

-- the next n words of a stream
abbrev pub next_words : ℕ → Stream → List ℕ
next_words zero s = []
next_words (suc n) s = (next_u64 s).0 ∷ next_words n (next_u64 s).1

-- the stream after n words
abbrev pub behind_words : ℕ → Stream → Stream
behind_words zero s = s
behind_words (suc n) s = behind_words n (next_u64 s).1

-- what a walk pays, and the stream after it
abbrev pub walk_pays : GameModel → Stream → Result (History × Words) ℕ → ℤ × Stream
walk_pays g s (Ok r) = (payoff g r.0, behind_words r.1.used s)
walk_pays g s (Err needed) = (pos 0, s)

-- one round on a stream: a step takes three words at most
abbrev pub round_on : GameModel → (table1 table2 : List ℕ) → Stream → ℤ × Stream
round_on g table1 table2 s = walk_pays g s (walk g table1 table2 (next_words (3 * g.horizon) s))

-- what n rounds on a stream pay seat 1 together
abbrev pub rounds_pay : ℕ → GameModel → (table1 table2 : List ℕ) → Stream → ℤ
rounds_pay zero g table1 table2 s = pos 0
rounds_pay (suc n) g table1 table2 s =
    let r = round_on g table1 table2 s in
    r.0 +ℤ rounds_pay n g table1 table2 r.1

-- the words of the generator with a seed of 64 bits
abbrev pub pcg64_stream : ℕ → Stream
pcg64_stream seed = stream_of (steps_u64_low pcg64) (pcg64_of_seed (pcg32_seed 32 seed))
