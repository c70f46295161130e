-- The commands of a session, and the lines that give them.
use Rattle.std.specs.Prelude.{ℕ, ◌+◌, List, [], ◌∷◌, Bool, true, Result, Ok, Err, ◌==◌, if◌then◌else◌}
use Rattle.std.specs.Str.{bytes_eq}
use lib.Chars.{codes}
use Rattle.lab_defs_text.specs.Words.{Bytes, words, first_empty}
use Rattle.lab_defs_text.specs.Faults.{LineFault, lexical, bad_space_at, bad_word_at}
use Rattle.lab_defs_text.specs.Steps.{◌>>=◌}
use Rattle.lab_defs_text.specs.Reading.{miscounted, one_word, number_at}
use Rattle.lab_defs_value.specs.Allowances.{Rule, cfrd, margin, reach}

-- a command of a session
pub data Command : Type 0 where
  expect_uniform : Command
  expect : Command
  blueprint_uniform : Command
  blueprint_given : (weights : List ℕ) → Command
  blueprint_solve : (rounds : ℕ) → Command
  bound : (seat : ℕ) → Command
  show : (seat : ℕ) → Command
  propose : (seat node : ℕ) (rule : Rule) (weights : List ℕ) → Command
  resolve : (seat node : ℕ) (rule : Rule) (rounds : ℕ) → Command
  cert : (seat : ℕ) → Command
  deal : (draws : List ℕ) → Command
  play : (rounds seed : ℕ) → Command

-- the word of a rule
abbrev pub rule_word : Rule → Bytes
rule_word cfrd = codes "cfrd"
rule_word margin = codes "margin"
rule_word reach = codes "reach"

-- a number of 32 bits
abbrev pub small_at : ℕ → Bytes → Result ℕ LineFault
small_at place word = number_at place 0 4294967295 word

-- numbers, the first of them at the place
abbrev pub smalls_at : ℕ → List Bytes → Result (List ℕ) LineFault
smalls_at place [] = Ok []
smalls_at place (w ∷ ws) = small_at place w >>= λ n. smalls_at (place + 1) ws >>= λ ns. Ok (n ∷ ns)

-- a number of 64 bits
abbrev pub draw_at : ℕ → Bytes → Result ℕ LineFault
draw_at place word = number_at place 0 18446744073709551615 word

-- such numbers, the first of them at the place
abbrev pub draws_at : ℕ → List Bytes → Result (List ℕ) LineFault
draws_at place [] = Ok []
draws_at place (w ∷ ws) = draw_at place w >>= λ n. draws_at (place + 1) ws >>= λ ns. Ok (n ∷ ns)

-- a rule
abbrev pub rule_at : ℕ → Bytes → Result Rule LineFault
rule_at place word =
    if bytes_eq word (codes "cfrd") then Ok cfrd else if bytes_eq word (codes "margin") then Ok margin
    else if bytes_eq word (codes "reach") then Ok reach else Err (bad_word_at place)

-- no word more, after n words and the first
abbrev pub ends_behind : ℕ → List Bytes → Result Bool LineFault
ends_behind n [] = Ok true
ends_behind n (w ∷ ws) = Err (bad_word_at (n + 2))

-- ---- each command by the words after its first

-- `expect`, or `expect uniform`
abbrev pub expect_of : List Bytes → Result Command LineFault
expect_of [] = Ok expect
expect_of (w ∷ ws) = if bytes_eq w (codes "uniform") then (ends_behind 1 ws >>= λ x. Ok expect_uniform) else Err (bad_word_at 2)

-- `blueprint solve` with its number of rounds
abbrev pub solve_of : List Bytes → Result Command LineFault
solve_of [] = Err (bad_word_at 3)
solve_of (w ∷ ws) = ends_behind 2 ws >>= λ x. small_at 3 w >>= λ n. Ok (blueprint_solve n)

-- `blueprint uniform`, `blueprint given` or `blueprint solve`
abbrev pub blueprint_of : List Bytes → Result Command LineFault
blueprint_of [] = Err (bad_word_at 2)
blueprint_of (w ∷ ws) =
    if bytes_eq w (codes "uniform") then (ends_behind 1 ws >>= λ x. Ok blueprint_uniform)
    else if bytes_eq w (codes "given") then (smalls_at 3 ws >>= λ ns. Ok (blueprint_given ns))
    else if bytes_eq w (codes "solve") then solve_of ws else Err (bad_word_at 2)

-- `bound` with its seat
abbrev pub bound_of : List Bytes → Result Command LineFault
bound_of ws = one_word ws >>= λ w. small_at 2 w >>= λ seat. Ok (bound seat)

-- `show` with its seat
abbrev pub show_of : List Bytes → Result Command LineFault
show_of ws = one_word ws >>= λ w. small_at 2 w >>= λ seat. Ok (show seat)

-- three words, and those after them
abbrev pub three_and_more : List Bytes → Result (Bytes × Bytes × Bytes × List Bytes) LineFault
three_and_more (a ∷ b ∷ c ∷ ws) = Ok (a, b, c, ws)
three_and_more ws = miscounted 3 ws

-- `propose` with its seat, node, rule and weights
abbrev pub propose_of : List Bytes → Result Command LineFault
propose_of ws =
    three_and_more ws >>= λ a. small_at 2 a.0 >>= λ seat. small_at 3 a.1 >>= λ node. rule_at 4 a.2 >>= λ rule. smalls_at 5 a.3 >>= λ ns. Ok (propose seat node rule ns)

-- four words
abbrev pub four_words : List Bytes → Result (Bytes × Bytes × Bytes × Bytes) LineFault
four_words (a ∷ b ∷ c ∷ d ∷ []) = Ok (a, b, c, d)
four_words ws = miscounted 4 ws

-- `resolve` with its seat, node, rule and number of rounds
abbrev pub resolve_of : List Bytes → Result Command LineFault
resolve_of ws =
    four_words ws >>= λ a. small_at 2 a.0 >>= λ seat. small_at 3 a.1 >>= λ node. rule_at 4 a.2 >>= λ rule. small_at 5 a.3 >>= λ rounds. Ok (resolve seat node rule rounds)

-- `cert` with its seat
abbrev pub cert_of : List Bytes → Result Command LineFault
cert_of ws = one_word ws >>= λ w. small_at 2 w >>= λ seat. Ok (cert seat)

-- `deal` with its words to draw with
abbrev pub deal_of : List Bytes → Result Command LineFault
deal_of ws = draws_at 2 ws >>= λ ns. Ok (deal ns)

-- the number of its line is the seed
abbrev pub play_of : ℕ → List Bytes → Result Command LineFault
play_of number ws = one_word ws >>= λ w. number_at 2 1 65536 w >>= λ n. Ok (play n number)

-- a command by its words, on the command line with a number
abbrev pub command_of : ℕ → List Bytes → Result Command LineFault
command_of number [] = Err (bad_word_at 1)
command_of number (w ∷ ws) =
    if bytes_eq w (codes "expect") then expect_of ws else if bytes_eq w (codes "blueprint") then blueprint_of ws
    else if bytes_eq w (codes "bound") then bound_of ws else if bytes_eq w (codes "show") then show_of ws
    else if bytes_eq w (codes "propose") then propose_of ws else if bytes_eq w (codes "resolve") then resolve_of ws
    else if bytes_eq w (codes "cert") then cert_of ws else if bytes_eq w (codes "deal") then deal_of ws
    else if bytes_eq w (codes "play") then play_of number ws else Err (bad_word_at 1)

-- a command by the bytes of its line; command lines count from 1
abbrev pub command_at : ℕ → Bytes → Result Command LineFault
command_at number line = if first_empty 1 (words line) == 0 then command_of number (words line) else Err (lexical (bad_space_at (first_empty 1 (words line))))
