-- How many weights a command line can give.
use Rattle.std.proofs.Common.{◌≡◌, ℕ, ◌+◌, ◌≤◌, Bool, true, false, List, [], ◌∷◌, length, Result, Ok, Err, refl, subst, arith}
use Rattle.std.specs.Prelude.{if◌then◌else◌, IfOk, ◌==◌}
use Rattle.std.specs.Str.{bytes_eq}
use Rattle.std.proofs.lemmas.List.Splits.{length-slice_split}
use Rattle.std.proofs.lemmas.List.Sums.{count_by-le-length}
use lib.Chars.{codes}
use Rattle.lab_defs_text.specs.Faults.{LineFault, lexical, bad_space_at}
use Rattle.lab_defs_text.specs.Reading.{one_word, number_at}
use Rattle.lab_defs_text.specs.Steps.{◌>>=◌}
use Rattle.lab_defs_text.specs.Words.{Bytes, words, first_empty}
use Rattle.lab_defs_report.specs.Commands.{Command, expect_uniform, expect, blueprint_uniform, blueprint_given, blueprint_solve, bound, show, propose, resolve, cert, deal, play, small_at, smalls_at, draws_at, rule_at, ends_behind, three_and_more, four_words, expect_of, solve_of, blueprint_of, propose_of, resolve_of, command_of, command_at}
use Rattle.lab_cli.specs.CommandStops.{GivesFew}

-- a command that is found gives at most so many weights
abbrev FewWeights : ℕ → Command → Type 0
FewWeights n (blueprint_given ws) = length ws ≤ n
FewWeights n _ = Unit {0}

abbrev FewFound : ℕ → Result Command LineFault → Type 0
FewFound n r = IfOk r (FewWeights n)

-- by a test
few_if : (n : ℕ) (b : Bool) (x y : Result Command LineFault) → FewFound n x → FewFound n y → FewFound n (if b then x else y)
few_if n true x y h k = h
few_if n false x y h k = k

-- after a step
few_then : {A : Type 0} (n : ℕ) (r : Result A LineFault) (f : A → Result Command LineFault) → ((x : A) → FewFound n (f x)) → FewFound n (r >>= f)
few_then n (Ok x) f h = h x
few_then n (Err e) f h = tt

-- as many numbers as words
smalls_many : (place : ℕ) (ws : List Bytes) → IfOk (smalls_at place ws) (λ ns. length ns ≡ length ws)
smalls_many place [] = refl
smalls_many place (w ∷ ws) = at (small_at place w) (smalls_at (place + 1) ws) (smalls_many (place + 1) ws)
  where
    at : (r : Result ℕ LineFault) (rs : Result (List ℕ) LineFault) → IfOk rs (λ ns. length ns ≡ length ws) → IfOk (r >>= λ n. rs >>= λ ns. Ok (n ∷ ns)) (λ ns. length ns ≡ length (w ∷ ws))
    at (Err e) rs h = tt
    at (Ok n) (Err e) h = tt
    at (Ok n) (Ok ns) h = omega (arith, h)

-- the weights of a blueprint
given_few : (n place : ℕ) (ws : List Bytes) → length ws ≤ n → FewFound n (smalls_at place ws >>= λ ns. Ok (blueprint_given ns))
given_few n place ws h = at (smalls_at place ws) (smalls_many place ws)
  where
    at : (rs : Result (List ℕ) LineFault) → IfOk rs (λ ns. length ns ≡ length ws) → FewFound n (rs >>= λ ns. Ok (blueprint_given ns))
    at (Err e) k = tt
    at (Ok ns) k = omega (arith, h, k)

solve_few : (n : ℕ) (ws : List Bytes) → FewFound n (solve_of ws)
solve_few n [] = tt
solve_few n (w ∷ ws) = few_then n (ends_behind 2 ws) (λ x. small_at 3 w >>= λ m. Ok (blueprint_solve m)) (λ x. few_then n (small_at 3 w) (λ m. Ok (blueprint_solve m)) (λ m. tt))

blueprint_few : (n : ℕ) (ws : List Bytes) → length ws ≤ n → FewFound n (blueprint_of ws)
blueprint_few n [] h = tt
blueprint_few n (w ∷ ws) h =
    few_if n (bytes_eq w (codes "uniform")) _ _ (few_then n (ends_behind 1 ws) (λ x. Ok blueprint_uniform) (λ x. tt))
    (few_if n (bytes_eq w (codes "given")) _ _ (given_few n 3 ws (omega (arith, h))) (few_if n (bytes_eq w (codes "solve")) _ _ (solve_few n ws) tt))

expect_few : (n : ℕ) (ws : List Bytes) → FewFound n (expect_of ws)
expect_few n [] = tt
expect_few n (w ∷ ws) = few_if n (bytes_eq w (codes "uniform")) _ _ (few_then n (ends_behind 1 ws) (λ x. Ok expect_uniform) (λ x. tt)) tt

-- no other command gives weights for all sets: those of one number
one_few : (n : ℕ) (ws : List Bytes) (read : Bytes → Result ℕ LineFault) (make : ℕ → Command) → ((m : ℕ) → FewWeights n (make m)) → FewFound n (one_word ws >>= λ w. read w >>= λ m. Ok (make m))
one_few n ws read make h = few_then n (one_word ws) (λ w. read w >>= λ m. Ok (make m)) (λ w. few_then n (read w) (λ m. Ok (make m)) h)

-- and those that name a seat, a node and a rule
propose_few : (n : ℕ) (ws : List Bytes) → FewFound n (propose_of ws)
propose_few n ws =
    few_then n (three_and_more ws) (λ a. small_at 2 a.0 >>= λ seat. small_at 3 a.1 >>= λ node. rule_at 4 a.2 >>= λ rule. smalls_at 5 a.3 >>= λ ns. Ok (propose seat node rule ns)) (λ a.
    few_then n (small_at 2 a.0) (λ seat. small_at 3 a.1 >>= λ node. rule_at 4 a.2 >>= λ rule. smalls_at 5 a.3 >>= λ ns. Ok (propose seat node rule ns)) (λ seat.
    few_then n (small_at 3 a.1) (λ node. rule_at 4 a.2 >>= λ rule. smalls_at 5 a.3 >>= λ ns. Ok (propose seat node rule ns)) (λ node.
    few_then n (rule_at 4 a.2) (λ rule. smalls_at 5 a.3 >>= λ ns. Ok (propose seat node rule ns)) (λ rule. few_then n (smalls_at 5 a.3) (λ ns. Ok (propose seat node rule ns)) (λ ns. tt)))))

resolve_few : (n : ℕ) (ws : List Bytes) → FewFound n (resolve_of ws)
resolve_few n ws =
    few_then n (four_words ws) (λ a. small_at 2 a.0 >>= λ seat. small_at 3 a.1 >>= λ node. rule_at 4 a.2 >>= λ rule. small_at 5 a.3 >>= λ rounds. Ok (resolve seat node rule rounds)) (λ a.
    few_then n (small_at 2 a.0) (λ seat. small_at 3 a.1 >>= λ node. rule_at 4 a.2 >>= λ rule. small_at 5 a.3 >>= λ rounds. Ok (resolve seat node rule rounds)) (λ seat.
    few_then n (small_at 3 a.1) (λ node. rule_at 4 a.2 >>= λ rule. small_at 5 a.3 >>= λ rounds. Ok (resolve seat node rule rounds)) (λ node.
    few_then n (rule_at 4 a.2) (λ rule. small_at 5 a.3 >>= λ rounds. Ok (resolve seat node rule rounds)) (λ rule. few_then n (small_at 5 a.3) (λ rounds. Ok (resolve seat node rule rounds)) (λ rounds. tt)))))

-- the command of words gives at most as many weights as there are words
words_few : (n number : ℕ) (ws : List Bytes) → length ws ≤ n → FewFound n (command_of number ws)
words_few n number [] h = tt
words_few n number (w ∷ ws) h =
    few_if n (bytes_eq w (codes "expect")) _ _ (expect_few n ws)
    (few_if n (bytes_eq w (codes "blueprint")) _ _ (blueprint_few n ws (omega (arith, h)))
    (few_if n (bytes_eq w (codes "bound")) _ _ (one_few n ws (small_at 2) bound (λ m. tt))
    (few_if n (bytes_eq w (codes "show")) _ _ (one_few n ws (small_at 2) show (λ m. tt))
    (few_if n (bytes_eq w (codes "propose")) _ _ (propose_few n ws)
    (few_if n (bytes_eq w (codes "resolve")) _ _ (resolve_few n ws)
    (few_if n (bytes_eq w (codes "cert")) _ _ (one_few n ws (small_at 2) cert (λ m. tt))
    (few_if n (bytes_eq w (codes "deal")) _ _ (few_then n (draws_at 2 ws) (λ ns. Ok (deal ns)) (λ ns. tt))
    (few_if n (bytes_eq w (codes "play")) _ _ (one_few n ws (number_at 2 1 65536) (λ m. play m number) (λ m. tt)) tt))))))))

-- a line has at most one word more than it has bytes
few_words : (line : Bytes) → length (words line) ≤ length line + 1
few_words line = omega (arith, length-slice_split (λ c. c == 32) line, count_by-le-length (λ c. c == 32) line)

-- so a line within its limit gives few weights
pub gives_few : (number : ℕ) (line : Bytes) (c : Command) → length line ≤ 67108864 → command_at number line ≡ Ok c → GivesFew c
gives_few number line c h e = at c (subst (FewFound (length line + 1)) e (few_if (length line + 1) (first_empty 1 (words line) == 0) (command_of number (words line)) (Err (lexical (bad_space_at (first_empty 1 (words line))))) (words_few (length line + 1) number (words line) (few_words line)) tt))
  where
    at : (c : Command) → FewWeights (length line + 1) c → GivesFew c
    at (blueprint_given ws) k = omega (arith, h, k)
    at expect_uniform k = tt
    at expect k = tt
    at blueprint_uniform k = tt
    at (blueprint_solve rounds) k = tt
    at (bound seat) k = tt
    at (show seat) k = tt
    at (propose seat node rule ws) k = tt
    at (resolve seat node rule rounds) k = tt
    at (cert seat) k = tt
    at (deal ws) k = tt
    at (play rounds seed) k = tt
