-- Texts of small games, and matching pennies with lines changed.
use Rattle.std.specs.Prelude.{ℕ, [], ◌∷◌, ◌++◌, ◌-◌, take, drop}
use lib.Chars.{codes}
use Rattle.lab_defs_text.specs.Words.{Bytes}
use Rattle.lab_examples.specs.Faulty.{replaced}
use Rattle.lab_examples.specs.Inputs.{text, pennies_lines}

-- four steps with no choice, each of weight 65536, to the payoff that a word spells
abbrev pub chain : Bytes → Bytes
chain payoff = text (codes "fosg 1" ∷ codes "grid 2" ∷ codes "horizon 4" ∷ codes "memory acts" ∷ codes "token -" ∷ codes "world a"
    ∷ codes "one ." ∷ codes "two ." ∷ codes "row . ." ∷ codes "to 65536 b - - -" ∷ codes "world b" ∷ codes "one ."
    ∷ codes "two ." ∷ codes "row . ." ∷ codes "to 65536 c - - -" ∷ codes "world c" ∷ codes "one ." ∷ codes "two ."
    ∷ codes "row . ." ∷ codes "to 65536 d - - -" ∷ codes "world d" ∷ codes "one ." ∷ codes "two ." ∷ codes "row . ."
    ∷ codes "to 65536 e - - -" ∷ (codes "end e " ++ payoff) ∷ codes "root a" ∷ codes "done" ∷ [])

-- five steps with no choice, four of weight 1048576 and one of the weight that a word spells, to a payoff of 1
abbrev pub long_chain : Bytes → Bytes
long_chain weight = text (codes "fosg 1" ∷ codes "grid 2" ∷ codes "horizon 5" ∷ codes "memory acts" ∷ codes "token -" ∷ codes "world a"
    ∷ codes "one ." ∷ codes "two ." ∷ codes "row . ." ∷ codes "to 1048576 b - - -" ∷ codes "world b" ∷ codes "one ."
    ∷ codes "two ." ∷ codes "row . ." ∷ codes "to 1048576 c - - -" ∷ codes "world c" ∷ codes "one ." ∷ codes "two ."
    ∷ codes "row . ." ∷ codes "to 1048576 d - - -" ∷ codes "world d" ∷ codes "one ." ∷ codes "two ." ∷ codes "row . ."
    ∷ codes "to 1048576 e - - -" ∷ codes "world e" ∷ codes "one ." ∷ codes "two ." ∷ codes "row . ." ∷ (codes "to " ++ (weight ++ codes " f - - -"))
    ∷ codes "end f 1" ∷ codes "root a" ∷ codes "done" ∷ [])

-- seat 1 chooses between rows whose weights come to 2 and to 4
abbrev pub uneven_rows : Bytes
uneven_rows = text (codes "fosg 1" ∷ codes "grid 2" ∷ codes "horizon 1" ∷ codes "memory acts" ∷ codes "token -" ∷ codes "world start"
    ∷ codes "one a b" ∷ codes "two ." ∷ codes "row a ." ∷ codes "to 1 win - - -" ∷ codes "to 1 lose - - -"
    ∷ codes "row b ." ∷ codes "to 1 win - - -" ∷ codes "to 3 lose - - -" ∷ codes "end win 1" ∷ codes "end lose -1"
    ∷ codes "root start" ∷ codes "done" ∷ [])

-- a world that leads back to itself
abbrev pub loop : Bytes
loop = text (codes "fosg 1" ∷ codes "grid 2" ∷ codes "horizon 3" ∷ codes "memory acts" ∷ codes "token -" ∷ codes "world a"
    ∷ codes "one ." ∷ codes "two ." ∷ codes "row . ." ∷ codes "to 1 a - - -" ∷ codes "root a" ∷ codes "done" ∷ [])

-- a world that leads back to itself twice at each step, 32 steps being allowed
abbrev pub doubling : Bytes
doubling = text (codes "fosg 1" ∷ codes "grid 2" ∷ codes "horizon 32" ∷ codes "memory acts" ∷ codes "token -" ∷ codes "world a"
    ∷ codes "one ." ∷ codes "two ." ∷ codes "row . ." ∷ codes "to 1 a - - -" ∷ codes "to 1 a - - -" ∷ codes "root a"
    ∷ codes "done" ∷ [])

-- seat 1 cannot tell two worlds apart whose actions differ
abbrev pub differs : Bytes
differs = text (codes "fosg 1" ∷ codes "grid 2" ∷ codes "horizon 2" ∷ codes "memory acts" ∷ codes "token -" ∷ codes "world start"
    ∷ codes "one ." ∷ codes "two ." ∷ codes "row . ." ∷ codes "to 1 x - - -" ∷ codes "to 1 y - - -" ∷ codes "world x"
    ∷ codes "one l r" ∷ codes "two ." ∷ codes "row l ." ∷ codes "to 1 e - - -" ∷ codes "row r ." ∷ codes "to 1 e - - -"
    ∷ codes "world y" ∷ codes "one l" ∷ codes "two ." ∷ codes "row l ." ∷ codes "to 1 e - - -" ∷ codes "end e 0"
    ∷ codes "root start" ∷ codes "done" ∷ [])

-- seat 1 chooses between two actions that lead to one world, with the memory that a word spells
abbrev pub forgets : Bytes → Bytes
forgets memory = text (codes "fosg 1" ∷ codes "grid 2" ∷ codes "horizon 2" ∷ (codes "memory " ++ memory) ∷ codes "token -" ∷ codes "world start"
    ∷ codes "one a b" ∷ codes "two ." ∷ codes "row a ." ∷ codes "to 1 x - - -" ∷ codes "row b ." ∷ codes "to 1 x - - -"
    ∷ codes "world x" ∷ codes "one ." ∷ codes "two ." ∷ codes "row . ." ∷ codes "to 1 e - - -" ∷ codes "end e 0"
    ∷ codes "root start" ∷ codes "done" ∷ [])

-- matching pennies on a grid of 2 with another line in place of line n
abbrev pub pennies_with : ℕ → Bytes → Bytes
pennies_with n line = text (replaced n line (pennies_lines (codes "2")))

-- the first n lines of matching pennies on a grid of 2
abbrev pub pennies_first : ℕ → Bytes
pennies_first n = text (take n (pennies_lines (codes "2")))

-- matching pennies on a grid of 2 without the lines from m to n
abbrev pub pennies_without : ℕ → ℕ → Bytes
pennies_without m n = text (take (m - 1) (pennies_lines (codes "2")) ++ drop n (pennies_lines (codes "2")))

-- matching pennies on a grid of 2, the second row before the first
abbrev pub pennies_out_of_order : Bytes
pennies_out_of_order =
    text (take 8 (pennies_lines (codes "2"))
    ++ take 2 (drop 10 (pennies_lines (codes "2")))
    ++ take 2 (drop 8 (pennies_lines (codes "2")))
    ++ drop 12 (pennies_lines (codes "2")))
