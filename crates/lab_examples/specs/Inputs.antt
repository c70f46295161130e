-- Inputs of the worked examples.
use Rattle.std.specs.Prelude.{List, [], ◌∷◌, ◌++◌, flat_map}
use lib.Chars.{codes}
use Rattle.lab_defs_text.specs.Words.{Bytes}

-- lines, each ended by a line feed
abbrev pub text : List Bytes → Bytes
text ls = flat_map (λ l. l ++ (10 ∷ [])) ls

-- the words of the mode `session`
abbrev pub session : List Bytes
session = codes "session" ∷ []

-- the words of the mode `check`
abbrev pub check : List Bytes
check = codes "check" ∷ []

-- the words of the mode `verify`
abbrev pub verify : List Bytes
verify = codes "verify" ∷ []

-- the words of the mode `print`
abbrev pub print : List Bytes
print = codes "print" ∷ []

-- the lines of matching pennies on the grid that a word spells
abbrev pub pennies_lines : Bytes → List Bytes
pennies_lines grid =
    codes "fosg 1" ∷ (codes "grid " ++ grid) ∷ codes "horizon 1" ∷ codes "memory acts" ∷ codes "token -"
    ∷ codes "world toss" ∷ codes "one s1 s2" ∷ codes "two s1 s2"
    ∷ codes "row s1 s1" ∷ codes "to 1 win - - -" ∷ codes "row s1 s2" ∷ codes "to 1 lose - - -"
    ∷ codes "row s2 s1" ∷ codes "to 1 lose - - -" ∷ codes "row s2 s2" ∷ codes "to 1 win - - -"
    ∷ codes "end win 1" ∷ codes "end lose -1" ∷ codes "root toss" ∷ codes "done" ∷ []

-- matching pennies on the grid that a word spells
abbrev pub pennies : Bytes → Bytes
pennies grid = text (pennies_lines grid)

-- seat 2 may take 1 at once or go in and get a private colour; seat 1 then chooses unseeing
abbrev pub fork : Bytes
fork = text (codes "fosg 1" ∷ codes "grid 3" ∷ codes "horizon 2" ∷ codes "memory acts"
    ∷ codes "token -" ∷ codes "token in" ∷ codes "token out" ∷ codes "token red" ∷ codes "token blue"
    ∷ codes "world start" ∷ codes "one ." ∷ codes "two out in" ∷ codes "row . out" ∷ codes "to 1 lose - - out"
    ∷ codes "row . in" ∷ codes "to 1 warm - red in" ∷ codes "to 1 cold - blue in"
    ∷ codes "world warm" ∷ codes "one l r" ∷ codes "two ." ∷ codes "row l ." ∷ codes "to 1 lose - - -" ∷ codes "row r ." ∷ codes "to 1 win - - -"
    ∷ codes "world cold" ∷ codes "one l r" ∷ codes "two ." ∷ codes "row l ." ∷ codes "to 1 lose - - -" ∷ codes "row r ." ∷ codes "to 1 tie - - -"
    ∷ codes "end win 1" ∷ codes "end lose -1" ∷ codes "end tie 0" ∷ codes "root start" ∷ codes "done" ∷ [])
