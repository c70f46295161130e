-- The parts of a text are no more than its bytes.
use Rattle.std.proofs.Common.{◌≡◌, ℕ, ◌+◌, ◌^◌, ◌<◌, ◌≤◌, true, List, [], ◌∷◌, ◌++◌, length, Ok, refl, ap, arith, length-append}
use Rattle.std.proofs.lemmas.Bool.{lt-ltb}
use lib.Chars.{codes}
use Rattle.lab_math.specs.Sums.{sum_over}
use Rattle.lab_math.proofs.NaturalSums.{sum_over-append}
use Rattle.lab_defs_text.specs.Words.{Bytes}
use Rattle.lab_defs_text.specs.Lines.{Line, one_line, two_line, row_line, to_line, root_line, done_line, joined, bytes_of, text_of}
use Rattle.lab_defs_text.specs.Drafts.{Draft, PartPlace, part_world, part_end, PartRow, PartOutcome, parts_of}
use Rattle.lab_defs_text.specs.Reading.{done_kind}
use Rattle.lab_defs_text.proofs.PartsLemmas.{parts_sound}
use Rattle.lab_defs_text.proofs.SoFarLemmas.{outcomes_lines, rows_lines, part_lines, parts_lines, front, so_far}
use Rattle.lab_world.specs.Sizes.{row_size, place_size, sizes_ok}

-- how many actions, rows and outcomes a line declares
abbrev line_size : Line → ℕ
line_size (one_line ns) = length ns
line_size (two_line ns) = length ns
line_size (row_line a b) = 1
line_size (to_line w n x y p) = 1
line_size _ = 0

-- each word after the first one takes a byte
words_most : (w : Bytes) (ns : List Bytes) → length ns ≤ length (joined (w ∷ ns))
words_most w [] = omega arith
words_most w (n ∷ ns) =
    let rest = words_most n ns in
    let all = length-append w (32 ∷ joined (n ∷ ns)) in
    omega (arith, rest, all)

-- a line with its line feed has a byte for each that it declares
line_most : (l : Line) → line_size l ≤ length (bytes_of l) + 1
line_most (one_line ns) = let most = words_most (codes "one") ns in omega (arith, most)
line_most (two_line ns) = let most = words_most (codes "two") ns in omega (arith, most)
line_most (row_line a b) = omega arith
line_most (to_line w n x y p) = omega arith
line_most _ = omega arith

-- likewise lines
lines_most : (ls : List Line) → sum_over line_size ls ≤ length (text_of ls)
lines_most [] = omega arith
lines_most (l ∷ ls) =
    let first = line_most l in
    let rest = lines_most ls in
    let all = length-append (bytes_of l) (10 ∷ text_of ls) in
    omega (arith, first, rest, all)

-- outcomes by their lines
outcomes_size : (os : List PartOutcome) → sum_over line_size (outcomes_lines os) ≡ length os
outcomes_size [] = refl
outcomes_size (o ∷ os) = omega (arith, outcomes_size os)

-- rows by their lines
rows_size : (rs : List PartRow) → sum_over line_size (rows_lines rs) ≡ sum_over row_size rs
rows_size [] = refl
rows_size (r ∷ rs) = omega (arith, sum_over-append line_size (outcomes_lines r.outcomes) (rows_lines rs), outcomes_size r.outcomes, rows_size rs)

-- a place by its lines
part_size : (p : PartPlace) → sum_over line_size (part_lines p) ≡ place_size p
part_size (part_world w) = omega (arith, rows_size w.rows)
part_size (part_end n line z) = refl

-- places by their lines
parts_size : (ps : List PartPlace) → sum_over line_size (parts_lines ps) ≡ sum_over place_size ps
parts_size [] = refl
parts_size (p ∷ ps) = omega (arith, sum_over-append line_size (part_lines p) (parts_lines ps), part_size p, parts_size ps)

-- the places of a draft by all its lines
draft_most : (d : Draft) → sum_over place_size d.places ≤ length (text_of (so_far done_kind d))
draft_most d =
    let rest = root_line d.root ∷ done_line ∷ [] in
    let all = lines_most (so_far done_kind d) in
    let head = sum_over-append line_size (front d) (parts_lines d.places ++ rest) in
    let places = sum_over-append line_size (parts_lines d.places) rest in
    omega (arith, all, head, places, parts_size d.places)

-- the parts of a text of fewer than 2 ^ 32 bytes have sizes that fit
pub read_sizes : (bytes : Bytes) (d : Draft) → length bytes < 2 ^ 32 → parts_of bytes ≡ Ok d → sizes_ok d.places ≡ true
read_sizes bytes d short e =
    let most = draft_most d in
    let text = ap length (parts_sound bytes d e).text in
    lt-ltb (sum_over place_size d.places) (2 ^ 32) (omega (arith, short, most, text))
