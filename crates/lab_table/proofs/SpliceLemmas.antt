-- What is left in lent weights is spliced in.
use Rattle.std.proofs.Common.{◌≡◌, ℕ, ◌+◌, ◌≤◌, List, ◌++◌, length, take, drop, sym, ap, ◌∙◌, arith, append_assoc, length-drop}
use Rattle.std.proofs.Math.Seq.{take-length, drop-length}
use Rattle.std.proofs.lemmas.List.{append-nil, length-append, length-take-le, drop-drop}
use Rattle.lab_defs_value.specs.Tables.{first_weight}
use Rattle.lab_defs_value.specs.Splices.{FitsSpan, spliced}
use Rattle.lab_table.specs.Tables.{TableValue}
use Rattle.lab_table.specs.Lending.{with_run, with_window}
use Rattle.lab_table.proofs.PlaceLemmas.{first_le}

-- as many numbers as stand between two places are put there
run_is : (xs ws : List ℕ) (a b : ℕ) → a + length ws ≡ b → b ≤ length xs → with_run xs a ws ≡ take a xs ++ ws ++ drop b xs
run_is xs ws a b e l =
    let rest = drop (length ws) (drop a xs) in
    let whole = take a xs ++ (ws ++ rest) in
    let rest_is : rest ≡ drop b xs = drop-drop (length ws) a xs ∙ ap (λ n. drop n xs) e in
    let long : length whole ≡ length xs =
    omega (arith, l, e, length-append (take a xs) (ws ++ rest), length-append ws rest, length-take-le a xs (omega (arith, l, e)), ap length rest_is, length-drop b xs) in
    ap (λ n. take (length xs) (whole ++ drop n xs)) long
    ∙ ap (λ t. take (length xs) (whole ++ t)) (drop-length xs)
    ∙ ap (take (length xs)) (append-nil whole)
    ∙ ap (λ n. take n whole) (sym long)
    ∙ take-length whole
    ∙ ap (λ t. take a xs ++ (ws ++ t)) rest_is
    ∙ sym (append_assoc (take a xs) ws (drop b xs))

-- a table with other weights in a window is the table with these spliced in
pub window_spliced : (t : TableValue) (from to : ℕ) (ws : List ℕ) → FitsSpan t.actions from to t.weights ws
    → with_window t from ws ≡ record { actions = t.actions; weights = spliced t.actions from to t.weights ws }
window_spliced t from to ws fits =
    let within : first_weight t.actions to ≤ length t.weights = omega (arith, first_le t.actions to (length t.actions) fits.within, fits.whole) in
    ap (λ xs. record { actions = t.actions; weights = xs }) (run_is t.weights ws (first_weight t.actions from) (first_weight t.actions to) fits.part within)
