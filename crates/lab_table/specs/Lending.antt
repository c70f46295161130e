-- What a table is once weights that were lent are back.
use Rattle.std.specs.Prelude.{ℕ, List, ◌++◌, take, drop, length}
use Rattle.std.specs.Borrow.{Lends, MutBor, Fml, Array, u32}
use Rattle.lab_defs_value.specs.Tables.{first_weight}
use Rattle.lab_table.specs.Tables.{TableValue}
use Rattle.lab_table.specs.contracts.table.Table.{the_row}

-- as many numbers as before, with these first
abbrev pub refilled : List ℕ → List ℕ → List ℕ
refilled xs ws = take (length xs) (ws ++ drop (length ws) xs)

-- these numbers from a place on, and as many numbers as before
abbrev pub with_run : List ℕ → ℕ → List ℕ → List ℕ
with_run xs from ws = refilled xs (take from xs ++ (ws ++ drop (length ws) (drop from xs)))

-- the table with these weights from the first one of a set on
abbrev pub with_window : TableValue → ℕ → List ℕ → TableValue
with_window t set ws = record { actions = t.actions; weights = with_run t.weights (first_weight t.actions set) ws }

-- the table ends with the weights that are left in what was lent, from the first one of a set on
abbrev pub LendsWindow : MutBor TableValue → ℕ → MutBor (List ℕ) → Fml
LendsWindow t set r = Lends the_row (Array u32 0) t r (with_window t.now set)
