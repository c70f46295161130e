use Rattle.std.proofs.Common.{◌≡◌, ◌+◌, List, true, map, drop, get_or, [], subst, arith}
use Rattle.std.specs.Borrow.{Bor}
use Rattle.std.proofs.lemmas.Bool.{both_ways}
use Rattle.std.proofs.lemmas.List.{drop_more}
use Rattle.lab_defs_text.specs.Words.{Bytes, apart_after, stands_in}
use Rattle.lab_lex.specs.Names.{name_bytes}
use Rattle.lab_world.proofs.ActionNameLemmas.{stands_at, apart_first}
use Rattle.lab_world.proofs.placed.table_of.Goals as goal

pub unreachable-requires : goal.unreachable-requires
unreachable-requires c =
    let was = c.in-Err-Twice.ensures.twice c.in-Err-Twice.field-0-0 c.in-Err-Twice.field-0-is in
    let none : Bor Bytes = record { ref_ptr = (0, 0); now = [] } in
    let item = get_or c.args.names.now c.loop-i.i none in
    let rest = drop (c.loop-i.i + 1) c.args.names.now in
    let there = (stands_at (name_bytes item) c.loop-i.table c.in-Err-Twice.field-0-0 was).stands in
    let here = drop_more c.args.names.now c.loop-i.i none (omega (arith, c.loop-i-test.true)) in
    let apart = subst (λ (xs : List (Bor Bytes)). apart_after c.loop-i.table (map name_bytes xs) ≡ true) here c.loop-i.invariant.apart in
    let new = apart_first c.loop-i.table (name_bytes item) (map name_bytes rest) apart in
    both_ways (stands_in (name_bytes item) c.loop-i.table) new there
