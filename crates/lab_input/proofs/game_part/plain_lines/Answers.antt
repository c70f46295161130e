-- The first bytes are plain lines at each turn, and one more is found.
use Rattle.std.proofs.Common.{drop, arith}
use Rattle.std.proofs.lemmas.List.{length-drop, take_rest}
use Rattle.lab_input.proofs.PlainLemmas.{plain_more, plain_some, plain_within}
use Rattle.lab_input.proofs.game_part.plain_lines.Goals as goal

pub overflow_add-count : goal.overflow_add-count
overflow_add-count c =
    let some = plain_some (drop c.loop-length.taken c.args.bytes.now) c.in-Some.length (rw take_rest at c.in-Some.ensures.line) in
    let within = rw take_rest at c.in-Some.ensures.within in
    let few = plain_within c.args.bytes.now c.loop-length.taken c.loop-length.count c.loop-length.invariant.within c.loop-length.invariant.lines in
    omega (arith, some, within, few, length-drop c.loop-length.taken c.args.bytes.now, c.loop-length.invariant.within)

pub loop-length-smaller : goal.loop-length-smaller
loop-length-smaller c =
    let some = plain_some (drop c.loop-length.taken c.args.bytes.now) c.in-Some.length (rw take_rest at c.in-Some.ensures.line) in
    let within = rw take_rest at c.in-Some.ensures.within in
    omega (arith, some, within, length-drop c.loop-length.taken c.args.bytes.now, c.loop-length.invariant.within)

pub loop-length-preserved : goal.loop-length-preserved
loop-length-preserved c = record {
  within = let within = rw take_rest at c.in-Some.ensures.within in omega (arith, within, length-drop c.loop-length.taken c.args.bytes.now, c.loop-length.invariant.within);
  lines = plain_more c.args.bytes.now c.loop-length.taken c.in-Some.length c.loop-length.count c.loop-length.invariant.lines (rw take_rest at c.in-Some.ensures.line);
}
