-- Where the reader stops, it has taken what it gave and what is read ahead.
use Rattle.std.proofs.Common.{◌≡◌, ◌++◌, arith, length-append, append-nil}
use Rattle.std.proofs.lemmas.Grind.{common_steps}
use Rattle.lab_io.proofs.Givings.{Takes-ahead, Takes-rest}
use Rattle.lab_io.proofs.Stops.{StoppedAfter-given}
use Rattle.lab_io.proofs.line_reader.read_to_end.Goals as goal

pub returns-in_default-clause-stop : goal.returns-in_default-clause-stop
returns-in_default-clause-stop g c =
    let kept = c.loop-count.bytes.ok in
    StoppedAfter-given _ (Takes-ahead c.loop-count.invariant.given c.in_default.ensures.bytes) (omega arith) c.in_default.ensures.short (rw (c.in_default.ensures.none, append-nil) (omega arith))

pub returns-then-count-allowance-clause-stop : goal.returns-then-count-allowance-clause-stop
returns-then-count-allowance-clause-stop g c =
    let kept = c.loop-count.bytes.ok in
    let len = c.len.ensures in
    StoppedAfter-given _ (Takes-ahead c.loop-count.invariant.given c.in-Ok.ensures.bytes) (omega arith) c.in-Ok.ensures.short (rw length-append (omega (arith, c.in-Ok.ensures.count)))

pub returns-then-is_err-clause-stop : goal.returns-then-is_err-clause-stop
returns-then-is_err-clause-stop g c =
    let kept = c.loop-count.bytes.ok in
    let len = c.len.ensures in
    StoppedAfter-given _ (Takes-ahead c.loop-count.invariant.given c.in-Ok.ensures.bytes) (omega arith) c.in-Ok.ensures.short (rw length-append (omega (arith, c.in-Ok.ensures.count)))

pub loop-count-preserved : goal.loop-count-preserved
loop-count-preserved g c =
    let items : c.extend_from_slice.new.self.items ≡ c.loop-count.bytes.items ++ c.fill.new.self = grind (arith, common_steps) in
    record {
      within = grind (arith, common_steps);
      no_fault = grind (arith, common_steps);
      given = rw (c.skip.ensures, items) (Takes-rest c.in-Ok.count (Takes-ahead c.loop-count.invariant.given c.in-Ok.ensures.bytes) c.in-Ok.ensures.count);
    }
