-- A later beginning leaves out the first bytes.
use Rattle.std.proofs.Common.{arith, length-drop}
use Rattle.std.proofs.lemmas.List.{length-take}
use Rattle.lab_io.proofs.Givings.{slice_range-drop}
use Rattle.lab_io.proofs.read_ahead.ReadAhead.skip.Goals as goal

pub returns : goal.returns
returns c =
    let fits = simp (length-take, length-drop) at (rw (← c.self.view_is) at c.requires) in
    let order = c.self.invariant in
    rw (← c.self.view_is) (slice_range-drop c.self.inside.buffer.items c.self.inside.from c.self.inside.to c.args.count (omega arith))
