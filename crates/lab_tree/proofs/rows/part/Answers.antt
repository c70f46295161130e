use Rattle.std.proofs.Common.{◌∙◌, sym, arith}
use Rattle.lab_tree.proofs.Parts.{part_at}
use Rattle.lab_tree.proofs.rows.part.Goals as goal

pub between-requires-clause-from : goal.between-requires-clause-from
between-requires-clause-from c = omega (arith, (part_at c.args.starts.now c.args.items.now c.args.number c.requires.cuts c.requires.there).there)

pub between-requires-clause-to : goal.between-requires-clause-to
between-requires-clause-to c = (part_at c.args.starts.now c.args.items.now c.args.number c.requires.cuts c.requires.there).there

pub between-requires-clause-order : goal.between-requires-clause-order
between-requires-clause-order c = (part_at c.args.starts.now c.args.items.now c.args.number c.requires.cuts c.requires.there).order

pub between-requires-clause-end : goal.between-requires-clause-end
between-requires-clause-end c = (part_at c.args.starts.now c.args.items.now c.args.number c.requires.cuts c.requires.there).end

pub overflow_add-number : goal.overflow_add-number
overflow_add-number c = omega (arith, (part_at c.args.starts.now c.args.items.now c.args.number c.requires.cuts c.requires.there).there, c.type_inv.starts)

pub returns : goal.returns
returns c = c.between.ensures ∙ sym (part_at c.args.starts.now c.args.items.now c.args.number c.requires.cuts c.requires.there).is
