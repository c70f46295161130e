use Rattle.std.proofs.Common.{◌∙◌, sym}
use Rattle.lab_tree.proofs.RowRanges.{range_at}
use Rattle.lab_tree.proofs.rows.range.Goals as goal

pub between-requires-clause-from : goal.between-requires-clause-from
between-requires-clause-from c = (range_at c.args.starts.now c.args.items.now c.args.from c.args.to c.requires.cuts c.requires.order c.requires.end).from

pub between-requires-clause-to : goal.between-requires-clause-to
between-requires-clause-to c = (range_at c.args.starts.now c.args.items.now c.args.from c.args.to c.requires.cuts c.requires.order c.requires.end).to

pub between-requires-clause-order : goal.between-requires-clause-order
between-requires-clause-order c = (range_at c.args.starts.now c.args.items.now c.args.from c.args.to c.requires.cuts c.requires.order c.requires.end).order

pub between-requires-clause-end : goal.between-requires-clause-end
between-requires-clause-end c = (range_at c.args.starts.now c.args.items.now c.args.from c.args.to c.requires.cuts c.requires.order c.requires.end).end

pub returns : goal.returns
returns c = c.between.ensures ∙ sym (range_at c.args.starts.now c.args.items.now c.args.from c.args.to c.requires.cuts c.requires.order c.requires.end).is
