use Rattle.std.proofs.Common.{sym}
use Rattle.lab_tree.proofs.Begins.{too_long}
use Rattle.lab_tree.proofs.node_key.begins_list.Goals as goal

pub returns-then-front-whole : goal.returns-then-front-whole
returns-then-front-whole c = sym (too_long c.args.front.now c.args.whole.now c.if-front-whole.true)
