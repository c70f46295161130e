use Rattle.lab_lines.proofs.reply.write_reply.Goals as goal

pub returns-in-Blueprint-clause-front : goal.returns-in-Blueprint-clause-front
returns-in-Blueprint-clause-front g c = rw c.in-Blueprint.is (rw c.blueprint.ensures at c.finish-in-Blueprint.ensures.front)

pub returns-in-Bound-clause-front : goal.returns-in-Bound-clause-front
returns-in-Bound-clause-front g c = rw c.in-Bound.is (rw c.bound_of.ensures at c.finish-in-Bound.ensures.front)
