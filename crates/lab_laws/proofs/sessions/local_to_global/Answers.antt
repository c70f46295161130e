use Rattle.lab_defs_report.specs.States.{table_of, bounds_of, node_list}
use Rattle.lab_defs_value.specs.Bounds.{at}
use Rattle.lab_laws.proofs.SessionParts.{never_rises, local_is_global}
use Rattle.lab_laws.proofs.sessions.local_to_global.Goals as goal

pub returns : goal.returns
returns c = λ g ok p q f pass. (
  λ hold. never_rises g ok q.seat f.seat (node_list g q) (table_of p q.seat) q.weights f.table f.weights (at (bounds_of p q.seat)) hold q.rule pass,
  λ tight. local_is_global g ok q.seat f.seat (node_list g q) (table_of p q.seat) q.weights f.table f.weights (at (bounds_of p q.seat)) tight q.rule pass,
)
