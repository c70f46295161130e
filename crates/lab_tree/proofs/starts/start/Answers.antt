use Rattle.std.proofs.Common.{rules, ltb}
use Rattle.std.proofs.lemmas.List.Sorted.{IsPartitionedBy-ltb, IsPartitionPoint-from_clause}
use Rattle.lab_tree.specs.declared.end.End.{End}
use Rattle.lab_tree.proofs.Parts.{parted_count}
use Rattle.lab_tree.proofs.starts.start.Goals as goal

pub returns : goal.returns
returns c =
    let p = IsPartitionPoint-from_clause (λ (e : End). ltb e.node c.args.node) _ _ c.partition_point.ensures.partitioned (IsPartitionedBy-ltb (λ (e : End). e.node) _ c.args.node c.requires.rising) (λ a r q k. search rules) in
    parted_count (λ (e : End). ltb e.node c.args.node) c.args.ends.now c.partition_point.result c.partition_point.ensures.bound p.0 p.1
