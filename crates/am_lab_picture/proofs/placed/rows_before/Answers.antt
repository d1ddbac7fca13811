use Rattle.std.proofs.Common.{ltb, rules}
use Rattle.std.proofs.lemmas.List.Sorted.{IsPartitionPoint-from_clause, IsPartitionedBy-ltb}
use Rattle.am_lab_picture.specs.declared.data.PlacedRow.{PlacedRow}
use Rattle.am_lab_picture.proofs.Placing.{point_counts}
use Rattle.am_lab_picture.proofs.placed.rows_before.Goals as goal

pub returns-clause-exact : goal.returns-clause-exact
returns-clause-exact c =
    let parted = IsPartitionedBy-ltb (λ (row : PlacedRow). row.line) c.args.placed.now c.args.line c.requires in
    let point = IsPartitionPoint-from_clause (λ (row : PlacedRow). ltb row.line c.args.line) _ _ c.partition_point.ensures.partitioned parted
    (λ a r q k. search rules) in
    point_counts (λ (row : PlacedRow). ltb row.line c.args.line) c.args.placed.now c.partition_point.result c.partition_point.ensures.bound point
