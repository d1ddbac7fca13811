use Rattle.std.proofs.Common.{ℕ, ◌-◌, ltb, arith, rules}
use Rattle.std.proofs.lemmas.Bool.{ltb-true, ltb-false}
use Rattle.std.proofs.lemmas.List.Sorted.{IsPartitionPoint-from_clause, IsPartitionedBy-ltb}
use Rattle.am_office_report.specs.declared.sources.MessageState.{MessageState}
use Rattle.am_office_report.proofs.Placing.{not_falling, no_row, placed}
use Rattle.am_office_report.proofs.sources.place_in.Goals as goal

pub returns : goal.returns
returns c =
    let place : ℕ = c.partition_point.result in
    let parted = IsPartitionedBy-ltb (λ (r : ℕ × MessageState). r.0) c.args.rows.now c.args.count (not_falling c.args.rows.now c.requires) in
    let point = IsPartitionPoint-from_clause (λ (r : ℕ × MessageState). ltb r.0 c.args.count) _ _ c.partition_point.ensures.partitioned parted
    (λ a r q k. search rules) in
    placed c.args.rows.now c.args.count place c.requires c.partition_point.ensures.bound
    (λ h. ltb-true _ _ (point.0 (place - 1) no_row (omega arith) (omega arith))) (λ h. ltb-false _ _ (point.1 place no_row (omega arith) h))
