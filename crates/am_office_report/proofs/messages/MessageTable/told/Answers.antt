use Rattle.std.proofs.Common.{ℕ, List, refl, ap, ◌∙◌, length, get_or, arith}
use Rattle.am_office_report.specs.declared.sources.MessageState.{MessageState}
use Rattle.am_office_report.proofs.Flat.{table_told}
use Rattle.am_office_report.proofs.messages.MessageTable.told.Goals as goal

pub loop-index-preserved : goal.loop-index-preserved
loop-index-preserved c =
    let i : ℕ = c.loop-index.index in
    let many = ap (λ (s : List (List (ℕ × MessageState))). length s) c.self.view_is in
    let found = c.rows.ensures ∙ c.index.ensures ∙ ap (λ (s : List (List (ℕ × MessageState))). get_or s i c.index.result.now) c.self.view_is in
    table_told c.args.self.now i i c.loop-index.told.items c.tell.new.told.items c.rows.result.now c.index.result.now refl
    (omega (arith, many, c.self.invariant)) found c.loop-index.invariant c.in_ok-tell.ensures
