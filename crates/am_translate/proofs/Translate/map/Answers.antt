use Rattle.std.proofs.Common.{Some, ap, ◌∙◌}
use Rattle.am_model.specs.History.{are_credits_in_range}
use Rattle.am_translate.specs.Seen.{table_in}
use Rattle.am_translate.proofs.Kept.{table_mapped}
use Rattle.am_translate.proofs.Translate.map.Goals as goal

pub invariant_of-self : goal.invariant_of-self
invariant_of-self c =
    table_mapped (table_in c.self.inside) c.args.index (Some (record { name = c.args.name; tag = c.args.tag; credits = c.args.credits }))
    (ap (λ t. are_credits_in_range t.pool c.args.credits) c.self.view_is ∙ c.requires) c.self.invariant

pub returns-clause-table : goal.returns-clause-table
returns-clause-table c = invariant_of-self c
