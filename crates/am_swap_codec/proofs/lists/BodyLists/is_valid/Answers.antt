use Rattle.std.proofs.Common.{◌≡◌, true, sym, ◌∙◌}
use Rattle.am_swap_codec.specs.Tests.{tables_pass}
use Rattle.am_swap_codec.proofs.Shares.{sixteen, few_shares}
use Rattle.am_swap_codec.proofs.lists.BodyLists.is_valid.Goals as goal

pub has_valid_records-requires : goal.has_valid_records-requires
has_valid_records-requires c =
    let passed : tables_pass c.args.pool c.args.self.now ≡ true = sym c.has_valid_tables.ensures ∙ c.if-not-has_valid_tables.false in
    record { indexes = sixteen c.args.pool c.args.self.now passed; shares = few_shares c.args.pool c.args.self.now passed }
