use Rattle.std.proofs.Common.{ap, ◌∙◌, sym, refl}
use Rattle.std.specs.Prelude.{slice_get}
use Rattle.am_machine_journal.proofs.Starting.{lists_at, no_log, shown_within}
use Rattle.am_machine_journal.proofs.merge.heads.entry_of.Goals as goal

pub entry_at-requires : goal.entry_at-requires
entry_at-requires c = shown_within c.args.logs.now c.args.head no_log refl c.requires

pub returns-clause-shown : goal.returns-clause-shown
returns-clause-shown c =
    ap (λ l. slice_get l c.args.head.place) (sym (lists_at c.args.logs.now c.args.head.log no_log refl)) ∙ c.entry_at.ensures.shown
