use Rattle.std.proofs.Common.{sym, ◌∙◌, add-one}
use Rattle.am_office_entries.specs.declared.Entry.{Entry}
use Rattle.am_office_entries.specs.Fates.{cause_of}
use Rattle.am_office_entries.proofs.Causes.{none_so_far, first_found}
use Rattle.am_office_entries.proofs.fates.first_cause.Goals as goal

pub returns-in-Some : goal.returns-in-Some
returns-in-Some c =
    sym (first_found (λ (x : Entry). cause_of c.args.serial x.event x.outcome) _ _ _ _ c.loop-entry-test.true c.loop-entry.invariant (sym c.cause_of.ensures
    ∙ c.in-Some.is))

pub loop-entry-preserved : goal.loop-entry-preserved
loop-entry-preserved c =
    rw add-one (none_so_far (λ (x : Entry). cause_of c.args.serial x.event x.outcome) _ _ _ c.loop-entry-test.true c.loop-entry.invariant
    (sym c.cause_of.ensures ∙ c.in_default.is))
