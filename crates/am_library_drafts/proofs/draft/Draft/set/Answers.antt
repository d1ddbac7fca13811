use Rattle.std.proofs.Common.{sym, subst, ◌∙◌}
use Rattle.am_library_drafts.specs.Drafts.{IsDraft}
use Rattle.am_library_drafts.proofs.Drafted.{setting_kept}
use Rattle.am_library_drafts.proofs.draft.Draft.set.Goals as goal

pub invariant_of-self : goal.invariant_of-self
invariant_of-self c =
    subst IsDraft (sym c.put_setting.ensures)
    (setting_kept c.self.inside.scenario c.args.setting c.self.invariant (sym c.is_good_setting.ensures ∙ c.if-not-is_good_setting.false))
