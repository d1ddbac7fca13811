use Rattle.std.proofs.Common.{◌≡◌, [], ◌∷◌, ◌++◌, codes, subst, OnOk}
use Rattle.std.specs.Fmt.{decimal}
use Rattle.am_bundle.specs.Lists.{BundleLists}
use Rattle.am_office_text.specs.EntryLines.Lines.{mask}
use Rattle.am_lab_scenarios.specs.Spelling.Texts.{bundle_line, member_words}
use Rattle.am_lab_scenarios.proofs.Printed.{whole_line}
use Rattle.am_lab_scenarios.proofs.spelling.lines.put_bundle_line.Goals as goal

pub returns : goal.returns
unfolding bundle_line
returns c =
    let b = c.bundle.inside in
    let words = rw (c.small.ensures, c.mask_word.ensures) at c.in_ok-put_spaced.ensures.ok in
    let others = rw c.deref.ensures.value at c.in_ok-put_members.ensures in
    subst (λ (seen : BundleLists). OnOk c.put_end.result (c.put_end.new.out.items ≡ c.args.out.now.items ++ bundle_line seen)) c.bundle.view_is
    (whole_line _ _ _ _ _ _ (codes "bundle") (decimal b.id ∷ mask b.mask ∷ []) (member_words b.members.items) c.in_ok-put_word.ensures.ok words others
    c.put_end.ensures.ok)
