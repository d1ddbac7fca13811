use Rattle.std.proofs.Common.{◌++◌, Option, ap, ◌∙◌, arith}
use Rattle.am_lemmas.specs.Numbered.{numbered}
use Rattle.am_names.specs.declared.Message.{Message}
use Rattle.am_lab_state.specs.Messages.{accepted_at, accepted_by}
use Rattle.am_lab_reasons.proofs.Naming.{all_told, told_on}
use Rattle.am_lab_state.proofs.accepted.put_named.Goals as goal

pub loop-entry-preserved : goal.loop-entry-preserved
loop-entry-preserved c =
    let named = c.args.named.now in
    let xs = c.args.entries.now in
    let line = c.loop-entry.line in
    let at = c.loop-entry.invariant.line in
    record {
      line = omega (arith, at);
      out = told_on (accepted_at named) xs c.loop-entry.entry-index line _ c.loop-entry.out.items c.put_if_named.new.out.items
          (c.args.out.now.items ++ numbered (accepted_at named) 3 xs) c.loop-entry-test.true c.loop-entry.invariant.out
          (c.in_ok-put_if_named.ensures ∙ ap (λ (m : Option Message). c.loop-entry.out.items ++ accepted_by named line m) c.accepted_of.ensures);
    }

pub returns : goal.returns
returns c =
    let named = c.args.named.now in
    let xs = c.args.entries.now in
    all_told (accepted_at named) xs c.loop-entry.entry-index c.loop-entry.line c.loop-entry.out.items
    (c.args.out.now.items ++ numbered (accepted_at named) 3 xs) c.loop-entry-test.false c.loop-entry.invariant.out
