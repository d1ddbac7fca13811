use Rattle.std.proofs.Common.{◌≡◌, ◌+◌, ◌++◌, drop}
use Rattle.am_lemmas.specs.Numbered.{numbered}
use Rattle.am_model_scripts.specs.Layout.{layout_of}
use Rattle.am_office_entries.specs.declared.Entry.{Entry}
use Rattle.am_lab_reasons.proofs.Following.{IsHalfway}
use Rattle.am_lab_state.specs.Changes.{change_lines, changes}
use Rattle.am_lab_state.specs.Texts.{state_text}
use Rattle.am_lab_state.proofs.changes.put_changes.Given as goal

abbrev pub invariant-loop-entry : goal.invariant-loop-entry
invariant-loop-entry l =
    record {
      line : l.number ≡ l.entry-index + 3;
      layout : l.cluster.layout ≡ layout_of l.scenario;
      halfway : IsHalfway (layout_of l.scenario) l.entries l.entry-index l.cluster.journal;
      before : l.before.items ≡ state_text l.scenario l.cluster.journal;
      out : l.out.items ++ numbered (λ n (x : Entry). change_lines l.scenario l.entries n) l.number (drop l.entry-index l.entries) ≡ l.fn.out.items ++ changes
          l.scenario l.entries;
    }
