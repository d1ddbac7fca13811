use Rattle.std.proofs.Common.{◌≡◌, ◌+◌, ◌++◌, drop}
use Rattle.am_lemmas.specs.Numbered.{numbered}
use Rattle.am_lab_state.specs.Messages.{accepted_at}
use Rattle.am_lab_state.proofs.accepted.put_named.Given as goal

abbrev pub invariant-loop-entry : goal.invariant-loop-entry
invariant-loop-entry l =
    record {
      line : l.line ≡ l.entry-index + 3;
      out : l.out.items ++ numbered (accepted_at l.named) l.line (drop l.entry-index l.entries) ≡ l.fn.out.items ++ numbered (accepted_at l.named) 3
          l.entries;
    }
