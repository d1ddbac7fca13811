use Rattle.std.proofs.Common.{◌≡◌, ◌++◌, drop}
use Rattle.am_lemmas.specs.Numbered.{numbered}
use Rattle.am_lab_shiviz.specs.Texts.{event_at}
use Rattle.am_lab_shiviz.proofs.texts.put_events.Given as goal

abbrev pub invariant-loop-place : goal.invariant-loop-place
invariant-loop-place l =
    l.out.items ++ numbered (event_at l.ends l.clocks) l.place (drop l.place l.entries) ≡ l.fn.out.items ++ numbered (event_at l.ends l.clocks) 0 l.entries
