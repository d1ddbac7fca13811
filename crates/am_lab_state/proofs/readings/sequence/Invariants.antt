use Rattle.std.proofs.Common.{◌≡◌, ◌≤◌, take}
use Rattle.am_model.specs.Channels.{sequence}
use Rattle.am_model.specs.History.{channel_to}
use Rattle.am_lab_state.proofs.readings.sequence.Given as goal

abbrev pub invariant-loop-entry : goal.invariant-loop-entry
invariant-loop-entry l = record {
  counted : l.count ≡ sequence (channel_to l.node l.peer l.number) (take l.entry-index l.log);
  few : l.count ≤ l.entry-index;
}
