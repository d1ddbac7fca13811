use Rattle.std.proofs.Common.{ap, arith, length, List}
use Rattle.am_office_entries.specs.declared.Entry.{Entry}
use Rattle.am_cluster_scripted.proofs.Applying.{short_of}
use Rattle.am_cluster_scripted.proofs.calls_made.Goals as goal

pub scripts_after-requires-clause-short : goal.scripts_after-requires-clause-short
scripts_after-requires-clause-short c =
    let short = short_of c.args.scenario.now c.args.cluster.now (record {
      lawful = c.requires.lawful;
      packet = c.requires.packet;
      layout = c.requires.layout;
      fits = c.tell_logs.ensures;
    }) c.laws.ensures.history in
    let seen = ap (λ (l : List Entry). length l) c.entries-entries.ensures in
    let same = ap (λ (l : List Entry). length l) c.in-Ok.ensures.journal in
    omega (arith, short, seen, same)
