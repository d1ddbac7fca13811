use Rattle.std.specs.Prelude.{slice_set}
use Rattle.std.proofs.Common.{map, sym, ap, ◌∙◌}
use Rattle.am_machine_journal.proofs.Lists.{index_map, map_set}
use Rattle.am_cluster_calls.specs.Threads.{no_thread, scripted_in, with_line}
use Rattle.am_cluster_calls.proofs.Counting.{then_ok}
use Rattle.am_cluster_calls.proofs.threads.add_at.Goals as goal

pub returns : goal.returns
returns c =
    let ts = c.args.threads.now.items in
    let k = c.args.index in
    let was = c.index_mut.result.now in
    then_ok c.add_on.result _ _
    (λ added.
    map_set scripted_in ts k c.add_on.new.thread
    ∙ ap (slice_set (map scripted_in ts) k)
    (added
    ∙ ap (with_line c.args.call)
    (ap scripted_in c.index_mut.ensures.value ∙ sym (index_map scripted_in ts k was no_thread c.requires))))
    c.add_on.ensures
