use Rattle.std.specs.Prelude.{slice_set}
use Rattle.std.proofs.Common.{map, sym, ap, ◌∙◌, Some}
use Rattle.am_lemmas.proofs.Lists.{slice_get-map_Some}
use Rattle.std.proofs.lemmas.Option.{slice_get-get_or}
use Rattle.am_machine_journal.proofs.Lists.{index_map, map_set}
use Rattle.am_cluster_calls.specs.Threads.{no_thread, scripted_in, with_call}
use Rattle.am_cluster_calls.proofs.threads.count_at.Goals as goal

pub returns-clause-here : goal.returns-clause-here
returns-clause-here c =
    let ts = c.args.threads.now.items in
    let k = c.args.index in
    let was = c.index_mut.result.now in
    map_set scripted_in ts k c.count_on.new.thread
    ∙ ap (slice_set (map scripted_in ts) k)
    (c.count_on.ensures
    ∙ ap (with_call c.args.call)
    (ap scripted_in c.index_mut.ensures.value ∙ sym (index_map scripted_in ts k was no_thread c.requires.within)))

pub count_on-requires : goal.count_on-requires
count_on-requires c =
    let ts = c.args.threads.now.items in
    let k = c.args.index in
    let was = c.index_mut.result.now in
    c.requires.small (scripted_in was) (slice_get-map_Some scripted_in ts k was (slice_get-get_or ts k was c.requires.within
    ∙ ap Some (sym c.index_mut.ensures.value)))
