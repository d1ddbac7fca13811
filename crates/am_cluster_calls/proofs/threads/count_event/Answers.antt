use Rattle.std.proofs.Common.{map, sym, ◌∙◌}
use Rattle.am_cluster_calls.specs.Threads.{scripted_in}
use Rattle.am_cluster_calls.proofs.CallSteps.{uncalled}
use Rattle.am_cluster_calls.proofs.threads.count_event.Goals as goal

pub returns-in-None : goal.returns-in-None
returns-in-None c = uncalled _ (map scripted_in c.args.threads.now.items) (sym c.call_made.ensures ∙ c.in-None.is)
