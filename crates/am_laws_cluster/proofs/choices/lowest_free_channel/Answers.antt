use Rattle.am_laws_cluster.proofs.Choosing.{lowest_free}
use Rattle.am_laws_cluster.proofs.choices.lowest_free_channel.Goals as goal

pub returns : goal.returns
returns c = lowest_free
