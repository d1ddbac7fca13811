use Rattle.am_laws_cluster.proofs.Still.{stays}
use Rattle.am_laws_cluster.proofs.disk.on_disk_stays.Goals as goal

pub returns : goal.returns
returns c = stays
