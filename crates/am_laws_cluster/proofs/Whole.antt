-- The whole invariant of the cluster.
use Rattle.std.proofs.Common.{List}
use Rattle.am_office_entries.specs.declared.Entry.{Entry}
use Rattle.am_model.specs.Layout.{Layout, IsLawful}
use Rattle.am_model.specs.History.{IsHistory}
use Rattle.am_model.specs.Cluster.{ClusterInvariant}
use Rattle.am_laws_cluster.proofs.Sent.{parcels_fit, mark_of}
use Rattle.am_laws_cluster.proofs.Answers.{answers_true, ended_put_nothing}
use Rattle.am_laws_cluster.proofs.Arrived.{arrived_matches, received_tags}
use Rattle.am_laws_cluster.proofs.Open.{waiting_open}
use Rattle.am_laws_cluster.proofs.Live.{one_live}
use Rattle.am_laws_cluster.proofs.Bounced.{bounces_are}
use Rattle.am_laws_cluster.proofs.Pools.{pools_bounded}
use Rattle.am_laws_cluster.proofs.Bound.{in_flight_bound}

pub cluster_holds : (layout : Layout) (past : List Entry) → IsLawful layout → IsHistory layout past → ClusterInvariant layout past
cluster_holds layout past lawful h =
    record {
      flights = in_flight_bound layout lawful past h;
      parcels = parcels_fit layout past h;
      marks = mark_of layout past h;
      answers = answers_true layout past h;
      ended = ended_put_nothing layout past h;
      live = one_live layout past h;
      waiting = waiting_open layout past h;
      arrived = arrived_matches layout past h;
      tags = received_tags layout past h;
      pools = pools_bounded layout past h;
      bounces = bounces_are layout past h;
    }
