use Rattle.am_workers_laws.proofs.Lying.{places_are_kept}
use Rattle.am_workers_laws.proofs.phases.places_are_kept.Goals as goal

pub returns : goal.returns
returns c = places_are_kept
