use Rattle.am_laws_cluster.proofs.HomePlaces.{fits_network}
use Rattle.am_laws_cluster.proofs.homes.places_fit_the_network.Goals as goal

pub returns : goal.returns
returns c = fits_network
