use Rattle.am_swap_image.proofs.Examples.{asking_is_valid}
use Rattle.am_swap_image.proofs.an_asking_body.Goals as goal

pub returns-clause-valid : goal.returns-clause-valid
returns-clause-valid c = asking_is_valid
