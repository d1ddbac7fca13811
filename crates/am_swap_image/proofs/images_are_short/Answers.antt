use Rattle.am_swap_image.proofs.Sizes as laws
use Rattle.am_swap_image.proofs.images_are_short.Goals as goal

pub returns : goal.returns
returns c = laws.images_are_short
