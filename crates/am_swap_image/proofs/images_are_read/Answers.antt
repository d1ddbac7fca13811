use Rattle.am_swap_image.proofs.Bodies as laws
use Rattle.am_swap_image.proofs.images_are_read.Goals as goal

pub returns : goal.returns
returns c = laws.images_are_read
