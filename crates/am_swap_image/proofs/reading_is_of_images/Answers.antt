use Rattle.am_swap_image.proofs.Bodies as laws
use Rattle.am_swap_image.proofs.reading_is_of_images.Goals as goal

pub returns : goal.returns
returns c = laws.reading_is_of_images
