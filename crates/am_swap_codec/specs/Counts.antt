-- Which lists of a body have few enough elements to be counted in a byte.
use Rattle.std.specs.Prelude.{◌<◌, length}
use Rattle.am_model.specs.Endpoint.{Body}

-- the lists that an image counts have fewer than 256 elements
pub record AreCounted (b : Body) : Type 0 where
  pub awaited : length b.awaited < 256
  pub requests : length b.requests < 256
  pub replies : length b.replies < 256
  pub notices : length b.notices < 256
  pub received : length b.received < 256
