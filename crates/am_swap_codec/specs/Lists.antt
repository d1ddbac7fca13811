-- A body as lists, and which lists have few enough elements to be counted in a byte.
use Rattle.am_model.specs.Endpoint.{Body}
use Rattle.am_swap_image.specs.Reading.{body_of}
use Rattle.am_swap_codec.specs.declared.lists.BodyLists.TheInside.{Inside}

abbrev pub body_in : Inside → Body
body_in b =
    body_of b.tag.0 b.sum b.accepted b.mapped.items b.awaited.items b.handlers.items b.requests.items b.replies.items b.notices.items b.received.items
