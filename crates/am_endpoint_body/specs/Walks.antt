-- What is looked for in a list of a block.
use Rattle.std.specs.Prelude.{ℕ, Bool, ◌||◌, List, [], ◌∷◌, slice_set}
use Rattle.am_names.specs.declared.Serial.{Serial}
use Rattle.am_names.specs.Names.{has_serial, is_reply, is_request}
use Rattle.am_block.specs.Pools.{Pools}
use Rattle.am_block.specs.declared.Descriptor.{Descriptor}
use Rattle.am_endpoint_body.specs.declared.walks.Sought.{Sought}
use Rattle.am_endpoint_body.specs.declared.walks.Sought.TheVariants as Soughts
use Rattle.am_endpoint_body.specs.Views.{descriptor_at}

abbrev pub is_sought : Sought → Descriptor → Bool
is_sought Soughts.Request d = is_request d.message
is_sought Soughts.Reply d = is_reply d.message
is_sought (Soughts.Of serial) d = has_serial serial d.message

abbrev pub is_sought_at : Sought → Pools → ℕ → Bool
is_sought_at sought p s = is_sought sought (descriptor_at p.descriptors s)

-- the descriptor, as answered where its message has this serial
abbrev pub answered_by : Serial → Descriptor → Descriptor
answered_by request d = record d { answered = d.answered || has_serial request d.message }

-- the descriptors, where those of these slots that have this serial are answered
abbrev pub answered_at : Serial → List ℕ → List Descriptor → List Descriptor
answered_at request [] ds = ds
answered_at request (s ∷ xs) ds = answered_at request xs (slice_set ds s (answered_by request (descriptor_at ds s)))
