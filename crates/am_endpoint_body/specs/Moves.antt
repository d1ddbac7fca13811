-- How slots of a block take a message, or are freed.
use Rattle.std.specs.Prelude.{ℕ, false, List, [], ◌∷◌, Option, None, Some}
use Rattle.am_block.specs.Pools.{Pools, moved, with_descriptor}
use Rattle.am_block.specs.declared.Descriptor.{Descriptor}
use Rattle.am_block.specs.declared.List.{List as Which}
use Rattle.am_block.specs.declared.List.TheVariants.{Free}
use Rattle.am_endpoint_body.specs.declared.moves.Change.{Change}
use Rattle.am_endpoint_body.specs.declared.moves.Change.TheVariants as Becomes
use Rattle.am_endpoint_body.specs.Views.{descriptor_at}

-- the descriptor of a message that goes to another list
abbrev pub changed : Change → Descriptor → Descriptor
changed Becomes.Flies d = record d { answered = false }
changed (Becomes.Bounced bounces) d = record d { used = bounces }
changed (Becomes.Back why) d = record d { why = why }

-- p with a slot out of one list and at the tail of another, its descriptor changed
abbrev pub refiled : Pools → Which → ℕ → Which → Change → Pools
refiled p from s to change = with_descriptor (moved p from s to) s (changed change (descriptor_at p.descriptors s))

-- p with the first of these free slots at the tail of a list, and this descriptor at it
abbrev pub filed : Pools → List ℕ → Which → Descriptor → Pools
filed p [] to d = p
filed p (s ∷ free) to d = with_descriptor (moved p Free s to) s d

-- p with the first of these slots of a list free
abbrev pub freed : Pools → List ℕ → Which → Pools
freed p [] from = p
freed p (s ∷ slots) from = moved p from s Free

-- the descriptor of the first of these slots, if there is one
abbrev pub first_of : Pools → List ℕ → Option Descriptor
first_of p [] = None
first_of p (s ∷ slots) = Some (descriptor_at p.descriptors s)

-- the first of the replies, and where there is none the first of the requests
abbrev pub first_slot : List ℕ → List ℕ → Option ℕ
first_slot (s ∷ replies) requests = Some s
first_slot [] (s ∷ requests) = Some s
first_slot [] [] = None
