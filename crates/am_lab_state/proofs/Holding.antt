-- What is told of an endpoint that lies in memory.
use Rattle.std.proofs.Common.{◌≡◌, ℕ, Bool, true, false, Option, Some, None, refl, ◌↔◌}
use Rattle.am_model.specs.Endpoint.{Body}
use Rattle.am_names.specs.declared.EndpointId.{EndpointId}
use Rattle.am_lab_state.specs.Ends.{body_in_memory, body_lines}
use Rattle.am_lab_state.specs.Messages.{body_named, named_in_memory}

not_none : {X : Type 0} (x : X) → Some x ≡ None → ⊥
not_none x h = cc

-- it has a body just where it isn't on disk
pub in_memory_is : {X : Type 0} (x : X) (on_disk : Bool) (e : EndpointId) (pool : Option ℕ) (b : Body) → ((Some x ≡ None) ↔ (on_disk ≡ true)) →
    body_lines e pool b ≡ body_in_memory on_disk e pool b
in_memory_is x false e pool b h = refl
in_memory_is x true e pool b h = absurd (not_none x (h.1 refl))

-- so of the messages that its lines name
pub named_is : {X : Type 0} (x : X) (on_disk : Bool) (b : Body) → ((Some x ≡ None) ↔ (on_disk ≡ true)) → body_named b ≡ named_in_memory on_disk b
named_is x false b h = refl
named_is x true b h = absurd (not_none x (h.1 refl))
