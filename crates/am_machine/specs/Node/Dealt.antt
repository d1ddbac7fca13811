-- Endpoints in the shells of their nodes.
use Rattle.std.specs.Prelude.{◌≡◌, ℕ, ◌+◌, ◌<◌, ◌≤◌, Some, List, [], ◌∷◌, ◌++◌, length, slice_get, count_by, vec_capacity, vec_len}
use Rattle.std.specs.List.{filter}
use Rattle.am_model.specs.Layout.{AllAre, node_at}
use Rattle.am_endpoint.specs.View.{EndpointView}
use Rattle.am_machine.specs.declared.node.shells.Shell.{Shell}
use Rattle.am_machine.specs.Node.Shells.{is_at}

-- each endpoint's node has a shell, which has room for its endpoints
pub record FitsShells (ends : List EndpointView) (shells : List Shell) : Type 0 where
  pub nodes : AllAre (λ (v : EndpointView). v.settings.node.0 < length shells) ends
  pub room : (k : ℕ) (s : Shell) → slice_get shells k ≡ Some s → vec_len s.ends + count_by (is_at (node_at k)) ends ≤ vec_capacity s.ends

-- the shell has these endpoints more, and all else as it was
pub record IsFilled (old : Shell) (more : List EndpointView) (new : Shell) : Type 0 where
  pub node' : new.node ≡ old.node
  pub emitted' : new.emitted ≡ old.emitted
  pub received' : new.received ≡ old.received
  pub ends' : new.ends.items ≡ old.ends.items ++ more

-- and it has as much room as it had, and one endpoint more
pub record IsPut (old : Shell) (end : EndpointView) (new : Shell) : Type 0 where
  pub filled : IsFilled old (end ∷ []) new
  pub len : vec_len new.ends ≡ vec_len old.ends + 1
  pub room : vec_capacity old.ends ≤ vec_capacity new.ends

-- each shell has its node's endpoints among these more, in their order
pub record AreDealt (ends : List EndpointView) (old new : List Shell) : Type 0 where
  pub all : length new ≡ length old
  pub each : (k : ℕ) (s t : Shell) → slice_get old k ≡ Some s → slice_get new k ≡ Some t → IsFilled s (filter (is_at (node_at k)) ends) t
