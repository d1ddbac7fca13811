-- What is chosen, in other words than the loops that choose it.
use Rattle.std.specs.Prelude.{◌≡◌, ℕ, ◌<◌, ◌≤◌, Bool, true, false, Option, Some, None, List}
use Rattle.std.specs.List.{list_any}
use Rattle.am_names.specs.declared.EndpointId.{EndpointId}
use Rattle.am_names.specs.declared.NodeId.{NodeId}
use Rattle.am_names.specs.Names.{same_end}
use Rattle.am_office_entries.specs.declared.Entry.{Entry}
use Rattle.am_model.specs.Layout.{AllAre}
use Rattle.am_model.specs.History.{channel_to, is_bound}

-- each channel from one number up to another is bound
abbrev pub AreBound : NodeId → NodeId → List Entry → ℕ → ℕ → Type 0
AreBound node peer past from to = (k : ℕ) → from ≤ k → k < to → is_bound (channel_to node peer k) past ≡ true

-- The channel is one of those from one number up to another, it is free, and each lower one of them is bound; none is named
-- where all of them are bound.
abbrev pub IsLowestFrom : NodeId → NodeId → List Entry → ℕ → ℕ → Option ℕ → Type 0
IsLowestFrom node peer past from to None = AreBound node peer past from to
IsLowestFrom node peer past from to (Some k) = (from ≤ k) × (k < to) × (is_bound (channel_to node peer k) past ≡ false) × AreBound node peer past from k

-- the same of so many channels, which are counted from 0
abbrev pub IsLowestFree : NodeId → NodeId → List Entry → ℕ → Option ℕ → Type 0
IsLowestFree node peer past channels free = IsLowestFrom node peer past 0 channels free

-- The endpoint stands in the list and passes, and none that passes has a lower number; none is named where none passes.
abbrev pub IsLeast : (EndpointId → Bool) → List EndpointId → Option EndpointId → Type 0
IsLeast p es None = AllAre (λ (e : EndpointId). p e ≡ false) es
IsLeast p es (Some e) = (list_any (same_end e) es ≡ true) × (p e ≡ true) × AllAre (λ (f : EndpointId). p f ≡ true → e.0 ≤ f.0) es
