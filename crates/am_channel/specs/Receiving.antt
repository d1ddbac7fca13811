-- The receiving end of a channel: what a parcel is to its mark.
use Rattle.std.specs.Prelude.{◌≡◌, ◌≢◌, ◌⊎◌, ◌<◌, ℕ}
use Rattle.am_names.specs.declared.Verdict.TheVariants as Verdicts
use Rattle.am_model.specs.Channels as Model
use Rattle.am_model.specs.Channels.{Mark}
use Rattle.am_channel.specs.declared.receiving.Arrival.{Arrival}
use Rattle.am_channel.specs.declared.receiving.Arrival.TheVariants as Arrivals

-- an arrival in the words of the definitions
abbrev pub arrival_of : Arrival → Model.Arrival
arrival_of Arrivals.Stale = Model.Stale
arrival_of (Arrivals.Again verdict) = Model.Again verdict
arrival_of Arrivals.Fresh = Model.Fresh

-- it is of an earlier sequence, or of an earlier attempt than the one that was refused
abbrev pub IsStale : Mark → ℕ → ℕ → Type 0
IsStale mark seq attempt = (seq < mark.seq) ⊎ ((seq ≡ mark.seq) × (mark.verdict ≢ Verdicts.Accepted) × (attempt < mark.attempt))

-- its sequence was accepted, on whatever attempt, or its attempt is the one that was refused
abbrev pub IsAgain : Mark → ℕ → ℕ → Type 0
IsAgain mark seq attempt = (seq ≡ mark.seq) × ((mark.verdict ≡ Verdicts.Accepted) ⊎ (attempt ≡ mark.attempt))

-- it is of a later sequence, or of a later attempt than the one that was refused
abbrev pub IsFresh : Mark → ℕ → ℕ → Type 0
IsFresh mark seq attempt = (mark.seq < seq) ⊎ ((seq ≡ mark.seq) × (mark.verdict ≢ Verdicts.Accepted) × (mark.attempt < attempt))
