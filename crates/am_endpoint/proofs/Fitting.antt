-- A body fits its slots before a message reaches it, where it does after.
use Rattle.std.proofs.Common.{Bool, true, false, arith, if◌then◌else◌}
use Rattle.am_names.specs.Names.{same_end}
use Rattle.am_names.specs.declared.EndpointId.{EndpointId}
use Rattle.am_names.specs.declared.Message.{Message}
use Rattle.am_office_entries.specs.declared.Outcome.{Outcome}
use Rattle.am_office_entries.specs.declared.Outcome.TheVariants as Out
use Rattle.am_model.specs.Endpoint.{State}
use Rattle.am_model.specs.Changes.{put, reached}
use Rattle.am_endpoint_body.specs.Views.{Fits}
use Rattle.am_endpoint_body.proofs.Slots.{slots_put}

reached_by : (t : Bool) (m : Message) (s : State) → Fits (if t then put m s else s).body → Fits s.body
reached_by true m s fits = omega (arith, fits, slots_put m s)
reached_by false m s fits = fits

pub fits_before : (e : EndpointId) (s : State) (o : Outcome) → Fits (reached e s o).body → Fits s.body
fits_before e s (Out.Accepted m) fits = reached_by (same_end e m.dest) m s fits
fits_before e s o fits = fits
