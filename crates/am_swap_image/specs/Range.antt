-- Whether the numbers of a body take no more bytes than the image has for them.
use Rattle.std.specs.Prelude.{◌≡◌, ◌<◌, ◌^◌, Bool, true, ◌&&◌, Option, Some, None}
use Rattle.std.specs.List.{list_all}
use Rattle.am_names.specs.declared.Serial.{Serial}
use Rattle.am_names.specs.declared.Message.{Message}
use Rattle.am_office_entries.specs.declared.HandlerKind.{HandlerKind}
use Rattle.am_office_entries.specs.declared.HandlerKind.TheVariants.{Note, Echo, Add}
use Rattle.am_model.specs.declared.Mapping.{Mapping}
use Rattle.am_model.specs.declared.Awaited.{Awaited}
use Rattle.am_model.specs.declared.Queued.{Queued}
use Rattle.am_model.specs.declared.Notice.{Notice}
use Rattle.am_model.specs.Endpoint.{Body}
use Rattle.am_model.specs.History.{is_byte, is_four_bytes, is_eight_bytes, are_words_in_range}

abbrev pub fits_mapping : Option Mapping → Bool
fits_mapping None = true
fits_mapping (Some m) = is_byte m.name.0 && (is_eight_bytes m.tag.0 && is_byte m.credits)

abbrev pub fits_serial : Serial → Bool
fits_serial s = is_byte s.source.0 && is_four_bytes s.count

-- a record's source is the endpoint, which the image doesn't repeat
abbrev pub fits_record : Awaited → Bool
fits_record a = is_byte a.index && is_four_bytes a.serial.count

abbrev pub fits_handler : Option HandlerKind → Bool
fits_handler None = true
fits_handler (Some Note) = true
fits_handler (Some (Echo to)) = is_byte to
fits_handler (Some (Add to)) = is_byte to

abbrev pub fits_about : Option Serial → Bool
fits_about None = true
fits_about (Some request) = fits_serial request

abbrev pub fits_message : Message → Bool
fits_message m =
    fits_serial m.serial && (is_byte m.dest.0 && (is_eight_bytes m.tag.0 && (is_byte m.handler && (are_words_in_range m.words && (is_eight_bytes m.reply_tag.0 && fits_about m.about)))))

abbrev pub fits_queued : Queued → Bool
fits_queued q = fits_message q.message && is_byte q.bounces

abbrev pub fits_notice : Notice → Bool
fits_notice n = fits_message n.message && is_byte n.bounces

-- each number of the body fits its bytes
pub record IsInRange (b : Body) : Type 0 where
  pub tag : b.tag.0 < 2 ^ 64
  pub sum : b.sum < 2 ^ 64
  pub accepted : b.accepted < 2 ^ 32
  pub mapped : list_all fits_mapping b.mapped ≡ true
  pub awaited : list_all fits_record b.awaited ≡ true
  pub handlers : list_all fits_handler b.handlers ≡ true
  pub requests : list_all fits_queued b.requests ≡ true
  pub replies : list_all fits_queued b.replies ≡ true
  pub notices : list_all fits_notice b.notices ≡ true
  pub received : list_all fits_message b.received ≡ true
