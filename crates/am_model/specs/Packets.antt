-- A packet's fields, whichever kind it is, by the words of am_names.
pub use Rattle.am_names.specs.Packets.{from_of, receiver_of, number_of, stamp_of, restamped}
