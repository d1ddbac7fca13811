use Rattle.am_swap_image.specs.Image.{about_bytes, byte, kind_number, long, serial_bytes, words_bytes}
use Rattle.am_swap_pieces.proofs.Turns.{nine}
use Rattle.am_swap_pieces.proofs.writing.put_message.Goals as goal

pub returns : goal.returns
returns c =
    let m = c.args.message.now in
    nine _ _ _ _ _ _ _ _ _ _ (serial_bytes m.serial) (byte (kind_number m.kind)) (byte m.dest.0) (long m.tag.0) (byte m.handler) (words_bytes m.words)
    (long m.reply_tag.0) (about_bytes m.about) (byte c.args.bounces) c.in_ok-put_serial.ensures c.in_ok-put_kind.ensures c.in_ok-put_byte.ensures
    c.in_ok-put_long.ensures c.in_ok-put_byte-2.ensures c.in_ok-put_words.ensures c.in_ok-put_long-2.ensures c.in_ok-put_about.ensures
    c.in_ok-put_byte-3.ensures
