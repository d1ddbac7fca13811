use Rattle.std.proofs.Common.{drop, ap, sym, ◌∙◌, arith}
use Rattle.am_lemmas.proofs.Lists.{rest_is}
use Rattle.am_io.proofs.Parts.{copied_length, read_front, at_end}
use Rattle.am_io.proofs.memory_source.MemorySourceSource.read.Goals as goal

pub returns-clause-bytes : goal.returns-clause-bytes
returns-clause-bytes c =
    let at = c.self.inside.at in
    let xs = c.self.inside.bytes.items in
    let count = c.min-count.result in
    let to = c.copy_front.new.to in
    let copied = rw (c.deref-2.ensures.value, rest_is) at c.copy_front.ensures in
    let shorter = rw (c.deref-2.ensures.value, rest_is) at c.min.ensures in
    let same = copied_length (drop at xs) c.args.buf.now to count (omega arith) (omega arith) copied in (
      omega arith,
      sym (ap (λ s. s.left) c.self.view_is) ∙ read_front xs c.args.buf.now to at count (omega arith) copied,
      c.is_end-self-inside.ensures,
      λ zero room. at_end xs at count (omega arith),
    )
