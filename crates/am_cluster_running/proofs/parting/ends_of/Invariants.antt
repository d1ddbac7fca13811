use Rattle.std.proofs.Common.{◌≡◌, map, ◌++◌}
use Rattle.am_cluster_running.proofs.parting.ends_of.Given as goal
use Rattle.am_workers_laws.specs.Books.Ends.{end_in}

abbrev pub invariant-loop-book : goal.invariant-loop-book
invariant-loop-book l = l.ends.items ++ map end_in l.book-iterator.rest.items ≡ map end_in l.fn.books.items
