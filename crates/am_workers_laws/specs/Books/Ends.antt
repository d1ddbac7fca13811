-- The endpoint in a book.
use Rattle.am_endpoint.specs.View.{EndpointView}
use Rattle.am_workers_laws.specs.declared.books.EndBook.{EndBook}

-- the endpoint that a book holds
abbrev pub end_in : EndBook → EndpointView
end_in b = b.end.value
