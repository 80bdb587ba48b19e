-- What carries it: a header is its valid mark and the fields of its type.
use Rattle.std.proofs.lemmas.Result.{err_from_is_err_and}
use Rattle.lists.proofs.Globals.{headers}
use borrow.Author.Rules.{rules}
use Rattle.lists.proofs.store.header_at.Goals as goal

pub header_of-header-requires : goal.header_of-header-requires
header_of-header-requires c = search (headers, rules)

pub offset_bounds-source-header : goal.offset_bounds-source-header
offset_bounds-source-header c = search (headers, rules)

pub bounds-source-header : goal.bounds-source-header
bounds-source-header c = search (headers, rules)

pub returns-in_err-next : goal.returns-in_err-next
returns-in_err-next c = let p = err_from_is_err_and c.from_residual.result c.from_residual.ensures.1 in rw (p.1, p.2) (search (headers, c.in_err-next.ensures, rules))

pub overflow_add-header : goal.overflow_add-header
overflow_add-header c = search (headers, c.in_ok-next.ensures, rules)

pub offset_bounds-source-at : goal.offset_bounds-source-at
offset_bounds-source-at c = search (headers, c.in_ok-next.ensures, rules)

pub bounds-source-at : goal.bounds-source-at
bounds-source-at c = search (headers, c.in_ok-next.ensures, rules)

pub fields_at-requires : goal.fields_at-requires
fields_at-requires c = search (headers, rules)

pub returns-in_ok-next : goal.returns-in_ok-next
returns-in_ok-next c = search (headers, c.in_ok-next.ensures, rules)

pub returns-else-h-source : goal.returns-else-h-source
returns-else-h-source c = search (headers, rules)
