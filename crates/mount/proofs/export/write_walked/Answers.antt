use borrow.Author.Rules.{rules}
use Rattle.xdr.specs.Laws.Answers.{tries, exit}
use Rattle.mount.specs.Laws.Export.{list_read, list-ahead, list-refuses, list-place, list-room, list-writes}
use Rattle.mount.proofs.export.write_walked.Goals as goal

ruleset writes = (rules, tries, list_read, list-ahead, list-refuses, list-place, list-room, list-writes)

pub overflow_sub-next : goal.overflow_sub-next
overflow_sub-next c = search writes

pub returns-in_err-end : goal.returns-in_err-end
returns-in_err-end c = search (writes, exit c.from_residual.ensures.1)

pub slice_bounds-lay_exports-count : goal.slice_bounds-lay_exports-count
slice_bounds-lay_exports-count c = search (writes, c.in_ok-end.was)

pub slice_bounds-lay_exports-start : goal.slice_bounds-lay_exports-start
slice_bounds-lay_exports-start c = search (writes, c.in_ok-end.was)

pub lay_exports-requires-clause-nodes_to : goal.lay_exports-requires-clause-nodes_to
lay_exports-requires-clause-nodes_to c = search writes

pub lay_exports-requires-clause-at_in_bounds : goal.lay_exports-requires-clause-at_in_bounds
lay_exports-requires-clause-at_in_bounds c = search (writes, c.in_ok-end.was)

pub returns : goal.returns
returns c = search writes
