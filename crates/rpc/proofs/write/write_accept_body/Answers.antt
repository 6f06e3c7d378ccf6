use borrow.Author.Rules.{rules}
use Rattle.rpc.proofs.Ranges.{writes}
use Rattle.xdr.specs.Laws.Answers.{tries, exit}
use Rattle.rpc.proofs.write.write_accept_body.Goals as goal

pub returns-in_err-end : goal.returns-in_err-end
returns-in_err-end c = search (writes, rules, tries, exit c.from_residual.ensures.1)

pub slice_bounds-put_accept_body-count : goal.slice_bounds-put_accept_body-count
slice_bounds-put_accept_body-count c = search (writes, rules, tries)

pub slice_bounds-put_accept_body-start : goal.slice_bounds-put_accept_body-start
slice_bounds-put_accept_body-start c = search (writes, rules, tries)

pub put_accept_body-requires : goal.put_accept_body-requires
put_accept_body-requires c = search (writes, rules, tries, c.in_ok-end.was)

pub returns : goal.returns
returns c = search (writes, rules, tries)
