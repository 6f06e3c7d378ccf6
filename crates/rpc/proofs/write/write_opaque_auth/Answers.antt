use borrow.Author.Rules.{rules}
use Rattle.rpc.proofs.Ranges.{writes}
use Rattle.xdr.specs.Laws.Answers.{tries, exit}
use Rattle.rpc.proofs.write.write_opaque_auth.Goals as goal

pub returns-in_err-end : goal.returns-in_err-end
returns-in_err-end c = search (writes, rules, tries, exit c.from_residual.ensures.1)

pub slice_bounds-put_opaque_auth-count : goal.slice_bounds-put_opaque_auth-count
slice_bounds-put_opaque_auth-count c = search (writes, rules, tries)

pub slice_bounds-put_opaque_auth-start : goal.slice_bounds-put_opaque_auth-start
slice_bounds-put_opaque_auth-start c = search (writes, rules, tries)

pub put_opaque_auth-requires-clause-ready : goal.put_opaque_auth-requires-clause-ready
put_opaque_auth-requires-clause-ready c = search (writes, rules, tries, c.in_ok-end.was)

pub put_opaque_auth-requires-clause-m_in_bounds : goal.put_opaque_auth-requires-clause-m_in_bounds
put_opaque_auth-requires-clause-m_in_bounds c = search (writes, rules, tries, c.in_ok-end.was)

pub returns : goal.returns
returns c = search (writes, rules, tries)
