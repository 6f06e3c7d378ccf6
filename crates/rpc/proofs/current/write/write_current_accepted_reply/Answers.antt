use borrow.Author.Rules.{rules}
use Rattle.rpc.proofs.CurrentRanges.{writes}
use Rattle.xdr.specs.Laws.Answers.{tries, exit}
use Rattle.rpc.proofs.current.write.write_current_accepted_reply.Goals as goal

pub returns-in_err-end : goal.returns-in_err-end
returns-in_err-end c = search (writes, rules, tries, exit c.from_residual.ensures.1)

pub slice_bounds-put_accepted_reply-count : goal.slice_bounds-put_accepted_reply-count
slice_bounds-put_accepted_reply-count c = search (writes, rules, tries)

pub slice_bounds-put_accepted_reply-start : goal.slice_bounds-put_accepted_reply-start
slice_bounds-put_accepted_reply-start c = search (writes, rules, tries)

pub put_accepted_reply-requires-clause-ready : goal.put_accepted_reply-requires-clause-ready
put_accepted_reply-requires-clause-ready c = search (writes, rules, tries, c.in_ok-end.was)

pub put_accepted_reply-requires-clause-m_in_bounds : goal.put_accepted_reply-requires-clause-m_in_bounds
put_accepted_reply-requires-clause-m_in_bounds c = search (writes, rules, tries, c.in_ok-end.was)

pub returns : goal.returns
returns c = search (writes, rules, tries)
