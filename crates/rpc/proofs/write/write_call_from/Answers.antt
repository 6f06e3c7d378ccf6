use borrow.Author.Rules.{rules}
use Rattle.rpc.proofs.Ranges.{writes-two}
use Rattle.xdr.specs.Laws.Answers.{tries, exit}
use Rattle.rpc.proofs.write.write_call_from.Goals as goal

pub returns-in_err-end : goal.returns-in_err-end
returns-in_err-end c = search (writes-two, rules, tries, exit c.from_residual.ensures.1)

pub slice_bounds-put_call_from-count : goal.slice_bounds-put_call_from-count
slice_bounds-put_call_from-count c = search (writes-two, rules, tries)

pub slice_bounds-put_call_from-start : goal.slice_bounds-put_call_from-start
slice_bounds-put_call_from-start c = search (writes-two, rules, tries)

pub put_call_from-requires-clause-call_ready : goal.put_call_from-requires-clause-call_ready
put_call_from-requires-clause-call_ready c = search (writes-two, rules, tries, c.in_ok-end.was)

pub put_call_from-requires-clause-m_in_bounds : goal.put_call_from-requires-clause-m_in_bounds
put_call_from-requires-clause-m_in_bounds c = search (writes-two, rules, tries, c.in_ok-end.was)

pub returns : goal.returns
returns c = search (writes-two, rules, tries)
