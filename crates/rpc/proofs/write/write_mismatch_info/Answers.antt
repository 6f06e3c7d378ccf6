use borrow.Author.Rules.{rules}
use Rattle.rpc.proofs.Ranges.{writes}
use Rattle.xdr.specs.Laws.Answers.{tries, exit}
use Rattle.rpc.proofs.write.write_mismatch_info.Goals as goal

pub returns-in_err-end : goal.returns-in_err-end
returns-in_err-end c = search (writes, rules, tries, exit c.from_residual.ensures.1)

pub slice_bounds-put_mismatch_info-count : goal.slice_bounds-put_mismatch_info-count
slice_bounds-put_mismatch_info-count c = search (writes, rules, tries)

pub slice_bounds-put_mismatch_info-start : goal.slice_bounds-put_mismatch_info-start
slice_bounds-put_mismatch_info-start c = search (writes, rules, tries)

pub put_mismatch_info-requires : goal.put_mismatch_info-requires
put_mismatch_info-requires c = search (writes, rules, tries, c.in_ok-end.was)

pub returns : goal.returns
returns c = search (writes, rules, tries)
