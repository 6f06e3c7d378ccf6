use borrow.Author.Rules.{rules}
use Rattle.xdr.specs.Laws.Answers.{tries, exit}
use Rattle.nfs.proofs.SourceRanges.{writes-two}
use Rattle.nfs.proofs.sources.write_diropargs3_from.Goals as goal

pub returns-in_err-end : goal.returns-in_err-end
returns-in_err-end c = search (writes-two, tries, exit c.from_residual.ensures.1)

pub slice_bounds-put_diropargs3_from-count : goal.slice_bounds-put_diropargs3_from-count
slice_bounds-put_diropargs3_from-count c = search (writes-two, rules, tries, c.in_ok-end.was)

pub slice_bounds-put_diropargs3_from-start : goal.slice_bounds-put_diropargs3_from-start
slice_bounds-put_diropargs3_from-start c = search (writes-two, rules, tries, c.in_ok-end.was)

pub put_diropargs3_from-requires-clause-dir_ready : goal.put_diropargs3_from-requires-clause-dir_ready
put_diropargs3_from-requires-clause-dir_ready c = search (writes-two, tries, c.in_ok-end.was)

pub put_diropargs3_from-requires-clause-x_in_bounds : goal.put_diropargs3_from-requires-clause-x_in_bounds
put_diropargs3_from-requires-clause-x_in_bounds c = search (rules, writes-two, tries, c.in_ok-end.was)

pub returns : goal.returns
returns c = search (writes-two, tries)
