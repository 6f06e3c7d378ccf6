use borrow.Author.Rules.{rules}
use Rattle.xdr.specs.Laws.Lays.{eight-on, rooms}
use Rattle.xdr.proofs.Refused.{eight-off}
use Rattle.xdr.specs.Laws.Answers.{tries, exit}
use Rattle.xdr.proofs.write.write_eight.Goals as goal

pub returns-in_err-end : goal.returns-in_err-end
returns-in_err-end c = search (eight-off, rooms, eight-on, rules, tries, exit c.from_residual.ensures.1)

pub slice_bounds-put_u64-count : goal.slice_bounds-put_u64-count
slice_bounds-put_u64-count c = search (eight-off, rooms, eight-on, rules, tries)

pub slice_bounds-put_u64-start : goal.slice_bounds-put_u64-start
slice_bounds-put_u64-start c = search (eight-off, rooms, eight-on, rules, tries)

pub returns : goal.returns
returns c = search (eight-off, rooms, eight-on, rules, tries)
