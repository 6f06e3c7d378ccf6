use borrow.Author.Rules.{rules}
use Rattle.xdr.specs.Laws.Answers.{piece-refused}
use Rattle.xdr.specs.Laws.ByNumber.{passed, by-room, by-piece}
use Rattle.xdr.specs.Laws.Answers.{tries, exit}
use Rattle.xdr.proofs.inner.whole_opaque_at.Goals as goal

pub returns-in_err-count : goal.returns-in_err-count
returns-in_err-count c = search (passed piece-refused, by-room, by-piece, rules, tries, exit c.from_residual.ensures.1)

pub whole_body_at-requires : goal.whole_body_at-requires
whole_body_at-requires c = search (rules, by-room)

pub returns : goal.returns
returns c = search (passed piece-refused, by-room, by-piece, rules, tries)
