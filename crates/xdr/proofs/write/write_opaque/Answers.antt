use borrow.Author.Rules.{rules}
use Rattle.xdr.specs.Meaning.Formats.{piece_held}
use Rattle.xdr.specs.Laws.Pieces.{piece-good}
use Rattle.xdr.specs.Laws.Writers.{bytes-writer, write-off, write-place, write-on}
use Rattle.xdr.specs.Laws.Answers.{tries, exit}
use Rattle.xdr.proofs.write.write_opaque.Goals as goal

pub returns-in_err-end : goal.returns-in_err-end
unfolding piece_held
returns-in_err-end c = search (write-off bytes-writer, write-place bytes-writer, write-on bytes-writer, piece-good, rules, tries, exit c.from_residual.ensures.1)

pub slice_bounds-put_opaque-count : goal.slice_bounds-put_opaque-count
unfolding piece_held
slice_bounds-put_opaque-count c = search (write-off bytes-writer, write-place bytes-writer, write-on bytes-writer, piece-good, rules, tries, c.in_ok-end.was)

pub slice_bounds-put_opaque-start : goal.slice_bounds-put_opaque-start
unfolding piece_held
slice_bounds-put_opaque-start c = search (write-off bytes-writer, write-place bytes-writer, write-on bytes-writer, piece-good, rules, tries, c.in_ok-end.was)

pub returns : goal.returns
unfolding piece_held
returns c = search (write-off bytes-writer, write-place bytes-writer, write-on bytes-writer, piece-good, rules, tries)
