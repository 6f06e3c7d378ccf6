use borrow.Author.Rules.{rules}
use Rattle.door.specs.Laws.Settled.{not-settled, flag-place, next_fits, settled-set, settled-unset}
use Rattle.door.proofs.settle.settle_flag.Goals as goal

pub returns-in_default : goal.returns-in_default
returns-in_default c = search (not-settled, rules)

pub slice_bounds-put_bool-count : goal.slice_bounds-put_bool-count
slice_bounds-put_bool-count c = search (flag-place, rules)

pub slice_bounds-put_bool-start : goal.slice_bounds-put_bool-start
slice_bounds-put_bool-start c = search (flag-place, rules)

pub overflow_add-result : goal.overflow_add-result
overflow_add-result c = search (next_fits, rules)

pub returns-then-flag : goal.returns-then-flag
returns-then-flag c = search (settled-set, rules)

pub returns : goal.returns
returns c = search (settled-unset, rules)
