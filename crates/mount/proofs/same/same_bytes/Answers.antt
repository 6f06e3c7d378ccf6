use Rattle.std.proofs.Common.{rules}
use Rattle.mount.specs.Laws.Same.{lengths_differ, agree-starts, agree_on, bytes_same, byte-differs}
use Rattle.mount.proofs.same.same_bytes.Goals as goal

ruleset same = (rules, lengths_differ, agree-starts, agree_on, bytes_same, byte-differs)

pub returns-then-n-q : goal.returns-then-n-q
returns-then-n-q c = search same

pub loop-k-init : goal.loop-k-init
loop-k-init c = search same

pub returns-then-a-i : goal.returns-then-a-i
returns-then-a-i c = search same

pub loop-k-preserved : goal.loop-k-preserved
loop-k-preserved c = search same

pub returns : goal.returns
returns c = search same
