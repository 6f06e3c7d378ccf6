use Rattle.std.proofs.Common.{sym, ap, ◌∙◌, arith}
use Rattle.rpcwire.specs.Meaning.Stream.{more, complete}
use Rattle.rpcwire.specs.Laws.Steps.{settled-done, settled-next, settled_on}
use Rattle.rpcwire.proofs.assembler.settle.Goals as goal

pub returns-then-last : goal.returns-then-last
returns-then-last c =
    let a = c.args in
    ap (λ s. complete a.placed s a.used) c.in_header.ensures ∙ sym (settled-done a.capacity a.placed a.left a.last a.used c.if-left-eq0.true c.if-last.true)

pub returns-then-left-eq0 : goal.returns-then-left-eq0
returns-then-left-eq0 c =
    let a = c.args in
    ap (λ s. more s a.used) c.in_header-then-left-eq0.ensures
    ∙ sym (settled-next a.capacity a.placed a.left a.last a.used c.if-left-eq0.true c.if-last.false)

pub returns : goal.returns
returns c =
    let a = c.args in
    ap (λ s. more s a.used) c.in_fragment.ensures ∙ sym (settled_on a.capacity a.placed a.left a.last a.used (omega arith))
