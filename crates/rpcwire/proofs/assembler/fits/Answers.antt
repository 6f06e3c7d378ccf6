use Rattle.std.proofs.Common.{ℕ, ◌<◌, ◌∙◌, subst, arith}
use Rattle.rpcwire.specs.Laws.Fits.{misfit-whole, misfit-small, misfit-room, misfit-within, misfit-few, misfit-value, fits-flags}
use Rattle.rpcwire.proofs.assembler.fits.Goals as goal

pub returns-then-s-n : goal.returns-then-s-n
returns-then-s-n c = misfit-whole _ _ c.if-s-n.true

pub returns-then-s-gt-MOST : goal.returns-then-s-gt-MOST
returns-then-s-gt-MOST c = misfit-small _ _ c.if-s-gt-MOST.true

pub returns-then-s : goal.returns-then-s
returns-then-s c = misfit-room _ _ c.if-s.true

pub returns-then-s-2 : goal.returns-then-s-2
returns-then-s-2 c = misfit-within _ _ c.if-s-2.true

pub returns-then-s-gt3 : goal.returns-then-s-gt3
returns-then-s-gt3 c = misfit-few _ _ c.if-s-gt3.true

pub returns-then-limit-s : goal.returns-then-limit-s
returns-then-limit-s c = misfit-value _ _ (omega arith)

pub returns : goal.returns
returns c =
    let s = c.args.s in
    c.flags_fit.ensures
    ∙ fits-flags s c.args.n c.if-s-n.false c.if-s-gt-MOST.false c.if-s.false c.if-s-2.false c.if-s-gt3.false
    (subst (λ (k : ℕ). s.header_value < k) c.limit.ensures c.if-limit-s.false)
