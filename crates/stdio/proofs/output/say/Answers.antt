use Rattle.std.proofs.Common.{sym, ◌∙◌, ◌+◌, false, length}
use borrow.Author.Tests.{leb-true}
use Rattle.stdio.specs.Output.{waiting}
use Rattle.stdio.specs.Laws.{said-lost, said-room, said-gone, said-front, said-long, kept-room, kept-front}
use Rattle.stdio.proofs.output.say.Goals as goal

pub returns-then-at-clause-said : goal.returns-then-at-clause-said
returns-then-at-clause-said g c = said-lost _ _ _ _ c.if-at.true

pub returns-then-fits-clause-said : goal.returns-then-fits-clause-said
returns-then-fits-clause-said g c =
    (λ i. record { out = waiting (c.args.at.count + length c.args.text.now); buffer = c.lay.ensures i })
    ∙ said-room c.args.buf.now c.args.at c.args.text.now false c.if-at.false (sym c.fits.ensures ∙ c.if-fits.true)

pub returns-then-fits-clause-kept : goal.returns-then-fits-clause-kept
returns-then-fits-clause-kept g c = λ e. rw c.lay.ensures (kept-room (g.W.Write.contents c.args.to.now.stream) c.args.buf.now c.args.text.now c.args.at.count (leb-true _ _ (sym c.fits.ensures ∙ c.if-fits.true)))

pub returns-then-f-clause-said : goal.returns-then-f-clause-said
returns-then-f-clause-said g c = said-gone c.args.buf.now c.args.at c.args.text.now c.if-at.false (sym c.fits.ensures ∙ c.if-fits.false) c.flush-f.result c.if-f.true c.flush-f.ensures.flushed.is

pub returns-then-text-buf-clause-said : goal.returns-then-text-buf-clause-said
returns-then-text-buf-clause-said g c =
    (λ i. record { out = waiting (length c.args.text.now); buffer = c.lay-then-text-buf.ensures i })
    ∙ said-front c.args.buf.now c.args.at c.args.text.now c.if-at.false (sym c.fits.ensures ∙ c.if-fits.false) c.if-text-buf.true

pub returns-then-text-buf-clause-kept : goal.returns-then-text-buf-clause-kept
returns-then-text-buf-clause-kept g c = λ e. rw c.lay-then-text-buf.ensures (kept-front (g.W.Write.contents c.args.to.now.stream) (g.W.Write.contents c.flush-f.new.to.stream) _ c.args.buf.now c.args.text.now c.if-text-buf.true (c.flush-f.ensures.sent c.if-f.false))

pub returns-clause-said : goal.returns-clause-said
returns-clause-said g c = said-long c.args.buf.now c.args.at c.args.text.now c.if-at.false (sym c.fits.ensures ∙ c.if-fits.false) c.write_all.result c.if-text-buf.false
