use Rattle.std.proofs.Common.{sym, ap, ◌∙◌, subst}
use Rattle.rpcwire.specs.Meaning.Choice.{replying}
use Rattle.xdr.specs.Meaning.Views.{view_option}
use Rattle.rpcwire.specs.Laws.Choice.{Short, mismatch-short, unavail-short, version-other, version-seen, program-served, program-other, is-served, not-served}
use Rattle.rpcwire.proofs.choice.by_version.Goals as goal

pub reply-requires : goal.reply-requires
reply-requires c = subst Short (sym c.rpc_vers_mismatch_of.ensures) (mismatch-short c.args.serves c.args.xid)

pub returns-then-call-ne2 : goal.returns-then-call-ne2
returns-then-call-ne2 c =
    let a = c.args in
    version-other a.seen a.out.now a.serves a.xid a.call (view_option a.caller) a.arguments c.if-call-ne2.true
    (c.reply.ensures ∙ ap (λ m. replying m a.out.now) c.rpc_vers_mismatch_of.ensures)

pub returns-then-seen : goal.returns-then-seen
returns-then-seen c =
    let a = c.args in
    version-seen a.seen a.out.now a.serves a.xid a.call (view_option a.caller) a.arguments c.if-call-ne2.false c.if-seen.true

pub reply-requires-in_default : goal.reply-requires-in_default
reply-requires-in_default c = subst Short (sym c.prog_unavail_reply_message.ensures) (unavail-short c.args.xid)

pub returns-in-100003 : goal.returns-in-100003
returns-in-100003 c =
    let a = c.args in
    program-served a.seen a.out.now a.serves a.xid a.call (view_option a.caller) a.arguments c.if-call-ne2.false c.if-seen.false
    (is-served a.call.prog c.in-100003.is)

pub returns-in_default : goal.returns-in_default
returns-in_default c =
    let a = c.args in
    program-other a.seen a.out.now a.serves a.xid a.call (view_option a.caller) a.arguments c.if-call-ne2.false c.if-seen.false
    (not-served a.call.prog c.in_default.in_default-own.rest.1)
    (c.reply-in_default.ensures ∙ ap (λ m. replying m a.out.now) c.prog_unavail_reply_message.ensures)
