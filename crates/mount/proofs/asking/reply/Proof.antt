use borrow.Author.Rules.{rules}
use Rattle.mount.specs.Laws.Ask.{reply-none, reply-done}
use Rattle.mount.proofs.asking.reply.Statement.{statement}
use Rattle.mount.proofs.asking.reply.Tie as tie

pub reply_spec : {M : Type 1} → statement M
reply_spec =
    tie.close
    (tie.spec
    (search rules) (search rules) (search rules) (search rules) (search rules) (λ c. search reply-none) (search rules) (λ c. search reply-done))
