use borrow.Author.Rules.{rules}
use Rattle.mount.specs.Laws.Ask.{xid-none, xid-given}
use Rattle.mount.proofs.asking.xid_of.Statement.{statement}
use Rattle.mount.proofs.asking.xid_of.Tie as tie

pub xid_of_spec : {M : Type 1} → statement M
xid_of_spec =
    tie.close
    (tie.spec
    (search rules) (search rules) (search rules) (λ c. search xid-none) (λ c. search xid-given))
