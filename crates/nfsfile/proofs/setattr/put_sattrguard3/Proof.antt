-- made by tools/generate from crates/nfsfile/rfc/setattr.x
use borrow.Author.Rules.{rules}
use Rattle.xdr.specs.Laws.Lays.{lays}
use Rattle.xdr.specs.Laws.Fields.{lays-plain}
use Rattle.xdr.specs.Laws.Optional.{lays-void, lays-value}
use Rattle.nfsfile.specs.Laws.Setattr.{sattrguard-optional}
use Rattle.nfsfile.proofs.setattr.put_sattrguard3.Statement.{statement}
use Rattle.nfsfile.proofs.setattr.put_sattrguard3.Tie as tie

pub put_sattrguard3_spec : {M : Type 1} → statement M
put_sattrguard3_spec = tie.close (tie.spec (search rules) (λ c. search lays) (search rules) (search rules) (search rules) (search rules) (search rules) (λ c. search (rules, lays-plain, lays-void sattrguard-optional)) (search rules) (λ c. search (rules, lays-plain, lays-value sattrguard-optional)))
