-- made by tools/generate from crates/nfsfile/rfc/setattr.x
use borrow.Author.Rules.{rules}
use Rattle.xdr.specs.Laws.Optional.{none-size, some_size}
use Rattle.nfsattr.specs.Laws.Sizes.{nfstime-fixed}
use Rattle.nfsfile.specs.Laws.Setattr.{sattrguard-optional}
use Rattle.nfsfile.proofs.setattr.sattrguard3_size.Statement.{statement}
use Rattle.nfsfile.proofs.setattr.sattrguard3_size.Tie as tie

pub sattrguard3_size_spec : {M : Type 1} → statement M
sattrguard3_size_spec = tie.close (tie.spec (search rules) (search rules) (search rules) (λ c. search (none-size sattrguard-optional)) (λ c. search (some_size sattrguard-optional nfstime-fixed)))
