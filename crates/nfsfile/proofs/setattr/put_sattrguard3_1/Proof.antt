-- made by tools/generate from crates/nfsfile/rfc/setattr.x
use borrow.Author.Rules.{rules}
use Rattle.xdr.specs.Laws.Fixed.{flag-fixed}
use Rattle.xdr.specs.Laws.Fields.{lays-none, fixed-writer, lays-both, lays-of, lays-codec}
use Rattle.nfsattr.specs.Laws.Sizes.{nfstime-fixed}
use Rattle.nfsfile.proofs.setattr.put_sattrguard3_1.Statement.{statement}
use Rattle.nfsfile.proofs.setattr.put_sattrguard3_1.Tie as tie

pub put_sattrguard3_1_spec : {M : Type 1} → statement M
put_sattrguard3_1_spec = tie.close (tie.spec (λ c. search (lays-none (fixed-writer flag-fixed) (fixed-writer nfstime-fixed))) (search rules) (search rules) (search rules) (search rules) (search rules) (search rules) (search rules) (search rules) (search rules) (λ c. search (lays-both (fixed-writer flag-fixed) (fixed-writer nfstime-fixed), lays-of, lays-codec)))
