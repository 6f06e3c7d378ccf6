-- made by tools/generate from crates/nfsfile/rfc/setattr.x
use borrow.Author.Rules.{rules}
use Rattle.xdr.specs.Laws.Fields.{lays-none, fixed-writer, codec-writer, lays-both, lays-of, lays-codec}
use Rattle.nfsattr.specs.Laws.Sizes.{nfsstat-fixed}
use Rattle.nfsfile.specs.Meaning.Setattr.{setattr_resok}
use Rattle.nfsfile.proofs.setattr.put_setattr3res_1.Statement.{statement}
use Rattle.nfsfile.proofs.setattr.put_setattr3res_1.Tie as tie

pub put_setattr3res_1_spec : {M : Type 1} → statement M
put_setattr3res_1_spec = tie.close (tie.spec (λ c. search (lays-none (fixed-writer nfsstat-fixed) (codec-writer setattr_resok))) (search rules) (search rules) (search rules) (search rules) (search rules) (search rules) (search rules) (search rules) (search rules) (λ c. search (lays-both (fixed-writer nfsstat-fixed) (codec-writer setattr_resok), lays-of, lays-codec)))
