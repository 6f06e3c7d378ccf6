-- made by tools/generate from crates/nfsfile/rfc/setattr.x
use borrow.Author.Rules.{rules}
use Rattle.xdr.specs.Laws.Fields.{lays-none, lays-both, lays-of, lays-codec}
use Rattle.nfs.specs.Laws.Dir.{nfs-fh-writer}
use Rattle.nfsfile.specs.Laws.Setattr.{setattr-args-2}
use Rattle.nfsfile.proofs.setattr.put_setattr3args_1.Statement.{statement}
use Rattle.nfsfile.proofs.setattr.put_setattr3args_1.Tie as tie

pub put_setattr3args_1_spec : {M : Type 1} → statement M
put_setattr3args_1_spec = tie.close (tie.spec (search rules) (λ c. search (lays-none nfs-fh-writer setattr-args-2)) (search rules) (search rules) (search rules) (search rules) (search rules) (search rules) (search rules) (search rules) (search rules) (λ c. search (lays-both nfs-fh-writer setattr-args-2, lays-of, lays-codec)))
