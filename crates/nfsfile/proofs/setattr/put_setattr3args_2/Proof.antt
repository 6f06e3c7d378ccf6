-- made by tools/generate from crates/nfsfile/rfc/setattr.x
use borrow.Author.Rules.{rules}
use Rattle.xdr.specs.Laws.Fields.{lays-none, codec-writer, lays-both, lays-of, lays-codec}
use Rattle.nfs.specs.Meaning.Set.{sattr}
use Rattle.nfsfile.specs.Meaning.Setattr.{sattrguard}
use Rattle.nfsfile.proofs.setattr.put_setattr3args_2.Statement.{statement}
use Rattle.nfsfile.proofs.setattr.put_setattr3args_2.Tie as tie

pub put_setattr3args_2_spec : {M : Type 1} → statement M
put_setattr3args_2_spec = tie.close (tie.spec (search rules) (λ c. search (lays-none (codec-writer sattr) (codec-writer sattrguard))) (search rules) (search rules) (search rules) (search rules) (search rules) (search rules) (search rules) (search rules) (search rules) (λ c. search (lays-both (codec-writer sattr) (codec-writer sattrguard), lays-of, lays-codec)))
