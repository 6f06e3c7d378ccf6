-- made by tools/generate from crates/nfsfile/rfc/lookup.x
use native.Mathlib.Omega.{arith}
use borrow.Author.Rules.{rules}
use Rattle.xdr.specs.Laws.Lays.{sums}
use Rattle.nfs.specs.Laws.Dir.{nfs-fh-most}
use Rattle.nfsattr.specs.Laws.Bytes.{post-op-attr-small}
use Rattle.nfsfile.proofs.lookup.lookup3resok_size.Statement.{statement}
use Rattle.nfsfile.proofs.lookup.lookup3resok_size.Tie as tie

pub lookup3resok_size_spec : {M : Type 1} → statement M
lookup3resok_size_spec = tie.close (tie.spec (search rules) (search rules) (λ c. search (sums, nfs-fh-most, post-op-attr-small)) (search rules) (λ c. search (sums, nfs-fh-most, post-op-attr-small)) (λ c. omega arith))
