-- made by tools/generate from crates/nfsdata/rfc/read.x
use native.Mathlib.Omega.{arith}
use borrow.Author.Rules.{rules}
use Rattle.xdr.specs.Laws.Lays.{sums}
use Rattle.nfsattr.specs.Laws.Bytes.{post-op-attr-small}
use Rattle.nfsdata.proofs.read.read3resok_size.Statement.{statement}
use Rattle.nfsdata.proofs.read.read3resok_size.Tie as tie

pub read3resok_size_spec : {M : Type 1} → statement M
read3resok_size_spec = tie.close (tie.spec (search rules) (search rules) (λ c. search (sums, post-op-attr-small)) (λ c. search (sums, post-op-attr-small)) (λ c. omega arith))
