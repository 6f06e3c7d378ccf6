-- made by tools/generate from crates/mount/rfc/mnt.x
use borrow.Author.Rules.{rules}
use Rattle.xdr.specs.Meaning.Codecs.{void}
use Rattle.xdr.specs.Laws.Lays.{sums}
use Rattle.xdr.specs.Laws.Fields.{codec-writer}
use Rattle.xdr.specs.Laws.Status.{ok-size, alone-size}
use Rattle.mount.specs.Laws.Mnt.{mountres-ok-most, mountres-status, mountstat-fixed, mountres-ok-writer}
use Rattle.mount.proofs.mnt.mountres3_size.Statement.{statement}
use Rattle.mount.proofs.mnt.mountres3_size.Tie as tie

pub mountres3_size_spec : {M : Type 1} → statement M
mountres3_size_spec = tie.close (tie.spec (search rules) (search rules) (λ c. search (sums, mountres-ok-most)) (search rules) (λ c. search (ok-size mountres-status mountstat-fixed mountres-ok-writer (codec-writer void))) (λ c. search (alone-size mountres-status mountstat-fixed mountres-ok-writer (codec-writer void))))
