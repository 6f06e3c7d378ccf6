use borrow.Author.Rules.{rules}
use Rattle.xdr.specs.Laws.Lays.{lays, size_is}
use Rattle.nfsattr.specs.Laws.Sizes.{times-fixed, nfstime-fixed}
use Rattle.nfsattr.specs.Laws.Bytes.{times-bytes}
use Rattle.nfsattr.proofs.put.attr.put_times.Statement.{statement}
use Rattle.nfsattr.proofs.put.attr.put_times.Tie as tie

pub put_times_spec : {M : Type 1} → statement M
put_times_spec =
    tie.close
    (tie.spec
    (λ c. search (lays, size_is times-fixed)) (search rules) (search rules) (search rules) (search rules) (search rules) (search rules)
    (search rules) (search rules) (search rules) (λ c. search (lays, times-bytes, size_is times-fixed, size_is nfstime-fixed)))
