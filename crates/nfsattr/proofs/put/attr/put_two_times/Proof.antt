use borrow.Author.Rules.{rules}
use Rattle.xdr.specs.Laws.Lays.{lays, size_is}
use Rattle.nfsattr.specs.Laws.Sizes.{nfstime-fixed}
use Rattle.nfsattr.specs.Laws.Words.{two-times-size}
use Rattle.nfsattr.proofs.put.attr.put_two_times.Statement.{statement}
use Rattle.nfsattr.proofs.put.attr.put_two_times.Tie as tie

pub put_two_times_spec : {M : Type 1} → statement M
put_two_times_spec =
    tie.close
    (tie.spec
    (λ c. search (lays, two-times-size)) (search rules) (search rules) (search rules) (search rules) (search rules) (search rules) (search rules)
    (search rules) (search rules) (λ c. search (lays, two-times-size, size_is nfstime-fixed)))
