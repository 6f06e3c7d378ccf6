use borrow.Author.Rules.{rules}
use Rattle.xdr.specs.Laws.Numbers.{numbered}
use Rattle.nfsattr.specs.Meaning.Stat.{stat_number}
use Rattle.nfsattr.proofs.stat.nfsstat3.number.Statement.{statement}
use Rattle.nfsattr.proofs.stat.nfsstat3.number.Tie as tie

pub number_spec : {M : Type 1} → statement M
number_spec =
    tie.close
    (tie.spec
    (search rules) (search rules) (search rules) (λ c. search (numbered stat_number)) (λ c. search (numbered stat_number)))
