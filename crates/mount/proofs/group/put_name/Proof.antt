use borrow.Author.Rules.{rules}
use Rattle.xdr.specs.Laws.Fixed.{flag-fixed}
use Rattle.xdr.specs.Laws.Fields.{lays-none, fixed-writer, lays-both, lays-of, lays-codec}
use Rattle.xdr.specs.Laws.Writers.{bytes-writer}
use Rattle.mount.proofs.group.put_name.Statement.{statement}
use Rattle.mount.proofs.group.put_name.Tie as tie

pub put_name_spec : {M : Type 1} → statement M
put_name_spec =
    tie.close
    (tie.spec
    (λ c. search (lays-none (fixed-writer flag-fixed) bytes-writer)) (search rules) (search rules) (search rules) (search rules) (search rules)
    (search rules) (search rules) (search rules) (search rules) (λ c. search (lays-both (fixed-writer flag-fixed) bytes-writer, lays-of, lays-codec)))
