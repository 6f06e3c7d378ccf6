use borrow.Author.Rules.{rules}
use Rattle.xdr.specs.Laws.Fixed.{flag-fixed}
use Rattle.xdr.specs.Laws.Fields.{front-none, fixed-writer, front-both, lays-codec}
use Rattle.mount.specs.Meaning.Export.{node}
use Rattle.mount.proofs.export.put_entry.Statement.{statement}
use Rattle.mount.proofs.export.put_entry.Tie as tie

pub put_entry_spec : {M : Type 1} → statement M
put_entry_spec =
    tie.close
    (tie.spec
    (λ c. search (front-none (fixed-writer flag-fixed) node)) (search rules) (search rules) (search rules) (search rules) (search rules)
    (search rules) (search rules) (search rules) (search rules) (λ c. search (front-both (fixed-writer flag-fixed) node, lays-codec)))
