use borrow.Author.Rules.{rules}
use native.Mathlib.Omega.{arith}
use lib.ListN.{length-take, length-drop}
use Rattle.rpc.specs.Laws.Sizes.{same_size}
use Rattle.rpc.specs.Laws.ReplySizes.{reply_size}
use Rattle.rpc.specs.Meaning.Crate.{crate}
use Rattle.rpc.specs.Laws.ReplyPuts.{puts, readies}
use Rattle.rpc.proofs.put.put_reply_body.Statement.{statement}
use Rattle.rpc.proofs.put.put_reply_body.Tie as tie

pub put_reply_body_spec : {M : Type 1} → statement M
put_reply_body_spec =
    tie.close
    (tie.spec
    (search rules) (search rules) (λ c. omega (arith, same_size (reply_size crate))) (λ c. omega (arith, same_size (reply_size crate))) (search rules)
    (λ c κs. (search readies, simp (length-take, length-drop) (omega (arith, same_size (reply_size crate))))) (search rules) (search rules)
    (λ c. omega (arith, same_size (reply_size crate))) (λ c. omega (arith, same_size (reply_size crate))) (search rules)
    (λ c κs. simp (length-take, length-drop) (omega (arith, same_size (reply_size crate)))) (search rules) (λ c. search puts) (search rules)
    (λ c. search puts))
