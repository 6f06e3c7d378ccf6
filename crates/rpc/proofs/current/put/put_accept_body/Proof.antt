use borrow.Author.Rules.{rules}
use native.Mathlib.Omega.{arith}
use mathlib.Core.Path.{◌≡◌, refl}
use mathlib.Core.Logic.{◌⊎◌, ⊎_elim}
use lib.ListN.{length-take, length-drop}
use Rattle.rpc.specs.declared.current.reply.accept_body.{accept_body}
use Rattle.rpc.specs.declared.current.reply.accept_body.TheVariants.{SUCCESS, PROG_UNAVAIL, PROG_MISMATCH, PROC_UNAVAIL, GARBAGE_ARGS, SYSTEM_ERR}
use Rattle.rpc.specs.Laws.Sizes.{same_size}
use Rattle.rpc.specs.Laws.ReplySizes.{accept_size}
use Rattle.rpc.specs.Meaning.Current.{current}
use Rattle.rpc.specs.Laws.Current.{puts}
use Rattle.rpc.proofs.current.put.put_accept_body.Statement.{statement}
use Rattle.rpc.proofs.current.put.put_accept_body.Tie as tie

bare : (m : accept_body)
    → let t = denote.Enum.Declared.tag_of (denote.Enum.Declared.declared Rattle.rpc.specs.contracts.current.reply.accept_body.enum) m in
    (t ≡ 0) ⊎ ((t ≡ 1) ⊎ ((t ≡ 3) ⊎ ((t ≡ 4) ⊎ (t ≡ 5)))) → 4 ≡ accept_size current m
bare SUCCESS h = refl
bare PROG_UNAVAIL h = refl
bare (PROG_MISMATCH v) h =
    absurd
    (⊎_elim (λ k. omega arith)
    (λ k. ⊎_elim (λ k. omega arith) (λ k. ⊎_elim (λ k. omega arith) (λ k. ⊎_elim (λ k. omega arith) (λ k. omega arith) k) k) k) h)
bare PROC_UNAVAIL h = refl
bare GARBAGE_ARGS h = refl
bare SYSTEM_ERR h = refl

pub put_accept_body_spec : {M : Type 1} → statement M
put_accept_body_spec =
    tie.close
    (tie.spec
    (search rules) (search rules) (search rules) (search rules) (λ c. search (puts, bare)) (λ c. omega (arith, same_size (accept_size current)))
    (λ c. omega (arith, same_size (accept_size current))) (search rules)
    (λ c κs. simp (length-take, length-drop) (omega (arith, same_size (accept_size current)))) (search rules) (λ c. search puts))
