-- A time to be set, by the answers of the calls that read it: each law is in the shape of a reader's goal.
-- Assumes nothing.
use Rattle.std.specs.Prelude.{◌≡◌, refl, true, List, Result, Err}
use Rattle.std.specs.Result.{result_from_control_flow}
use Rattle.std.specs.declared.ops.ControlFlow.{ControlFlow}
use Rattle.std.specs.declared.ops.ControlFlow.TheVariants.{Continue}
use Prim.Native.Nat.{ℕ, zero, suc}
use Rattle.xdr.specs.Meaning.Answer.{took, refused}
use Rattle.xdr.specs.Meaning.Items.{word}
use Rattle.xdr.specs.Meaning.Views.{view}
use Rattle.xdr.specs.Laws.Answers.{was-ok, on, off, word-on}
use Rattle.nfsattr.specs.Meaning.Attr.{nfstime}
use Rattle.nfs.specs.Meaning.Set.{set_time, Times, timed, dont_change, server_time, client_time}
use Rattle.xdr.specs.declared.refusal.Refusal.{Refusal}
use Rattle.xdr.specs.declared.refusal.Refusal.TheVariants.{Undeclared}
use Rattle.xdr.specs.declared.answer.Took.{Took}
use Rattle.nfsattr.specs.declared.attr.nfstime3.{nfstime3}

module _ {T : Type 0} (U : Times T) (s : List ℕ) (p : ℕ) where
  other : (v n : ℕ) → word.kind.read s p ≡ took v n true → (v ≡ 0 → ⊥) → (v ≡ 1 → ⊥) → (v ≡ 2 → ⊥) → refused (Undeclared p) ≡ (timed U).kind.read s p
  unfolding set_time
  other zero n f a b c = absurd (a refl)
  other (suc zero) n f a b c = absurd (b refl)
  other (suc (suc zero)) n f a b c = absurd (c refl)
  other (suc (suc (suc v))) n f a b c = rw f

  module _ (r : Result (Took ℕ) Refusal) where
    pub tag-lost : (q : Refusal) → view r ≡ word.kind.read s p → r ≡ Err q → refused q ≡ (timed U).kind.read s p
    unfolding set_time
    tag-lost q e f = rw (off e f)

    module _ (t : Took ℕ) (i : ControlFlow _ (Took ℕ)) where
      pub tag-dont : view r ≡ word.kind.read s p → r ≡ result_from_control_flow i → i ≡ Continue t → t.value ≡ 0 → took (U.to dont_change) t.next true ≡ (timed U).kind.read s p
      unfolding set_time
      tag-dont e f h g = rw (word-on s p e (was-ok f h), g)

      pub tag-server : view r ≡ word.kind.read s p → r ≡ result_from_control_flow i → i ≡ Continue t → t.value ≡ 1 → took (U.to server_time) t.next true ≡ (timed U).kind.read s p
      unfolding set_time
      tag-server e f h g = rw (word-on s p e (was-ok f h), g)

      pub tag-other : view r ≡ word.kind.read s p → r ≡ result_from_control_flow i → i ≡ Continue t → (t.value ≡ 0 → ⊥) → (t.value ≡ 1 → ⊥) → (t.value ≡ 2 → ⊥)
          → refused (Undeclared p) ≡ (timed U).kind.read s p
      tag-other e f h a b c = other t.value t.next (word-on s p e (was-ok f h)) a b c

      module _ (r' : Result (Took nfstime3) Refusal) where
        pub tag-off : (q : Refusal) → view r ≡ word.kind.read s p → r ≡ result_from_control_flow i → i ≡ Continue t → t.value ≡ 2 → view r' ≡ nfstime.kind.read s t.next → r' ≡ Err q
            → refused q ≡ (timed U).kind.read s p
        unfolding set_time
        tag-off q e f h g e' f' = rw (word-on s p e (was-ok f h), g, off e' f')

        pub tag-client : (x : Took nfstime3) (j : ControlFlow _ (Took nfstime3)) → view r ≡ word.kind.read s p → r ≡ result_from_control_flow i → i ≡ Continue t → t.value ≡ 2
            → view r' ≡ nfstime.kind.read s t.next → r' ≡ result_from_control_flow j → j ≡ Continue x → took (U.to (client_time x.value)) x.next x.plain ≡ (timed U).kind.read s p
        unfolding set_time
        tag-client x j e f h g e' f' h' = rw (word-on s p e (was-ok f h), g, on e' (was-ok f' h'))
