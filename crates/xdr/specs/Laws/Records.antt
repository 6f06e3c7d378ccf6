-- A codec that is read by a plan: fields one after another, under the names of a record.
-- Assumes nothing.
use Rattle.std.specs.Prelude.{◌≡◌, Bool, true, ◌&&◌, List, ℕ}
use Rattle.std.proofs.Common.{sym, ap, ◌∙◌}
use Rattle.std.proofs.Math.Bool.{and-true}
use Rattle.xdr.specs.Meaning.Answer.{Answer, took}
use Rattle.xdr.specs.Meaning.Kind.{Codec}
use Rattle.xdr.specs.Meaning.Codecs.{mapped}
use Rattle.xdr.specs.Meaning.Format.{exactly}
use Rattle.xdr.specs.Laws.Plans.{Prog, give, run, Plan, at, plan-is-c}

pub record ByPlan {T : Type 0} (D : Codec T) : Type 1 where
  pub by : Prog T
  pub is : (s : List ℕ) (p : ℕ) → D.kind.read s p ≡ run by s p true

pub by-plan : {T : Type 0} {D : Codec T} (P : ByPlan D) (s : List ℕ) (p : ℕ) (z : Answer T) → z ≡ run P.by s p true → z ≡ D.kind.read s p
by-plan P s p z e = e ∙ sym (P.is s p)

-- fields one after another, under the names of a record
abbrev pub fields : {M N : Type 0} {C : Codec M} → Plan (exactly C) → (f : M → N) (g : N → M) (gf : (x : M) → g (f x) ≡ x) (fg : (y : N) → f (g y) ≡ y) → ByPlan (mapped C f g gf fg)
fields P f g gf fg = record { by = P.by (λ y. give (f y)); is = plan-is-c P f g gf fg }

abbrev pub one : {M : Type 0} (C : Codec M) → Plan (exactly C)
one C = at (exactly C)

-- a value that is always plain leaves the mark as it was
pub still : {A : Type 0} (u : A) (n : ℕ) (b : Bool) (z : Answer A) → z ≡ took u n b → z ≡ took u n (b && true)
still u n b z e = e ∙ ap (took u n) (sym (and-true b))
