-- The kind that has no message is lawful.
-- Assumes nothing.
use Rattle.std.specs.Prelude.{◌≡◌, refl, ℕ, length}
use Rattle.std.proofs.Common.{sym, ap, subst, arith}
use Rattle.xdr.specs.Meaning.Refusal.{OfReading, less_by}
use Rattle.xdr.specs.Meaning.Answer.{refused}
use Rattle.xdr.specs.Meaning.Kind.{Lawful}
use Rattle.xdr.specs.Meaning.Combinators.{none_kind}
use Rattle.xdr.specs.declared.refusal.Refusal.TheVariants.{Ended, Undeclared}

apart : {P : Type 0} {p q w : ℕ} → Ended q w ≡ Undeclared p → P
apart e = let z : ◌≡◌ {A = ℕ} 0 1 = cc in absurd (omega arith)

pub none-lawful : (M : Type 0) → Lawful (none_kind {M = M})
none-lawful M =
    record {
      sound = λ s p h. refl;
      complete = λ m w e t s p f h. absurd f;
      refuses = λ s p r f. ap refused (sym f);
      numbered = λ s p r f. subst OfReading (sym f) tt;
      alike = λ m m' w w' e f f'. absurd f;
      good = λ m w e f. f;
      written = λ m g. g;
      plain = λ m e f. absurd f;
      ended = λ s p q w h f. apart f;
      few = λ s t p r h f g. ap (less_by (length t)) f;
      enough = λ s t p q w h b f e. apart f;
    }
