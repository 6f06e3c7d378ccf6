-- Two answers that a contract permits are one: the code's own answers, and not only what they say.
-- Assumes nothing.
use Rattle.std.specs.Prelude.{◌≡◌, Bool, List, ℕ, Result, Ok, Err}
use Rattle.std.proofs.Common.{ap}
use Rattle.xdr.specs.Meaning.Answer.{Answer, took}
use Rattle.xdr.specs.Meaning.Format.{Format}
use Rattle.xdr.specs.Meaning.Public.{Answers, Writes}
use Rattle.xdr.specs.Meaning.Views.{view, view_wrote}
use Rattle.xdr.specs.Laws.Public.{kept}
use Rattle.xdr.specs.Laws.Write.{one-writing}
use Rattle.xdr.specs.declared.refusal.Refusal.{Refusal}
use Rattle.xdr.specs.declared.answer.Took.{Took}

-- a view that loses nothing: what is seen alike is one
abbrev pub Told : {R A : Type 0} → (R → A) → Type 0
Told {R} view = (r r' : R) → view r ≡ view r' → r ≡ r'

same : {A : Type 0} {a b : A} {n k : ℕ} {c d : Bool} → took a n c ≡ took b k d
    → ◌≡◌ {A = Took A} (record { value = a; next = n; plain = c }) (record { value = b; next = k; plain = d })
same e = cc

pub told : {A : Type 0} → Told (view {A = A})
told (Ok x) (Ok y) e = ap Ok (same e)
told (Ok x) (Err r) e = cc
told (Err r) (Ok y) e = cc
told (Err r) (Err q) e = cc

pub wrote-told : Told view_wrote
wrote-told (Ok n) (Ok k) e = cc
wrote-told (Ok n) (Err r) e = cc
wrote-told (Err r) (Ok k) e = cc
wrote-told (Err r) (Err q) e = cc

-- of every reader: two answers that its contract permits are one
pub one-read : {M S R : Type 0} {see : R → Answer S} → Told see → (F : Format M S) (s : List ℕ) (p : ℕ) (r r' : R)
    → Answers F s p (see r) → Answers F s p (see r') → r ≡ r'
one-read whole F s p r r' c d = whole r r' ((kept F).one s p c d)

-- of every writer: two answers that its contract permits are one, and so are the two buffers
pub one-wrote : {M S : Type 0} (F : Format M S) (s : List ℕ) (x : S) (at : ℕ) (o : List ℕ) (a b : Result ℕ Refusal) {p q : List ℕ}
    → Writes F s x at o (view_wrote a) p → Writes F s x at o (view_wrote b) q → (a ≡ b) × (p ≡ q)
one-wrote F s x at o a b c d = let w = one-writing F s x at o c d in (wrote-told a b w.0, w.1)
