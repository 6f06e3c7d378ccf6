-- Three steps in order read a MKDIR call, and the promise of its kind.
-- Assumes nothing.
use Rattle.std.specs.Prelude.{◌≡◌, ◌&&◌, List, ℕ}
use Rattle.std.proofs.Common.{ap, subst}
use Rattle.xdr.specs.Meaning.Answer.{Answer}
use Rattle.xdr.specs.Meaning.Format.{exactly, ◌⨟◌}
use Rattle.xdr.specs.Meaning.Promise.{Promise}
use Rattle.xdr.specs.Meaning.Public.{Answers, Kept}
use Rattle.xdr.specs.Laws.Promise.{keeps}
use Rattle.xdr.specs.Laws.Public.{kept}
use Rattle.xdr.specs.Meaning.Views.{view}
use Rattle.xdr.specs.Laws.One.{Told, one-read}
use Rattle.rpc.specs.Meaning.Crate.{rpc-msg}
use Rattle.rpc.specs.declared.message.rpc_msg.{rpc_msg}
use Rattle.nfs.specs.Meaning.Dir.{diropargs}
use Rattle.nfs.specs.Meaning.Set.{sattr}
use Rattle.nfs.specs.declared.dir.diropargs3.{diropargs3}
use Rattle.nfs.specs.declared.set.sattr3.{sattr3}
use Rattle.reader.specs.Meaning.Step.{Stepped, joined}
use Rattle.reader.specs.Meaning.Call.{mkdir, view_mkdir}
use Rattle.reader.specs.Laws.Step.{step_then, lost_first}
use Rattle.reader.specs.declared.Reader.{Reader}
use Rattle.std.specs.Prelude.{Bool, Result, Ok, Err}
use Rattle.xdr.specs.Meaning.Answer.{took, refused}
use Rattle.xdr.specs.declared.refusal.Refusal.{Refusal}
use Rattle.xdr.specs.declared.answer.Took.{Took}
use Rattle.reader.specs.declared.call.Mkdir.{Mkdir}

pub mkdir-steps : {r r₁ r₂ r₃ : Reader} {m : Answer rpc_msg} {d : Answer diropargs3} {a : Answer sattr3} → Stepped rpc-msg r m r₁ → Stepped diropargs r₁ d r₂ → Stepped (exactly sattr) r₂ a r₃
    → Answers mkdir r.src.now r.at (joined m (joined d a))
unfolding mkdir
mkdir-steps e f g = step_then rpc-msg (diropargs ⨟ exactly sattr) e (step_then diropargs (exactly sattr) f g.answers)

pub mkdir-keeps : Promise mkdir.codec.kind
mkdir-keeps = keeps mkdir.codec

pub mkdir-kept : Kept mkdir
mkdir-kept = kept mkdir

-- by the answers of the steps: the first refusal, or all that was taken
module _ {r r₁ : Reader} (m : Result (Took rpc_msg) Refusal) (e : Stepped rpc-msg r (view m) r₁) where
  pub mkdir-off-message : {q : Refusal} → m ≡ Err q → Answers mkdir r.src.now r.at (refused q)
  unfolding mkdir
  mkdir-off-message h = lost_first rpc-msg (diropargs ⨟ exactly sattr) r.src.now r.at (subst (Answers rpc-msg r.src.now r.at) (ap view h) e.answers)

  module _ {r₂ : Reader} (x : Took rpc_msg) (h : m ≡ Ok x) (d : Result (Took diropargs3) Refusal) (f : Stepped diropargs r₁ (view d) r₂) where
    pub mkdir-off-dirops : {q : Refusal} → d ≡ Err q → Answers mkdir r.src.now r.at (refused q)
    unfolding mkdir
    mkdir-off-dirops i =
        step_then rpc-msg (diropargs ⨟ exactly sattr) (subst (λ z. Stepped rpc-msg r z r₁) (ap view h) e)
        (lost_first diropargs (exactly sattr) r₁.src.now r₁.at (subst (Answers diropargs r₁.src.now r₁.at) (ap view i) f.answers))

    module _ {r₃ : Reader} (y : Took diropargs3) (i : d ≡ Ok y) (a : Result (Took sattr3) Refusal) (g : Stepped (exactly sattr) r₂ (view a) r₃) where
      mkdir-all : {z : Answer sattr3} → view a ≡ z → Answers mkdir r.src.now r.at (joined (view (Ok x)) (joined (view (Ok y)) z))
      mkdir-all k =
          mkdir-steps (subst (λ z. Stepped rpc-msg r z r₁) (ap view h) e) (subst (λ z. Stepped diropargs r₁ z r₂) (ap view i) f)
          (subst (λ z. Stepped (exactly sattr) r₂ z r₃) k g)

      pub mkdir-off-attributes : {q : Refusal} → a ≡ Err q → Answers mkdir r.src.now r.at (refused q)
      mkdir-off-attributes k = mkdir-all (ap view k)

      pub mkdir-on : (w : Took sattr3) → a ≡ Ok w → Answers mkdir r.src.now r.at (took (x.value, (y.value, w.value)) w.next (x.plain && (y.plain && w.plain)))
      mkdir-on w k = mkdir-all (ap view k)

same : {m m' : rpc_msg} {d d' : diropargs3} {a a' : sattr3} {n n' : ℕ} {b b' : Bool} → ◌≡◌ {A = Answer (rpc_msg × (diropargs3 × sattr3))} (took (m, (d, a)) n b) (took (m', (d', a')) n' b')
    → ◌≡◌ {A = Took Mkdir} (record { value = record { message = m; dirops = d; attributes = a }; next = n; plain = b })
    (record { value = record { message = m'; dirops = d'; attributes = a' }; next = n'; plain = b' })
same {m} {m'} {d} {d'} {a} {a'} e =
    let h : ◌≡◌ {A = rpc_msg × (diropargs3 × sattr3)} (m, (d, a)) (m', (d', a')) = cc in
    let i : m ≡ m' = ap (λ z. z.0) h in
    let j : d ≡ d' = ap (λ z. z.1.0) h in
    let k : a ≡ a' = ap (λ z. z.1.1) h in
    cc

-- `read_mkdir`: two answers that its contract permits are one
pub mkdir-told : Told view_mkdir
mkdir-told (Ok x) (Ok y) e = ap Ok (same e)
mkdir-told (Ok x) (Err r) e = cc
mkdir-told (Err r) (Ok x) e = cc
mkdir-told (Err r) (Err q) e = cc

pub read-mkdir-one : (s : List ℕ) (p : ℕ) (r r' : Result (Took Mkdir) Refusal) → Answers mkdir s p (view_mkdir r) → Answers mkdir s p (view_mkdir r') → r ≡ r'
read-mkdir-one = one-read mkdir-told mkdir
