-- Two answers that a contract permits are one, in the code's own types.
-- Assumes nothing.
use Rattle.std.specs.Prelude.{◌≡◌, refl, Bool, List, ℕ, Result, Ok, Err, Some, None}
use Rattle.std.proofs.Common.{sym, ◌∙◌}
use Rattle.xdr.specs.Meaning.Views.{view_wrote, view_option}
use Rattle.xdr.specs.Laws.One.{Told, wrote-told}
use Rattle.xdr.specs.declared.refusal.Refusal.{Refusal}
use Rattle.rpc.specs.Meaning.Reading.{Reading}
use Rattle.rpcwire.specs.Meaning.Stream.{Feeds, fresh_of}
use Rattle.rpcwire.specs.Meaning.Fragment.{WritesFragment}
use Rattle.rpcwire.specs.Meaning.Choice.{Chooses}
use Rattle.rpcwire.specs.Meaning.Views.{view_made, view_fed, view_choice}
use Rattle.rpcwire.specs.Laws.Promise.{promised}
use Rattle.rpcwire.specs.Laws.Fragment.{one-fragment}
use Rattle.rpcwire.specs.Laws.Choice.{said-held}
use Rattle.rpcwire.specs.declared.assembler.Assembler.{Assembler}
use Rattle.rpcwire.specs.declared.assembler.Fed.{Fed}
use Rattle.rpcwire.specs.declared.choice.Choice.{Choice}

pub made_told : Told view_made
made_told (Ok s) (Ok s') e = cc
made_told (Ok s) (Err r) e = cc
made_told (Err r) (Ok s) e = cc
made_told (Err r) (Err r') e = cc

pub fed-told : Told view_fed
fed-told (Fed.More s u) (Fed.More s' u') e = cc
fed-told (Fed.More s u) (Fed.Complete n s' u') e = cc
fed-told (Fed.More s u) (Fed.Refused r s' u') e = cc
fed-told (Fed.Complete n s u) (Fed.More s' u') e = cc
fed-told (Fed.Complete n s u) (Fed.Complete n' s' u') e = cc
fed-told (Fed.Complete n s u) (Fed.Refused r s' u') e = cc
fed-told (Fed.Refused r s u) (Fed.More s' u') e = cc
fed-told (Fed.Refused r s u) (Fed.Complete n s' u') e = cc
fed-told (Fed.Refused r s u) (Fed.Refused r' s' u') e = cc

-- of a caller, and of whatever else may be there
pub option-told : {A : Type 0} → Told (view_option {A = A})
option-told None None e = refl
option-told None (Some a) e = cc
option-told (Some a) None e = cc
option-told (Some a) (Some a') e = cc

pub choice-told : Told view_choice
choice-told (Choice.HandOver p v f c n) (Choice.HandOver p' v' f' c' n') e =
    let h : view_option c ≡ view_option c' = cc in
    let k : c ≡ c' = option-told c c' h in
    cc
choice-told (Choice.HandOver p v f c n) (Choice.Replied m) e = cc
choice-told (Choice.HandOver p v f c n) Choice.Silent e = cc
choice-told (Choice.HandOver p v f c n) (Choice.Refused r) e = cc
choice-told (Choice.Replied m) (Choice.HandOver p v f c n) e = cc
choice-told (Choice.Replied m) (Choice.Replied m') e = cc
choice-told (Choice.Replied m) Choice.Silent e = cc
choice-told (Choice.Replied m) (Choice.Refused r) e = cc
choice-told Choice.Silent (Choice.HandOver p v f c n) e = cc
choice-told Choice.Silent (Choice.Replied m) e = cc
choice-told Choice.Silent Choice.Silent e = refl
choice-told Choice.Silent (Choice.Refused r) e = cc
choice-told (Choice.Refused r) (Choice.HandOver p v f c n) e = cc
choice-told (Choice.Refused r) (Choice.Replied m) e = cc
choice-told (Choice.Refused r) Choice.Silent e = cc
choice-told (Choice.Refused r) (Choice.Refused r') e = cc

-- the assembler's maker, `feed`, `write_fragment` and `choose`
pub made_one : (c : ℕ) (r r' : Result Assembler Refusal) → view_made r ≡ fresh_of c → view_made r' ≡ fresh_of c → r ≡ r'
made_one c r r' e f = made_told r r' (e ∙ sym f)

pub feed-one : {s : Assembler} {run d d' e : List ℕ} (r r' : Fed) → Feeds s run d (view_fed r) d' → Feeds s run d (view_fed r') e → (r ≡ r') × (d' ≡ e)
feed-one r r' c d = let o = (promised c).one d in (fed-told r r' o.0, o.1)

pub fragment-one : (m : List ℕ) (at : ℕ) (o : List ℕ) (r r' : Result ℕ Refusal) {p q : List ℕ} → WritesFragment m at o (view_wrote r) p
    → WritesFragment m at o (view_wrote r') q → (r ≡ r') × (p ≡ q)
fragment-one m at o r r' c d = let f = one-fragment m at o c d in (wrote-told r r' f.0, f.1)

pub choose_one : {Stat Auth Accept Rejected Accepted Reply Body Msg : Type 0} (R : Reading Stat Auth Accept Rejected Accepted Reply Body Msg) (s : List ℕ) (seen : Bool) (o : List ℕ)
    (r r' : Choice) {p q : List ℕ} → Chooses R s seen o (view_choice r) p → Chooses R s seen o (view_choice r') q → (r ≡ r') × (p ≡ q)
choose_one R s seen o r r' c d = let f = said-held (c.is ∙ sym d.is) in (choice-told r r' f.0, f.1)
