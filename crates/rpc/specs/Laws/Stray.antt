-- A union by a tag lists its tag as stray exactly where it is not declared, at the tag's own place; what else is loose stands behind the tag.
-- Assumes nothing.
use Rattle.std.specs.Prelude.{◌≡◌, refl, Bool, true, false, ℕ, zero, suc, ltb}
use Rattle.std.proofs.Common.{sym, ◌∙◌, arith, ltb-true, ltb-false, le-ltb}
use Rattle.std.proofs.Math.Path.{ap, ap₂}
use Rattle.std.proofs.Math.Bool.{cond}
use mathlib.Core.List.{List, [], ◌∷◌, ◌++◌}
use Rattle.std.proofs.Math.ListN.{length}
use Rattle.xdr.specs.Meaning.Answer.{Way, stray_tag, Loose, here, shifted}
use Rattle.xdr.specs.Meaning.Combinators.{Seen, means}
use Rattle.xdr.specs.Meaning.Items.{word}
use Rattle.xdr.specs.Meaning.Format.{Branch, Kept, Back, union}
use Rattle.xdr.specs.Laws.Forms.{number-form}
use Rattle.rpc.specs.Meaning.Reading.{accept_arms, Reading}
use Rattle.rpc.specs.Meaning.Reply.{reject_arms, see_reject, reply_branches, see_reply}
use Rattle.rpc.specs.Meaning.Message.{body_branches, see_body}

-- tags below n are declared, and any other is stray
abbrev pub Declares : {N : Type 0} (n : ℕ) (branches : ℕ → Branch) → ((tag : ℕ) → (branches tag).Msg → Seen N) → Type 0
Declares {N} n branches see =
    (tag : ℕ) (x : (branches tag).Msg) (m : N) (v : List Way) → see tag x ≡ means m v → v ≡ cond (ltb tag n) [] (stray_tag ∷ [])

-- what is seen with these ways is loose in no other
same-ways : {N : Type 0} {a m : N} {u v : List Way} → means a u ≡ means m v → v ≡ u
same-ways e = cc

-- every union of a reading
module _ {Stat Auth Accept Rejected Accepted Reply Body Msg : Type 0} (R : Reading Stat Auth Accept Rejected Accepted Reply Body Msg) where
  pub accept-declares : Declares R.count accept_arms R.see
  accept-declares tag x m v s = by (ltb tag R.count) refl
    where
      by : (t : Bool) → ltb tag R.count ≡ t → v ≡ cond t [] (stray_tag ∷ [])
      by true e = same-ways (sym (R.declared tag (ltb-true tag R.count e) x).1 ∙ s)
      by false e = same-ways (sym (R.stray tag (ltb-false tag R.count e) x).1 ∙ s)

  pub reject-declares : Declares 2 (reject_arms R) (see_reject R)
  reject-declares zero x m v s = same-ways s
  reject-declares (suc zero) x m v s = same-ways s
  reject-declares (suc (suc n)) x m v s = same-ways s ∙ sym (simp (le-ltb (suc (suc n)) 2 (omega arith)))

  pub reply-declares : Declares 2 (reply_branches R) (see_reply R)
  reply-declares zero x m v s = same-ways s
  reply-declares (suc zero) x m v s = same-ways s
  reply-declares (suc (suc n)) x m v s = same-ways s ∙ sym (simp (le-ltb (suc (suc n)) 2 (omega arith)))

  pub body-declares : Declares 2 (body_branches R) (see_body R)
  body-declares zero x m v s = same-ways s
  body-declares (suc zero) x m v s = same-ways s
  body-declares (suc (suc n)) x m v s = same-ways s ∙ sym (simp (le-ltb (suc (suc n)) 2 (omega arith)))

-- so a form of such a union begins with its tag's own entry, if it has one; the rest is that of its arm, four bytes on
module _ {N : Type 0} (n : ℕ) (branches : ℕ → Branch) (see : (tag : ℕ) → (branches tag).Msg → Seen N) (to : N → (tag : ℕ) × (branches tag).Msg)
    (kept : Kept word branches see to) (back : Back word branches see to) (declares : Declares n branches see) where
  pub record TagForm (m : N) (w : List Loose) (e : List ℕ) : Type 0 where
    pub tag : ℕ
    pub message : (branches tag).Msg
    pub behind : List Loose
    pub bytes : List ℕ
    pub form : (branches tag).format.codec.kind.Form message behind bytes
    pub sees : (v : List Way) × (see tag message ≡ means m v)
    pub loose : w ≡ here (cond (ltb tag n) [] (stray_tag ∷ [])) ++ shifted 4 behind

  pub tag-form : (m : N) (w : List Loose) (e : List ℕ) → (union word branches see to kept back).kind.Form m w e → TagForm m w e
  unfolding word
  tag-form m w e f =
      let g = f.form in
      let d = (number-form 4 f.of.0 g.w₁ g.e₁).0 g.form₁ in
      let own : f.w₂ ≡ cond (ltb f.of.0 n) [] (stray_tag ∷ []) = declares f.of.0 f.of.1 m f.w₂ f.sees in
      let four : length g.e₁ ≡ 4 = ap length d.bytes in
      record {
        tag = f.of.0;
        message = f.of.1;
        behind = g.w₂;
        bytes = g.e₂;
        form = g.form₂;
        sees = (f.w₂, f.sees);
        loose =
            f.loose
            ∙ ap₂ (λ x y. here x ++ y) own (g.loose ∙ ap₂ (λ x y. x ++ y) d.loose (ap (λ (k : ℕ). shifted k g.w₂) four));
      }
