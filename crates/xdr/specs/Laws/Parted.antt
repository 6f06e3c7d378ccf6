-- No form of a kind is the beginning of another, and bytes are a form of one message.
-- Assumes nothing.
use Rattle.std.specs.Prelude.{◌≡◌, refl, List, [], ◌++◌, ℕ, ◌+◌, length, take, drop}
use Rattle.std.proofs.Common.{sym, ap, ap₂, ◌∙◌, arith, take_at}
use Rattle.std.proofs.Math.Seq.{drop-append_seam}
use Rattle.xdr.specs.Meaning.Bytes.{Stands}
use Rattle.xdr.specs.Meaning.Answer.{took, Loose, clean}
use Rattle.xdr.specs.Meaning.Kind.{Kind}

module _ {M : Type 0} (K : Kind M)
    (complete : (m : M) (w : List Loose) (e t s : List ℕ) (p : ℕ) → K.Form m w e → Stands e t s p → K.read s p ≡ took m (p + length e) (clean w)) where
  pub record Parted (m m' : M) (e e' t t' : List ℕ) : Type 0 where
    pub message : m ≡ m'
    pub head : e ≡ e'
    pub tail : t ≡ t'

  pub parted : {m m' : M} {w w' : List Loose} {e e' t t' : List ℕ} → K.Form m w e → K.Form m' w' e' → e ++ t ≡ e' ++ t' → Parted m m' e e' t t'
  parted {m} {m'} {w} {w'} {e} {e'} {t} {t'} f f' h =
      let r : K.read (e ++ t) 0 ≡ took m (0 + length e) (clean w) = complete m w e t (e ++ t) 0 f refl in
      let r' : K.read (e ++ t) 0 ≡ took m' (0 + length e') (clean w') = complete m' w' e' t' (e ++ t) 0 f' h in
      let same : m ≡ m' = cc in
      let next : 0 + length e ≡ 0 + length e' = cc (r, r') in
      let size : length e ≡ length e' = omega arith in
      record {
        message = same;
        head = sym (take_at e t (length e) refl) ∙ ap (take (length e)) h ∙ take_at e' t' (length e) (sym size);
        tail = sym (drop-append_seam e t) ∙ ap₂ drop size h ∙ drop-append_seam e' t';
      }

  pub same-message : {m m' : M} {w w' : List Loose} {e : List ℕ} → K.Form m w e → K.Form m' w' e → m ≡ m'
  same-message f f' = (parted {t = []} {t' = []} f f' refl).message
