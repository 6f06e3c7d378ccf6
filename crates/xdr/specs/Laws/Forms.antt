-- The kinds of the items have the forms that `Meaning.Forms` draws.
-- Assumes nothing.
use Rattle.std.specs.Prelude.{◌≡◌, refl, ◌↔◌, Bool, true, false, not, cond, List, [], ◌∷◌, ◌++◌, ℕ, zero, suc, ◌+◌, ◌^◌, ◌<◌, eqb, leb, length}
use Rattle.std.proofs.Common.{sym, ap, ap₂, ◌∙◌, subst, append-nil, add-zero, arith, ne_eqb}
use Rattle.std.proofs.lemmas.Bool.{lt-leb}
use Rattle.xdr.specs.Meaning.Bytes.{Bytes, digits, padding, zeros}
use Rattle.xdr.specs.Meaning.Answer.{Way, Loose, odd_flag, dirty_pad, here, shifted}
use Rattle.xdr.specs.Meaning.Kind.{Codec}
use Rattle.xdr.specs.Meaning.Combinators.{means}
use Rattle.xdr.specs.Meaning.Shapes.{Tuple}
use Rattle.xdr.specs.Meaning.Codecs.{times}
use Rattle.xdr.specs.Meaning.Items.{number, word, flag, see_flag, opaque, words}
use Rattle.xdr.specs.Meaning.Forms.{NumberForm, FlagForm, OpaqueForm, all_digits, AllWords, WordsForm}
use Rattle.xdr.specs.Meaning.Shapes.{from_list}

-- of any codec, the forms with nothing loose are what is written of the messages in range
pub plain_form : {M : Type 0} (C : Codec M) (m : M) (e : List ℕ) → C.kind.Form m [] e ↔ (C.kind.Good m × (e ≡ C.kind.write m))
plain_form C m e = (
  (λ f. (C.laws.good m [] e f, C.laws.plain m e f)),
  (λ h. subst (C.kind.Form m []) (sym h.1) (C.laws.written m h.0)),
)

-- where nothing can be loose, that is all the forms
only-plain : {M : Type 0} (C : Codec M) (m : M) (w : List Loose) (e : List ℕ) → w ≡ [] → C.kind.Form m w e → C.kind.Good m × (e ≡ C.kind.write m)
only-plain C m w e z f = (plain_form C m e).0 (subst (λ v. C.kind.Form m v e) z f)

number-loose : (k n : ℕ) (w : List Loose) (e : List ℕ) → (number k).kind.Form n w e → w ≡ []
unfolding number
number-loose k n w e f =
    let e₁ : f.w₁ ≡ [] = f.form.0 in
    let e₂ : f.w₂ ≡ [] = cc f.sees in
    f.loose ∙ ap₂ (λ x y. here x ++ y) e₂ e₁

number-there : (k n : ℕ) (w : List Loose) (e : List ℕ) → (number k).kind.Form n w e → NumberForm k n w e
unfolding number
number-there k n w e f =
    let z = number-loose k n w e f in
    let h = only-plain (number k) n w e z f in
    record { loose = z; range = h.0; bytes = h.1 }

number-back : (k n : ℕ) (w : List Loose) (e : List ℕ) → NumberForm k n w e → (number k).kind.Form n w e
unfolding number
number-back k n w e d = rw d.loose ((plain_form (number k) n e).1 (d.range, d.bytes))

pub number-form : (k n : ℕ) (w : List Loose) (e : List ℕ) → (number k).kind.Form n w e ↔ NumberForm k n w e
number-form k n w e = (number-there k n w e, number-back k n w e)

-- a flag
here-if : (t : Bool) (w : List Way) → here (cond t [] w) ≡ cond t [] (here w)
here-if true w = refl
here-if false w = refl

pub flag-form : (b : Bool) (w : List Loose) (e : List ℕ) → flag.kind.Form b w e ↔ FlagForm b w e
unfolding flag word
flag-form b w e = (there, back)
  where
    see : (n : ℕ) → see_flag n ≡ means (not (eqb n 0)) (cond (leb n 1) [] (odd_flag ∷ []))
    see zero = refl
    see (suc zero) = refl
    see (suc (suc n)) =
        let h : 1 < suc (suc n) = omega arith in
        simp (lt-leb (suc (suc n)) 1 h, ne_eqb (suc (suc n)) 0 (λ z. omega arith))

    there : flag.kind.Form b w e → FlagForm b w e
    there f =
        let d = number-there 4 f.of f.w₁ e f.form in
        let s : means (not (eqb f.of 0)) (cond (leb f.of 1) [] (odd_flag ∷ [])) ≡ means b f.w₂ = sym (see f.of) ∙ f.sees in
        let marks : f.w₂ ≡ cond (leb f.of 1) [] (odd_flag ∷ []) = cc s in
        record {
          number = f.of;
          range = d.range;
          bytes = d.bytes;
          value = cc s;
          loose =
              f.loose
              ∙ ap₂ (λ x y. here x ++ y) marks d.loose
              ∙ append-nil (here (cond (leb f.of 1) [] (odd_flag ∷ [])))
              ∙ here-if (leb f.of 1) (odd_flag ∷ []);
        }

    back : FlagForm b w e → flag.kind.Form b w e
    back d =
        record {
          of = d.number;
          w₁ = [];
          w₂ = cond (leb d.number 1) [] (odd_flag ∷ []);
          form = number-back 4 d.number [] e (record { loose = refl; range = d.range; bytes = d.bytes });
          sees = see d.number ∙ ap (λ x. means x (cond (leb d.number 1) [] (odd_flag ∷ []))) (sym d.value);
          loose =
              d.loose
              ∙ sym (here-if (leb d.number 1) (odd_flag ∷ []))
              ∙ sym (append-nil (here (cond (leb d.number 1) [] (odd_flag ∷ []))));
        }

-- opaque bytes: the padding stands behind the length word and the bytes
pub pad-mark : (n : ℕ) (t : Bool) → shifted 4 (shifted n (here (cond t [] (dirty_pad ∷ [])))) ≡ cond t [] (record { offset = 4 + n; way = dirty_pad } ∷ [])
pad-mark n true = refl
pad-mark n false = ap (λ (k : ℕ). record { offset = 4 + k; way = dirty_pad } ∷ []) (add-zero n)

-- what stands where an opaque is read: its bytes and its padding, and what is loose in them
pub record OpaqueStands (l : List ℕ) (w : List Loose) (e : List ℕ) : Type 0 where
  pub pad : List ℕ
  pub range : length l < 256 ^ 4
  pub all : Bytes l
  pub pad_size : length pad ≡ padding (length l)
  pub pad_bytes : Bytes pad
  pub bytes : e ≡ digits 4 (length l) ++ (l ++ pad)
  pub loose : w ≡ shifted 4 (shifted (length l) (here (cond (zeros pad) [] (dirty_pad ∷ []))))

pub opaque-stands : (l : List ℕ) (w : List Loose) (e : List ℕ) → opaque.kind.Form l w e → OpaqueStands l w e
unfolding opaque word
opaque-stands l w e f =
    let n : ℕ = f.of.0 in
    let c : List ℕ = f.of.1.0 in
    let g = f.form in
    let h = g.form₂ in
    let p = h.form₂ in
    let d = number-there 4 n g.w₁ g.e₁ g.form₁ in
    let same : c ≡ l = cc f.sees in
    let none : f.w₂ ≡ [] = cc f.sees in
    let marks : p.w₂ ≡ cond (zeros p.of) [] (dirty_pad ∷ []) = cc p.sees in
    let size : length l ≡ n = ap length (sym same) ∙ h.form₁.2.size in
    let four : length g.e₁ ≡ 4 = ap length d.bytes in
    let pad-loose : h.w₂ ≡ here (cond (zeros p.of) [] (dirty_pad ∷ [])) =
    p.loose ∙ ap₂ (λ x y. here x ++ y) marks p.form.0 ∙ append-nil (here (cond (zeros p.of) [] (dirty_pad ∷ []))) in
    record {
      pad = p.of;
      range = rw size d.range;
      all = subst Bytes same h.form₁.2.bytes;
      pad_size = p.form.2.size ∙ ap padding (sym size);
      pad_bytes = p.form.2.bytes;
      bytes = g.bytes ∙ ap₂ (λ x y. x ++ y) (d.bytes ∙ ap (digits 4) (sym size)) (h.bytes ∙ ap₂ (λ x y. x ++ y) (h.form₁.1 ∙ same) p.form.1);
      loose =
          f.loose
          ∙ ap₂ (λ x y. here x ++ y) none
          (g.loose
          ∙ ap₂ (λ x y. x ++ y) d.loose
          (ap₂ shifted four
          (h.loose ∙ ap₂ (λ x y. x ++ y) h.form₁.0 (ap₂ shifted (ap length (h.form₁.1 ∙ same)) pad-loose))));
    }

pub opaque-form : (l : List ℕ) (w : List Loose) (e : List ℕ) → opaque.kind.Form l w e ↔ OpaqueForm l w e
unfolding opaque word
opaque-form l w e = (there, back)
  where
    there : opaque.kind.Form l w e → OpaqueForm l w e
    there f =
        let o = opaque-stands l w e f in
        record {
          pad = o.pad;
          range = o.range;
          all = o.all;
          pad_size = o.pad_size;
          pad_bytes = o.pad_bytes;
          bytes = o.bytes;
          loose = o.loose ∙ pad-mark (length l) (zeros o.pad);
        }

    back : OpaqueForm l w e → opaque.kind.Form l w e
    back o =
        let ways : List Way = cond (zeros o.pad) [] (dirty_pad ∷ []) in
        let marks : List Loose = here ways in
        record {
          of = (length l, (l, tt));
          w₁ = shifted 4 (shifted (length l) marks);
          w₂ = [];
          sees = refl;
          loose = o.loose ∙ sym (pad-mark (length l) (zeros o.pad));
          form = record {
            e₁ = digits 4 (length l);
            e₂ = l ++ o.pad;
            w₁ = [];
            w₂ = shifted (length l) marks;
            bytes = o.bytes;
            loose = refl;
            form₁ = number-back 4 (length l) [] (digits 4 (length l)) (record { loose = refl; range = o.range; bytes = refl });
            form₂ = record {
              e₁ = l;
              e₂ = o.pad;
              w₁ = [];
              w₂ = marks;
              bytes = refl;
              loose = refl;
              form₁ = (refl, refl, record { size = refl; bytes = o.all });
              form₂ = record {
                of = o.pad;
                w₁ = [];
                w₂ = ways;
                sees = refl;
                loose = sym (append-nil marks);
                form = (refl, refl, record { size = o.pad_size; bytes = o.pad_bytes });
              };
            };
          };
        }

-- a word list
times-loose : (n : ℕ) (t : Tuple ℕ n) (w : List Loose) (e : List ℕ) → (times word n).kind.Form t w e → w ≡ []
unfolding word
times-loose zero t w e f = f.0
times-loose (suc n) t w e f =
    f.loose
    ∙ ap₂ (λ x y. x ++ y) (number-loose 4 t.0 f.w₁ f.e₁ f.form₁)
    (ap (shifted (length f.e₁)) (times-loose n t.1 f.w₂ f.e₂ f.form₂))

words-loose : (l : List ℕ) (w : List Loose) (e : List ℕ) → words.kind.Form l w e → w ≡ []
unfolding words word
words-loose l w e f =
    let g = f.form in
    let none : f.w₂ ≡ [] = cc f.sees in
    f.loose
    ∙ ap₂ (λ x y. here x ++ y) none
    (g.loose
    ∙ ap₂ (λ x y. x ++ y) (number-loose 4 f.of.0 g.w₁ g.e₁ g.form₁)
    (ap (shifted (length g.e₁)) (times-loose f.of.0 f.of.1 g.w₂ g.e₂ g.form₂)))

count-is : (l : List ℕ) → (from_list ℕ l).0 ≡ length l
count-is [] = refl
count-is (x ∷ l) = ap suc (count-is l)

all-written : (l : List ℕ) → (times word (from_list ℕ l).0).kind.write (from_list ℕ l).1 ≡ all_digits l
unfolding word number
all-written [] = refl
all-written (x ∷ l) = ap (λ r. digits 4 x ++ r) (all-written l)

all-good : (l : List ℕ) → (times word (from_list ℕ l).0).kind.Good (from_list ℕ l).1 → AllWords l
unfolding word number
all-good [] g = tt
all-good (x ∷ l) g = (g.0, all-good l g.1)

good-all : (l : List ℕ) → AllWords l → (times word (from_list ℕ l).0).kind.Good (from_list ℕ l).1
unfolding word number
good-all [] g = tt
good-all (x ∷ l) g = (g.0, good-all l g.1)

words-written : (l : List ℕ) → words.kind.write l ≡ digits 4 (length l) ++ all_digits l
unfolding words word number
words-written l = ap₂ (λ n r. digits 4 n ++ r) (count-is l) (all-written l)

words-there : (l : List ℕ) (w : List Loose) (e : List ℕ) → words.kind.Form l w e → WordsForm l w e
unfolding words word number
words-there l w e f =
    let z = words-loose l w e f in
    let h = only-plain words l w e z f in
    record { loose = z; range = subst (λ n. n < 256 ^ 4) (count-is l) h.0.0; all = all-good l h.0.1; bytes = h.1 ∙ words-written l }

words_back : (l : List ℕ) (w : List Loose) (e : List ℕ) → WordsForm l w e → words.kind.Form l w e
unfolding words word number
words_back l w e d =
    rw d.loose
    ((plain_form words l e).1
    ((subst (λ n. n < 256 ^ 4) (sym (count-is l)) d.range, good-all l d.all), d.bytes ∙ sym (words-written l)))

pub words-form : (l : List ℕ) (w : List Loose) (e : List ℕ) → words.kind.Form l w e ↔ WordsForm l w e
words-form l w e = (words-there l w e, words_back l w e)
