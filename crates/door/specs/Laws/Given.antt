-- What the proofs of the exported writers of values cite.
-- Assumes nothing.
use Rattle.std.specs.Prelude.{◌≡◌, refl, Bool, true, false, ◌&&◌, List, [], ◌∷◌, ◌++◌, ℕ, zero, suc, ◌-◌, ◌≤◌, ◌<◌, ltb, eqb, length, get_or, set, Some, None}
use Rattle.std.specs.Prelude as std
use Rattle.std.proofs.Common.{sym, ap, ◌∙◌, subst, append-nil, ⊎_elim, mod-eq_of_lt, arith, drop_of_length-le, take_all, ltb-true}
use Rattle.std.proofs.lemmas.Bool.{false≢true, eqb-false}
use Rattle.std.proofs.Math.Option.{Option, some}
use Rattle.xdr.specs.Meaning.Answer.{Written, done}
use Rattle.xdr.specs.Meaning.Combinators.{Seen, means, among}
use Rattle.xdr.specs.Laws.LayPieces.{yes}
use Rattle.xdr.specs.Laws.Lays.{after, tail_of}
use Rattle.xdr.specs.Laws.Marks.{and_left, and_right}
use Rattle.nfsattr.specs.Meaning.Attr.{ftype_number, ftypes}
use Rattle.nfsattr.specs.declared.attr.ftype3.{ftype3}
use Rattle.nfsattr.specs.declared.attr.fattr3.{fattr3}
use Rattle.nfs.specs.Meaning.Sources.{WritesDiropargsFrom, FitsDiropargsFrom}
use Rattle.nfs.specs.declared.dir.diropargs3.{diropargs3}
use Rattle.nfs.specs.declared.set.sattr3.{sattr3}
use Rattle.door.specs.Meaning.Copy.{Is}
use Rattle.door.specs.Meaning.Figures.{Says}
use Rattle.door.specs.Meaning.Exports.{wrote_code, wrote_figures}
use Rattle.door.specs.Meaning.Given.{GivenTold, WriteCalled, low, is_word, are_words, fattr3_words, fattr3_by, fattr3_of, fattr3_given, diropargs3_given, WriteDiropargs3Called, option_fits, time_fits, sattr3_fits, option_of, time_of, sattr3_by, sattr3_of, sattr3_given}

-- by what the numbers are
module _ {S : Type 0} (W : S → Written → List ℕ → Type 0) (k : ℕ) (given : List ℕ → Option S) (l o i : List ℕ) where
  module _ (h : k ≤ length l) (g : 1 ≤ length i) {r : ℕ} {o' i' : List ℕ} where
    called : GivenTold W (given l) o i r o' i' → WriteCalled W k given l o i r o' i'
    called t = record { room = λ _ _. t; short = λ w. absurd (⊎_elim (λ w. omega arith) (λ w. omega arith) w) }

    pub write_as : {x : S} {w : Written} → W x w o' → Says wrote_code wrote_figures w i r i' → Is given l (some x) → WriteCalled W k given l o i r o' i'
    write_as {x} {w} d t e =
        called (subst (λ z. GivenTold W z o i r o' i') e.is (record { answer = w; writes = d; number = t.number; list = t.shown.list }))

-- done, and the place put into the list
pub wrote_says : (i : List ℕ) (n : ℕ) → Says wrote_code wrote_figures (done n) i 0 (set i 0 n)
wrote_says i n = record { number = refl; shown = record { list = refl } }

-- by another function, which is lent each slice whole
pub whole : (o : List ℕ) → tail_of 0 o ≡ o
whole o = take_all (length o - 0) o (omega arith)

pub whole_back : (o z : List ℕ) → after 0 o z ≡ z
whole_back o z = ap (λ x. z ++ x) (drop_of_length-le o {i = length o - 0} (omega arith)) ∙ append-nil z

pub write_again : {S : Type 0} (W : List ℕ → S → Written → List ℕ → Type 0) (k : ℕ) (given : List ℕ → Option S) {l o i : List ℕ} {r : ℕ} {o' i' : List ℕ}
    → WriteCalled (W (tail_of 0 o)) k given (tail_of 0 l) (tail_of 0 o) (tail_of 0 i) r o' i' → WriteCalled (W o) k given l o i r (after 0 o o') (after 0 i i')
write_again W k given {l} {o} {i} {r} {o'} {i'} c = rw (whole_back o o', whole_back i i', ← whole l, ← whole o, ← whole i) c

-- a diropargs3 that fits, and one that does not
module _ {s t l o i : List ℕ} {start : ℕ} {x : diropargs3} {f : std.Option ℕ} {p : List ℕ} (d : FitsDiropargsFrom s t x start o f p) where
  pub diropargs3-fits : {n : ℕ} → f ≡ Some n → 4 ≤ length l → 1 ≤ length i → Is diropargs3_given l (some x) → WriteDiropargs3Called s t l o start i 0 p (set i 0 n)
  diropargs3-fits {n} e h g m = write_as (λ x w o'. WritesDiropargsFrom s t x start o w o') 4 diropargs3_given l o i h g (d.on n e) (wrote_says i n) m

  pub diropargs3-again : {r : ℕ} {o' i' : List ℕ} → f ≡ None → WriteDiropargs3Called (tail_of 0 s) (tail_of 0 t) (tail_of 0 l) (tail_of 0 p) start (tail_of 0 i) r o' i'
      → WriteDiropargs3Called s t l o start i r (after 0 p o') (after 0 i i')
  diropargs3-again {r} {o'} {i'} e c =
      let a : WriteDiropargs3Called (tail_of 0 s) (tail_of 0 t) l p start i r (after 0 p o') (after 0 i i') =
      write_again (λ o x w o'. WritesDiropargsFrom (tail_of 0 s) (tail_of 0 t) x start o w o') 4 diropargs3_given c in
      let b = subst (λ z. WriteDiropargs3Called z (tail_of 0 t) l p start i r (after 0 p o') (after 0 i i')) (whole s) a in
      let g = subst (λ z. WriteDiropargs3Called s z l p start i r (after 0 p o') (after 0 i i')) (whole t) b in
      subst (λ z. WriteDiropargs3Called s t l z start i r (after 0 p o') (after 0 i i')) (d.off e) g

-- a word is its own rest, and so is each number that a test of words holds of
pub low-is : (n : ℕ) → is_word n ≡ true → low n ≡ n
low-is n e = mod-eq_of_lt (ltb-true n 4294967296 e)

low-at : (ps l : List ℕ) → are_words ps l ≡ true → (k : ℕ) → k < length ps → low (get_or l (get_or ps k 0) 0) ≡ get_or l (get_or ps k 0) 0
low-at [] l e k h = absurd (omega arith)
low-at (p ∷ ps) l e zero h = low-is (get_or l p 0) (and_left (is_word (get_or l p 0)) (are_words ps l) e)
low-at (p ∷ ps) l e (suc k) h = low-at ps l (and_right (is_word (get_or l p 0)) (are_words ps l) e) k (omega arith)

fattr3-low : (l : List ℕ) (t : ftype3) → are_words fattr3_words l ≡ true → fattr3_by low l t ≡ fattr3_of l t
fattr3-low l t e =
    let w = low-at fattr3_words l e in
    rw (w 1 (omega arith), w 2 (omega arith), w 3 (omega arith), w 4 (omega arith), w 5 (omega arith), w 6 (omega arith), w 7 (omega arith), w 8 (omega arith), w 9 (omega arith), w 10 (omega arith), w 11 (omega arith), w 12 (omega arith))

-- what numbers give, by a test and by what is found of them
module _ {l : List ℕ} {b : Bool} where
  module _ (d : Is (are_words fattr3_words) l b) (e : b ≡ true) where
    found : {s : Seen ftype3} → s ≡ among ftype_number ftypes (low (get_or l 0 0)) → among ftype_number ftypes (get_or l 0 0) ≡ s
    found f = ap (among ftype_number ftypes) (sym (low-at fattr3_words l (yes d.is e) 0 (omega arith))) ∙ sym f

    pub fattr3-some : {a : ftype3} → means a [] ≡ among ftype_number ftypes (low (get_or l 0 0)) → {x : fattr3} → x ≡ fattr3_by low l a → Is fattr3_given l (some x)
    fattr3-some {a} f k = record { is = rw (k, fattr3-low l a (yes d.is e), yes d.is e, found f) }

-- a sattr3
option-low : (flag v : ℕ) → option_fits flag v ≡ true → option_of flag (low v) ≡ option_of flag v
option-low flag v e = by (eqb flag 0) refl
  where
    by : (b : Bool) → eqb flag 0 ≡ b → option_of flag (low v) ≡ option_of flag v
    by true h = rw h
    by false h = rw (h, low-is v (rw h at e))

time-low : (tag s n : ℕ) → time_fits tag s n ≡ true → time_of tag (low s) (low n) ≡ time_of tag s n
time-low tag s n e = by (ltb tag 2) refl
  where
    late : (b c : Bool) → eqb tag 0 ≡ b → eqb tag 1 ≡ c → tag < 2 → time_of tag (low s) (low n) ≡ time_of tag s n
    late true c h g k = rw h
    late false true h g k = rw (h, g)
    late false false h g k = absurd (omega (arith, eqb-false tag 0 h, eqb-false tag 1 g))

    by : (b : Bool) → ltb tag 2 ≡ b → time_of tag (low s) (low n) ≡ time_of tag s n
    by true h = late (eqb tag 0) (eqb tag 1) refl refl (ltb-true tag 2 h)
    by false h =
        let d : (is_word s && is_word n) ≡ true = and_right (eqb tag 2) (is_word s && is_word n) (rw h at e) in
        rw (low-is s (and_left (is_word s) (is_word n) d), low-is n (and_right (is_word s) (is_word n) d))

all-five : (a b c d e : Bool) → (a && b && c && d && e) ≡ true → (a ≡ true) × (b ≡ true) × (c ≡ true) × (d ≡ true) × (e ≡ true)
all-five true true true true true h = (refl, refl, refl, refl, refl)
all-five true true true true false h = absurd (false≢true h)
all-five true true true false e h = absurd (false≢true h)
all-five true true false d e h = absurd (false≢true h)
all-five true false c d e h = absurd (false≢true h)
all-five false b c d e h = absurd (false≢true h)

sattr3-low : (l : List ℕ) → sattr3_fits l ≡ true → sattr3_by low l ≡ sattr3_of l
sattr3-low l h =
    let p = all-five (option_fits (get_or l 0 0) (get_or l 1 0)) (option_fits (get_or l 2 0) (get_or l 3 0)) (option_fits (get_or l 4 0) (get_or l 5 0)) (time_fits (get_or l 8 0) (get_or l 9 0) (get_or l 10 0)) (time_fits (get_or l 11 0) (get_or l 12 0) (get_or l 13 0)) h in
    rw (option-low (get_or l 0 0) (get_or l 1 0) p.0, option-low (get_or l 2 0) (get_or l 3 0) p.1, option-low (get_or l 4 0) (get_or l 5 0) p.2, time-low (get_or l 8 0) (get_or l 9 0) (get_or l 10 0) p.3, time-low (get_or l 11 0) (get_or l 12 0) (get_or l 13 0) p.4)

module _ {l : List ℕ} {b : Bool} where
  pub sattr3-some : Is sattr3_fits l b → b ≡ true → {x : sattr3} → x ≡ sattr3_by low l → Is sattr3_given l (some x)
  sattr3-some d e k = record { is = rw (k, sattr3-low l (yes d.is e), yes d.is e) }
