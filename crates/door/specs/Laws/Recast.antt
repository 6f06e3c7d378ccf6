-- A sattr3 rewritten by its bytes: copied as they stand, and if it is loose its flags then written anew.
-- Assumes nothing.
use Rattle.std.specs.Prelude.{◌≡◌, refl, Bool, true, cond, List, [], ◌∷◌, ◌++◌, ℕ, ◌-◌, ◌≤◌, length, get_or, take, drop, Ok}
use Rattle.std.proofs.Common.{sym, ap, ap₂, subst, ◌∙◌, append-nil, arith, zero-add, length-append, length-drop, take_at, drop_at, length-take-le, Fits}
use Rattle.std.proofs.lemmas.List.Edits.{sets}
use Rattle.std.specs.Int.{w8}
use borrow.Rule.Slice.PartMut.{mid_of, put_mid}
use Rattle.xdr.specs.Meaning.Answer.{took, done}
use Rattle.xdr.specs.Meaning.Bytes.{part}
use Rattle.xdr.specs.Meaning.Kind.{Found, Sound}
use Rattle.xdr.specs.Meaning.Format.{exactly}
use Rattle.xdr.specs.Meaning.Public.{Took, laid, Writes}
use Rattle.xdr.specs.Laws.Lists.{known_bytes}
use Rattle.xdr.specs.Laws.Marks.{clean-none}
use Rattle.xdr.specs.Laws.Public.{kept}
use Rattle.xdr.specs.Laws.Unpadded.{no-marks}
use Rattle.xdr.specs.Laws.Write.{Put, put-laid, put_same, writes-done}
use Rattle.xdr.specs.Laws.Lays.{after, tail_of}
use Rattle.nfs.specs.Meaning.Set.{sattr}
use Rattle.nfs.specs.Laws.Bytes.{sattr-small}
use Rattle.door.specs.Meaning.Copy.{Span, made, Copies}
use Rattle.door.specs.Meaning.Exports.{RewriteCalled}
use Rattle.door.specs.Laws.Copy.{was_read, short}
use Rattle.door.specs.Laws.Exports.{rewrite-told}
use Rattle.door.specs.Laws.Given.{whole, whole_back}
use Rattle.door.specs.Laws.Walked.{Six, six_fields, of_six, six-named, SixWalked}
use Rattle.door.specs.Laws.Settled.{Settled}

-- whatever six fields were read from p up to n, they are written at the front of o
pub record Recast (s : List ℕ) (p n : ℕ) (b : Bool) (o o' : List ℕ) : Type 0 where
  pub same : length o' ≡ length o
  pub lays : (y : Six) → six_fields.kind.read s p ≡ took y n b → Put o o' (n - p) (six_fields.kind.write y)

module _ (s : List ℕ) (p n : ℕ) (h : Span s p n) (given : (j : ℕ) → Fits w8 (get_or s j 0)) where
  long : length (part s p n) ≡ n - p
  long = let l = length-drop p s in let i = h.order in let j = h.inside in length-take-le (n - p) (drop p s) (omega arith)

  module _ (y : Six) (b : Bool) (e : six_fields.kind.read s p ≡ took y n b) where
    found : Found six_fields.kind s p y n b
    found = subst (Sound six_fields.kind s p) e (six_fields.laws.sound s p (known_bytes s given))

    used : found.used ≡ part s p n
    used =
        let i : n - p ≡ length found.used = let j = found.next in omega arith in
        sym (ap₂ take i found.stands ∙ take_at found.used found.left (length found.used) refl)

    form : six_fields.kind.Form y found.loose (part s p n)
    form = subst (six_fields.kind.Form y found.loose) used found.form

    -- in published form they are written as they stand
    as_written : b ≡ true → part s p n ≡ six_fields.kind.write y
    as_written k =
        let none : found.loose ≡ [] = clean-none found.loose (sym found.plain ∙ k) in
        six_fields.laws.plain y (part s p n) (subst (λ w. six_fields.kind.Form y w (part s p n)) none form)

  module _ (o : List ℕ) (r : n - p ≤ length o) {o₁ : List ℕ} (d : o₁ ≡ laid (part s p n) o) where
    put : Put o o₁ (n - p) (part s p n)
    put = put-laid long r d

    pub laid-long : length o₁ ≡ length o
    laid-long =
        ap length put.is ∙ length-append (part s p n) (drop (n - p) o) ∙ omega (arith, long, length-drop (n - p) o)

    pub cast-plain : {b : Bool} → b ≡ true → Recast s p n b o o₁
    cast-plain k = record { same = laid-long; lays = λ y e. put_same (as_written y _ e k) put }

    -- where they are loose, the flags are written anew
    none-off : n - p - 0 ≡ n - p
    none-off = omega arith

    head : mid_of 0 (n - p - 0) o₁ ≡ part s p n
    head = ap₂ take none-off put.is ∙ take_at (part s p n) (drop (n - p) o) (n - p) long

    tail : drop (n - p - 0) o₁ ≡ drop (n - p) o
    tail = ap₂ drop none-off put.is ∙ drop_at (part s p n) (drop (n - p) o) (n - p) long

    pub cast-room : n - p ≤ length o₁
    cast-room = let l = laid-long in omega arith

    pub cast-short : length s ≤ 1048576 → length (mid_of 0 (n - p - 0) o₁) ≤ 1048576
    cast-short g = let e : length (mid_of 0 (n - p - 0) o₁) ≡ n - p = ap length head ∙ long in let i = h.inside in omega arith

    module _ {z : List ℕ} (f : Settled six_fields 0 (mid_of 0 (n - p - 0) o₁) z) where
      z-long : length z ≡ n - p
      z-long = f.same ∙ ap length head ∙ long

      pub cast-long : length (put_mid 0 (n - p - 0) o₁ z) ≡ length o
      cast-long = ap (λ l. length (z ++ l)) tail ∙ length-append z (drop (n - p) o) ∙ omega (arith, z-long, length-drop (n - p) o)

      pub cast-loose : {b : Bool} → Recast s p n b o (put_mid 0 (n - p - 0) o₁ z)
      cast-loose {b} =
          record {
            same = cast-long;
            lays = λ y e.
                let g : z ≡ six_fields.kind.write y =
                f.anew y (found y b e).loose [] (part s p n) [] (form y b e) refl (head ∙ sym (append-nil (part s p n))) ∙ append-nil (six_fields.kind.write y) in
                record { is = ap₂ (λ u v. u ++ v) g tail; long = ap length (sym g) ∙ z-long };
          }

pub recast-long : {s : List ℕ} {p n : ℕ} {b : Bool} {o o' : List ℕ} → Recast s p n b o o' → length o' ≡ length o
recast-long c = c.same

-- what the walk tells its callers
module _ {s : List ℕ} {p n : ℕ} {b : Bool} (walked : SixWalked s p n b) where
  abbrev reading : Took (exactly sattr)
  reading = record { source = s; place = p; value = of_six walked.value; next = n; plain = b; answers = walked.answers }

  pub walked-span : Span s p n
  walked-span = let k = (kept (exactly sattr)).within reading in record { order = k.0; inside = k.1 }

  pub walked-order : p ≤ n
  walked-order = walked-span.order

  pub walked-short : length s ≤ 1048576
  walked-short = short (exactly sattr) s p walked.answers refl

  -- the copy is made, and its figures told
  module _ (o : List ℕ) {o' : List ℕ} (c : Recast s p n b o o') (room : n - p ≤ length o) where
    writes : Writes (exactly sattr) s (of_six walked.value) 0 o (done (n - p)) o'
    writes =
        let y = walked.value in
        let f : Put (tail_of 0 o) o' (n - p) (sattr.kind.write (of_six y)) =
        put_same (sym (six-named.writes y)) (subst (λ l. Put l o' (n - p) (six_fields.kind.write y)) (sym (whole o)) (c.lays y walked.reads)) in
        let d = writes-done (exactly sattr) s (of_six y) 0 o (omega arith) walked-short refl (sattr-small (of_six y)) ((kept (exactly sattr)).in_range reading) (omega arith) f in
        subst (λ l. Writes (exactly sattr) s (of_six y) 0 o (done (n - p)) l) (whole_back o o')
        (subst (λ m. Writes (exactly sattr) s (of_six y) 0 o (done m) (after 0 o o')) (zero-add (n - p)) d)

    copies : Copies (exactly sattr) s p 0 o (made n b [] (n - p)) o'
    copies = was_read (exactly sattr) s p 0 o {r = Ok (record { value = of_six walked.value; next = n; plain = b })} walked.answers refl writes (no-marks sattr (of_six walked.value)) refl

    pub recast-told : {i i' : List ℕ} {d : ℕ} → 3 ≤ length i → d ≡ cond b 1 0 → i' ≡ sets i 0 (n ∷ d ∷ (n - p) ∷ []) → RewriteCalled 44 s p o i 0 o' i'
    recast-told {i} {i'} {d} h g f =
        rewrite-told 44 p s o i h {c = made n b [] (n - p)} (record { number = refl; shown = record { list = f ∙ ap (λ x. sets i 0 (n ∷ x ∷ (n - p) ∷ [])) g } }) copies

-- where nothing was walked over, or there is no room, a careful function rewrites it, which is lent each slice whole
pub recast-again : {s o i : List ℕ} {p r : ℕ} {o' i' : List ℕ} → RewriteCalled 44 (part s 0 (length s)) p (tail_of 0 o) (tail_of 0 i) r o' i'
    → RewriteCalled 44 s p o i r (after 0 o o') (after 0 i i')
recast-again {s} {o} {i} {p} {r} {o'} {i'} c = rw (whole_back o o', whole_back i i', ← whole s, ← whole o, ← whole i) c
