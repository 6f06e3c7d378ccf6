-- The promise holds of every lawful kind.
-- Assumes nothing.
use Rattle.std.specs.Prelude.{◌≡◌, refl, ◌↔◌, Bool, true, List, [], ◌++◌, ℕ, ◌+◌, ◌-◌, ◌≤◌, ◌<◌, length}
use Rattle.std.proofs.Common.{sym, ap, ap₂, subst, ◌∙◌, append-nil, zero-add, arith, take_at}
use Rattle.xdr.specs.Meaning.Bytes.{Bytes, Stands, part}
use Rattle.xdr.specs.Meaning.Answer.{Answer, took, refused, map_answer, Loose, clean}
use Rattle.xdr.specs.Meaning.Refusal.{wanting_of, TooFew, less_by}
use Rattle.xdr.specs.Meaning.Kind.{Kind, Found, Sound, Lawful, Codec}
use Rattle.xdr.specs.Meaning.Promise.{Begins, Accepted, Refused, Reading, used, rewriting, Wants, Promise}
use Rattle.xdr.specs.Laws.Lists.{room, stands-grow}
use Rattle.xdr.specs.Laws.Marks.{clean-none}
use Rattle.xdr.specs.declared.refusal.Refusal.TheVariants.{Ended, Undeclared, TooLong, Outside, NoRoom, Unfit, Overrun, NotCall, PastEnd, LongPath}
use Rattle.xdr.specs.declared.refusal.Refusal.{Refusal}

module _ {M : Type 0} (K : Kind M) (L : Lawful K) where
  begins : (s : List ℕ) (p : ℕ) → Bytes s → Accepted K s p → Begins K s p
  begins s p h a =
      let f = subst (Sound K s p) a.reads (L.sound s p h) in
      record { message = a.message; loose = f.loose; used = f.used; left = f.left; stands = f.stands; form = f.form }

  accepts : (s : List ℕ) (p : ℕ) → Begins K s p → Accepted K s p
  accepts s p g =
      record {
        message = g.message;
        next = p + length g.used;
        plain = clean g.loose;
        reads = L.complete g.message g.loose g.used g.left s p g.form g.stands;
      }

  apart : (s : List ℕ) (p : ℕ) → Refused K s p → Accepted K s p → ⊥
  apart s p r a = let z : ◌≡◌ {A = ℕ} 0 1 = cc in omega arith

  refuses : (s : List ℕ) (p : ℕ) → Bytes s → ¬ (Begins K s p) → (x : Answer M) → K.read s p ≡ x → Refused K s p
  refuses s p h none (took m n b) e = absurd (none (begins s p h (record { message = m; next = n; plain = b; reads = e })))
  refuses s p h none (refused r) e = record { refusal = r; reads = e }

  back : (m : M) (t s : List ℕ) (p : ℕ) → K.Good m → Stands (K.write m) t s p → K.read s p ≡ took m (p + length (K.write m)) true
  back m t s p g h = L.complete m [] (K.write m) t s p (L.written m g) h

  alone : (m : M) → K.Good m → K.read (K.write m) 0 ≡ took m (length (K.write m)) true
  alone m g = rw zero-add at (back m [] (K.write m) 0 g (sym (append-nil (K.write m))))

  same : (m m' : M) → K.Good m → K.Good m' → K.write m ≡ K.write m' → m ≡ m'
  same m m' g g' e =
      let h : K.read (K.write m) 0 ≡ took m (length (K.write m)) true = alone m g in
      let h' : K.read (K.write m') 0 ≡ took m' (length (K.write m')) true = alone m' g' in
      cc

  found_part : (s : List ℕ) (p : ℕ) (m : M) (n : ℕ) (b : Bool) (f : Found K s p m n b) → part s p n ≡ f.used
  found_part s p m n b f =
      rw (f.next, f.stands) (take_at f.used f.left (p + length f.used - p) (omega arith))

  module _ (r : Reading K) where
    found : Found K r.input r.place r.message r.next r.plain
    found = subst (Sound K r.input r.place) r.reads (L.sound r.input r.place r.bytes)

    in_range : K.Good r.message
    in_range = L.good r.message found.loose found.used found.form

    within : (r.place ≤ r.next) × (r.next ≤ length r.input)
    within =
        let f = found in
        omega (arith, room f.used f.left r.input r.place f.stands, f.next, r.inside)

    the-part : used K r ≡ found.used
    the-part = found_part r.input r.place r.message r.next r.plain found

    formed : (w : List Loose) × K.Form r.message w (used K r)
    formed = let f = found in (f.loose, subst (K.Form r.message f.loose) (sym the-part) f.form)

    -- any form that the bytes used are is the reading's
    marks : (w : List Loose) → K.Form r.message w (used K r) → r.plain ≡ clean w
    marks w h =
        let f = found in
        let g : K.Form r.message w f.used = subst (K.Form r.message w) the-part h in
        let e = L.complete r.message w f.used f.left r.input r.place g f.stands in
        cc (r.reads, e)

    clean_iff : (w : List Loose) → K.Form r.message w (used K r) → (r.plain ≡ true) ↔ (w ≡ [])
    clean_iff w h = ((λ e. clean-none w (sym (marks w h) ∙ e)), (λ e. marks w h ∙ ap clean e))

    plain : r.plain ≡ true → used K r ≡ rewriting K r
    plain e =
        let g = formed in
        L.plain r.message (used K r) (subst (λ w. K.Form r.message w (used K r)) ((clean_iff g.0 g.1).0 e) g.1)

    flagged : used K r ≡ rewriting K r → r.plain ≡ true
    flagged e = marks [] (subst (K.Form r.message []) (sym e) (L.written r.message in_range))

    -- its form stands there with more behind it
    stays : (t : List ℕ) → K.read (r.input ++ t) r.place ≡ took r.message r.next r.plain
    stays t =
        let f = found in
        L.complete r.message f.loose f.used (f.left ++ t) (r.input ++ t) r.place f.form
        (stands-grow f.used f.left r.input t r.place r.inside f.stands)
        ∙ ap₂ (λ (n : ℕ) b. took r.message n b) (sym f.next) (sym f.plain)

  -- a refusal that wants no bytes is no 1, so any number of bytes are too few for it
  final : (s t : List ℕ) (p : ℕ) (r : Refusal) → wanting_of r ≡ 0 → Bytes s → p ≤ length s → K.read s p ≡ refused r → K.read (s ++ t) p ≡ refused r
  final s t p r none h k e =
      L.refuses (s ++ t) p r (subst (K.Fault (s ++ t) p) (still r none) (L.few s t p r k fault never))
    where
      fault : K.Fault s p r
      fault = subst (Sound K s p) e (L.sound s p h)

      some-wanted : (q w : ℕ) → r ≡ Ended q w → 0 < w
      some-wanted q w f = (L.ended s p q w k (subst (K.Fault s p) f fault)).2

      never : TooFew (length t) r
      never = λ q w f. absurd (omega (arith, some-wanted q w f, ap wanting_of f))

      still : (r : Refusal) → wanting_of r ≡ 0 → less_by (length t) r ≡ r
      still (Ended q w) i = ap (λ (v : ℕ). Ended q v) (omega arith)
      still (Undeclared q) i = refl
      still TooLong i = refl
      still Outside i = refl
      still (NoRoom n) i = refl
      still Unfit i = refl
      still Overrun i = refl
      still NotCall i = refl
      still PastEnd i = refl
      still (LongPath q) i = refl

  wants : (s : List ℕ) (p q w : ℕ) → Bytes s → p ≤ length s → K.read s p ≡ refused (Ended q w) → Wants K s p q w
  wants s p q w h k e =
      let f : K.Fault s p (Ended q w) = subst (Sound K s p) e (L.sound s p h) in
      let g = L.ended s p q w k f in
      record {
        inside = (g.0, g.1);
        some = g.2;
        few = λ t l. L.refuses (s ++ t) p (Ended q (w - length t)) (L.few s t p (Ended q w) k f (λ i v e. let z : w ≡ v = cc in omega arith));
        enough = λ t b l. L.enough s t p q w k b f l;
      }

  promise : Promise K
  promise =
      record {
        fault_iff = λ s p r h. ((λ e. subst (Sound K s p) e (L.sound s p h)), L.refuses s p r);
        refused_iff = λ s p h. ((λ r g. apart s p r (accepts s p g)), (λ none. refuses s p h none (K.read s p) refl));
        accepted_iff = λ s p h. (begins s p h, accepts s p);
        in_range = in_range;
        within = within;
        back = back;
        same_iff = λ r r'. (ap K.write, same r.message r'.message (in_range r) (in_range r'));
        again = λ r. alone r.message (in_range r);
        rewrites = λ r. ap (map_answer K.write) (alone r.message (in_range r));
        plain_iff = λ r. (plain r, flagged r);
        clean_iff = clean_iff;
        one_list = λ r w w' f f'. L.alike r.message r.message w w' (used K r) f f';
        formed = formed;
        stays = stays;
        final = final;
        wants = wants;
      }

pub keeps : {M : Type 0} (C : Codec M) → Promise C.kind
keeps C = promise C.kind C.laws

-- which message, next place and mark are taken: those of the form that begins there
pub takes : {M : Type 0} (C : Codec M) (m : M) (w : List Loose) (e t s : List ℕ) (p : ℕ) → C.kind.Form m w e → Stands e t s p
    → C.kind.read s p ≡ took m (p + length e) (clean w)
takes C = C.laws.complete
