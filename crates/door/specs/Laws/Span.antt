-- What came in published form is its own rewriting, so its bytes are copied as they stand.
-- Assumes nothing.
use Rattle.std.specs.Prelude.{◌≡◌, refl, Bool, List, [], ◌++◌, ℕ, ◌+◌, ◌-◌, ◌≤◌, take, drop, Result, Ok, Err}
use Rattle.std.proofs.Math.Path.{sym, ap}
use Rattle.std.proofs.Common.{subst, ◌∙◌, arith, length-take, length-drop, length-take-le}
use Rattle.std.proofs.Math.Bool.{true}
use Rattle.std.proofs.Math.ListN.{length}
use borrow.Author.Tests.{le-leb}
use borrow.Rule.Slice.PartMut.{mid_of, put_mid}
use Rattle.xdr.specs.Meaning.Bytes.{part}
use Rattle.xdr.specs.Meaning.Answer.{took, most, Written, done, unwritten}
use Rattle.xdr.specs.Meaning.Format.{Format}
use Rattle.xdr.specs.Meaning.Formats.{eight_bytes, eight_held}
use Rattle.xdr.specs.Meaning.Marks.{MarksAre}
use Rattle.xdr.specs.Meaning.Order.{placing, roomed}
use Rattle.xdr.specs.Meaning.Public.{Answers, Took, output, writing, Writes}
use Rattle.xdr.specs.Meaning.Views.{view, view_wrote}
use Rattle.xdr.specs.Laws.Public.{kept}
use Rattle.xdr.specs.Laws.Room.{room_in}
use Rattle.xdr.specs.Laws.Write.{laid-is, laid-at, copy-put}
use Rattle.xdr.specs.declared.refusal.Refusal.{Refusal}
use Rattle.xdr.specs.declared.answer.Took as code
use Rattle.door.specs.Meaning.Copy.{Copy, said_of, Copies, Span, Stands}
use Rattle.door.specs.Laws.Copy.{was_read}

-- the bytes of a span, written as they stand
module _ (s : List ℕ) (at next start : ℕ) (o : List ℕ) (h : Span s at next) (w : Result ℕ Refusal) (e : view_wrote w ≡ roomed (length o) start (next - at)) where
  span-long : next - at ≡ length (part s at next)
  span-long = sym (length-take-le (next - at) (drop at s) (omega (arith, length-drop at s, h.order, h.inside)))

  pub stands-off : (q : Refusal) → w ≡ Err q → Stands (part s at next) start o (unwritten q) o
  stands-off q f =
      record { says = sym (ap view_wrote f) ∙ e ∙ ap (roomed (length o) start) span-long; leaves = refl }

  module _ (m : ℕ) (f : w ≡ Ok m) where
    pub span_fits : length (part s at next) ≤ length (mid_of start (length o - start) o)
    span_fits =
        let r = room_in (length o) start (next - at) e f in
        simp (length-take, length-drop) (omega (arith, r.room))

    pub stands_on : {z : List ℕ} → z ≡ take (length (part s at next)) (part s at next) ++ drop (length (part s at next)) (mid_of start (length o - start) o)
        → Stands (part s at next) start o (done m) (put_mid start (length o - start) o z)
    stands_on {z} d =
        let bs : List ℕ = part s at next in
        let r = room_in (length o) start (next - at) e f in
        let k : start + length bs ≡ m = omega (arith, r.next, span-long) in
        let l : start + length bs ≤ length o = omega (arith, r.room, span-long) in
        record {
          says = sym (ap view_wrote f) ∙ e ∙ ap (roomed (length o) start) span-long;
          leaves = laid-at o bs start l (laid-is span_fits (copy-put d)) ∙ ap (λ i. take start o ++ (bs ++ drop i o)) k;
        }

-- what was read in published form stands as its rewriting
module _ {M S : Type 0} (F : Format M S) (s : List ℕ) (at : ℕ) {x : S} {n : ℕ} (c : Answers F s at (took x n true)) where
  abbrev reading : Took F
  reading = record { source = s; place = at; value = x; next = n; plain = true; answers = c }

  same : part s at n ≡ output F s x
  same = ((kept F).plain_iff reading).0 refl

  module _ (start : ℕ) (o : List ℕ) where
    room-said : roomed (length o) start (length (part s at n)) ≡ writing F s x start (length o)
    unfolding writing placing roomed
    room-said =
        let h : length s ≤ most = (((kept F).accepted_iff s at c).0 (x, n, true, refl)).0 in
        let i : F.held.inside s x ≡ true = (kept F).inside reading in
        let long : length (part s at n) ≡ length (output F s x) = ap length same in
        let l : length (output F s x) ≤ most = omega (arith, simp (length-take, length-drop) at long) in
        sym (rw (le-leb (length s) most h, i, le-leb (length (output F s x)) most l, long))

    pub as-it-stands : (w : Written) {o' : List ℕ} → Stands (part s at n) start o w o' → Writes F s x start o w o'
    as-it-stands (done m) d =
        record {
          says = d.says ∙ room-said;
          leaves = d.leaves ∙ ap (λ l. take start o ++ (l ++ drop m o)) same;
          good = (kept F).in_range reading;
        }
    as-it-stands (unwritten r) d = record { says = d.says ∙ room-said; leaves = d.leaves; good = tt }

module _ {M S : Type 0} (F : Format M S) (s : List ℕ) (at : ℕ) {r : Result (code.Took S) Refusal} (c : Answers F s at (view r)) where
  -- what was taken is a span of the source
  pub span-in : {x : code.Took S} → r ≡ Ok x → Span s at x.next
  span-in {x} e =
      let w = (kept F).within (record { source = s; place = at; value = x.value; next = x.next; plain = x.plain; answers = subst (Answers F s at) (ap view e) c }) in
      record { order = omega (arith, w.0); inside = omega (arith, w.1) }

  -- it was plain, and its bytes were written: the copy is theirs
  pub span-read : (start : ℕ) (o : List ℕ) {x : code.Took S} → r ≡ Ok x → x.plain ≡ true → {o' : List ℕ} {w : Written} → Stands (part s at x.next) start o w o'
      → {l : List Bool} → MarksAre F x.value l → {a : Copy} → a ≡ said_of x.next x.plain l w → Copies F s at start o a o'
  span-read start o {x} e p {w = w} d m f =
      was_read F s at start o c e
      (as-it-stands F s at (subst (Answers F s at) (ap view e ∙ ap (took x.value x.next) p) c) start o w d) m f

  -- the same of a kind whose readings are all plain
  pub span-plain : ((s : List ℕ) (p : ℕ) (x : S) (n : ℕ) (b : Bool) → Answers F s p (took x n b) → b ≡ true) → (start : ℕ) (o : List ℕ) {x : code.Took S} → r ≡ Ok x
      → {o' : List ℕ} {w : Written} → Stands (part s at x.next) start o w o' → {l : List Bool} → MarksAre F x.value l
      → {a : Copy} → a ≡ said_of x.next true l w → Copies F s at start o a o'
  span-plain h start o {x} e {w = w} d {l} m f =
      let p : x.plain ≡ true = h s at x.value x.next x.plain (subst (Answers F s at) (ap view e) c) in
      span-read start o e p d m (f ∙ ap (λ b. said_of x.next b l w) (sym p))

-- eight fixed bytes have no marks
pub eight-marks : (v : ℕ) → MarksAre eight_bytes v []
unfolding eight_held
eight-marks v = record { are = λ t. refl }
