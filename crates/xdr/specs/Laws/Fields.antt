-- Fields one after another: how many bytes they take, and what a writer that lays them in turn leaves of a buffer.
-- Assumes nothing.
use Rattle.std.specs.Prelude.{◌≡◌, refl, Bool, true, ◌&&◌, List, [], ◌++◌, ℕ, ◌+◌, ◌≤◌, ◌<◌, length, drop}
use Rattle.std.proofs.Common.{sym, ap, ap₂, ◌∙◌, arith, length-append}
use Rattle.std.proofs.Math.Bool.{and-true}
use Rattle.xdr.specs.Meaning.Answer.{took, most}
use Rattle.xdr.specs.Meaning.Kind.{Codec}
use Rattle.xdr.specs.Meaning.Format.{Format, Renaming, exactly, ◌⨟◌, named}
use Rattle.xdr.specs.Meaning.Public.{output, laid, laid_of}
use Rattle.xdr.specs.Laws.Marks.{and_left, and_right}
use Rattle.xdr.specs.Laws.Plans.{run, give}
use Rattle.xdr.specs.Laws.Fixed.{Fixed}
use Rattle.xdr.specs.Laws.LayPieces.{yes}
use Rattle.xdr.specs.Laws.Write.{Put, Ready, no_pieces, put-laid, put-laid-of, field, first, room, start, laid-is, of_is}
use Rattle.xdr.specs.Laws.Writers.{Writer}
use Rattle.xdr.specs.Laws.Lays.{after, tail_of}

-- sizes: of a field without pieces, of two in order, of fields under the names of a record
abbrev pub fixed-writer : {M : Type 0} {k : ℕ} {C : Codec M} → Fixed k C → Writer (exactly C)
fixed-writer {k = k} F = record { size = λ x. k; sized = λ s x r. F.writes x }

abbrev pub codec-writer : {M : Type 0} (C : Codec M) → Writer (exactly C)
codec-writer C = record { size = λ x. length (C.kind.write x); sized = λ s x r. refl }

module _ {M N S T : Type 0} (F : Format M S) (G : Format N T) (s : List ℕ) (x : S) (y : T) where
  ready-left : Ready (F ⨟ G) s (x, y) → Ready F s x
  ready-left r = record { short = r.short; inside = and_left (F.held.inside s x) (G.held.inside s y) r.inside }

  ready-right : Ready (F ⨟ G) s (x, y) → Ready G s y
  ready-right r = record { short = r.short; inside = and_right (F.held.inside s x) (G.held.inside s y) r.inside }

  both_long : length (output (F ⨟ G) s (x, y)) ≡ length (output F s x) + length (output G s y)
  both_long = length-append (output F s x) (output G s y)

module _ {M N S T : Type 0} {F : Format M S} {G : Format N T} (A : Writer F) (B : Writer G) where
  pub pair-sized : (s : List ℕ) (x : S × T) → Ready (F ⨟ G) s x → length (output (F ⨟ G) s x) ≡ A.size x.0 + B.size x.1
  pair-sized s x r =
      both_long F G s x.0 x.1
      ∙ ap₂ (λ a b. a + b) (A.sized s x.0 (ready-left F G s x.0 x.1 r)) (B.sized s x.1 (ready-right F G s x.0 x.1 r))

  abbrev pub pair-writer : Writer (F ⨟ G)
  pair-writer = record { size = λ x. A.size x.0 + B.size x.1; sized = pair-sized }

module _ {M N S T : Type 0} (F : Format M S) (R : Renaming M N S T) where
  named-ready : (s : List ℕ) (x : T) → Ready (named F R) s x → Ready F s (R.pieces x)
  named-ready s x r = record { short = r.short; inside = r.inside }

  named-output : (s : List ℕ) (x : T) → output (named F R) s x ≡ output F s (R.pieces x)
  named-output s x = ap F.codec.kind.write (R.from_to (F.held.mean s (R.pieces x)))

  pub named-sized : (A : Writer F) (s : List ℕ) (x : T) → Ready (named F R) s x → length (output (named F R) s x) ≡ A.size (R.pieces x)
  named-sized A s x r = ap length (named-output s x) ∙ A.sized s (R.pieces x) (named-ready s x r)

-- what a writer of x leaves of the buffer o, if the pieces lie inside and there is room
pub record Lays {M S : Type 0} (F : Format M S) (s : List ℕ) (x : S) (o o' : List ℕ) : Type 0 where
  pub put : Ready F s x → length (output F s x) ≤ length o → Put o o' (length (output F s x)) (output F s x)

pub lays-of : {M S : Type 0} (F : Format M S) (s : List ℕ) (x : S) (o z : List ℕ) → z ≡ laid_of F s x o → Lays F s x o z
lays-of F s x o z e = record { put = λ r h. put-laid-of F s x r refl h e }

pub lays-codec : {M : Type 0} (C : Codec M) (s : List ℕ) (x : M) (o z : List ℕ) → z ≡ laid (C.kind.write x) o → Lays (exactly C) s x o z
lays-codec C s x o z e = record { put = λ r h. put-laid refl h e }

-- the first field, and the others behind it
module _ {M N S T : Type 0} {F : Format M S} (A : Writer F) (G : Format N T) (s : List ℕ) (x : S) (y : T) (o : List ℕ) (n : ℕ) where
  pub front-none : n ≡ A.size x → length o < n → Lays (F ⨟ G) s (x, y) o o
  front-none e h =
      record { put = λ r l. absurd (omega (arith, A.sized s x (ready-left F G s x y r), both_long F G s x y)) }

  pub front-both : (z w : List ℕ) → n ≡ A.size x → n ≤ length o → Lays F s x (tail_of 0 o) z → Lays G s y (tail_of n (after 0 o z)) w
      → Lays (F ⨟ G) s (x, y) o (after n (after 0 o z) w)
  front-both z w e h a b = record { put = both }
    where
      both : Ready (F ⨟ G) s (x, y) → length (output (F ⨟ G) s (x, y)) ≤ length o
          → Put o (after n (after 0 o z) w) (length (output (F ⨟ G) s (x, y))) (output (F ⨟ G) s (x, y))
      both r l =
          let i = ready-left F G s x y r in
          let j = ready-right F G s x y r in
          let k : length (output F s x) ≡ n = A.sized s x i ∙ sym e in
          let t = both_long F G s x y in
          let p : Put o (after 0 o z) (length (output F s x)) (output F s x) = first (omega (arith, t)) (a.put i (room (start o) (length (output F s x)) (omega (arith, t)))) in
          let q : Put o (after 0 o z) n (output F s x) = record { is = p.is ∙ ap (λ m. output F s x ++ drop m o) k; long = k } in
          let u : length (output G s y) ≤ length (tail_of n (after 0 o z)) = room q (length (output G s y)) (omega (arith, t, k)) in
          let v : n + length (output G s y) ≡ length (output (F ⨟ G) s (x, y)) = omega (arith, t, k) in
          let f : Put o (after n (after 0 o z) w) (n + length (output G s y)) (output (F ⨟ G) s (x, y)) = field q (omega (arith, t, k)) (b.put j u) in
          record { is = f.is ∙ ap (λ m. output (F ⨟ G) s (x, y) ++ drop m o) v; long = refl }

-- the same, by the sizes of both
module _ {M N S T : Type 0} {F : Format M S} {G : Format N T} (A : Writer F) (B : Writer G) (s : List ℕ) (x : S) (y : T) (o : List ℕ) (n : ℕ) where
  pub lays-none : n ≡ A.size x → length o < n → Lays (F ⨟ G) s (x, y) o o
  lays-none = front-none A G s x y o n

  pub lays-both : (z w : List ℕ) → n ≡ A.size x → n ≤ length o → Lays F s x (tail_of 0 o) z → Lays G s y (tail_of n (after 0 o z)) w
      → Lays (F ⨟ G) s (x, y) o (after n (after 0 o z) w)
  lays-both = front-both A G s x y o n

-- under the names of a record
module _ {M N S T : Type 0} (F : Format M S) (R : Renaming M N S T) (s : List ℕ) (x : T) (o z : List ℕ) where
  pub lays-named : Lays F s (R.pieces x) o z → Lays (named F R) s x o z
  lays-named a =
      let e = named-output F R s x in
      record { put = λ r h. let f = a.put (named-ready F R s x r) (omega (arith, ap length e)) in record { is = f.is ∙ ap (λ b. b ++ drop (length b) o) (sym e); long = refl } }

-- what is tested before, so that all is laid
module _ {M S : Type 0} {F : Format M S} (W : Writer F) (s : List ℕ) (x : S) (o z : List ℕ) (i : Bool) (m : ℕ) where
  pub lays_all : length s ≤ most → i ≡ F.held.inside s x → i ≡ true → m ≡ W.size x → m ≤ length o → Lays F s x o z → z ≡ laid_of F s x o
  lays_all h e t g l a =
      let r : Ready F s x = record { short = h; inside = yes e t } in
      let k : length (output F s x) ≤ length o = omega (arith, W.sized s x r) in
      of_is F s x o r k (a.put r k)

-- the same without pieces
module _ {M : Type 0} (C : Codec M) (x : M) (o z : List ℕ) (m : ℕ) where
  pub lays-plain : m ≡ length (C.kind.write x) → m ≤ length o → Lays (exactly C) [] x o z → z ≡ laid (C.kind.write x) o
  lays-plain g l a = laid-is (omega arith) (a.put (no_pieces C x) (omega arith))

-- the mark of what was read: an item that is always plain leaves it as it was
module _ {A : Type 0} (u : A) (s : List ℕ) (p : ℕ) (a b : Bool) where
  pub given-as : a ≡ b → took u p a ≡ run (give u) s p b
  given-as e = ap (took u p) e

pub mark-still : (a b : Bool) → a ≡ b → a ≡ b && true
mark-still a b e = e ∙ sym (and-true b)

pub mark-more : (a b c : Bool) → a ≡ b → a && c ≡ b && c
mark-more a b c e = ap (λ z. z && c) e

pub ruleset marked = (given-as, mark-still, mark-more)
