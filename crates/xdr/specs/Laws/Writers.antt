-- A public writer's needs in the shape of its goals, so that `search` closes each: the facts are those of the calls of `place`, `X_inside`, `X_size` and `put_X`.
-- Assumes nothing.
use Rattle.std.specs.Prelude.{◌≡◌, refl, Bool, true, false, List, [], ℕ, ◌-◌, ◌≤◌, ◌<◌, length, get_or, Result, Ok, Err}
use Rattle.std.proofs.Common.{sym, ap, ◌∙◌, Fits, arith, subst}
use Rattle.std.specs.Int.{w8}
use borrow.Rule.Slice.PartMut.{mid_of, put_mid}
use Rattle.xdr.specs.Meaning.Bytes.{Bytes}
use Rattle.xdr.specs.Meaning.Answer.{most, done, unwritten}
use Rattle.xdr.specs.Meaning.Kind.{Codec}
use Rattle.xdr.specs.Meaning.Order.{placing, roomed}
use Rattle.xdr.specs.Meaning.Format.{Format, exactly}
use Rattle.xdr.specs.Meaning.Public.{output, Writes, laid, laid_of}
use Rattle.xdr.specs.Meaning.Views.{view_wrote}
use Rattle.xdr.specs.Laws.Lists.{known_bytes}
use Rattle.xdr.specs.Laws.Write.{Ready, no_pieces, of-outside, of-short}
use Rattle.xdr.specs.Laws.LayPieces.{yes, no, bytes-size}
use Rattle.xdr.specs.Meaning.Formats.{bytes, piece_held, word_list, words_held}
use Rattle.xdr.specs.Meaning.Pieces.{size_up_to, words_up_to}
use Rattle.xdr.specs.Laws.Words.{words-le, words-length}
use Rattle.xdr.specs.Laws.Padding.{words-within}
use Rattle.xdr.specs.declared.piece.Piece.{Piece}
use Rattle.xdr.specs.Laws.Room.{room_in, room-laid}
use Rattle.xdr.specs.Laws.Placing.{placing-as, refuses, ready, at_place, wrote_of}
use Rattle.xdr.specs.declared.refusal.Refusal.{Refusal}

-- what is to know of a kind with pieces, once
pub record Writer {M S : Type 0} (F : Format M S) : Type 0 where
  pub size : S → ℕ
  pub sized : (s : List ℕ) (x : S) → Ready F s x → length (output F s x) ≡ size x

module _ {M S : Type 0} {F : Format M S} (W : Writer F) (s : List ℕ) (x : S) (at : ℕ) (o : List ℕ) (w : Result ℕ Refusal) (i : Bool) (m : ℕ) where
  -- it refuses
  pub write-off : (q : Refusal) → view_wrote w ≡ placing (length s) i m (length o) at → i ≡ F.held.inside s x → m ≡ W.size x → w ≡ Err q
      → Writes F s x at o (unwritten q) o
  write-off q e f g h = subst (λ z. Writes F s x at o z o) (ap view_wrote h) (refuses F s x (W.sized s x) at o (placing-as (length s) (length o) at e f g) (ap view_wrote h))

  -- the place is in the buffer
  pub write-place : (k : ℕ) → view_wrote w ≡ placing (length s) i m (length o) at → i ≡ F.held.inside s x → m ≡ W.size x → w ≡ Ok k → at ≤ length o
  write-place k e f g h = at_place F s x (W.sized s x) at o (placing-as (length s) (length o) at e f g) (ap view_wrote h)

  -- it writes, and what lies inside is in range
  pub write-in : (k : ℕ) (zs : List ℕ) → view_wrote w ≡ placing (length s) i m (length o) at → i ≡ F.held.inside s x → m ≡ W.size x → w ≡ Ok k
      → ((j : ℕ) → Fits w8 (get_or s j 0)) → (Bytes s → length s ≤ most → F.held.inside s x ≡ true → F.codec.kind.Good (F.held.mean s x))
      → zs ≡ laid_of F s x (mid_of at (length o - at) o) → Writes F s x at o (done k) (put_mid at (length o - at) o zs)
  write-in k zs e f g h given good l =
      let p = placing-as (length s) (length o) at e f g in
      let r = ready F s x (W.sized s x) at o p (ap view_wrote h) in
      subst (λ z. Writes F s x at o z (put_mid at (length o - at) o zs)) (ap view_wrote h)
      (wrote_of F s x (W.sized s x) at o p (ap view_wrote h) (good (known_bytes s given) r.short r.inside) l)

  -- the same, where all is in range
  pub write-on : (k : ℕ) (zs : List ℕ) → view_wrote w ≡ placing (length s) i m (length o) at → i ≡ F.held.inside s x → m ≡ W.size x → w ≡ Ok k
      → ((j : ℕ) → Fits w8 (get_or s j 0)) → (Bytes s → length s ≤ most → F.codec.kind.Good (F.held.mean s x)) → zs ≡ laid_of F s x (mid_of at (length o - at) o) → Writes F s x at o (done k) (put_mid at (length o - at) o zs)
  write-on k zs e f g h given good l = write-in k zs e f g h given (λ b h i. good b h) l

-- a writer with no pieces: by `room`
module _ (len at n k : ℕ) (w : Result ℕ Refusal) where
  pub room-place : view_wrote w ≡ roomed len at n → w ≡ Ok k → at ≤ len
  room-place e f = omega (arith, room_in len at n e f)

module _ {M : Type 0} (C : Codec M) (small : (x : M) → length (C.kind.write x) ≤ most) (x : M) (at : ℕ) (o : List ℕ) (w : Result ℕ Refusal) (n : ℕ) where
  plain-small : n ≡ length (C.kind.write x) → n ≤ most
  plain-small e = omega (arith, small x)

  pub plain-on : (k : ℕ) (zs : List ℕ) → n ≡ length (C.kind.write x) → view_wrote w ≡ roomed (length o) at n → w ≡ Ok k → C.kind.Good x
      → zs ≡ laid (C.kind.write x) (mid_of at (length o - at) o) → Writes (exactly C) [] x at o (done k) (put_mid at (length o - at) o zs)
  plain-on k zs l e f g z = room-laid (exactly C) [] x (sym l) (no_pieces C x) (plain-small l) at o g e f z

-- what `put_X` leaves of the buffer
module _ {M S : Type 0} {F : Format M S} (W : Writer F) (s : List ℕ) (x : S) (o : List ℕ) (i : Bool) (m : ℕ) where
  pub put-outside : length s ≤ most → i ≡ F.held.inside s x → i ≡ false → o ≡ laid_of F s x o
  put-outside h e t = of-outside F s x o h (no e t)

  pub put-short : length s ≤ most → i ≡ F.held.inside s x → i ≡ true → m ≡ W.size x → length o < m → o ≡ laid_of F s x o
  put-short h e t g l =
      let r : Ready F s x = record { short = h; inside = yes e t } in of-short F s x o r (omega (arith, W.sized s x r))

-- opaque bytes
pub bytes-sized : (s : List ℕ) (x : Piece) → Ready bytes s x → length (output bytes s x) ≡ size_up_to x.count
unfolding piece_held
bytes-sized s x r = bytes-size s x r.short r.inside refl

abbrev pub bytes-writer : Writer bytes
bytes-writer = record { size = λ x. size_up_to x.count; sized = bytes-sized }

-- a list of words
pub words-sized : (s : List ℕ) (x : Piece) → Ready word_list s x → length (output word_list s x) ≡ words_up_to x.count
unfolding words_held
words-sized s x r =
    let k = words-le s x r.inside in
    let h = r.short in
    words-length s x ∙ words-within x.count (omega arith)

abbrev pub words-writer : Writer word_list
words-writer = record { size = λ x. words_up_to x.count; sized = words-sized }
