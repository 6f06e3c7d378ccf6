-- What laying an opaque or a word list, as a part of its source, leaves.
-- Assumes nothing.
use Rattle.std.specs.Prelude.{◌≡◌, refl, Bool, true, false, List, ◌++◌, ℕ, ◌+◌, ◌-◌, ◌*◌, ◌/◌, ◌≤◌, ◌<◌, length, get_or, take, drop}
use Rattle.std.proofs.Common.{sym, ap, ◌∙◌, arith, length-drop, length-take-le, Fits}
use Rattle.std.specs.Int.{w8}
use Rattle.xdr.specs.Meaning.Bytes.{Bytes}
use Rattle.xdr.specs.Meaning.Answer.{most}
use Rattle.xdr.specs.Meaning.Items.{word, opaque}
use Rattle.xdr.specs.Meaning.Pieces.{is_inside, are_inside, opaque_size, size_up_to, words_up_to}
use Rattle.xdr.specs.Meaning.Formats.{bytes, piece_held, word_list, words_held}
use Rattle.xdr.specs.Meaning.Format.{Format}
use Rattle.xdr.specs.Meaning.Public.{output, laid_of}
use Rattle.xdr.specs.Laws.Lists.{known_bytes}
use Rattle.xdr.specs.Laws.Pieces.{piece-part, inside-le, inside-past}
use Rattle.xdr.specs.Laws.Words.{words-part, words-le, words-past, words-bytes, words-length}
use Rattle.xdr.specs.Laws.Padding.{padded, opaque-length, piece-long, size-within, words-within}
use Rattle.xdr.specs.Laws.Write.{Put, put_same, Ready, of-long, of-outside, of-short, of_is}
use Rattle.xdr.specs.declared.piece.Piece.{Piece}

-- what a test of a piece showed
pub yes : {r b : Bool} → r ≡ b → r ≡ true → b ≡ true
yes e h = sym e ∙ h

pub no : {r b : Bool} → r ≡ b → r ≡ false → b ≡ false
no e h = sym e ∙ h

module _ (s : List ℕ) (x : Piece) where
  pub bytes_ready : length s ≤ most → is_inside s x ≡ true → Ready bytes s x
  unfolding piece_held
  bytes_ready h i = record { short = h; inside = i }

  pub words-ready : length s ≤ most → are_inside s x ≡ true → Ready word_list s x
  unfolding words_held
  words-ready h i = record { short = h; inside = i }

  pub bytes-long : is_inside s x ≡ true → length (output bytes s x) ≡ opaque_size x.count
  unfolding piece_held
  bytes-long i = opaque-length s x i

  pub words_long : Bytes s → are_inside s x ≡ true → length (output word_list s x) ≡ 4 + x.count * 4
  unfolding words_held
  words_long b i = words-length s x

  -- how many bytes a piece is written as
  pub bytes-size : {n : ℕ} → length s ≤ most → is_inside s x ≡ true → n ≡ size_up_to x.count → length (output bytes s x) ≡ n
  bytes-size h i e =
      let k : x.at + x.count ≤ length s = inside-le s x i in
      let c : x.count ≤ most = omega arith in
      bytes-long i ∙ sym (size-within x.count c) ∙ sym e

  pub words_size : Bytes s → length s ≤ most → are_inside s x ≡ true → length (output word_list s x) ≡ words_up_to x.count
  words_size b h i =
      let k = words-le s x i in
      words_long b i ∙ words-within x.count (omega arith)

  -- the part of the source that a piece inside is
  pub part-long : is_inside s x ≡ true → length (take (x.at + x.count - x.at) (drop x.at s)) ≡ x.count
  part-long i = ap length (piece-part s x) ∙ piece-long s x i

  pub words-part-long : are_inside s x ≡ true → length (take (x.at + x.count * 4 - x.at) (drop x.at s)) ≡ x.count * 4
  words-part-long i =
      let k : x.at + x.count * 4 ≤ length s = words-le s x i in
      ap length (words-part s x) ∙ length-take-le (x.count * 4) (drop x.at s) (omega (arith, length-drop x.at s))

  -- where the code's test said so
  pub piece-told : {i : Bool} → i ≡ is_inside s x → i ≡ true → x.at + x.count ≤ length s
  piece-told e t = inside-le s x (yes e t)

  pub piece-off : {i : Bool} → i ≡ is_inside s x → i ≡ false → length s < x.at + x.count
  piece-off e t = inside-past s x (no e t)

  pub words-told : {i : Bool} → i ≡ are_inside s x → i ≡ true → x.at + x.count * 4 ≤ length s
  words-told e t = words-le s x (yes e t)

  pub words-off : {i : Bool} → i ≡ are_inside s x → i ≡ false → length s < x.at + x.count * 4
  words-off e t = words-past s x (no e t)

-- what a function that lays a piece leaves, by its tests: of the source, of the piece, and of the room
pub record Tested (F : Format (List ℕ) Piece) (inside : List ℕ → Piece → Bool) (size : ℕ → ℕ) : Type 0 where
  pub sees : (s : List ℕ) (x : Piece) → F.held.inside s x ≡ inside s x
  pub long : (s : List ℕ) (x : Piece) → inside s x ≡ true → length (output F s x) ≡ size x.count

pub bytes-tested : Tested bytes is_inside (λ n. 4 + (n + 3) / 4 * 4)
unfolding piece_held
bytes-tested = record { sees = λ s x. refl; long = λ s x i. bytes-long s x i ∙ omega (arith, padded x.count) }

pub words-tested : Tested word_list are_inside (λ n. 4 + n * 4)
unfolding words_held
words-tested = record { sees = λ s x. refl; long = λ s x i. words-length s x }

module _ {F : Format (List ℕ) Piece} {inside : List ℕ → Piece → Bool} {size : ℕ → ℕ} (T : Tested F inside size) (s : List ℕ) (x : Piece) (o : List ℕ) where
  pub lies-long : most < length s → o ≡ laid_of F s x o
  lies-long h = of-long F s x o h

  module _ (i : Bool) (h : length s ≤ most) (e : i ≡ inside s x) where
    pub lies-outside : i ≡ false → o ≡ laid_of F s x o
    lies-outside t = of-outside F s x o h (T.sees s x ∙ no e t)

    pub lies-short : i ≡ true → length o < size x.count → o ≡ laid_of F s x o
    lies-short t l =
        of-short F s x o (record { short = h; inside = T.sees s x ∙ yes e t }) (omega (arith, T.long s x (yes e t)))

-- the part of the source that a piece is has room, where it lies inside; its length is m, and the buffer's is len
module _ (s : List ℕ) (x : Piece) (i : Bool) (m len : ℕ) where
  pub bytes_fit : i ≡ is_inside s x → i ≡ true → length s ≤ most → 4 + (x.count + 3) / 4 * 4 ≤ len
      → m ≡ length (take (x.at + x.count - x.at) (drop x.at s)) → (m ≤ most) × (opaque_size m ≤ len)
  bytes_fit e t h r f =
      let l = part-long s x (yes e t) in
      let k = piece-told s x e t in
      (omega arith, omega arith)

  pub words-fit : i ≡ are_inside s x → i ≡ true → length s ≤ most → 4 + x.count * 4 ≤ len
      → m ≡ length (take (x.at + x.count * 4 - x.at) (drop x.at s)) → (x.count ≤ most) × (4 + m ≤ len)
  words-fit e t h r f =
      let l = words-part-long s x (yes e t) in
      let k = words-told s x e t in
      (omega arith, omega arith)

-- and once it is laid
module _ (s : List ℕ) (x : Piece) (o o' : List ℕ) (i : Bool) (h : length s ≤ most) (t : i ≡ true) where
  pub bytes-lie : i ≡ is_inside s x → 4 + (x.count + 3) / 4 * 4 ≤ length o
      → Put o o' (opaque_size (length (take (x.at + x.count - x.at) (drop x.at s)))) (opaque.kind.write (take (x.at + x.count - x.at) (drop x.at s)))
      → o' ≡ laid_of bytes s x o
  unfolding piece_held
  bytes-lie e r f =
      of_is bytes s x o (bytes_ready s x h (yes e t)) (bytes_fit s x i _ (length o) e t h r refl).1
      (put_same (ap opaque.kind.write (piece-part s x)) f)

  pub words-lie : i ≡ are_inside s x → 4 + x.count * 4 ≤ length o → ((j : ℕ) → Fits w8 (get_or s j 0))
      → Put o o' (4 + length (take (x.at + x.count * 4 - x.at) (drop x.at s))) (word.kind.write x.count ++ take (x.at + x.count * 4 - x.at) (drop x.at s))
      → o' ≡ laid_of word_list s x o
  unfolding words_held
  words-lie e r given f =
      of_is word_list s x o (words-ready s x h (yes e t)) (words-fit s x i _ (length o) e t h r refl).1
      (put_same (ap (λ l. word.kind.write x.count ++ l) (words-part s x) ∙ words-bytes s x (known_bytes s given) (yes e t)) f)
