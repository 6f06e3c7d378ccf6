-- The formats of the items: what the code holds of each.
-- Assumes nothing.
use Rattle.std.specs.Prelude.{refl, true, List, [], ◌∷◌, ℕ}
use Rattle.xdr.specs.Meaning.Bytes.{digits}
use Rattle.xdr.specs.Meaning.Combinators.{means}
use Rattle.xdr.specs.Meaning.Items.{hyper, eight, opaque, words}
use Rattle.xdr.specs.Meaning.Held.{Held}
use Rattle.xdr.specs.Meaning.Format.{Format, plain, held_view}
use Rattle.xdr.specs.Meaning.Pieces.{bytes_in, is_inside, piece_at, words_in, are_inside, word_piece_at}
use Rattle.xdr.specs.Laws.Pieces.{piece-agrees, piece-kept}
use Rattle.xdr.specs.Laws.Words.{words-agrees, words-kept}
use Rattle.xdr.specs.declared.piece.Piece.{Piece}

-- eight bytes are held as the number that they write
unfoldable pub eight_held : Held eight ℕ
unfolding eight hyper
eight_held =
    held_view _ (plain hyper)
    (record { holds = λ n. means n []; mean = λ s n. digits 8 n; inside = λ s n. true; marks = λ s n. []; square = λ s n. refl; within = λ s n h. refl })

abbrev pub eight_bytes : Format (List ℕ) ℕ
eight_bytes = record { codec = eight; held = eight_held }

-- an opaque is held as the place and the count of its bytes, with one mark
unfoldable pub piece_held : Held opaque Piece
piece_held = record { read = piece_at; mean = bytes_in; inside = is_inside; marks = λ s x. x.clean ∷ []; agrees = piece-agrees; kept = piece-kept }

abbrev pub bytes : Format (List ℕ) Piece
bytes = record { codec = opaque; held = piece_held }

-- a word list as the place of its first word and the count of its words
unfoldable pub words_held : Held words Piece
words_held = record { read = word_piece_at; mean = words_in; inside = are_inside; marks = λ s x. x.clean ∷ []; agrees = words-agrees; kept = words-kept }

abbrev pub word_list : Format (List ℕ) Piece
word_list = record { codec = words; held = words_held }
