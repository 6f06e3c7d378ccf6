-- Pieces: the bytes that a place and a count are in a source, and the words.
-- Assumes nothing.
use Rattle.std.specs.Prelude.{◌≡◌, Bool, true, cond, List, [], ◌∷◌, ℕ, zero, suc, ◌+◌, ◌-◌, ◌*◌, leb, length, take, drop}
use Rattle.std.proofs.Math.Option.{Option, none, some}
use Rattle.xdr.specs.Meaning.Bytes.{number_at, padding, zeros}
use Rattle.xdr.specs.Meaning.Refusal.{cut_short}
use Rattle.xdr.specs.Meaning.Answer.{Answer, took, refused, most}
use Rattle.xdr.specs.declared.piece.Piece.{Piece}

-- the bytes of a piece, and whether all of it lies inside
abbrev pub bytes_in : List ℕ → Piece → List ℕ
bytes_in s x = take x.count (drop x.at s)

unfoldable pub is_inside : List ℕ → Piece → Bool
is_inside s x = leb (x.at + x.count) (length s)

-- the part of a message that a piece is: the empty part where it does not lie inside
unfoldable pub part_of : List ℕ → Piece → List ℕ
unfolding is_inside
part_of s x = cond (is_inside s x) (bytes_in s x) []

-- where that part begins in the message: at the piece's place, or at the start
unfoldable pub part_place : List ℕ → Piece → ℕ
unfolding is_inside
part_place s x = cond (is_inside s x) x.at 0

-- what is handed back of a message: those bytes, and they are the message's own, so many behind its first. `from` is where the message
-- stands in memory, and `to` where the part does
pub record Part (from : ℕ × ℕ) (bytes : List ℕ) (place : ℕ) (to : ℕ × ℕ) (r : List ℕ) : Type 0 where
  pub is : r ≡ bytes
  pub begins : to ≡ (from.0, from.1 + place)

-- the same of a word list, whose count is in words
abbrev pub words_at : ℕ → List ℕ → ℕ → List ℕ
words_at zero s q = []
words_at (suc n) s q = number_at 4 s q ∷ words_at n s (q + 4)

abbrev pub words_in : List ℕ → Piece → List ℕ
words_in s x = words_at x.count s x.at

unfoldable pub are_inside : List ℕ → Piece → Bool
are_inside s x = leb (x.at + x.count * 4) (length s)

unfoldable pub words_part_of : List ℕ → Piece → List ℕ
unfolding are_inside
words_part_of s x = cond (are_inside s x) (take (x.count * 4) (drop x.at s)) []

unfoldable pub words_place : List ℕ → Piece → ℕ
unfolding are_inside
words_place s x = cond (are_inside s x) x.at 0

-- the i-th word of a word list that lies inside, where it has one
unfoldable pub word_of : List ℕ → Piece → ℕ → Option ℕ
unfolding are_inside
word_of s x i = cond (are_inside s x) (cond (leb (suc i) x.count) (some (number_at 4 s (x.at + i * 4))) none) none

-- an opaque that begins at p and has n bytes: whether its padding is all zero
abbrev pub pad_zero : List ℕ → ℕ → ℕ → Bool
pad_zero s p n = zeros (take (padding n) (drop (p + 4 + n) s))

-- an opaque that begins at p, whose length word is n, and then whatever its length word is. Its mark is clean if its padding is zero
abbrev pub piece_answer : List ℕ → ℕ → ℕ → Answer Piece
piece_answer s p n =
    cond (leb (4 + n + padding n) (length s - p))
    (took (record { at = p + 4; count = n; clean = pad_zero s p n }) (p + 4 + n + padding n) (pad_zero s p n))
    (refused (cut_short (4 + n + padding n) s p))

abbrev pub piece_at : List ℕ → ℕ → Answer Piece
piece_at s p = cond (leb 4 (length s - p)) (piece_answer s p (number_at 4 s p)) (refused (cut_short 4 s p))

-- the same of a word list, which has no padding
abbrev pub words_answer : List ℕ → ℕ → ℕ → Answer Piece
words_answer s p n =
    cond (leb (4 + n * 4) (length s - p)) (took (record { at = p + 4; count = n; clean = true }) (p + 4 + n * 4) true) (refused (cut_short (4 + n * 4) s p))

abbrev pub word_piece_at : List ℕ → ℕ → Answer Piece
word_piece_at s p = cond (leb 4 (length s - p)) (words_answer s p (number_at 4 s p)) (refused (cut_short 4 s p))

-- the empty piece at place 0, which stands for the empty bytes of a default
abbrev pub nothing : Piece
nothing = record { at = 0; count = 0; clean = true }

-- how many bytes an opaque of n bytes takes
abbrev pub opaque_size : ℕ → ℕ
opaque_size n = 4 + n + padding n

-- the same for the counts that can be written, and 0 for the others
unfoldable pub size_up_to : ℕ → ℕ
size_up_to n = cond (leb n most) (opaque_size n) 0

-- how many bytes a list of n words takes, in the same way
unfoldable pub words_up_to : ℕ → ℕ
words_up_to n = cond (leb n most) (4 + n * 4) 0
