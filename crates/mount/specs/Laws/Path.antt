-- How a path is read and written, by the count of its bytes.
-- Assumes nothing.
use Rattle.std.specs.Prelude.{◌≡◌, refl, true, false, List, ℕ, ◌≤◌, ◌<◌, length, drop, Result, Ok, Err}
use Rattle.std.proofs.Math.Path.{sym, ap}
use Rattle.std.proofs.Common.{◌∙◌, arith, length-drop, length-take, length-take-le, le-leb}
use Rattle.std.proofs.Math.Option.{none, some}
use Rattle.std.proofs.Math.Nat.{add-zero}
use Rattle.std.proofs.lemmas.Bool.{lt-leb}
use Rattle.xdr.specs.Meaning.Answer.{took, refused, unwritten}
use Rattle.xdr.specs.Meaning.Formats.{bytes, piece_held}
use Rattle.xdr.specs.Meaning.Order.{placing}
use Rattle.xdr.specs.Meaning.Pieces.{bytes_in, is_inside}
use Rattle.xdr.specs.Meaning.Public.{Writes}
use Rattle.xdr.specs.Meaning.Views.{view, view_wrote}
use Rattle.xdr.specs.Laws.Answers.{on, off}
use Rattle.xdr.specs.Meaning.Within.{is_within, WritesWithin}
use Rattle.xdr.specs.Laws.Held.{taken-inside}
use Rattle.xdr.specs.Laws.Pieces.{inside-le}
use Rattle.xdr.specs.Laws.Lengths.{Within, opaque-within}
use Rattle.xdr.specs.Laws.Within.{Bounded, within-as, over-refused, over_done}
use Rattle.xdr.specs.declared.answer.Took.{Took}
use Rattle.xdr.specs.declared.piece.Piece.{Piece}
use Rattle.xdr.specs.declared.refusal.Refusal.{Refusal}
use Rattle.xdr.specs.declared.refusal.Refusal.TheVariants.{LongPath}
use Rattle.mount.specs.Meaning.Path.{most_path, long_path, dirpath}

-- a piece that lies inside has as many bytes as it counts, and no piece has more
pub piece-length : (s : List ℕ) (x : Piece) → bytes.held.inside s x ≡ true → length (bytes_in s x) ≡ x.count
unfolding piece_held
piece-length s x h =
    let k = inside-le s x h in
    length-take-le x.count (drop x.at s) (omega (arith, length-drop x.at s))

piece-most : (s : List ℕ) (x : Piece) → length (bytes_in s x) ≤ x.count
piece-most s x = omega (arith, length-take x.count (drop x.at s))

pub short-path : (l : List ℕ) → length l ≤ most_path → long_path l ≡ none
short-path l h = rw (le-leb (length l) most_path h)

pub over-path : (l : List ℕ) → most_path < length l → long_path l ≡ some 0
over-path l h = rw (lt-leb (length l) most_path h)

-- reading
module _ (s : List ℕ) (p : ℕ) (a : Result (Took Piece) Refusal) (e : view a ≡ piece_held.read s p) where
  pub path-off : (r : Refusal) → a ≡ Err r → refused r ≡ dirpath.held.read s p
  unfolding dirpath
  path-off r f = let g : piece_held.read s p ≡ refused r = off e f in sym (rw g)

  module _ (x : Took Piece) (f : a ≡ Ok x) where
    read_is : bytes.held.read s p ≡ took x.value x.next x.plain
    read_is = on e f

    has : length (bytes.held.mean s x.value) ≡ x.value.count
    unfolding piece_held
    has = piece-length s x.value (taken-inside bytes.held s p read_is)

    pub path-kept : x.value.count ≤ most_path → took x.value x.next x.plain ≡ dirpath.held.read s p
    unfolding dirpath
    path-kept h =
        let g : long_path (bytes.held.mean s x.value) ≡ none = short-path (bytes.held.mean s x.value) (omega (arith, has)) in
        sym (rw (read_is, g))

    pub path-over : most_path < x.value.count → refused (LongPath p) ≡ dirpath.held.read s p
    unfolding dirpath
    path-over h =
        let g : long_path (bytes.held.mean s x.value) ≡ some 0 = over-path (bytes.held.mean s x.value) (omega (arith, has)) in
        sym (rw (read_is, g, add-zero p))

-- writing
module _ (s : List ℕ) (x : Piece) (at : ℕ) (o : List ℕ) (w : Result ℕ Refusal) where
  pub path-writes : {o' : List ℕ} → x.count ≤ most_path → Writes bytes s x at o (view_wrote w) o' → WritesWithin bytes long_path s x at o (view_wrote w) o'
  unfolding piece_held
  path-writes h c = within-as bytes long_path s x at o (short-path (bytes_in s x) (omega (arith, piece-most s x))) c

  module _ (i : _) (h : most_path < x.count) (e : view_wrote w ≡ placing (length s) i 0 (length o) at) (f : i ≡ is_inside s x) where
    long-inside : bytes.held.inside s x ≡ true → is_within (long_path (bytes.held.mean s x)) ≡ false
    unfolding piece_held
    long-inside k = ap is_within (over-path (bytes_in s x) (omega (arith, piece-length s x k)))

    said : view_wrote w ≡ placing (length s) (bytes.held.inside s x) 0 (length o) at
    unfolding piece_held
    said = e ∙ ap (λ j. placing (length s) j 0 (length o) at) f

    pub path-refused : (r : Refusal) → w ≡ Err r → WritesWithin bytes long_path s x at o (unwritten r) o
    path-refused r g = over-refused bytes long_path s x at o said long-inside (ap view_wrote g)

    pub path-long : (n : ℕ) → w ≡ Ok n → WritesWithin bytes long_path s x at o (unwritten (LongPath 0)) o
    path-long n g = over_done bytes long_path s x at o said long-inside (ap view_wrote g)

-- a rewriting is no longer than what was read
pub dirpath-within : Within 0 dirpath.codec.kind
unfolding dirpath
dirpath-within = record { of = λ m w e f. opaque-within.of m w e f.0 }

-- it is a string under a bound
pub dirpath-bounded : Bounded bytes long_path dirpath
unfolding dirpath
dirpath-bounded = record { is = refl }
