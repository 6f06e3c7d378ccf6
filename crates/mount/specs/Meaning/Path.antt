-- Paths of the mount protocol (RFC 1813, appendix I): strings of at most MNTPATHLEN bytes.
-- Assumes nothing.
use Rattle.std.specs.Prelude.{cond, List, ℕ, leb, length}
use Rattle.std.proofs.Math.Option.{Option, none, some}
use Rattle.xdr.specs.Meaning.Format.{Format}
use Rattle.xdr.specs.Meaning.Formats.{bytes}
use Rattle.xdr.specs.Meaning.Lists.{bounded}
use Rattle.xdr.specs.declared.piece.Piece.{Piece}

-- MNTPATHLEN
abbrev pub most_path : ℕ
most_path = 1024

-- a path over the bound is so from its length word on
abbrev pub long_path : List ℕ → Option ℕ
long_path l = cond (leb (length l) most_path) none (some 0)

unfoldable pub dirpath : Format (List ℕ) Piece
dirpath = bounded bytes long_path
