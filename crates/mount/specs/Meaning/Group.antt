-- Groups of an export (RFC 1813, appendix I): a linked list of names.
-- Assumes nothing.
use Rattle.std.specs.Prelude.{List, ℕ}
use Rattle.std.specs.Prelude as std
use Rattle.std.proofs.Math.Option.{Option}
use Rattle.xdr.specs.Meaning.Format.{Format}
use Rattle.xdr.specs.Meaning.Formats.{bytes}
use Rattle.xdr.specs.Meaning.Cases.{maybe_held}
use Rattle.xdr.specs.Meaning.Lists.{list_of}
use Rattle.xdr.specs.declared.piece.Piece.{Piece}
use Rattle.mount.specs.Meaning.Options.{option_cases}

-- groups: names of any length
unfoldable pub groups : Format (List (List ℕ)) Piece
groups = list_of bytes

-- what stands at a place of such a list
unfoldable pub next-group : Format (Option (List ℕ)) (std.Option Piece)
next-group = maybe_held bytes option_cases
