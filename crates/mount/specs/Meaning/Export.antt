-- Export lists (RFC 1813, appendix I): a linked list of entries, each a path and a list of names. Every path is at most MNTPATHLEN bytes.
-- Assumes nothing.
use Rattle.std.specs.Prelude.{◌≡◌, refl, Bool, cond, List, [], ◌∷◌, ℕ, ◌+◌, leb, length, Result, Ok, Err, Some, None}
use Rattle.std.specs.Prelude as std
use Rattle.std.proofs.Math.Option.{Option, none, some}
use Rattle.xdr.specs.Meaning.Answer.{Answer, took, refused}
use Rattle.xdr.specs.Meaning.Format.{Format, Renaming, named, ◌⨟◌, optional}
use Rattle.xdr.specs.Meaning.Formats.{bytes}
use Rattle.xdr.specs.Meaning.Cases.{maybe_held}
use Rattle.xdr.specs.Meaning.Lists.{clean_list, list_of, bounded}
use Rattle.xdr.specs.declared.piece.Piece.{Piece}
use Rattle.xdr.specs.declared.refusal.Refusal.{Refusal}
use Rattle.mount.specs.Meaning.Path.{most_path, long_path}
use Rattle.mount.specs.Meaning.Group.{groups}
use Rattle.mount.specs.Meaning.Options.{option_cases}
use Rattle.mount.specs.declared.export.exportnode.{exportnode}
use Rattle.mount.specs.declared.export.Walked.{Walked}
use Rattle.mount.specs.declared.export.Walked.TheVariants as walked·

-- exportnode, without its last field, which is the rest of the list
pub record Exportnode : Type 0 where
  pub ex_dir : List ℕ
  pub ex_groups : List (List ℕ)

abbrev pub node_names : Renaming (List ℕ × List (List ℕ)) Exportnode (Piece × Piece) exportnode
node_names =
    record {
      to = λ x. record { ex_dir = x.0; ex_groups = x.1 };
      from = λ m. (m.ex_dir, m.ex_groups);
      from_to = λ x. refl;
      to_from = λ m. refl;
      hold = λ y. record { ex_dir = y.0; ex_groups = y.1 };
      pieces = λ y. (y.ex_dir, y.ex_groups);
      pieces_hold = λ y. refl;
    }

-- an entry, and a list of entries, whatever the lengths of their paths
unfoldable pub node : Format Exportnode exportnode
node = named (bytes ⨟ groups) node_names

unfoldable pub nodes : Format (List Exportnode) Piece
nodes = list_of node

-- so many bytes further on
abbrev pub farther : ℕ → Option ℕ → Option ℕ
farther k none = none
farther k (some n) = some (k + n)

-- where in its bytes an optional entry has a path over the bound: behind its flag
abbrev pub long_entry : Option Exportnode → Option ℕ
long_entry none = none
long_entry (some m) = farther 4 (long_path m.ex_dir)

-- and where a list has the first: in its first entry, or behind it
abbrev pub first_long : Option ℕ → Option ℕ → Option ℕ
first_long (some k) o = some k
first_long none o = o

abbrev pub long_list : List Exportnode → Option ℕ
long_list [] = none
long_list (m ∷ l) = first_long (long_entry (some m)) (farther (length ((optional node).codec.kind.write (some m))) (long_list l))

-- exports: all paths are within the bound
unfoldable pub exports : Format (List Exportnode) Piece
exports = bounded nodes long_list

-- what stands at a place of such a list
unfoldable pub next_node : Format (Option Exportnode) (std.Option exportnode)
next_node = maybe_held node option_cases

unfoldable pub next-export : Format (Option Exportnode) (std.Option exportnode)
unfolding next_node
next-export = bounded next_node long_entry

-- what a walk finds: how many entries, and where the list ends, with its mark, or where its first path over the bound stands
abbrev pub finished : std.Option ℕ → ℕ → ℕ → Bool → Bool → Walked
finished None c n b d = walked·.Within c n b d
finished (Some k) c n b d = walked·.Over c k

abbrev pub long_at : ℕ → Option ℕ → std.Option ℕ
long_at p none = None
long_at p (some k) = Some (p + k)

abbrev pub walked : ℕ → Bool → Answer (List Exportnode) → Result Walked Refusal
walked p d (took l n b) = Ok (finished (long_at p (long_list l)) (length l) n b d)
walked p d (refused r) = Err r

abbrev pub walk_of : List ℕ → ℕ → Result Walked Refusal
walk_of s p = walked p (clean_list node s p) (nodes.codec.kind.read s p)

-- a list is within the bound, and the walk finds its count, its end, and whether it is in published form
pub record WalkedWithin (s : List ℕ) (p c n : ℕ) (b : Bool) : Type 0 where
  pub clean : Bool
  pub is : Ok (walked·.Within c n b clean) ≡ walk_of s p

-- from p to n a list is read, whatever the lengths of its paths, and b says if it is in published form
pub record NodesTo (s : List ℕ) (p n : ℕ) (b : Bool) : Type 0 where
  pub list : List Exportnode
  pub reads : nodes.codec.kind.read s p ≡ took list n b

-- where the first path over the bound stands: where it was found before, or else a path of n bytes in an entry whose flag stands at q
abbrev pub or_long : std.Option ℕ → ℕ → ℕ → std.Option ℕ
or_long (Some k) q n = Some k
or_long None q n = cond (leb n most_path) None (Some (q + 4))
