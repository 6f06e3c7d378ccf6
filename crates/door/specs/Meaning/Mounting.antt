-- What the exported functions about mounts and ports answer: a number, and figures in a lent list.
-- Assumes nothing.
use Rattle.std.specs.Prelude.{◌≡◌, Bool, cond, not, List, [], ◌∷◌, ◌++◌, ℕ, ◌≤◌, ◌<◌, eqb, length, replicate, Result, Ok, Err, Some, None}
use Rattle.std.specs.Prelude as std
use Rattle.std.proofs.Math.Option.{Option, none, some}
use Rattle.std.proofs.lemmas.List.Edits.{sets}
use Rattle.xdr.specs.Meaning.Refusal.{number_of, place_of, wanting_of}
use Rattle.xdr.specs.Meaning.Format.{Format}
use Rattle.xdr.specs.Meaning.Public.{Answers}
use Rattle.xdr.specs.Meaning.Within.{WritesWithin}
use Rattle.rpc.specs.declared.auth.auth_unix.{auth_unix}
use Rattle.mount.specs.Meaning.Group.{next-group}
use Rattle.mount.specs.Meaning.Export.{exports, next-export}
use Rattle.mount.specs.Meaning.Ask.{Said, refuse, reply, silence, hand_over, mnt, umnt, export, getport, Asks}
use Rattle.mount.specs.Meaning.Same.{Compares}
use Rattle.xdr.specs.declared.piece.Piece.{Piece}
use Rattle.xdr.specs.declared.refusal.Refusal.{Refusal}
use Rattle.mount.specs.declared.export.exportnode.{exportnode}
use Rattle.door.specs.Meaning.Values.{piece_figures, unix_figures, ValueCalled}
use Rattle.door.specs.Meaning.Given.{WrittenTold}

-- `yugerzat_ask`: thirteen figures; the last eight are those of the caller
abbrev pub caller_figures : Option auth_unix → List ℕ
caller_figures none = replicate 8 0
caller_figures (some a) = 1 ∷ unix_figures a

abbrev pub turn_figures : (a b c d next : ℕ) → Option auth_unix → List ℕ
turn_figures a b c d n u = a ∷ b ∷ c ∷ d ∷ n ∷ caller_figures u

abbrev pub asked_code : Said → ℕ
asked_code (refuse r) = number_of r
asked_code (reply n) = 101
asked_code silence = 102
asked_code (hand_over p v f a n) = 100
asked_code (mnt a x n) = 105
asked_code (umnt a x n) = 106
asked_code (export a n) = 107
asked_code (getport a x n) = 108

abbrev pub asked_figures : Said → List ℕ
asked_figures (refuse r) = place_of r ∷ wanting_of r ∷ replicate 11 0
asked_figures (reply n) = n ∷ replicate 12 0
asked_figures silence = replicate 13 0
asked_figures (hand_over p v f a n) = turn_figures p v f n 0 a
asked_figures (mnt a x n) = turn_figures x.at x.count 0 0 n a
asked_figures (umnt a x n) = turn_figures x.at x.count 0 0 n a
asked_figures (export a n) = turn_figures 0 0 0 0 n a
asked_figures (getport a x n) = turn_figures x.prog x.vers x.prot x.port n a

pub record AskTold (s : List ℕ) (seen : ℕ) (o i : List ℕ) (r : ℕ) (o' i' : List ℕ) : Type 0 where
  pub said : Said
  pub asks : Asks s (not (eqb seen 0)) o said o'
  pub number : r ≡ asked_code said
  pub list : i' ≡ sets i 0 (asked_figures said)

pub record AskCalled (s : List ℕ) (seen : ℕ) (o i : List ℕ) (r : ℕ) (o' i' : List ℕ) : Type 0 where
  pub room : 13 ≤ length i → AskTold s seen o i r o' i'
  pub short : length i < 13 → (r ≡ 254) × (o' ≡ o) × (i' ≡ i)

-- `yugerzat_read_exports`: the place of the first flag, and the count of entries
abbrev pub ExportsCalled : (s : List ℕ) (at : ℕ) (i : List ℕ) (r : ℕ) (i' : List ℕ) → Type 0
ExportsCalled s at = ValueCalled (Answers exports s at) piece_figures 2

-- `yugerzat_next_export`: 1 with the path's piece and the groups, or zeros at the end
abbrev pub next_export_figures : std.Option exportnode → List ℕ
next_export_figures None = replicate 5 0
next_export_figures (Some e) = 1 ∷ (piece_figures e.ex_dir ++ piece_figures e.ex_groups)

abbrev pub NextExportCalled : (s : List ℕ) (at : ℕ) (i : List ℕ) (r : ℕ) (i' : List ℕ) → Type 0
NextExportCalled s at = ValueCalled (Answers next-export s at) next_export_figures 5

-- `yugerzat_next_group`: 1 with the name's piece, or zeros at the end
abbrev pub next_group_figures : std.Option Piece → List ℕ
next_group_figures None = replicate 3 0
next_group_figures (Some x) = 1 ∷ piece_figures x

abbrev pub NextGroupCalled : (s : List ℕ) (at : ℕ) (i : List ℕ) (r : ℕ) (i' : List ℕ) → Type 0
NextGroupCalled s at = ValueCalled (Answers next-group s at) next_group_figures 3

-- `yugerzat_write_dirpath` and `yugerzat_write_exports`: a message under a bound
pub record WithinCalled {M : Type 0} (F : Format M Piece) (over : M → Option ℕ) (s : List ℕ) (x : Piece) (start : ℕ) (o i : List ℕ) (r : ℕ) (o' i' : List ℕ) : Type 0 where
  pub room : 1 ≤ length i → WrittenTold (λ y w o''. WritesWithin F over s y start o w o'') x i r o' i'
  pub short : length i < 1 → (r ≡ 254) × (o' ≡ o) × (i' ≡ i)

-- `yugerzat_same_exports`: 1 for the same list, 0 for another
abbrev pub compared_code : Result Bool Refusal → ℕ
compared_code (Err r) = number_of r
compared_code (Ok b) = 0

abbrev pub compared_figures : Result Bool Refusal → List ℕ
compared_figures (Err r) = 0 ∷ []
compared_figures (Ok b) = cond b 1 0 ∷ []

pub record SameTold (s : List ℕ) (x : Piece) (t : List ℕ) (y : Piece) (i : List ℕ) (r : ℕ) (i' : List ℕ) : Type 0 where
  pub answer : Result Bool Refusal
  pub compares : Compares s x t y answer
  pub number : r ≡ compared_code answer
  pub list : i' ≡ sets i 0 (compared_figures answer)

pub record SameCalled (s : List ℕ) (x : Piece) (t : List ℕ) (y : Piece) (i : List ℕ) (r : ℕ) (i' : List ℕ) : Type 0 where
  pub room : 1 ≤ length i → SameTold s x t y i r i'
  pub short : length i < 1 → (r ≡ 254) × (i' ≡ i)
