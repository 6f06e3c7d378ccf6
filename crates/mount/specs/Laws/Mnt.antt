-- made by tools/generate from crates/mount/rfc/mnt.x
-- What follows for the kinds of mnt: how they are read, how many bytes they have, and what is laid of them.
-- Assumes nothing.
use Rattle.std.specs.Prelude.{◌≡◌, refl, Bool, ◌&&◌, List, [], ◌∷◌, ℕ, ◌≤◌, length}
use Rattle.std.proofs.Common.{ap, ap₂, arith}
use Rattle.xdr.specs.Meaning.Answer.{Written}
use Rattle.xdr.specs.Meaning.Codecs.{void}
use Rattle.xdr.specs.Meaning.Items.{word}
use Rattle.xdr.specs.Meaning.Format.{exactly, ◌⨟◌}
use Rattle.xdr.specs.Meaning.Formats.{bytes, word_list, piece_held, words_held}
use Rattle.xdr.specs.Meaning.Pieces.{is_inside, are_inside}
use Rattle.xdr.specs.Meaning.Public.{Writes, output}
use Rattle.xdr.specs.Meaning.Marks.{Marked, MarksAre}
use Rattle.xdr.specs.Laws.Padding.{size_small, words_small}
use Rattle.xdr.specs.Laws.Closed.{by_number}
use Rattle.xdr.specs.Laws.Fixed.{Fixed, seen-fixed, word-fixed}
use Rattle.xdr.specs.Laws.Plans.{at, Planned, plan, ◌then◌}
use Rattle.xdr.specs.Laws.Lengths.{Within, closed-within, view-within, pair-within, opaque-within, words-within, no_default, void-within}
use Rattle.xdr.specs.Laws.Write.{Ready}
use Rattle.xdr.specs.Laws.Writers.{Writer, bytes-writer, words-writer}
use Rattle.xdr.specs.Laws.Fields.{pair-writer, named-sized, Lays, lays-named, codec-writer}
use Rattle.xdr.specs.Laws.Status.{OnStatus, status-within, result_size, status-sized}
use Rattle.xdr.specs.Laws.Unpadded.{Unpadded, closed-unpadded, void-unpadded}
use Rattle.xdr.specs.Laws.Marked.{named-marked, pair-marked, bytes-marked, words-marked, status-marked, plain-marked}
use Rattle.mount.specs.Meaning.Mnt.{mountstat, mountstat_number, mountstat_all, each_mountstat, mountres_ok, mountres_ok_names, mountstat_or, mountres_arms, mountres, mountres_from}
use Rattle.mount.specs.declared.mnt.mountres3.{mountres3}
use Rattle.mount.specs.declared.mnt.mountres3_ok.{mountres3_ok}
use Rattle.mount.specs.declared.mnt.mountstat3.{mountstat3}
use Rattle.mount.specs.declared.mnt.mountres3.TheVariants as mountresIs

-- mountstat3
pub mountstat-within : Within 0 mountstat.kind
unfolding mountstat
mountstat-within = closed-within mountstat_number mountstat_all each_mountstat

pub mountstat-unpadded : Unpadded mountstat.kind
unfolding mountstat
mountstat-unpadded = closed-unpadded mountstat_number mountstat_all each_mountstat

pub mountstat-fixed : Fixed 4 mountstat
unfolding mountstat
mountstat-fixed = seen-fixed word-fixed _ _ _ _

pub mountstat-writes : (a : mountstat3) {v : ℕ} (at : ℕ) (o : List ℕ) {w : Written} {o' : List ℕ} → v ≡ mountstat_number a → Writes (exactly word) [] v at o w o'
    → Writes (exactly mountstat) [] a at o w o'
unfolding mountstat
mountstat-writes = by_number mountstat_number mountstat_all each_mountstat

pub mountstat-bytes : (n : ℕ) (a : mountstat3) → n ≡ mountstat_number a → word.kind.write n ≡ mountstat.kind.write a
unfolding mountstat
mountstat-bytes n a e = ap word.kind.write e

-- mountres3_ok
abbrev pub mountres-ok-plan : Planned mountres_ok.held.read
unfolding mountres_ok
mountres-ok-plan = plan (at bytes then at word_list) _

pub mountres-ok-within : Within 0 mountres_ok.codec.kind
unfolding mountres_ok
mountres-ok-within = view-within _ _ (bytes ⨟ word_list).codec.laws (pair-within opaque-within words-within) (λ x m l u w e s f. no_default s)

pub mountres-ok-marked : Marked mountres_ok.held
unfolding mountres_ok
mountres-ok-marked = named-marked (bytes ⨟ word_list) mountres_ok_names (pair-marked bytes-marked words-marked)

pub mountres-ok-marks : (x : mountres3_ok) → MarksAre mountres_ok x (x.fhandle.clean ∷ x.auth_flavors.clean ∷ [])
unfolding mountres_ok piece_held words_held
mountres-ok-marks x = record { are = λ s. refl }

abbrev pub mountres-ok-1 : Writer (bytes ⨟ word_list)
mountres-ok-1 = pair-writer bytes-writer words-writer

abbrev pub mountres_ok_size : mountres3_ok → ℕ
mountres_ok_size x = mountres-ok-1.size (x.fhandle, x.auth_flavors)

pub mountres-ok-sized : (s : List ℕ) (x : mountres3_ok) → Ready mountres_ok s x → length (output mountres_ok s x) ≡ mountres_ok_size x
unfolding mountres_ok
mountres-ok-sized s x r = named-sized _ mountres_ok_names mountres-ok-1 s x (record { short = r.short; inside = r.inside })

abbrev pub mountres-ok-writer : Writer mountres_ok
mountres-ok-writer = record { size = mountres_ok_size; sized = mountres-ok-sized }

pub mountres-ok-bound : (x : mountres3_ok) → mountres_ok_size x ≤ 10485760
mountres-ok-bound x = omega (arith, size_small x.fhandle.count, words_small x.auth_flavors.count)

pub mountres-ok-most : (n : ℕ) (x : mountres3_ok) → n ≡ mountres_ok_size x → n ≤ 4294967296
mountres-ok-most n x e = omega (arith, mountres-ok-bound x)

pub mountres-ok-inside : (s : List ℕ) (x : mountres3_ok) (a b : Bool) → a ≡ is_inside s x.fhandle → b ≡ are_inside s x.auth_flavors → (a && b) ≡ mountres_ok.held.inside s x
unfolding mountres_ok piece_held words_held
mountres-ok-inside s x a b ea eb = ap₂ (λ a b. a && b) ea eb

pub mountres-ok-lays : (s : List ℕ) (x : mountres3_ok) (o z : List ℕ) → Lays (bytes ⨟ word_list) s (x.fhandle, x.auth_flavors) o z → Lays mountres_ok s x o z
unfolding mountres_ok
mountres-ok-lays s x o z a = lays-named _ mountres_ok_names s x o z a

-- mountres3
pub mountres-status : OnStatus mountstat mountstat_or mountres_ok (exactly void) mountres_arms mountres
unfolding mountres
mountres-status = record { is = refl }

pub mountres-marked : Marked mountres.held
unfolding mountres
mountres-marked = status-marked mountstat mountstat_or mountres_ok (exactly void) mountres_arms mountstat-unpadded mountres-ok-marked (plain-marked void-unpadded)

pub mountres-within : Within 0 mountres.codec.kind
unfolding mountres
mountres-within = status-within mountstat mountstat_or mountres_ok (exactly void) mountres_arms mountstat-within mountres-ok-within void-within

abbrev pub mountres_size : mountres3 → ℕ
mountres_size x = result_size mountres-status mountstat-fixed mountres-ok-writer (codec-writer void) (mountres_from x)

abbrev pub mountres-writer : Writer mountres
mountres-writer = record { size = mountres_size; sized = status-sized mountres-status mountstat-fixed mountres-ok-writer (codec-writer void) }

pub mountres-bound : (x : mountres3) → mountres_size x ≤ 10485764
mountres-bound (mountresIs.MNT3_OK f) = omega (arith, mountres-ok-bound f)
mountres-bound (mountresIs.Failed e) = omega arith

pub mountres-most : (n : ℕ) (x : mountres3) → n ≡ mountres_size x → n ≤ 4294967296
mountres-most n x e = omega (arith, mountres-bound x)
