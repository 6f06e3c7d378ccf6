-- What the proofs of the functions that lay the figures of a fattr3 cite.
-- Assumes nothing.
use Rattle.std.specs.Prelude.{◌≡◌, refl, Bool, true, false, not, ℕ, ◌+◌, ◌-◌, ◌≤◌, ◌<◌, leb, length, get_or, set, Some}
use Rattle.std.specs.Prelude as std
use Rattle.std.proofs.Common.{sym, ◌∙◌, mod-lt, arith, length-append, Fits, leb-true}
use Rattle.std.proofs.Math.Path.{ap, ap₂, subst}
use mathlib.Core.List.{List, [], ◌++◌, append_assoc}
use Rattle.std.specs.Int.{w64}
use Rattle.xdr.specs.Meaning.Combinators.{means, Exact, among}
use Rattle.xdr.specs.Meaning.Format.{exactly}
use Rattle.xdr.specs.Meaning.Items.{word, word_pair, hyper_pair}
use Rattle.xdr.specs.Meaning.Public.{Writes, laid}
use Rattle.xdr.specs.Meaning.Views.{view_found}
use Rattle.xdr.specs.Laws.Exact.{among-exact}
use Rattle.xdr.specs.Laws.Fixed.{word-fixed, word-pair-fixed, hyper-pair-fixed, pair-fixed}
use Rattle.xdr.specs.Laws.LayPieces.{yes}
use Rattle.xdr.specs.Laws.Lays.{after, tail_of}
use Rattle.xdr.specs.Laws.Ranges.{word_good, hyper-good}
use Rattle.xdr.specs.Laws.Write.{room_at, sized-done, no_pieces}
use Rattle.nfsattr.specs.Meaning.Attr.{ftype_number, ftypes, ftype, specdata, nfstime, fattr}
use Rattle.nfsattr.specs.Laws.Bytes.{ftype-bytes, specdata-bytes, nfstime-bytes, ids-bytes, sizes-bytes, times-bytes, fattr-bytes}
use Rattle.nfsattr.specs.Laws.Groups.{ids, sizes, times}
use Rattle.nfsattr.specs.Laws.Sizes.{fattr-fixed}
use Rattle.nfsattr.specs.declared.attr.ftype3.{ftype3}
use Rattle.nfsattr.specs.declared.attr.fattr3.{fattr3}
use Rattle.door.specs.Meaning.Copy.{Is}
use Rattle.door.specs.Meaning.Given.{low, are_words, fattr3_words, fattr3_by, fattr3_given, WriteFattr3Called}
use Rattle.door.specs.Laws.Parts.{ids_of, sizes_of, times_of, fattr_of, FattrQuick}
use Rattle.door.specs.Laws.Given.{write_as, wrote_says, write_again, fattr3-some}

-- the parts, and how long they are
pub ids-of : (l : List ℕ)
    → (word.kind.write (low (get_or l 0 0)) ++ word_pair.kind.write (low (get_or l 1 0), low (get_or l 2 0))) ++ word_pair.kind.write (low (get_or l 3 0), low (get_or l 4 0)) ≡ ids_of l
unfolding ids_of
ids-of l = refl

pub ids-long : (l : List ℕ) → 20 ≡ length (ids_of l)
unfolding ids_of
ids-long l =
    sym ((pair-fixed (pair-fixed word-fixed word-pair-fixed) word-pair-fixed).writes ((low (get_or l 0 0), (low (get_or l 1 0), low (get_or l 2 0))), (low (get_or l 3 0), low (get_or l 4 0))))

pub sizes-of : (l : List ℕ)
    → (hyper_pair.kind.write (get_or l 5 0, get_or l 6 0) ++ word_pair.kind.write (low (get_or l 7 0), low (get_or l 8 0))) ++ hyper_pair.kind.write (get_or l 9 0, get_or l 10 0) ≡ sizes_of l
unfolding sizes_of
sizes-of l = refl

pub sizes-long : (l : List ℕ) → 40 ≡ length (sizes_of l)
unfolding sizes_of
sizes-long l =
    sym ((pair-fixed (pair-fixed hyper-pair-fixed word-pair-fixed) hyper-pair-fixed).writes (((get_or l 5 0, get_or l 6 0), (low (get_or l 7 0), low (get_or l 8 0))), (get_or l 9 0, get_or l 10 0)))

pub times-of : (l : List ℕ)
    → (word_pair.kind.write (low (get_or l 11 0), low (get_or l 12 0)) ++ word_pair.kind.write (low (get_or l 13 0), low (get_or l 14 0))) ++ word_pair.kind.write (low (get_or l 15 0), low (get_or l 16 0)) ≡ times_of l
unfolding times_of
times-of l = refl

pub times_long : (l : List ℕ) → 24 ≡ length (times_of l)
unfolding times_of
times_long l =
    sym ((pair-fixed (pair-fixed word-pair-fixed word-pair-fixed) word-pair-fixed).writes (((low (get_or l 11 0), low (get_or l 12 0)), (low (get_or l 13 0), low (get_or l 14 0))), (low (get_or l 15 0), low (get_or l 16 0))))

pub fattr-of : (l : List ℕ) → (ids_of l ++ sizes_of l) ++ times_of l ≡ fattr_of l
unfolding fattr_of
fattr-of l = refl

pub fattr-long : (l : List ℕ) → 84 ≡ length (fattr_of l)
unfolding fattr_of
fattr-long l =
    omega (arith, length-append (ids_of l ++ sizes_of l) (times_of l), length-append (ids_of l) (sizes_of l), ids-long l, sizes-long l, times_long l)

pub behind-sizes : (i j : ℕ) (l : List ℕ) → j ≡ i + 40 → j ≡ i + length (sizes_of l)
behind-sizes i j l e = e ∙ ap (λ n. i + n) (sizes-long l)

-- with the type of that number they are the fattr3 that the figures are, and it is in range
module _ (l : List ℕ) (a : ftype3) (e : low (get_or l 0 0) ≡ ftype_number a) where
  abbrev v : fattr3
  v = fattr3_by low l a

  ids-is : ids_of l ≡ ids.kind.write (record { ftype = v.ftype; mode = v.mode; nlink = v.nlink; uid = v.uid; gid = v.gid })
  unfolding ids_of
  ids-is =
      ap (λ x. (x ++ word_pair.kind.write (v.mode, v.nlink)) ++ word_pair.kind.write (v.uid, v.gid)) (ftype-bytes (low (get_or l 0 0)) a e)
      ∙ ids-bytes a v.mode v.nlink v.uid v.gid

  sizes-is : sizes_of l ≡ sizes.kind.write (record { size = v.size; used = v.used; rdev = v.rdev; fsid = v.fsid; fileid = v.fileid })
  unfolding sizes_of
  sizes-is =
      ap (λ x. (hyper_pair.kind.write (v.size, v.used) ++ x) ++ hyper_pair.kind.write (v.fsid, v.fileid)) (specdata-bytes v.rdev)
      ∙ sizes-bytes v.size v.used v.fsid v.fileid v.rdev

  times-is : times_of l ≡ times.kind.write (record { atime = v.atime; mtime = v.mtime; ctime = v.ctime })
  unfolding times_of
  times-is =
      ap₂ (λ x y. x ++ y) (ap₂ (λ x y. x ++ y) (nfstime-bytes v.atime) (nfstime-bytes v.mtime)) (nfstime-bytes v.ctime)
      ∙ append_assoc (nfstime.kind.write v.atime) (nfstime.kind.write v.mtime) (nfstime.kind.write v.ctime)
      ∙ times-bytes v.atime v.mtime v.ctime

  fattr-is : fattr_of l ≡ fattr.kind.write v
  unfolding fattr_of
  fattr-is = ap₂ (λ x y. x ++ y) (ap₂ (λ x y. x ++ y) ids-is sizes-is) times-is ∙ fattr-bytes v

  fattr-in : ((j : ℕ) → Fits w64 (get_or l j 0)) → fattr.kind.Good v
  unfolding fattr ftype specdata nfstime
  fattr-in known =
      let w : (k : ℕ) → word.kind.Good (low (get_or l k 0)) = λ k. word_good (low (get_or l k 0)) (mod-lt (get_or l k 0) (omega arith)) in (
        subst word.kind.Good e (w 0),
        (
          w 1,
          (
            w 2,
            (
              w 3,
              (
                w 4,
                (
                  hyper-good (get_or l 5 0) (omega (arith, known 5)),
                  (
                    hyper-good (get_or l 6 0) (omega (arith, known 6)),
                    ((w 7, w 8), (hyper-good (get_or l 9 0) (omega (arith, known 9)), (hyper-good (get_or l 10 0) (omega (arith, known 10)), ((w 11, w 12), ((w 13, w 14), (w 15, w 16)))))),
                  ),
                ),
              ),
            ),
          ),
        ),
      )

number_of : {n : ℕ} {a : ftype3} → among ftype_number ftypes n ≡ means a [] → n ≡ ftype_number a
number_of {n} {a} e =
    let h : ftype_number a ≡ n = subst (Exact word.kind.Good ftype_number n) e (among-exact word.kind.Good ftype_number ftypes n) in
    sym h

-- by a test of the figures and of the room
pub quick-by : {l : List ℕ} {len at : ℕ} {b : Bool} {r : std.Option ftype3} {a : ftype3} → Is (are_words fattr3_words) l b → b ≡ true
    → view_found r ≡ among ftype_number ftypes (low (get_or l 0 0)) → r ≡ Some a → at ≤ len → FattrQuick l len at (leb 84 (len - at))
quick-by {len = len} {at = at} {a = a} d e f g h =
    record {
      figures = λ _. record { kind = a; number = number_of (sym f ∙ ap view_found g); given = fattr3-some d e (sym (ap view_found g) ∙ f) refl };
      room = λ k. omega (arith, leb-true 84 (len - at) k);
    }

-- where it holds they are laid, and the fattr3 is written
module _ {l : List ℕ} {len at : ℕ} {b : Bool} (q : FattrQuick l len at b) (e : b ≡ true) where
  free : at + 84 ≤ len
  free = q.room (yes refl e)

  pub place_in : at ≤ len
  place_in = let r = free in omega arith

  pub tail-room : (o : List ℕ) → len ≡ length o → 84 ≤ length (tail_of at o)
  tail-room o g = let r = free in room_at o at 84 (omega arith)

  pub behind-fits : len < 18446744073709551616 → Fits w64 (at + 84)
  behind-fits g = let r = free in omega arith

  pub write-laid : {o i zs : List ℕ} → len ≡ length o → ((j : ℕ) → Fits w64 (get_or l j 0)) → 17 ≤ length l → 1 ≤ length i → zs ≡ laid (fattr_of l) (tail_of at o)
      → WriteFattr3Called l o at i 0 (after at o zs) (set i 0 (at + 84))
  write-laid {o} {i} {zs} k known h g z =
      let r = free in
      let f = q.figures (yes refl e) in
      let x : fattr3 = fattr3_by low l f.kind in
      let y : zs ≡ laid (fattr.kind.write x) (tail_of at o) = z ∙ ap (λ bs. laid bs (tail_of at o)) (fattr-is l f.kind f.number) in
      write_as (λ x w o'. Writes (exactly fattr) [] x at o w o') 17 fattr3_given l o i h g
      (sized-done (exactly fattr) [] x (fattr-fixed.writes x) (no_pieces fattr x) at o (omega arith) (omega arith) (fattr-in l f.kind f.number known) (omega arith) y)
      (wrote_says i (at + 84)) f.given

-- otherwise a careful function writes it, which is lent each slice whole
pub fattr3-again : {l o i : List ℕ} {start r : ℕ} {o' i' : List ℕ} → WriteFattr3Called (tail_of 0 l) (tail_of 0 o) start (tail_of 0 i) r o' i'
    → WriteFattr3Called l o start i r (after 0 o o') (after 0 i i')
fattr3-again {start = start} c = write_again (λ o x w o'. Writes (exactly fattr) [] x start o w o') 17 fattr3_given c
