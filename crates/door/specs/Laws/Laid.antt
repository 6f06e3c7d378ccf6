-- What the proofs of the functions that lay figures cite.
-- Assumes nothing.
use Rattle.std.specs.Prelude.{◌≡◌, Bool, cond, ◌&&◌, ◌||◌, ℕ, ◌+◌, ◌≤◌, ◌<◌, ltb, length, get_or, set}
use Rattle.std.proofs.Math.Path.{refl, ap}
use Rattle.std.proofs.Common.{sym, ap₂, subst, ◌∙◌, mod-lt, arith, Fits}
use Rattle.std.proofs.Math.Bool.{true, false}
use mathlib.Core.List.{List, [], ◌++◌, append-nil}
use Rattle.std.proofs.Math.Option.{Option, none, some}
use Rattle.std.proofs.Math.Dec.{eqb}
use Rattle.std.specs.Int.{w64}
use borrow.Author.Tests.{ltb-true, ltb-false, eqb-true, eqb-false, eq-eqb, ne_eqb}
use Rattle.xdr.specs.Meaning.Kind.{Codec}
use Rattle.xdr.specs.Meaning.Cases.{Cases}
use Rattle.xdr.specs.Meaning.Format.{exactly}
use Rattle.xdr.specs.Meaning.Items.{word, hyper, word_pair, flag, option}
use Rattle.xdr.specs.Meaning.Public.{Writes, laid}
use Rattle.xdr.specs.Laws.LayPieces.{yes}
use Rattle.xdr.specs.Laws.Marks.{and_left, and_right}
use Rattle.xdr.specs.Laws.Padding.{word-length, flag-length}
use Rattle.xdr.specs.Laws.Ranges.{word_good, hyper-good, flag-good}
use Rattle.xdr.specs.Laws.Fixed.{word-pair-fixed}
use Rattle.xdr.specs.Laws.Lays.{after, tail_of, three-size, word-hyper-size}
use Rattle.xdr.specs.Laws.Optional.{Optional, flag_word, flag-hyper}
use Rattle.xdr.specs.Laws.Write.{Put, first, field, put-laid, put_same, room_at, writes-done}
use Rattle.nfsattr.specs.Meaning.Attr.{nfstime}
use Rattle.nfsattr.specs.Laws.Words.{tag-time}
use Rattle.nfs.specs.Meaning.Change.{set_mode_to, set_uid_to, set_gid_to, set_size_to}
use Rattle.nfs.specs.Meaning.Set.{SetTime, dont_change, server_time, client_time, set_time, Times, atime_to, mtime_to, sattr}
use Rattle.nfs.specs.Laws.Bytes.{owner_bytes, change_bytes, sattr-bytes, sattr-small, set-atime-timed, set-mtime-timed}
use Rattle.nfs.specs.Laws.Change.{set-mode-optional, set-uid-optional, set-gid-optional, set-size-optional}
use Rattle.nfs.specs.Laws.Write.{Timed}
use Rattle.door.specs.Meaning.Copy.{Is}
use Rattle.door.specs.Meaning.Given.{low, is_word, option_fits, time_fits, sattr3_fits, option_of, time_of, sattr3_by, sattr3_given, WriteSattr3Called}
use Rattle.door.specs.Laws.Parts.{Laid, sattr3_narrow, Tagged, word_bytes, hyper_bytes, time_bytes, owner_of, change_of, sattr_of, SattrQuick}
use Rattle.door.specs.Laws.Given.{write_as, wrote_says, write_again, sattr3-some}

-- narrow figures fit
option-narrow : (flag v : ℕ) → is_word v ≡ true → option_fits flag v ≡ true
option-narrow flag v e = by (eqb flag 0) (is_word v) e
  where
    by : (b c : Bool) → c ≡ true → (b || c) ≡ true
    by true c e = refl
    by false c e = e

time-narrow : (tag s n : ℕ) → ltb tag 3 ≡ true → is_word s ≡ true → is_word n ≡ true → time_fits tag s n ≡ true
time-narrow tag s n h e f = by (ltb tag 2) refl
  where
    by : (b : Bool) → ltb tag 2 ≡ b → time_fits tag s n ≡ true
    by true g = rw g
    by false g = rw (g, eq-eqb tag 2 (omega (arith, ltb-true tag 3 h, ltb-false tag 2 g)), e, f)

module _ (l : List ℕ) (narrow : sattr3_narrow l ≡ true) where
  narrow-fits : Is sattr3_fits l true
  narrow-fits =
      let w : ℕ → Bool = λ k. is_word (get_or l k 0) in
      let a₁ = w 1 in
      let a₂ = a₁ && w 3 in
      let a₃ = a₂ && w 5 in
      let a₄ = a₃ && w 9 in
      let a₅ = a₄ && w 10 in
      let a₆ = a₅ && w 12 in
      let a₇ = a₆ && w 13 in
      let a₈ = a₇ && ltb (get_or l 8 0) 3 in
      let h₈ : a₈ ≡ true = and_left a₈ (ltb (get_or l 11 0) 3) narrow in
      let h₇ : a₇ ≡ true = and_left a₇ (ltb (get_or l 8 0) 3) h₈ in
      let h₆ : a₆ ≡ true = and_left a₆ (w 13) h₇ in
      let h₅ : a₅ ≡ true = and_left a₅ (w 12) h₆ in
      let h₄ : a₄ ≡ true = and_left a₄ (w 10) h₅ in
      let h₃ : a₃ ≡ true = and_left a₃ (w 9) h₄ in
      let h₂ : a₂ ≡ true = and_left a₂ (w 5) h₃ in
      record {
        is =
            rw
            (option-narrow (get_or l 0 0) (get_or l 1 0) (and_left a₁ (w 3) h₂), option-narrow (get_or l 2 0) (get_or l 3 0) (and_right a₁ (w 3) h₂), option-narrow (get_or l 4 0) (get_or l 5 0) (and_right a₂ (w 5) h₃), time-narrow (get_or l 8 0) (get_or l 9 0) (get_or l 10 0) (and_right a₇ (ltb (get_or l 8 0) 3) h₈) (and_right a₃ (w 9) h₄) (and_right a₄ (w 10) h₅), time-narrow (get_or l 11 0) (get_or l 12 0) (get_or l 13 0) (and_right a₈ (ltb (get_or l 11 0) 3) narrow) (and_right a₅ (w 12) h₆) (and_right a₆ (w 13) h₇));
      }

  narrow-tagged : Tagged l
  narrow-tagged =
      let a₇ : Bool =
      is_word (get_or l 1 0) && is_word (get_or l 3 0) && is_word (get_or l 5 0) && is_word (get_or l 9 0) && is_word (get_or l 10 0) && is_word (get_or l 12 0) && is_word (get_or l 13 0) in
      let a₈ : Bool = a₇ && ltb (get_or l 8 0) 3 in
      record {
        atime = ltb-true (get_or l 8 0) 3 (and_right a₇ (ltb (get_or l 8 0) 3) (and_left a₈ (ltb (get_or l 11 0) 3) narrow));
        mtime = ltb-true (get_or l 11 0) 3 (and_right a₈ (ltb (get_or l 11 0) 3) narrow);
      }

-- what is laid, as what was put
put_of : {k r : ℕ} {bs o o' : List ℕ} → Laid k bs o r o' → Put o o' r bs
put_of d = record { is = d.left; long = d.long }

laid_of : {k r : ℕ} {bs o o' : List ℕ} → r ≤ k → Put o o' r bs → Laid k bs o r o'
laid_of h f = record { left = f.is; long = f.long; most = h }

-- one call
laid_one : {k n : ℕ} (a bs : List ℕ) {o o' : List ℕ} → length a ≡ n → a ≡ bs → n ≤ k → k ≤ length o → o' ≡ laid a o → Laid k bs o n o'
laid_one a bs l e h g f = laid_of h (put_same e (put-laid l (omega arith) f))

-- a number behind a flag
module _ (n v : ℕ) {o o' : List ℕ} where
  pub word_none : n ≡ 0 → 8 ≤ length o → o' ≡ laid (flag.kind.write false) o → Laid 8 (word_bytes n v) o 4 o'
  unfolding word_bytes
  word_none e h f =
      laid_one (flag.kind.write false) (word_bytes n v) (flag-length false) (rw (eq-eqb n 0 e) (sym (append-nil (flag.kind.write false)))) (omega arith) h f

  pub word_some : (n ≡ 0 → ⊥) → 8 ≤ length o → o' ≡ laid (word_pair.kind.write (1, low v)) o → Laid 8 (word_bytes n v) o 8 o'
  unfolding word_bytes
  word_some e h f =
      laid_one (word_pair.kind.write (1, low v)) (word_bytes n v) (word-pair-fixed.writes (1, low v)) (rw (ne_eqb n 0 e) (flag_word (low v))) (omega arith) h f

  pub hyper-none : n ≡ 0 → 12 ≤ length o → o' ≡ laid (flag.kind.write false) o → Laid 12 (hyper_bytes n v) o 4 o'
  unfolding hyper_bytes
  hyper-none e h f =
      laid_one (flag.kind.write false) (hyper_bytes n v) (flag-length false) (rw (eq-eqb n 0 e) (sym (append-nil (flag.kind.write false)))) (omega arith) h f

  pub hyper-some : (n ≡ 0 → ⊥) → 12 ≤ length o → o' ≡ laid (word.kind.write 1 ++ hyper.kind.write v) o → Laid 12 (hyper_bytes n v) o 12 o'
  unfolding hyper_bytes
  hyper-some e h f =
      laid_one (word.kind.write 1 ++ hyper.kind.write v) (hyper_bytes n v) (sym (word-hyper-size 1 v)) (rw (ne_eqb n 0 e) (flag-hyper v)) (omega arith) h f

-- a time behind a tag: a tag that is not the client's is all
module _ (tag s n : ℕ) {o o' : List ℕ} where
  pub time-none : tag < 3 → (tag ≡ 2 → ⊥) → 12 ≤ length o → o' ≡ laid (word.kind.write tag) o → Laid 12 (time_bytes tag s n) o 4 o'
  unfolding time_bytes set_time
  time-none d e h f = laid_one (word.kind.write tag) (time_bytes tag s n) (word-length tag) (by (eqb tag 0) refl) (omega arith) h f
    where
      by : (b : Bool) → eqb tag 0 ≡ b → word.kind.write tag ≡ time_bytes tag s n
      by true g =
          ap word.kind.write (eqb-true tag 0 g) ∙ rw g (sym (append-nil (word.kind.write 0)))
      by false g =
          let z : tag ≡ 1 = omega (arith, eqb-false tag 0 g, e, d) in
          ap word.kind.write z ∙ rw (g, eq-eqb tag 1 z) (sym (append-nil (word.kind.write 1)))

  pub time-client : tag ≡ 2 → 12 ≤ length o → o' ≡ laid (word.kind.write 2 ++ word_pair.kind.write (low s, low n)) o → Laid 12 (time_bytes tag s n) o 12 o'
  unfolding time_bytes set_time
  time-client e h f =
      laid_one (word.kind.write 2 ++ word_pair.kind.write (low s, low n)) (time_bytes tag s n) (sym (three-size 2 (low s) (low n))) (rw e (tag-time 2 (record { seconds = low s; nseconds = low n }))) (omega arith) h f

-- two and three calls, each lent the tail from its place on
module _ {o a y : List ℕ} {i n : ℕ} (d : Laid i a (tail_of 0 o) n y) where
  one-put : i ≤ length o → Put o (after 0 o y) n a
  one-put h = let m = d.most in first (omega arith) (put_of d)

  module _ {b z : List ℕ} {j m : ℕ} (e : Laid j b (tail_of n (after 0 o y)) m z) where
    two-put : i + j ≤ length o → Put o (after n (after 0 o y) z) (n + m) (a ++ b)
    two-put h =
        let p = d.most in
        let q = e.most in
        field (one-put (omega arith)) (omega arith) (put_of e)

    pub laid-two : {k : ℕ} {bs : List ℕ} → a ++ b ≡ bs → i + j ≤ k → k ≤ length o → Laid k bs o (n + m) (after n (after 0 o y) z)
    laid-two f g h =
        let p = d.most in
        let q = e.most in
        laid_of (omega arith) (put_same f (two-put (omega arith)))

    pub laid-three : {c w : List ℕ} {u l : ℕ} → Laid u c (tail_of (n + m) (after n (after 0 o y) z)) l w → {k : ℕ} {bs : List ℕ} → (a ++ b) ++ c ≡ bs → i + j + u ≤ k
        → k ≤ length o → Laid k bs o (n + m + l) (after (n + m) (after n (after 0 o y) z) w)
    laid-three t f g h =
        let p = d.most in
        let q = e.most in
        let r = t.most in
        laid_of (omega arith) (put_same f (field (two-put (omega arith)) (omega arith) (put_of t)))

pub owner_of_lem : (l : List ℕ) → (word_bytes (get_or l 0 0) (get_or l 1 0) ++ word_bytes (get_or l 2 0) (get_or l 3 0)) ++ word_bytes (get_or l 4 0) (get_or l 5 0) ≡ owner_of l
unfolding owner_of
owner_of_lem l = refl

pub change-of : (l : List ℕ)
    → (hyper_bytes (get_or l 6 0) (get_or l 7 0) ++ time_bytes (get_or l 8 0) (get_or l 9 0) (get_or l 10 0)) ++ time_bytes (get_or l 11 0) (get_or l 12 0) (get_or l 13 0) ≡ change_of l
unfolding change_of
change-of l = refl

-- under the names of a type: the same bytes, and in range
module _ {M T : Type 0} {C : Codec M} {U : Cases M T} {D : Codec T} (O : Optional C U D) (x : Option M) where
  option-as : (option C).kind.write x ≡ D.kind.write (U.to x)
  option-as = rw O.is (ap (option C).kind.write (sym (U.from_to x)))

  option-in : (option C).kind.Good x → D.kind.Good (U.to x)
  option-in g = rw O.is (subst (option C).kind.Good (sym (U.from_to x)) g)

module _ {T : Type 0} {U : Times T} {D : Codec T} (O : Timed U D) (t : SetTime) where
  time-as : set_time.kind.write t ≡ D.kind.write (U.to t)
  time-as = rw O.is (ap set_time.kind.write (sym (U.from_to t)))

  time-in : set_time.kind.Good t → D.kind.Good (U.to t)
  time-in g = rw O.is (subst set_time.kind.Good (sym (U.from_to t)) g)

some_in : {M : Type 0} (C : Codec M) (b : Bool) (x : M) → C.kind.Good x → (option C).kind.Good (cond b none (some x))
some_in C true x g = (flag-good false, tt)
some_in C false x g = (flag-good true, g)

low-in : (n : ℕ) → word.kind.Good (low n)
low-in n = word_good (low n) (mod-lt n (omega arith))

time-by : (b c : Bool) (s n : ℕ) → set_time.kind.Good (cond b dont_change (cond c server_time (client_time (record { seconds = low s; nseconds = low n }))))
unfolding set_time nfstime
time-by true c s n = (word_good 0 (omega arith), tt)
time-by false true s n = (word_good 1 (omega arith), tt)
time-by false false s n = (word_good 2 (omega arith), (low-in s, low-in n))

sattr-in : (l : List ℕ) → get_or l 7 0 < 18446744073709551616 → sattr.kind.Good (sattr3_by low l)
unfolding sattr
sattr-in l h = (
  option-in set-mode-optional (option_of (get_or l 0 0) (low (get_or l 1 0))) (some_in word (eqb (get_or l 0 0) 0) (low (get_or l 1 0)) (low-in (get_or l 1 0))),
  (
    option-in set-uid-optional (option_of (get_or l 2 0) (low (get_or l 3 0))) (some_in word (eqb (get_or l 2 0) 0) (low (get_or l 3 0)) (low-in (get_or l 3 0))),
    (
      option-in set-gid-optional (option_of (get_or l 4 0) (low (get_or l 5 0))) (some_in word (eqb (get_or l 4 0) 0) (low (get_or l 5 0)) (low-in (get_or l 5 0))),
      (
        option-in set-size-optional (option_of (get_or l 6 0) (get_or l 7 0)) (some_in hyper (eqb (get_or l 6 0) 0) (get_or l 7 0) (hyper-good (get_or l 7 0) h)),
        (
          time-in set-atime-timed (time_of (get_or l 8 0) (low (get_or l 9 0)) (low (get_or l 10 0))) (time-by (eqb (get_or l 8 0) 0) (eqb (get_or l 8 0) 1) (get_or l 9 0) (get_or l 10 0)),
          time-in set-mtime-timed (time_of (get_or l 11 0) (low (get_or l 12 0)) (low (get_or l 13 0))) (time-by (eqb (get_or l 11 0) 0) (eqb (get_or l 11 0) 1) (get_or l 12 0) (get_or l 13 0)),
        ),
      ),
    ),
  ),
)

owner-is : (l : List ℕ)
    → owner_of l ≡ owner_bytes (set_mode_to (option_of (get_or l 0 0) (low (get_or l 1 0)))) (set_uid_to (option_of (get_or l 2 0) (low (get_or l 3 0)))) (set_gid_to (option_of (get_or l 4 0) (low (get_or l 5 0))))
unfolding owner_of word_bytes owner_bytes
owner-is l =
    ap₂ (λ x y. x ++ y)
    (ap₂ (λ x y. x ++ y) (option-as set-mode-optional (option_of (get_or l 0 0) (low (get_or l 1 0)))) (option-as set-uid-optional (option_of (get_or l 2 0) (low (get_or l 3 0)))))
    (option-as set-gid-optional (option_of (get_or l 4 0) (low (get_or l 5 0))))

change-is : (l : List ℕ)
    → change_of l ≡ change_bytes (set_size_to (option_of (get_or l 6 0) (get_or l 7 0))) (atime_to (time_of (get_or l 8 0) (low (get_or l 9 0)) (low (get_or l 10 0)))) (mtime_to (time_of (get_or l 11 0) (low (get_or l 12 0)) (low (get_or l 13 0))))
unfolding change_of hyper_bytes time_bytes change_bytes
change-is l =
    ap₂ (λ x y. x ++ y)
    (ap₂ (λ x y. x ++ y) (option-as set-size-optional (option_of (get_or l 6 0) (get_or l 7 0))) (time-as set-atime-timed (time_of (get_or l 8 0) (low (get_or l 9 0)) (low (get_or l 10 0)))))
    (time-as set-mtime-timed (time_of (get_or l 11 0) (low (get_or l 12 0)) (low (get_or l 13 0))))

pub sattr-of : (l : List ℕ) → owner_of l ++ change_of l ≡ sattr_of l
unfolding sattr_of
sattr-of l = ap₂ (λ x y. x ++ y) (owner-is l) (change-is l) ∙ sattr-bytes (sattr3_by low l)

-- where the figures are narrow and there is room they are laid, and the sattr3 is written
module _ {l : List ℕ} {len at : ℕ} {b : Bool} (q : SattrQuick l len at b) (e : b ≡ true) where
  longest : at + 60 ≤ len
  longest = q.room (yes refl e)

  pub quick-tagged : Tagged l
  quick-tagged = narrow-tagged l (q.narrow (yes refl e))

  pub place_in : at ≤ len
  place_in = let r = longest in omega arith

  pub tail-room : (o : List ℕ) → len ≡ length o → 60 ≤ length (tail_of at o)
  tail-room o g = let r = longest in room_at o at 60 (omega arith)

  pub behind-fits : {n : ℕ} {bs xs zs : List ℕ} → Laid 60 bs xs n zs → len < 18446744073709551616 → Fits w64 (at + n)
  behind-fits d g =
      let r = longest in
      let p = d.most in
      omega arith

  pub write-laid : {o i zs : List ℕ} {n : ℕ} → len ≡ length o → ((j : ℕ) → Fits w64 (get_or l j 0)) → 14 ≤ length l → 1 ≤ length i
      → Laid 60 (sattr_of l) (tail_of at o) n zs → WriteSattr3Called l o at i 0 (after at o zs) (set i 0 (at + n))
  unfolding sattr_of
  write-laid {o} {i} {n = n} k known h g d =
      let r = longest in
      let p = d.most in
      write_as (λ x w o'. Writes (exactly sattr) [] x at o w o') 14 sattr3_given l o i h g
      (writes-done (exactly sattr) [] (sattr3_by low l) at o (omega arith) (omega arith) refl (sattr-small (sattr3_by low l)) (sattr-in l (omega (arith, known 7))) (omega arith) (put_of d))
      (wrote_says i (at + n)) (sattr3-some (narrow-fits l (q.narrow (yes refl e))) refl refl)

-- otherwise a careful function writes it, which is lent each slice whole
pub sattr3-again : {l o i : List ℕ} {start r : ℕ} {o' i' : List ℕ} → WriteSattr3Called (tail_of 0 l) (tail_of 0 o) start (tail_of 0 i) r o' i'
    → WriteSattr3Called l o start i r (after 0 o o') (after 0 i i')
sattr3-again {start = start} c = write_again (λ o x w o'. Writes (exactly sattr) [] x start o w o') 14 sattr3_given c
