-- A sattr3 walked over without keeping its values: what the private functions of its rewriting promise, and what their proofs cite.
-- Assumes nothing.
use Rattle.std.specs.Prelude.{◌≡◌, refl, Bool, false, not, ◌&&◌, List, ◌++◌, get_or, Result, Ok, Some, None}
use Rattle.std.specs.Prelude as std
use Rattle.std.proofs.Math.Path.{sym}
use Rattle.std.proofs.Common.{ap, ap₂, ◌∙◌, arith, Fits}
use Rattle.std.proofs.Math.Bool.{true, and-true, and_assoc}
use Rattle.std.proofs.Math.Option.{Option, none, some}
use Prim.Native.Nat.{ℕ, zero, suc, ◌<◌}
use Rattle.std.specs.Int.{w8}
use Rattle.xdr.specs.Meaning.Answer.{Answer, took, refused, opened, map_answer}
use Rattle.xdr.specs.Meaning.Kind.{Codec}
use Rattle.xdr.specs.Meaning.Codecs.{◌⨾◌, mapped}
use Rattle.xdr.specs.Meaning.Combinators.{first, second}
use Rattle.xdr.specs.Meaning.Cases.{Cases, maybe}
use Rattle.xdr.specs.Meaning.Format.{exactly}
use Rattle.xdr.specs.Meaning.Items.{flag, word, hyper, option}
use Rattle.xdr.specs.Meaning.Public.{Answers}
use Rattle.xdr.specs.Meaning.Views.{view, view_opening}
use Rattle.xdr.specs.Laws.Answers.{on, word-on}
use Rattle.xdr.specs.Laws.Public.{answers-on}
use Rattle.xdr.specs.declared.answer.Took.{Took}
use Rattle.xdr.specs.declared.refusal.Refusal.{Refusal}
use Rattle.nfsattr.specs.Meaning.Attr.{nfstime}
use Rattle.nfsattr.specs.declared.attr.nfstime3.{nfstime3}
use Rattle.nfs.specs.Meaning.Change.{set_mode_cases, set_uid_cases, set_gid_cases, set_size_cases, set_mode, set_uid, set_gid, set_size}
use Rattle.nfs.specs.Meaning.Set.{SetTime, dont_change, server_time, client_time, set_time, Times, timed, atime_cases, mtime_cases, set-atime, set-mtime, sattr}
use Rattle.nfs.specs.declared.set.sattr3.{sattr3}
use Rattle.door.specs.declared.sattr3.Step.{Step}

-- a value of C was read at p of s, up to n. b: it is in published form, and so, by q, is what was walked over before
module _ {X : Type 0} (C : Codec X) (s : List ℕ) (p : ℕ) (q : Bool) where
  pub record Walked (n : ℕ) (b : Bool) : Type 0 where
    pub value : X
    pub plain : Bool
    pub reads : C.kind.read s p ≡ took value n plain
    pub mark : b ≡ (q && plain)

  abbrev pub WalksBy : std.Option Step → Type 0
  WalksBy None = Unit {0}
  WalksBy (Some t) = Walked t.next t.plain

  -- or nothing is said
  pub record Walks (r : std.Option Step) : Type 0 where
    pub by : WalksBy r

-- a flag that the code tests by `!`
pub unset : (v : Bool) → not v ≡ true → v ≡ false
unset false e = refl
unset true e = let y : ◌≡◌ {A = ℕ} 0 1 = cc in absurd (omega arith)

pub is-set : (v : Bool) → not v ≡ false → v ≡ true
is-set true e = refl
is-set false e = let y : ◌≡◌ {A = ℕ} 0 1 = cc in absurd (omega arith)

-- a flag, and what it sets
module _ (C : Codec ℕ) (s : List ℕ) (p : ℕ) (q : Bool) (r : Result (Took Bool) Refusal) (t : Took Bool) (e : view r ≡ flag.kind.read s p) (f : r ≡ Ok t) where
  pub walk_none : not t.value ≡ true → Walks (option C) s p q (Some (record { next = t.next; plain = q && t.plain }))
  walk_none g =
      let h : flag.kind.read s p ≡ took false t.next t.plain = rw (unset t.value g) at (on e f) in
      record { by = record { value = none; plain = t.plain; reads = rw (h, and-true); mark = refl } }

  pub walk-some : not t.value ≡ false → (r' : Result (Took ℕ) Refusal) (x : Took ℕ) → view r' ≡ C.kind.read s t.next → r' ≡ Ok x
      → Walks (option C) s p q (Some (record { next = x.next; plain = q && (t.plain && x.plain) }))
  walk-some g r' x e' f' =
      let h : flag.kind.read s p ≡ took true t.next t.plain = rw (is-set t.value g) at (on e f) in
      record { by = record { value = some x.value; plain = t.plain && x.plain; reads = rw (h, on e' f'); mark = refl } }

-- a tag, and the time that it sets
module _ (s : List ℕ) (p : ℕ) (q : Bool) (r : Result (Took ℕ) Refusal) (t : Took ℕ) (e : view r ≡ word.kind.read s p) (f : r ≡ Ok t) where
  pub walk-untimed : t.value < 2 → Walks set_time s p q (Some (record { next = t.next; plain = q }))
  unfolding set_time
  walk-untimed h = by t.value (word-on s p e f) h
    where
      by : (v : ℕ) → word.kind.read s p ≡ took v t.next true → v < 2 → Walks set_time s p q (Some (record { next = t.next; plain = q }))
      by zero e h = record { by = record { value = dont_change; plain = true; reads = rw e; mark = sym (and-true q) } }
      by (suc zero) e h = record { by = record { value = server_time; plain = true; reads = rw e; mark = sym (and-true q) } }
      by (suc (suc v)) e h = absurd (omega arith)

  pub walk-timed : t.value ≡ 2 → (r' : Result (Took nfstime3) Refusal) (x : Took nfstime3) → view r' ≡ nfstime.kind.read s t.next → r' ≡ Ok x
      → Walks set_time s p q (Some (record { next = x.next; plain = q && x.plain }))
  unfolding set_time
  walk-timed g r' x e' f' =
      record { by = record { value = client_time x.value; plain = x.plain; reads = rw (word-on s p e f, g, on e' f'); mark = refl } }

-- one after another
pub walk-two : {X Y : Type 0} (A : Codec X) (B : Codec Y) (s : List ℕ) (p : ℕ) (q : Bool) {t : Step} (r : std.Option Step) → Walks A s p q (Some t)
    → Walks B s t.next t.plain r → Walks (A ⨾ B) s p q r
walk-two A B s p q None d f = record { by = tt }
walk-two A B s p q (Some u) d f =
    let x = d.by in
    let y = f.by in
    record {
      by = record {
        value = (x.value, y.value);
        plain = x.plain && y.plain;
        reads = rw (x.reads, y.reads);
        mark = y.mark ∙ ap (λ z. z && y.plain) x.mark ∙ and_assoc q x.plain y.plain;
      };
    }

-- the six fields of a sattr3, before they have its names
abbrev pub from_atime : Codec (SetTime × SetTime)
from_atime = set_time ⨾ set_time

abbrev pub from_size : Codec (Option ℕ × (SetTime × SetTime))
from_size = option hyper ⨾ from_atime

abbrev pub from_gid : Codec (Option ℕ × (Option ℕ × (SetTime × SetTime)))
from_gid = option word ⨾ from_size

abbrev pub from_uid : Codec (Option ℕ × (Option ℕ × (Option ℕ × (SetTime × SetTime))))
from_uid = option word ⨾ from_gid

abbrev pub Six : Type 0
Six = Option ℕ × (Option ℕ × (Option ℕ × (Option ℕ × (SetTime × SetTime))))

abbrev pub six_fields : Codec Six
six_fields = option word ⨾ from_uid

-- the same bytes under another name
pub record Named {M N : Type 0} (A : Codec M) (B : Codec N) (f : M → N) : Type 0 where
  pub reads : (s : List ℕ) (p : ℕ) → B.kind.read s p ≡ map_answer f (A.kind.read s p)
  pub writes : (x : M) → B.kind.write (f x) ≡ A.kind.write x

named-mapped : {M N : Type 0} (A : Codec M) (f : M → N) (g : N → M) (gf : (x : M) → g (f x) ≡ x) (fg : (y : N) → f (g y) ≡ y)
    → Named A (mapped A f g gf fg) f
named-mapped {M} {N} A f g gf fg = record { reads = reads; writes = λ x. ap A.kind.write (gf x) }
  where
    by : (s : List ℕ) (p : ℕ) (a : Answer M) → A.kind.read s p ≡ a → (mapped A f g gf fg).kind.read s p ≡ map_answer f a
    by s p (took x n b) e = rw e
    by s p (refused r) e = rw e

    reads : (s : List ℕ) (p : ℕ) → (mapped A f g gf fg).kind.read s p ≡ map_answer f (A.kind.read s p)
    reads s p = by s p (A.kind.read s p) refl

named-two : {M M' N N' : Type 0} {A : Codec M} {A' : Codec M'} {B : Codec N} {B' : Codec N'} {f : M → M'} {g : N → N'} → Named A A' f → Named B B' g
    → Named (A ⨾ B) (A' ⨾ B') (λ x. (f x.0, g x.1))
named-two {M} {M'} {N} {N'} {A} {A'} {B} {B'} {f} {g} d h =
    record { reads = reads; writes = λ x. ap₂ (λ u v. u ++ v) (d.writes x.0) (h.writes x.1) }
  where
    behind : (a : M) (b : Bool) (y : Answer N) → second A'.kind (λ a. B'.kind) (f a) b (map_answer g y) ≡ map_answer (λ x. (f x.0, g x.1)) (second A.kind (λ a. B.kind) a b y)
    behind a b (took c n b') = refl
    behind a b (refused r) = refl

    by : (s : List ℕ) (y : Answer M) → first A'.kind (λ a. B'.kind) s (map_answer f y) ≡ map_answer (λ x. (f x.0, g x.1)) (first A.kind (λ a. B.kind) s y)
    by s (took a n b) = ap (second A'.kind (λ a. B'.kind) (f a) b) (h.reads s n) ∙ behind a b (B.kind.read s n)
    by s (refused r) = refl

    reads : (s : List ℕ) (p : ℕ) → (A' ⨾ B').kind.read s p ≡ map_answer (λ x. (f x.0, g x.1)) ((A ⨾ B).kind.read s p)
    reads s p = ap (first A'.kind (λ a. B'.kind) s) (d.reads s p) ∙ by s (A.kind.read s p)

named-then : {L M N : Type 0} {A : Codec L} {B : Codec M} {C : Codec N} {f : L → M} {g : M → N} → Named A B f → Named B C g → Named A C (λ x. g (f x))
named-then {L} {A = A} {f = f} {g} d h = record { reads = λ s p. h.reads s p ∙ ap (map_answer g) (d.reads s p) ∙ twice (A.kind.read s p); writes = λ x. h.writes (f x) ∙ d.writes x }
  where
    twice : (a : Answer L) → map_answer g (map_answer f a) ≡ map_answer (λ x. g (f x)) a
    twice (took x n b) = refl
    twice (refused r) = refl

-- a sattr3 of six fields
abbrev pub of_six : Six → sattr3
of_six y =
    record {
      mode = set_mode_cases.to y.0;
      uid = set_uid_cases.to y.1.0;
      gid = set_gid_cases.to y.1.1.0;
      size = set_size_cases.to y.1.1.1.0;
      atime = atime_cases.to y.1.1.1.1.0;
      mtime = mtime_cases.to y.1.1.1.1.1;
    }

named-option : {T : Type 0} (C : Codec ℕ) (U : Cases ℕ T) → Named (option C) (maybe C U) U.to
named-option C U = named-mapped (option C) U.to U.from U.from_to U.to_from

named-time : {T : Type 0} (U : Times T) → Named set_time (timed U) U.to
named-time U = named-mapped set_time U.to U.from U.from_to U.to_from

pub six-named : Named six_fields sattr of_six
unfolding sattr set_mode set_uid set_gid set_size set-atime set-mtime
six-named =
    let last = named-two (named-option hyper set_size_cases) (named-two (named-time atime_cases) (named-time mtime_cases)) in
    let all = named-two (named-option word set_mode_cases) (named-two (named-option word set_uid_cases) (named-two (named-option word set_gid_cases) last)) in
    named-then all
    (named-mapped (set_mode ⨾ set_uid ⨾ set_gid ⨾ set_size ⨾ set-atime ⨾ set-mtime) (λ x. record { mode = x.0; uid = x.1.0; gid = x.1.1.0; size = x.1.1.1.0; atime = x.1.1.1.1.0; mtime = x.1.1.1.1.1 })
    (λ m. (m.mode, (m.uid, (m.gid, (m.size, (m.atime, m.mtime)))))) (λ x. refl) (λ m. refl))

-- a sattr3 was read, as a public reader reads it
module _ (s : List ℕ) (p : ℕ) where
  pub record SixWalked (n : ℕ) (b : Bool) : Type 0 where
    pub value : Six
    pub reads : six_fields.kind.read s p ≡ took value n b
    pub answers : Answers (exactly sattr) s p (took (of_six value) n b)

  abbrev pub SixWalksBy : std.Option Step → Type 0
  SixWalksBy None = Unit {0}
  SixWalksBy (Some t) = SixWalked t.next t.plain

  pub record SixWalks (r : std.Option Step) : Type 0 where
    pub by : SixWalksBy r

  -- `given` is what a slice's rule gives
  pub six-walked : (given : (j : ℕ) → Fits w8 (get_or s j 0)) {o : Result (Unit {0}) Refusal} → view_opening p o ≡ opened s p (took tt p true)
      → {u : Unit {0}} → o ≡ Ok u → (r : std.Option Step) → Walks six_fields s p true r → SixWalks r
  six-walked given e g None d = record { by = tt }
  six-walked given e g (Some t) d =
      let x = d.by in
      let k : six_fields.kind.read s p ≡ took x.value t.next t.plain = x.reads ∙ ap (took x.value t.next) (sym x.mark) in
      record {
        by = record {
          value = x.value;
          reads = k;
          answers = answers-on (exactly sattr) s p given e g (sym (six-named.reads s p ∙ ap (map_answer of_six) k));
        };
      }
