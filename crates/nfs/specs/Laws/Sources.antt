-- A diropargs3 from two sources: how it is laid, how long it is, and what its writer leaves.
-- Assumes nothing.
use Rattle.std.specs.Prelude.{◌≡◌, refl, Bool, true, false, ◌&&◌, List, ◌++◌, ℕ, ◌+◌, ◌-◌, ◌≤◌, leb, length, drop, get_or, Result, Ok, Err, Some, None}
use Rattle.std.proofs.Common.{sym, ap, subst, ◌∙◌, arith, length-append, Fits}
use Rattle.std.specs.Int.{w8}
use borrow.Rule.Slice.PartMut.{mid_of, put_mid}
use Rattle.xdr.specs.Meaning.Bytes.{Bytes}
use Rattle.xdr.specs.Meaning.Answer.{most, done, unwritten}
use Rattle.xdr.specs.Meaning.Formats.{bytes, piece_held}
use Rattle.xdr.specs.Meaning.Pieces.{is_inside, size_up_to}
use Rattle.xdr.specs.Meaning.Order.{placing}
use Rattle.xdr.specs.Meaning.Public.{output, laid_of}
use Rattle.xdr.specs.Meaning.Sources.{longer}
use Rattle.xdr.specs.Meaning.Views.{view_wrote}
use Rattle.xdr.specs.Laws.LayPieces.{yes}
use Rattle.xdr.specs.Laws.Marks.{and_left, and_right}
use Rattle.xdr.specs.Laws.Lists.{known_bytes}
use Rattle.xdr.specs.Laws.Write.{Put, Ready, put_same, put-laid-of, lent_of}
use Rattle.xdr.specs.Laws.Writers.{bytes-sized}
use Rattle.xdr.specs.Laws.Placing.{placing-done}
use Rattle.xdr.specs.Laws.Putting.{placed}
use Rattle.xdr.specs.Laws.Sources.{first_short, second_short, placing-two, from-off, from_on}
use Rattle.nfs.specs.Meaning.Dir.{nfs_fh, diropargs}
use Rattle.nfs.specs.Meaning.Sources.{diropargs_from, WritesDiropargsFrom, FitsDiropargsFrom}
use Rattle.nfs.specs.Laws.Dir.{nfs_fh_size, nfs-fh-sized, diropargs_size}
use Rattle.nfs.specs.declared.dir.diropargs3.{diropargs3}
use Rattle.xdr.specs.declared.refusal.Refusal.{Refusal}

-- each source is not too long, and its piece lies inside it
pub record DirReady (s t : List ℕ) (x : diropargs3) : Type 0 where
  pub dir : Ready nfs_fh s x.dir
  pub name : Ready bytes t x.name

-- what is written, part by part, and how long that is
dir-parts : (s t : List ℕ) (x : diropargs3) → output nfs_fh s x.dir ++ output bytes t x.name ≡ diropargs.codec.kind.write (diropargs_from s t x)
unfolding diropargs
dir-parts s t x = refl

dir-long : (s t : List ℕ) (x : diropargs3) → DirReady s t x → length (diropargs.codec.kind.write (diropargs_from s t x)) ≡ diropargs_size x
dir-long s t x r =
    ap length (sym (dir-parts s t x)) ∙ length-append (output nfs_fh s x.dir) (output bytes t x.name)
    ∙ omega (arith, nfs-fh-sized s x.dir r.dir, bytes-sized t x.name r.name)

-- from what the writer tests
dir-ready : (s t : List ℕ) → longer (length s) (length t) ≤ most → (x : diropargs3) → (nfs_fh.held.inside s x.dir && is_inside t x.name) ≡ true → DirReady s t x
unfolding piece_held
dir-ready s t k x i =
    record {
      dir = record { short = first_short (length s) (length t) most k; inside = and_left (nfs_fh.held.inside s x.dir) (is_inside t x.name) i };
      name = record { short = second_short (length s) (length t) most k; inside = and_right (nfs_fh.held.inside s x.dir) (is_inside t x.name) i };
    }

-- laid one behind the other
pub dir-from-put : (xs ys zs s t : List ℕ) (n : ℕ) (x : diropargs3) → DirReady s t x → diropargs_size x ≤ length xs → n ≡ nfs_fh_size x.dir
    → ys ≡ laid_of nfs_fh s x.dir xs → zs ≡ laid_of bytes t x.name (mid_of n (length ys - n) ys)
    → Put xs (put_mid n (length ys - n) ys zs) (diropargs_size x) (diropargs.codec.kind.write (diropargs_from s t x))
dir-from-put xs ys zs s t n x r h e a b =
    let l : length (output nfs_fh s x.dir) ≡ n = nfs-fh-sized s x.dir r.dir ∙ sym e in
    let f₁ = put-laid-of nfs_fh s x.dir r.dir l (omega arith) a in
    let f₂ = lent_of bytes t x.name r.name f₁ (omega arith) (bytes-sized t x.name r.name) b in
    let g = put_same (dir-parts s t x) f₂ in
    let q : n + size_up_to x.name.count ≡ diropargs_size x = ap (λ k. k + size_up_to x.name.count) e in
    record { is = g.is ∙ ap (λ k. diropargs.codec.kind.write (diropargs_from s t x) ++ drop k xs) q; long = g.long ∙ q }

-- what the writer leaves, by what the code found
module _ (s t : List ℕ) (at : ℕ) (o : List ℕ) (w : Result ℕ Refusal) (lng k : ℕ) (i j h : Bool) (x : diropargs3) (e : view_wrote w ≡ placing lng i k (length o) at)
    (f : lng ≡ longer (length s) (length t)) (g : i ≡ (j && h)) (u : j ≡ nfs_fh.held.inside s x.dir) (v : h ≡ is_inside t x.name)
    (l : k ≡ diropargs_size x) where
  said : view_wrote w ≡ placing (longer (length s) (length t)) (nfs_fh.held.inside s x.dir && is_inside t x.name) (diropargs_size x) (length o) at
  said =
      placing-two (length s) (length t) (nfs_fh.held.inside s x.dir) (is_inside t x.name) (diropargs_size x) (length o) at lng k i j h e f g u v l

  sized : longer (length s) (length t) ≤ most → (nfs_fh.held.inside s x.dir && is_inside t x.name) ≡ true
      → length (diropargs.codec.kind.write (diropargs_from s t x)) ≡ diropargs_size x
  sized a b = dir-long s t x (dir-ready s t a x b)

  pub dir-from-off : (q : Refusal) → w ≡ Err q → WritesDiropargsFrom s t x at o (unwritten q) o
  dir-from-off q r =
      from-off (diropargs_from s t x) (longer (length s) (length t)) (nfs_fh.held.inside s x.dir && is_inside t x.name) (diropargs_size x) at o w said sized q r

  pub dir-from-ready : (n : ℕ) → w ≡ Ok n → DirReady s t x
  dir-from-ready n r =
      let d = placed (longer (length s) (length t)) (nfs_fh.held.inside s x.dir && is_inside t x.name) (diropargs_size x) (length o) at w n said r in
      dir-ready s t d.short x d.inside

  pub dir-from-on : (n : ℕ) (zs : List ℕ) → w ≡ Ok n
      → Put (mid_of at (length o - at) o) zs (diropargs_size x) (diropargs.codec.kind.write (diropargs_from s t x))
      → ((n : ℕ) → Fits w8 (get_or s n 0)) → ((n : ℕ) → Fits w8 (get_or t n 0))
      → (Bytes s → Bytes t → DirReady s t x → diropargs.codec.kind.Good (diropargs_from s t x))
      → WritesDiropargsFrom s t x at o (done n) (put_mid at (length o - at) o zs)
  dir-from-on n zs r p known given good =
      from_on (diropargs_from s t x) (longer (length s) (length t)) (nfs_fh.held.inside s x.dir && is_inside t x.name) (diropargs_size x) at o w said sized n zs r p
      (good (known_bytes s known) (known_bytes t given) (dir-from-ready n r))

-- by tests one after another: no test that fails touches the output
pub dir-fit-off : (s t : List ℕ) (x : diropargs3) (at : ℕ) (o : List ℕ) → FitsDiropargsFrom s t x at o None o
dir-fit-off s t x at o = record { off = λ _. refl; on = λ n e. let z : ◌≡◌ {A = ℕ} 0 1 = cc in absurd (omega arith) }

-- and where all of them hold it is what the writer above leaves
both-short : (a b n : ℕ) → a ≤ n → b ≤ n → longer a b ≤ n
both-short a b n h g = go (leb a b) refl
  where
    go : (t : Bool) → leb a b ≡ t → longer a b ≤ n
    go true e = rw e g
    go false e = rw e h

both_true : {a b : Bool} → a ≡ true → b ≡ true → (a && b) ≡ true
both_true e f = rw (e, f)

module _ (s t : List ℕ) (x : diropargs3) (j h : Bool) (a : length s ≤ most) (b : length t ≤ most) (u : j ≡ nfs_fh.held.inside s x.dir) (p : j ≡ true)
    (v : h ≡ is_inside t x.name) (q : h ≡ true) where
  fit-short : longer (length s) (length t) ≤ most
  fit-short = both-short (length s) (length t) most a b

  fit-inside : (nfs_fh.held.inside s x.dir && is_inside t x.name) ≡ true
  fit-inside = both_true (yes u p) (yes v q)

  pub dir-fit-ready : DirReady s t x
  dir-fit-ready = dir-ready s t fit-short x fit-inside

  pub dir-fit-on : (at : ℕ) (o : List ℕ) (k : ℕ) (zs : List ℕ) → k ≡ diropargs_size x → k ≤ most → at ≤ length o → k ≤ length o - at
      → Put (mid_of at (length o - at) o) zs (diropargs_size x) (diropargs.codec.kind.write (diropargs_from s t x))
      → ((n : ℕ) → Fits w8 (get_or s n 0)) → ((n : ℕ) → Fits w8 (get_or t n 0))
      → (Bytes s → Bytes t → DirReady s t x → diropargs.codec.kind.Good (diropargs_from s t x))
      → FitsDiropargsFrom s t x at o (Some (at + k)) (put_mid at (length o - at) o zs)
  dir-fit-on at o k zs l m c r put known given good =
      let e = placing-done (longer (length s) (length t)) _ k (length o) at c fit-short fit-inside m r in
      let d = dir-from-on s t at o (Ok (at + k)) _ k _ _ _ x e refl refl refl refl l (at + k) zs refl put known given good in
      record { off = λ e. cc; on = λ n e. subst (λ z. WritesDiropargsFrom s t x at o (done z) (put_mid at (length o - at) o zs)) (cc e) d }
