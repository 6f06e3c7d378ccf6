-- Demands 2 and 3 of the exported functions: what was written reads back as the same message, plain and by the same bytes; and equal bytes
-- are written exactly of equal messages.
-- Assumes nothing.
use Rattle.std.specs.Prelude.{◌≡◌, refl, ◌↔◌, Bool, true, cond, ◌&&◌, List, [], ◌∷◌, ℕ, zero, suc, ◌≤◌, length}
use Rattle.std.proofs.Common.{sym, ap, ◌∙◌, arith}
use Rattle.std.proofs.Math.Option.{Option, none, some}
use Rattle.std.proofs.lemmas.List.Edits.{sets}
use Rattle.xdr.specs.Meaning.Bytes.{Bytes, part}
use Rattle.xdr.specs.Meaning.Refusal.{number_of}
use Rattle.xdr.specs.Meaning.Answer.{Answer, took, refused, opened, most, Written, done, unwritten}
use Rattle.xdr.specs.Meaning.Format.{Format, Branch}
use Rattle.xdr.specs.Meaning.Public.{Answers, Took, writing, leaving, Writes, Back}
use Rattle.xdr.specs.Meaning.Pieces.{is_inside, are_inside}
use Rattle.xdr.specs.Meaning.Sources.{longer, WritesFrom, Stands}
use Rattle.xdr.specs.Laws.Public.{kept}
use Rattle.xdr.specs.Laws.Sources.{from_back}
use Rattle.xdr.specs.Laws.Write.{wrote-back}
use Rattle.xdr.specs.declared.refusal.Refusal.{Refusal}
use Rattle.xdr.specs.declared.refusal.Refusal.TheVariants.{Ended, Undeclared, TooLong, Outside, NoRoom, Unfit, Overrun, NotCall, PastEnd, LongPath}
use Rattle.rpc.specs.Meaning.Auth.{opaque-auth, auth-unix}
use Rattle.rpc.specs.Meaning.Crate.{rpc-msg}
use Rattle.rpc.specs.Meaning.Sources.{unix_from, message_from}
use Rattle.rpc.specs.declared.auth.auth_unix.{auth_unix}
use Rattle.rpc.specs.declared.message.call_body.{call_body}
use Rattle.nfs.specs.Meaning.Dir.{nfs_fh, diropargs}
use Rattle.nfs.specs.Meaning.Sources.{diropargs_from}
use Rattle.nfs.specs.declared.dir.diropargs3.{diropargs3}
use Rattle.door.specs.Meaning.Copy.{Copy, unknown, unread, unmade, made, said_of, copy_said, copy_left, Copies}
use Rattle.door.specs.Meaning.Kinds.{kinds, CopiesOf}
use Rattle.door.specs.Meaning.Exports.{code_of, figures, Told, wrote_code}
use Rattle.door.specs.Meaning.Given.{GivenTold, WriteCalled, diropargs3_given, WriteDiropargs3Called, call_given, WriteCallCalled, unix_given, WriteUnixCalled}

-- a copy that was made is a reading and a writing
pub record Made {M S : Type 0} (F : Format M S) (s : List ℕ) (at start : ℕ) (o o' : List ℕ) (n : ℕ) (b : Bool) (e : ℕ) : Type 0 where
  pub value : S
  pub answers : Answers F s at (took value n b)
  pub writes : Writes F s value start o (done e) o'

module _ {M S : Type 0} (F : Format M S) (s : List ℕ) (at start : ℕ) (o o' : List ℕ) (n : ℕ) (b : Bool) (l : List Bool) (e : ℕ) (hb : Bytes s) where
  by_said : (x : S) (k : ℕ) (d : Bool) → opened s at (F.held.read s at) ≡ took x k d → (w : Written) → writing F s x start (length o) ≡ w
      → made n b l e ≡ said_of k d (F.held.marks s x) w → o' ≡ leaving F s x w start o → Made F s at start o o' n b e
  by_said x k d t (unwritten r) u g v = let z : ◌≡◌ {A = ℕ} 0 1 = cc g in absurd (omega arith)
  by_said x k d t (done f) u g v =
      let j : opened s at (F.held.read s at) ≡ took x n b = cc (t, g) in
      let i : f ≡ e = cc g in
      let y : Took F = record { source = s; place = at; value = x; next = n; plain = b; answers = record { is = sym j; bytes = hb } } in
      record {
        value = x;
        answers = y.answers;
        writes = record { says = sym (u ∙ ap done i); leaves = v ∙ ap (λ (m : ℕ). leaving F s x (done m) start o) i; good = (kept F).in_range y };
      }

  by_read : (a : Answer S) → opened s at (F.held.read s at) ≡ a → made n b l e ≡ copy_said F s start o a → o' ≡ copy_left F s start o a
      → Made F s at start o o' n b e
  by_read (refused r) t g v = let z : ◌≡◌ {A = ℕ} 0 1 = cc g in absurd (omega arith)
  by_read (took x k d) t g v = by_said x k d t (writing F s x start (length o)) refl g v

  pub made_of : Copies F s at start o (made n b l e) o' → Made F s at start o o' n b e
  made_of c = by_read (opened s at (F.held.read s at)) refl c.says c.leaves

module _ {M S : Type 0} (F : Format M S) {s : List ℕ} {at start : ℕ} {o o' : List ℕ} {n : ℕ} {b : Bool} {e : ℕ} (m : Made F s at start o o' n b e) where
  -- the message that was copied
  abbrev pub copied : M
  copied = F.held.mean s m.value

  pub taken : Took F
  taken = record { source = s; place = at; value = m.value; next = n; plain = b; answers = m.answers }

  -- the bytes that were written are its own
  pub wrote-bytes : part o' start e ≡ F.codec.kind.write copied
  wrote-bytes = (wrote-back F s m.value start o m.writes).bytes

-- a second copy, of what the first wrote: plain, of exactly those bytes, the same message, and the same bytes again
pub again : {M S : Type 0} (F : Format M S) {s : List ℕ} {at start : ℕ} {o o' : List ℕ} {n : ℕ} {b : Bool} {e : ℕ} (m : Made F s at start o o' n b e)
    → length o' ≤ most → {start' : ℕ} {q q' : List ℕ} {n' : ℕ} {b' : Bool} {e' : ℕ} (m' : Made F o' start start' q q' n' b' e')
    → (n' ≡ e) × (b' ≡ true) × (copied F m' ≡ copied F m) × (part q' start' e' ≡ part o' start e)
again F {s} {at} {start} {o} {o'} m h m' =
    let r = (wrote-back F s m.value start o m.writes).answers h m'.answers in
    let v : m'.value ≡ r.0 = cc r.1 in
    let same : copied F m' ≡ copied F m = ap (F.held.mean o') v ∙ r.2 in (
      cc r.1,
      cc r.1,
      same,
      wrote-bytes F m' ∙ ap F.codec.kind.write same ∙ sym (wrote-bytes F m),
    )

-- two copies: equal messages exactly if equal bytes
pub equal-iff : {M S : Type 0} (F : Format M S) {s s' : List ℕ} {at at' start start' : ℕ} {o o' q q' : List ℕ} {n n' : ℕ} {b b' : Bool} {e e' : ℕ}
    (m : Made F s at start o o' n b e) (m' : Made F s' at' start' q q' n' b' e') → (copied F m ≡ copied F m') ↔ (part o' start e ≡ part q' start' e')
unfolding taken
equal-iff F m m' =
    let f = (kept F).same_iff (taken F m) (taken F m') in (
      (λ g. wrote-bytes F m ∙ f.0 g ∙ sym (wrote-bytes F m')),
      (λ g. f.1 (sym (wrote-bytes F m) ∙ g ∙ wrote-bytes F m')),
    )

-- `yugerzat_rewrite` answered 0: its kind has a format, and the copy was made with the figures that it gave
numbers-none : (r : Refusal) → 0 ≡ number_of r → ⊥
numbers-none (Ended p w) e = omega arith
numbers-none (Undeclared p) e = omega arith
numbers-none TooLong e = omega arith
numbers-none Outside e = omega arith
numbers-none (NoRoom n) e = omega arith
numbers-none Unfit e = omega arith
numbers-none Overrun e = omega arith
numbers-none NotCall e = omega arith
numbers-none PastEnd e = omega arith
numbers-none (LongPath q) e = omega arith

pub record ReadMade (kind : ℕ) (s : List ℕ) (at : ℕ) (o i o' i' : List ℕ) : Type 1 where
  pub branch : Branch
  pub next : ℕ
  pub plain : Bool
  pub end : ℕ
  pub figures : i' ≡ sets i 0 (next ∷ cond plain 1 0 ∷ end ∷ [])
  pub made : Made branch.format s at 0 o o' next plain end

of-kind : (l : List Branch) (k : ℕ) (s : List ℕ) (at : ℕ) (o i o' i' : List ℕ) → Bytes s → (n : ℕ) (b : Bool) (m : List Bool) (e : ℕ) → CopiesOf l k s at 0 o (made n b m e) o'
    → i' ≡ sets i 0 (n ∷ cond b 1 0 ∷ e ∷ []) → ReadMade k s at o i o' i'
of-kind [] k s at o i o' i' h n b m e c f = let z : ◌≡◌ {A = ℕ} 0 1 = cc c.0 in absurd (omega arith)
of-kind (x ∷ l) zero s at o i o' i' h n b m e c f =
    record { branch = x; next = n; plain = b; end = e; figures = f; made = made_of x.format s at 0 o o' n b m e h c }
of-kind (x ∷ l) (suc k) s at o i o' i' h n b m e c f =
    let r = of-kind l k s at o i o' i' h n b m e c f in
    record { branch = r.branch; next = r.next; plain = r.plain; end = r.end; figures = r.figures; made = r.made }

by_copy : (c : Copy) (kind : ℕ) (s : List ℕ) (at : ℕ) (o i o' i' : List ℕ) → Bytes s → CopiesOf kinds kind s at 0 o c o' → 0 ≡ code_of c → i' ≡ sets i 0 (figures c)
    → ReadMade kind s at o i o' i'
by_copy unknown kind s at o i o' i' h c e f = absurd (omega arith)
by_copy (unread r) kind s at o i o' i' h c e f = absurd (numbers-none r e)
by_copy (unmade r m d v) kind s at o i o' i' h c e f = absurd (numbers-none r e)
by_copy (made n b m k) kind s at o i o' i' h c e f = of-kind kinds kind s at o i o' i' h n b m k c f

pub read_made : (kind : ℕ) (s : List ℕ) (at : ℕ) (o i o' i' : List ℕ) → Bytes s → Told kind s at o i 0 o' i' → ReadMade kind s at o i o' i'
read_made kind s at o i o' i' h t = by_copy t.copy kind s at o i o' i' h t.copies t.number t.list

-- a `yugerzat_write_X` answered 0: what it wrote reads back as the value that the figures are
module _ {S : Type 0} (W : S → Written → List ℕ → Type 0) (B : S → ℕ → List ℕ → Type 0) (back : (x : S) (n : ℕ) (p : List ℕ) → W x (done n) p → B x n p) where
  by_written : (x : S) (w : Written) (p : List ℕ) → W x w p → 0 ≡ wrote_code w → (n : ℕ) × B x n p
  by_written x (done n) p d e = (n, back x n p d)
  by_written x (unwritten r) p d e = absurd (numbers-none r e)

  by-given : (g : Option S) (o i o' i' : List ℕ) → GivenTold W g o i 0 o' i' → (x : S) × (g ≡ some x) × ((n : ℕ) × B x n o')
  by-given none o i o' i' t = let z = t.0 in absurd (omega arith)
  by-given (some x) o i o' i' t = (x, refl, by_written x t.answer o' t.writes t.number)

  given_back : {k : ℕ} {given : List ℕ → Option S} {l o i o' i' : List ℕ} → WriteCalled W k given l o i 0 o' i' → k ≤ length l → 1 ≤ length i
      → (x : S) × (given l ≡ some x) × ((n : ℕ) × B x n o')
  given_back {given = given} {l} {o} {i} {o'} {i'} c h j = by-given (given l) o i o' i' (c.room h j)

-- from one source
pub written_back : {M S : Type 0} (F : Format M S) (s : List ℕ) (start : ℕ) (o : List ℕ) {k : ℕ} {given : List ℕ → Option S} {l i o' i' : List ℕ}
    → WriteCalled (λ x w p. Writes F s x start o w p) k given l o i 0 o' i' → k ≤ length l → 1 ≤ length i
    → (x : S) × (given l ≡ some x) × ((n : ℕ) × Back F s x start n o')
written_back F s start o c h j =
    given_back (λ x w p. Writes F s x start o w p) (λ x n p. Back F s x start n p) (λ x n p d. wrote-back F s x start o d) c h j

-- from two
pub written_from : {M S T : Type 0} (F : Format M S) (m : T → M) (longest : ℕ) (inside : T → Bool) (start : ℕ) (o : List ℕ) {k : ℕ} {given : List ℕ → Option T}
    {l i o' i' : List ℕ} → WriteCalled (λ x w p. WritesFrom F.codec (m x) longest (inside x) start o w p) k given l o i 0 o' i' → k ≤ length l → 1 ≤ length i
    → (x : T) × (given l ≡ some x) × ((n : ℕ) × Stands F (m x) start n o')
written_from F m longest inside start o c h j =
    given_back (λ x w p. WritesFrom F.codec (m x) longest (inside x) start o w p) (λ x n p. Stands F (m x) start n p)
    (λ x n p d. from_back F (m x) longest (inside x) start o n p d) c h j

module _ (s t l o : List ℕ) (start : ℕ) (i o' i' : List ℕ) where
  pub call_back : WriteCallCalled s t l o start i 0 o' i' → 11 ≤ length l → 1 ≤ length i
      → (x : ℕ × call_body) × (call_given l ≡ some x) × ((n : ℕ) × Stands rpc-msg (message_from s t x.0 x.1) start n o')
  call_back c h j =
      written_from rpc-msg (λ x. message_from s t x.0 x.1) (longer (length s) (length t))
      (λ x. opaque-auth.held.inside s x.1.cred && opaque-auth.held.inside t x.1.verf) start o c h j

  pub unix-back : WriteUnixCalled s t l o start i 0 o' i' → 7 ≤ length l → 1 ≤ length i
      → (x : auth_unix) × (unix_given l ≡ some x) × ((n : ℕ) × Stands auth-unix (unix_from s t x) start n o')
  unix-back c h j =
      written_from auth-unix (unix_from s t) (longer (length s) (length t)) (λ x. is_inside s x.machinename && are_inside t x.gids) start o c h j

  pub diropargs-back : WriteDiropargs3Called s t l o start i 0 o' i' → 4 ≤ length l → 1 ≤ length i
      → (x : diropargs3) × (diropargs3_given l ≡ some x) × ((n : ℕ) × Stands diropargs (diropargs_from s t x) start n o')
  diropargs-back c h j =
      written_from diropargs (diropargs_from s t) (longer (length s) (length t)) (λ x. nfs_fh.held.inside s x.dir && is_inside t x.name) start o c h j
