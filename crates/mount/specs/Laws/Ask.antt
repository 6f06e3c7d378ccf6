-- Calls to mount and port mapper, by the case that a call is in; and what is promised of the answers.
-- Assumes nothing.
use Rattle.std.proofs.Math.Path.{◌≡◌, refl, sym, ap, subst}
use Rattle.std.proofs.Common.{◌∙◌, inl, inr, length-append, length-drop, drop_at}
use Rattle.std.specs.Prelude.{Bool, cond, ◌&&◌, ◌⊎◌, ℕ, ◌+◌, ◌≤◌, ◌<◌, eqb, leb, Result, Ok, Err}
use Rattle.std.specs.Prelude as std
use Rattle.std.proofs.Math.Bool.{true, false}
use Rattle.std.proofs.Math.Option.{Option, none, some}
use mathlib.Core.List.{List, [], ◌++◌}
use Rattle.std.proofs.Math.Nat.{zero-add}
use native.Mathlib.Omega.{arith}
use Rattle.std.proofs.Math.ListN.{length, drop}
use borrow.Author.Tests.{ne_eqb, eq-eqb, le-leb, lt-leb, leb-true, leb-false}
use Rattle.xdr.specs.Meaning.Bytes.{Bytes}
use Rattle.xdr.specs.Meaning.Answer.{Answer, took, refused, most, opened, Written, done, unwritten}
use Rattle.xdr.specs.Meaning.Items.{number, word, opaque}
use Rattle.xdr.specs.Meaning.Format.{Format, exactly}
use Rattle.xdr.specs.Meaning.Formats.{piece_held}
use Rattle.xdr.specs.Meaning.Order.{placing}
use Rattle.xdr.specs.Meaning.Public.{Answers, output, writing, leaving, Writes, Back}
use Rattle.xdr.specs.Meaning.Refusal.{OfReading}
use Rattle.xdr.specs.Meaning.Views.{view, view_option, view_wrote}
use Rattle.xdr.specs.Laws.Public.{kept, opened_in, opened-took}
use Rattle.xdr.specs.Laws.Write.{wrote-back}
use Rattle.xdr.specs.declared.answer.Took.{Took}
use Rattle.xdr.specs.declared.piece.Piece.{Piece}
use Rattle.xdr.specs.declared.refusal.Refusal.{Refusal}
use Rattle.xdr.specs.declared.refusal.Refusal.TheVariants.{NoRoom, TooLong, PastEnd, NotCall}
use Rattle.rpc.specs.Meaning.Closed.{auth-flavor}
use Rattle.rpc.specs.Meaning.Auth.{opaque-auth}
use Rattle.rpc.specs.Meaning.Reading.{mismatch-info}
use Rattle.rpc.specs.Meaning.Reply.{accept_body_of, accepted_reply_of, rejected_reply_of, reply_body_of}
use Rattle.rpc.specs.Meaning.Message.{rpc_body_of, rpc_msg_of}
use Rattle.rpc.specs.Meaning.Crate.{crate, accept-body, rpc-body, rpc-msg}
use Rattle.rpc.specs.Meaning.UnixIn.{unix_in}
use Rattle.rpc.proofs.UnixKept.{unix-numbered}
use Rattle.rpc.specs.Meaning.Makers.{accepted_with, success, proc_unavail, prog_unavail, prog_mismatch, vers_mismatch_of}
use Rattle.rpc.specs.Laws.Makers.{success-bytes, proc-unavail-bytes, prog-unavail-bytes, prog-mismatch-bytes, vers-mismatch-bytes, accepted-with-inside, vers-mismatch-inside}
use Rattle.rpc.specs.declared.auth.auth_flavor.{auth_flavor}
use Rattle.rpc.specs.declared.auth.auth_flavor.TheVariants.{AUTH_NULL, AUTH_UNIX, AUTH_SHORT, AUTH_DES}
use Rattle.rpc.specs.declared.auth.auth_unix.{auth_unix}
use Rattle.rpc.specs.declared.reply.accept_body.{accept_body}
use Rattle.rpc.specs.declared.reply.accept_body.TheVariants.{SUCCESS, PROG_UNAVAIL, PROG_MISMATCH, PROC_UNAVAIL, GARBAGE_ARGS}
use Rattle.rpc.specs.declared.reply.reply_body.{reply_body}
use Rattle.rpc.specs.declared.message.call_body.{call_body}
use Rattle.rpc.specs.declared.message.rpc_body.{rpc_body}
use Rattle.rpc.specs.declared.message.rpc_msg.{rpc_msg}
use Rattle.rpcwire.specs.Meaning.Choice as choice
use Rattle.rpcwire.specs.Meaning.Choice.{Decision, served, by_program, by_version, by_unix, by_flavor, by_body, by_message, decided, Chooses}
use Rattle.rpcwire.specs.Laws.Choice as chosen
use Rattle.rpcwire.specs.Meaning.Views.{view_choice}
use Rattle.rpcwire.specs.declared.choice.Choice.{Choice}
use Rattle.mount.specs.Meaning.Path.{dirpath}
use Rattle.mount.specs.Meaning.Portmap.{port_mapping}
use Rattle.mount.specs.Meaning.Ask.{refuse, reply, silence, hand_over, mnt, umnt, export, getport, Due, Said, mount_serves, portmap_serves, path_at, mapping_at, taking, in_version, mount_procedure, portmap_procedure, handed_on, value_of, xid_of, after, due, HandedOver, Outcome, outcome, size, replying, carried_out, Asks, Leaves, TurnPromised}
use Rattle.mount.specs.declared.portmap.mapping.{mapping}

-- ---- replies

-- a message that has no pieces, and is not too long
pub record Sendable (m : rpc_msg) : Type 0 where
  pub whole : rpc-msg.held.inside [] m ≡ true
  pub small : size m ≤ most

module _ (x : ℕ) where
  pub success-size : size (success x) ≡ 24
  success-size = ap length (success-bytes [] x)

  pub unavail-size : size (proc_unavail x) ≡ 24
  unavail-size = ap length (proc-unavail-bytes [] x)

  pub mismatch-size : (v : ℕ) → size (prog_mismatch x v) ≡ 32
  mismatch-size v = ap length (prog-mismatch-bytes [] x v)

accepted-small : (x : ℕ) (b : accept_body) → size (accepted_with x b) ≤ most
unfolding word number opaque piece_held auth-flavor opaque-auth mismatch-info accept_body_of accepted_reply_of reply_body_of rpc_body_of rpc_msg_of
accepted-small x SUCCESS = omega arith
accepted-small x PROG_UNAVAIL = omega arith
accepted-small x (PROG_MISMATCH i) = omega arith
accepted-small x PROC_UNAVAIL = omega arith
accepted-small x GARBAGE_ARGS = omega arith

pub accepted-sends : (x : ℕ) (b : accept_body) (m : rpc_msg) → m ≡ accepted_with x b → Sendable m
accepted-sends x b m e = rw e (record { whole = accepted-with-inside [] x b; small = accepted-small x b })

-- what the writer of a message says and leaves
abbrev said_of : Written → Said
said_of (done n) = reply n
said_of (unwritten r) = refuse r

module _ (m : rpc_msg) (h : Sendable m) (o : List ℕ) where
  says : writing rpc-msg [] m 0 (length o) ≡ cond (leb (size m) (length o)) (done (size m)) (unwritten (NoRoom (size m)))
  unfolding writing placing
  says = rw (h.whole, le-leb (size m) most h.small, le-leb 0 (length o) (omega arith), zero-add (size m))

  written-by : (t : Bool) → leb (size m) (length o) ≡ t → {w : Written} {o' : List ℕ} → w ≡ cond t (done (size m)) (unwritten (NoRoom (size m)))
      → o' ≡ leaving rpc-msg [] m w 0 o → outcome (said_of w) o' ≡ replying m o
  unfolding replying
  written-by true e {w} {o'} f g =
      let i : o' ≡ output rpc-msg [] m ++ drop (size m) o = g ∙ ap (λ v. leaving rpc-msg [] m v 0 o) f in rw (f, i, e)
  written-by false e {w} {o'} f g =
      let i : o' ≡ o = g ∙ ap (λ v. leaving rpc-msg [] m v 0 o) f in rw (f, i, e)

  written : {w : Written} {o' : List ℕ} → Writes rpc-msg [] m 0 o w o' → outcome (said_of w) o' ≡ replying m o
  written c = written-by (leb (size m) (length o)) refl (c.says ∙ says) c.leaves

  module _ (w : Result ℕ Refusal) (o' : List ℕ) (c : Writes rpc-msg [] m 0 o (view_wrote w) o') where
    pub reply-done : (n : ℕ) → w ≡ Ok n → outcome (reply n) o' ≡ replying m o
    reply-done n e = ap (λ v. outcome (said_of (view_wrote v)) o') (sym e) ∙ written c

    pub reply-none : (r : Refusal) → w ≡ Err r → outcome (refuse r) o' ≡ replying m o
    reply-none r e = ap (λ v. outcome (said_of (view_wrote v)) o') (sym e) ∙ written c

-- ---- arguments, by the answer of their reader
module _ {M A : Type 0} (F : Format M A) (s : List ℕ) (p : ℕ) (r : Result (Took A) Refusal) (h : Answers F s p (view r)) where
  taken-by : {t : Result (Took A) Refusal} (to : A → ℕ → Said) → r ≡ t → taking to (view t) ≡ taking to (opened s p (F.held.read s p))
  taken-by to e = ap (λ v. taking to (view v)) (sym e) ∙ ap (taking to) h.is

module _ (s : List ℕ) (p : ℕ) (r : Result (Took Piece) Refusal) (h : Answers dirpath s p (view r)) where
  pub path-lost : (q : Refusal) (to : Piece → ℕ → Said) → r ≡ Err q → refuse q ≡ taking to (path_at s p)
  path-lost q to e = taken-by dirpath s p r h to e

  module _ (x : Took Piece) (a : Option auth_unix) (e : r ≡ Ok x) where
    pub mnt-given : mnt a x.value x.next ≡ taking {R = ℕ} (mnt a) (path_at s p)
    mnt-given = taken-by dirpath s p r h (mnt a) e

    pub umnt-given : umnt a x.value x.next ≡ taking {R = ℕ} (umnt a) (path_at s p)
    umnt-given = taken-by dirpath s p r h (umnt a) e

module _ (s : List ℕ) (p : ℕ) (r : Result (Took mapping) Refusal) (h : Answers (exactly port_mapping) s p (view r)) where
  pub mapping-lost : (q : Refusal) (to : mapping → ℕ → Said) → r ≡ Err q → refuse q ≡ taking to (mapping_at s p)
  mapping-lost q to e = taken-by (exactly port_mapping) s p r h to e

  pub getport-given : (x : Took mapping) (a : Option auth_unix) → r ≡ Ok x → getport a x.value x.next ≡ taking {R = ℕ} (getport a) (mapping_at s p)
  getport-given x a e = taken-by (exactly port_mapping) s p r h (getport a) e

-- the xid
module _ (s : List ℕ) (r : Result (Took ℕ) Refusal) (h : Answers (exactly word) s 0 (view r)) where
  pub xid-none : (q : Refusal) → r ≡ Err q → 0 ≡ xid_of s
  unfolding xid_of
  xid-none q e = ap (λ v. value_of (view v)) (sym e) ∙ ap value_of h.is

  pub xid-given : (x : Took ℕ) → r ≡ Ok x → x.value ≡ xid_of s
  unfolding xid_of
  xid-given x e = ap (λ v. value_of (view v)) (sym e) ∙ ap value_of h.is

-- ---- a call, by its procedure, its version and its program
-- no output is written where arguments are read
module _ (a : Option auth_unix) (o : List ℕ) where
  mnt-out : (y : Answer Piece) → outcome (taking (mnt a) y) o ≡ carried_out (taking (mnt a) y) o
  mnt-out (took x n b) = refl
  mnt-out (refused r) = refl

  umnt-out : (y : Answer Piece) → outcome (taking (umnt a) y) o ≡ carried_out (taking (umnt a) y) o
  umnt-out (took x n b) = refl
  umnt-out (refused r) = refl

  getport-out : (y : Answer mapping) → outcome (taking (getport a) y) o ≡ carried_out (taking (getport a) y) o
  getport-out (took x n b) = refl
  getport-out (refused r) = refl

module _ (s : List ℕ) (x : ℕ) (a : Option auth_unix) (n : ℕ) (o : List ℕ) (f : ℕ) where
  module _ (r : Outcome) (m : rpc_msg) (g : r ≡ replying m o) where
    pub mount-null : f ≡ 0 → m ≡ success x → r ≡ carried_out (mount_procedure s x a n f) o
    unfolding mount_procedure
    mount-null e h = g ∙ ap (λ v. replying v o) h ∙ sym (rw e)

    pub mount-other : (((Unit {0} × (f ≡ 0 → ⊥)) × (f ≡ 1 → ⊥)) × (f ≡ 3 → ⊥)) × (f ≡ 5 → ⊥) → m ≡ proc_unavail x → r ≡ carried_out (mount_procedure s x a n f) o
    unfolding mount_procedure
    mount-other e h =
        g ∙ ap (λ v. replying v o) h ∙ sym (rw (ne_eqb f 0 e.0.0.0.1, ne_eqb f 1 e.0.0.1, ne_eqb f 3 e.0.1, ne_eqb f 5 e.1))

    pub portmap-null : f ≡ 0 → m ≡ success x → r ≡ carried_out (portmap_procedure s x a n f) o
    unfolding portmap_procedure
    portmap-null e h = g ∙ ap (λ v. replying v o) h ∙ sym (rw e)

    pub portmap-other : (Unit {0} × (f ≡ 0 → ⊥)) × (f ≡ 3 → ⊥) → m ≡ proc_unavail x → r ≡ carried_out (portmap_procedure s x a n f) o
    unfolding portmap_procedure
    portmap-other e h = g ∙ ap (λ v. replying v o) h ∙ sym (rw (ne_eqb f 0 e.0.1, ne_eqb f 3 e.1))

  module _ (c : Said) where
    pub mount-mnt : f ≡ 1 → c ≡ taking (mnt a) (path_at s n) → outcome c o ≡ carried_out (mount_procedure s x a n f) o
    unfolding mount_procedure
    mount-mnt e h = ap (λ d. outcome d o) h ∙ mnt-out a o (path_at s n) ∙ sym (rw e)

    pub mount-umnt : f ≡ 3 → c ≡ taking (umnt a) (path_at s n) → outcome c o ≡ carried_out (mount_procedure s x a n f) o
    unfolding mount_procedure
    mount-umnt e h = ap (λ d. outcome d o) h ∙ umnt-out a o (path_at s n) ∙ sym (rw e)

    pub portmap-getport : f ≡ 3 → c ≡ taking (getport a) (mapping_at s n) → outcome c o ≡ carried_out (portmap_procedure s x a n f) o
    unfolding portmap_procedure
    portmap-getport e h = ap (λ d. outcome d o) h ∙ getport-out a o (mapping_at s n) ∙ sym (rw e)

  pub mount-export : f ≡ 5 → outcome (export a n) o ≡ carried_out (mount_procedure s x a n f) o
  unfolding mount_procedure
  mount-export e = sym (rw e)

module _ (x w v : ℕ) (d : Due) (o : List ℕ) (r : Outcome) where
  pub version-served : v ≡ w → r ≡ carried_out d o → r ≡ carried_out (in_version x w v d) o
  unfolding in_version
  version-served e g = g ∙ sym (rw (eq-eqb v w e))

  pub version-other : (m : rpc_msg) → (v ≡ w → ⊥) → m ≡ prog_mismatch x w → r ≡ replying m o → r ≡ carried_out (in_version x w v d) o
  unfolding in_version
  version-other m e h g = g ∙ ap (λ z. replying z o) h ∙ sym (rw (ne_eqb v w e))

module _ (s : List ℕ) (x : ℕ) (a : Option auth_unix) (n : ℕ) (o : List ℕ) (p v f : ℕ) where
  module _ (r : Outcome) where
    pub to-mount : p ≡ 100005 → r ≡ carried_out (in_version x mount_serves v (mount_procedure s x a n f)) o → r ≡ carried_out (handed_on s x a n p v f) o
    unfolding handed_on
    to-mount e g = g ∙ sym (rw e)

    pub to-portmap : p ≡ 100000 → r ≡ carried_out (in_version x portmap_serves v (portmap_procedure s x a n f)) o → r ≡ carried_out (handed_on s x a n p v f) o
    unfolding handed_on
    to-portmap e g = g ∙ sym (rw e)

  pub to-another : (Unit {0} × (p ≡ 100005 → ⊥)) × (p ≡ 100000 → ⊥) → outcome (hand_over p v f a n) o ≡ carried_out (handed_on s x a n p v f) o
  unfolding handed_on
  to-another e = sym (rw (ne_eqb p 100005 e.0.1, ne_eqb p 100000 e.1))

  -- another version gets 32 bytes, whatever the procedure is
  pub mount-mismatch : (v ≡ mount_serves → ⊥) → handed_on s x a n 100005 v f ≡ reply (prog_mismatch x mount_serves)
  unfolding handed_on in_version
  mount-mismatch h = rw (ne_eqb v mount_serves h)

  pub portmap-mismatch : (v ≡ portmap_serves → ⊥) → handed_on s x a n 100000 v f ≡ reply (prog_mismatch x portmap_serves)
  unfolding handed_on in_version
  portmap-mismatch h = rw (ne_eqb v portmap_serves h)

pub said-held : {r t : Outcome} → r ≡ t → (r.said ≡ t.said) × (r.held ≡ t.held)
said-held e = (ap (λ (r : Outcome). r.said) e, ap (λ (r : Outcome). r.held) e)

-- ---- what the choice of program decides

-- a refusal that is not 5
abbrev NotFive : Refusal → Type 0
NotFive r = (k : ℕ) → r ≡ NoRoom k → ⊥

of-reading : {r : Refusal} → OfReading r → NotFive r
of-reading h k e = subst OfReading e h

of_reader : {r : Refusal} → (r ≡ TooLong) ⊎ ((r ≡ PastEnd) ⊎ OfReading r) → NotFive r
of_reader (inl e) k f = let z : ◌≡◌ {A = ℕ} 0 1 = cc in omega arith
of_reader (inr (inl e)) k f = let z : ◌≡◌ {A = ℕ} 0 1 = cc in omega arith
of_reader (inr (inr h)) k f = of-reading h k f

not_call : NotFive NotCall
not_call k e = let z : ◌≡◌ {A = ℕ} 0 1 = cc in omega arith

-- a reply of n bytes: it has no pieces and is in range
pub record Fair (n : ℕ) (m : rpc_msg) : Type 0 where
  pub long : size m ≡ n
  pub whole : rpc-msg.held.inside [] m ≡ true
  pub good : rpc-msg.codec.kind.Good (rpc-msg.held.mean [] m)

zero-fits : 0 < 4294967296
zero-fits = omega arith

module _ (x : ℕ) (h : word.kind.Good x) where
  -- of a call that was accepted, if its outcome is in range
  accepted-good : (b : accept_body) → accept-body.kind.Good b → rpc-msg.codec.kind.Good (rpc-msg.held.mean [] (accepted_with x b))
  unfolding word number opaque piece_held auth-flavor opaque-auth accepted_reply_of reply_body_of rpc_body_of rpc_msg_of
  accepted-good b g = (h, (omega arith, (zero-fits, ((zero-fits, (zero-fits, tt)), g))))

  accepted-fair : (n : ℕ) (b : accept_body) → size (accepted_with x b) ≡ n → accept-body.kind.Good b → Fair n (accepted_with x b)
  accepted-fair n b e g = record { long = e; whole = accepted-with-inside [] x b; good = accepted-good b g }

  success-fair : Fair 24 (success x)
  unfolding word number accept_body_of
  success-fair = accepted-fair 24 SUCCESS (success-size x) (zero-fits, tt)

  proc-fair : Fair 24 (proc_unavail x)
  unfolding word number accept_body_of
  proc-fair = accepted-fair 24 PROC_UNAVAIL (unavail-size x) (omega arith, tt)

  prog-fair : Fair 24 (prog_unavail x)
  unfolding word number accept_body_of
  prog-fair = accepted-fair 24 PROG_UNAVAIL (ap length (prog-unavail-bytes [] x)) (omega arith, tt)

  mismatch-fair : (v : ℕ) → word.kind.Good v → Fair 32 (prog_mismatch x v)
  unfolding word number mismatch-info accept_body_of
  mismatch-fair v g = accepted-fair 32 (PROG_MISMATCH (record { low = v; high = v })) (mismatch-size x v) (omega arith, (g, g))

  vers-fair : (v : ℕ) → word.kind.Good v → Fair 24 (vers_mismatch_of v x)
  unfolding word number mismatch-info rejected_reply_of reply_body_of rpc_body_of rpc_msg_of
  vers-fair v g =
      record { long = ap length (vers-mismatch-bytes [] x v); whole = vers-mismatch-inside [] x v; good = (h, (omega arith, (omega arith, (zero-fits, (g, g))))) }

-- the xid of a message that was taken is its first word, and in range
module _ (s : List ℕ) (m : rpc_msg) (n : ℕ) (b : Bool) (e : opened s 0 (rpc-msg.held.read s 0) ≡ took m n b) where
  by-body : (x k : ℕ) (c : Bool) → word.kind.read s 0 ≡ took x k c → (y : Answer rpc_body) → rpc-body.held.read s k ≡ y
      → rpc-msg.held.read s 0 ≡ took m n b → x ≡ m.xid
  unfolding rpc_msg_of
  by-body x k c g (took z j d) i f =
      let u : took (record { xid = x; body = z }) j (c && d) ≡ took m n b = simp (g, i) at f in
      let v : ◌≡◌ {A = rpc_msg} (record { xid = x; body = z }) m = cc in
      ap (λ (w : rpc_msg). w.xid) v
  by-body x k c g (refused r) i f =
      let u : ◌≡◌ {A = Answer rpc_msg} (refused r) (took m n b) = simp (g, i) at f in
      let z : ◌≡◌ {A = ℕ} 0 1 = cc in absurd (omega arith)

  by_word : (y : Answer ℕ) → word.kind.read s 0 ≡ y → rpc-msg.held.read s 0 ≡ took m n b → value_of y ≡ m.xid
  unfolding rpc_msg_of
  by_word (took x k c) g f = by-body x k c g (rpc-body.held.read s k) refl f
  by_word (refused r) g f =
      let u : ◌≡◌ {A = Answer rpc_msg} (refused r) (took m n b) = simp g at f in
      let z : ◌≡◌ {A = ℕ} 0 1 = cc in absurd (omega arith)

  taken : HandedOver s n
  unfolding xid_of
  taken =
      let o = opened-took s 0 (rpc-msg.held.read s 0) (sym e) in
      record {
        message = m;
        plain = b;
        reads = e;
        xid = ap value_of (opened_in s 0 (word.kind.read s 0) o.1 o.2) ∙ by_word (word.kind.read s 0) refl o.0;
      }

  taken-good : Bytes s → word.kind.Good m.xid
  unfolding rpc_msg_of
  taken-good h =
      ((kept rpc-msg).in_range (record { source = s; place = 0; value = m; next = n; plain = b; answers = record { is = sym e; bytes = h } })).0

-- of what is decided
abbrev Known : List ℕ → Decision → Type 0
Known s (choice.refuse r) = NotFive r
Known s (choice.reply m) = Fair 24 m
Known s choice.silence = Unit {0}
Known s (choice.hand_over p v f a n) = HandedOver s n

either : {D : Type 0} (P : D → Type 0) (t : Bool) (d e : D) → P d → P e → P (cond t d e)
either P true d e f g = f
either P false d e f g = g

module _ (s : List ℕ) (seen : Bool) (h : Bytes s) where
  module _ (x : ℕ) (k : word.kind.Good x) (n : ℕ) (t : HandedOver s n) where
    known-version : (c : call_body) (a : Option auth_unix) → Known s (by_version seen 0 x c a n)
    unfolding word number by_version by_program
    known-version c a =
        either (Known s) (eqb c.rpcvers 2) _ _
        (either (Known s) seen _ _ tt (either (Known s) (served c.prog) _ _ t (prog-fair x k))) (vers-fair x k 0 zero-fits)

    known-unix : (c : call_body) (r : Answer auth_unix) → unix_in s c.cred.body ≡ r → Known s (by_unix s seen 0 x c n r)
    known-unix c (took a i b) e = known-version c (some a)
    known-unix c (refused r) e = of-reading (unix-numbered s c.cred.body h e)

    known-flavor : (c : call_body) (f : auth_flavor) → Known s (by_flavor s seen 0 x c n f)
    known-flavor c AUTH_NULL = known-version c none
    known-flavor c AUTH_UNIX = known-unix c (unix_in s c.cred.body) refl
    known-flavor c AUTH_SHORT = known-version c none
    known-flavor c AUTH_DES = known-version c none

    known-body : (y : call_body ⊎ reply_body) → Known s (by_body crate s seen x n y)
    known-body (inl c) = known-flavor c c.cred.flavor
    known-body (inr r) = not_call

  known-message : (r : Answer rpc_msg) → opened s 0 (rpc-msg.held.read s 0) ≡ r → Known s (by_message crate s seen r)
  known-message (took m n b) e = known-body m.xid (taken-good s m n b e h) n (taken s m n b e) (crate.body.from m.body)
  known-message (refused r) e = of_reader ((kept rpc-msg).numbered s 0 (record { is = sym e; bytes = h }))

  known : Known s (decided crate s seen)
  unfolding decided
  known = known-message (opened s 0 (rpc-msg.held.read s 0)) refl

  pub handed-over : {p v f : ℕ} {a : Option auth_unix} {n : ℕ} → decided crate s seen ≡ choice.hand_over p v f a n → HandedOver s n
  handed-over e = subst (Known s) e known

-- so its arguments begin in the message, and 3 and 9 are never said of them
module _ (s : List ℕ) (h : Bytes s) {n : ℕ} (t : HandedOver s n) where
  pub in-message : (length s ≤ most) × (n ≤ length s)
  in-message =
      let a : Answers rpc-msg s 0 (took t.message n t.plain) = record { is = sym t.reads; bytes = h } in (
        (opened-took s 0 (rpc-msg.held.read s 0) (sym t.reads)).1,
        ((kept rpc-msg).within (record { source = s; place = 0; value = t.message; next = n; plain = t.plain; answers = a })).1,
      )

  pub read-there : {A : Type 0} (y : Answer A) → opened s n y ≡ y
  read-there y = opened_in s n y in-message.0 in-message.1

-- ---- the answer, by that of `choose`

-- an answer that is given as it is
abbrev also : choice.Chosen → Said
also (choice.turned_away r) = refuse r
also (choice.replied n) = reply n
also choice.silent = silence
also (choice.handed p v f a n) = hand_over p v f a n

abbrev also_out : choice.Outcome → Outcome
also_out r = outcome (also r.said) r.held

abbrev Settled : choice.Chosen → Type 0
Settled (choice.turned_away r) = Unit {0}
Settled (choice.replied n) = Unit {0}
Settled choice.silent = Unit {0}
Settled (choice.handed p v f a n) = ⊥

module _ (m : rpc_msg) (o : List ℕ) where
  reply-also : (t : Bool) → leb 24 (length o) ≡ t → size m ≡ 24 → also_out (choice.replying m o) ≡ replying m o
  unfolding choice.replying replying
  reply-also true e l = rw (l, e)
  reply-also false e l = rw (l, e)

  -- a reply is no hand_over
  not-handed : (t : Bool) → leb 24 (length o) ≡ t → Settled (choice.replying m o).said
  unfolding choice.replying
  not-handed true e = rw e tt
  not-handed false e = rw e tt

module _ (s o o' : List ℕ) where
  settled : (d : Decision) → Known s d → (c : choice.Chosen) → Settled c → choice.outcome c o' ≡ choice.carried_out d o → outcome (also c) o' ≡ carried_out (after s d) o
  settled (choice.refuse r) k c t e = ap also_out e
  settled (choice.reply m) k c t e = ap also_out e ∙ reply-also m o (leb 24 (length o)) refl k.long
  settled choice.silence k c t e = ap also_out e
  settled (choice.hand_over p v f a n) k c t e = absurd (subst Settled (chosen.said-held e).0 t)

  module _ (p v f : ℕ) (a : Option auth_unix) (n : ℕ) where
    handed-as : (d : Decision) → choice.outcome (choice.handed p v f a n) o' ≡ choice.carried_out d o → (d ≡ choice.hand_over p v f a n) × (o' ≡ o)
    handed-as (choice.refuse r) e = absurd (subst Settled (sym (chosen.said-held e).0) tt)
    handed-as (choice.reply m) e = absurd (subst Settled (sym (chosen.said-held e).0) (not-handed m o (leb 24 (length o)) refl))
    handed-as choice.silence e = absurd (subst Settled (sym (chosen.said-held e).0) tt)
    handed-as (choice.hand_over p' v' f' a' n') e = let g = chosen.said-held e in (cc g.0, g.1)

module _ (s : List ℕ) (seen : Bool) (o o' : List ℕ) (w : Choice) (h : Chooses crate s seen o (view_choice w) o') where
  ask-by : {t : Choice} → w ≡ t → Settled (view_choice t) → Asks s seen o (also (view_choice t)) o'
  unfolding due
  ask-by {t} e k =
      record {
        is =
            settled s o o' (decided crate s seen) (known s seen h.bytes) (view_choice t) k
            (ap (λ v. choice.outcome (view_choice v) o') (sym e) ∙ h.is);
        bytes = h.bytes;
      }

  pub ask-refused : (q : Refusal) → w ≡ Choice.Refused q → Asks s seen o (refuse q) o'
  ask-refused q e = ask-by e tt

  pub ask-replied : (n : ℕ) → w ≡ Choice.Replied n → Asks s seen o (reply n) o'
  ask-replied n e = ask-by e tt

  pub ask-silent : w ≡ Choice.Silent → Asks s seen o silence o'
  ask-silent e = ask-by e tt

  pub ask-handed : (p v f : ℕ) (a : std.Option auth_unix) (n x : ℕ) (c : Said) (q : List ℕ) → w ≡ Choice.HandOver p v f a n → x ≡ xid_of s
      → outcome c q ≡ carried_out (handed_on s x (view_option a) n p v f) o' → Asks s seen o c q
  unfolding due
  ask-handed p v f a n x c q e i g =
      let d = handed-as s o o' p v f (view_option a) n (decided crate s seen) (ap (λ v. choice.outcome (view_choice v) o') (sym e) ∙ h.is) in
      record {
        is =
            g ∙ ap (λ y. carried_out (handed_on s y (view_option a) n p v f) o') i ∙ ap (carried_out (handed_on s (xid_of s) (view_option a) n p v f)) d.1
            ∙ sym (ap (λ y. carried_out (after s y) o) d.0);
        bytes = h.bytes;
      }

-- ---- the promise

-- what is due: no refusal is 5, and each reply has one of two lengths
abbrev pub Fairly : Due → Type 0
Fairly (refuse r) = NotFive r
Fairly (reply m) = Fair 24 m ⊎ Fair 32 m
Fairly silence = Unit {0}
Fairly (hand_over p v f a n) = Unit {0}
Fairly (mnt a x n) = Unit {0}
Fairly (umnt a x n) = Unit {0}
Fairly (export a n) = Unit {0}
Fairly (getport a x n) = Unit {0}

taking-fair : {A : Type 0} (to : A → ℕ → Due) → ((x : A) (n : ℕ) → Fairly (to x n)) → (y : Answer A) → ((r : Refusal) → y ≡ refused r → NotFive r)
    → Fairly (taking to y)
taking-fair to g (took x n b) h = g x n
taking-fair to g (refused r) h = h r refl

module _ (s : List ℕ) (h : Bytes s) (x : ℕ) (k : word.kind.Good x) (a : Option auth_unix) (n : ℕ) where
  path-fair : (r : Refusal) → path_at s n ≡ refused r → NotFive r
  path-fair r e = of_reader ((kept dirpath).numbered s n (record { is = sym e; bytes = h }))

  mapping-fair : (r : Refusal) → mapping_at s n ≡ refused r → NotFive r
  mapping-fair r e = of_reader ((kept (exactly port_mapping)).numbered s n (record { is = sym e; bytes = h }))

  mount-fair : (f : ℕ) → Fairly (mount_procedure s x a n f)
  unfolding mount_procedure
  mount-fair f =
      either Fairly (eqb f 0) _ _ (inl (success-fair x k))
      (either Fairly (eqb f 1) _ _ (taking-fair (mnt a) (λ y i. tt) (path_at s n) path-fair)
      (either Fairly (eqb f 3) _ _ (taking-fair (umnt a) (λ y i. tt) (path_at s n) path-fair) (either Fairly (eqb f 5) _ _ tt (inl (proc-fair x k)))))

  portmap-fair : (f : ℕ) → Fairly (portmap_procedure s x a n f)
  unfolding portmap_procedure
  portmap-fair f =
      either Fairly (eqb f 0) _ _ (inl (success-fair x k))
      (either Fairly (eqb f 3) _ _ (taking-fair (getport a) (λ y i. tt) (mapping_at s n) mapping-fair) (inl (proc-fair x k)))

  version-fair : (w v : ℕ) → word.kind.Good w → (d : Due) → Fairly d → Fairly (in_version x w v d)
  unfolding in_version
  version-fair w v g d f = by _ (in_version x w v d) refl
    where
      by : (t : Bool) (z : Due) → z ≡ cond t d (reply (prog_mismatch x w)) → Fairly z
      by true z e = subst Fairly (sym e) f
      by false z e = subst Fairly (sym e) (inr (mismatch-fair x k w g))

  pub handed-fair : (p v f : ℕ) → Fairly (handed_on s x a n p v f)
  unfolding word number handed_on
  handed-fair p v f =
      either Fairly (eqb p 100005) _ _ (version-fair mount_serves v (omega arith) _ (mount-fair f))
      (either Fairly (eqb p 100000) _ _ (version-fair portmap_serves v (omega arith) _ (portmap-fair f)) tt)

module _ (s : List ℕ) (h : Bytes s) where
  after-fair : (d : Decision) → Known s d → Fairly (after s d)
  after-fair (choice.refuse r) k = k
  after-fair (choice.reply m) k = inl k
  after-fair choice.silence k = tt
  after-fair (choice.hand_over p v f a n) k =
      handed-fair s h (xid_of s) (subst word.kind.Good (sym k.xid) (taken-good s k.message n k.plain k.reads h)) a n p v f

  pub due-fair : (seen : Bool) → Fairly (due s seen)
  unfolding due
  due-fair seen = after-fair (decided crate s seen) (known s seen h)

-- a reply, by the room for it
module _ (m : rpc_msg) (o : List ℕ) where
  reply-room : size m ≤ length o → replying m o ≡ outcome (reply (size m)) (output rpc-msg [] m ++ drop (size m) o)
  unfolding replying
  reply-room h = rw (le-leb (size m) (length o) h)

  reply-short : length o < size m → replying m o ≡ outcome (refuse (NoRoom (size m))) o
  unfolding replying
  reply-short h = rw (lt-leb (size m) (length o) h)

abbrev LeavesOf : List ℕ → Outcome → Type 0
LeavesOf o r = Leaves r.said o r.held

leaves-reply : (m : rpc_msg) (o : List ℕ) (t : Bool) → leb (size m) (length o) ≡ t → LeavesOf o (replying m o)
leaves-reply m o true e =
    let k : size m ≤ length o = leb-true (size m) (length o) e in
    subst (LeavesOf o) (sym (reply-room m o k)) (
      k,
      drop_at (output rpc-msg [] m) (drop (size m) o) (size m) refl,
      length-append (output rpc-msg [] m) (drop (size m) o) ∙ omega (arith, length-drop (size m) o),
    )
leaves-reply m o false e = subst (LeavesOf o) (sym (reply-short m o (leb-false (size m) (length o) e))) refl

leaves-turn : (d : Due) (o : List ℕ) → LeavesOf o (carried_out d o)
leaves-turn (refuse r) o = refl
leaves-turn (reply m) o = leaves-reply m o (leb (size m) (length o)) refl
leaves-turn silence o = refl
leaves-turn (hand_over p v f a n) o = refl
leaves-turn (mnt a x n) o = refl
leaves-turn (umnt a x n) o = refl
leaves-turn (export a n) o = refl
leaves-turn (getport a x n) o = refl

-- where 5 is said, a reply was due, and there was no room for it
Five : ℕ → Due → List ℕ → Type 0
Five k d o = (m : rpc_msg) × (d ≡ reply m) × (k ≡ size m) × (length o < k)

five-reply : (k : ℕ) (m : rpc_msg) (o : List ℕ) (t : Bool) → leb (size m) (length o) ≡ t → (replying m o).said ≡ refuse (NoRoom k) → (k ≡ size m) × (length o < k)
five-reply k m o true e f =
    let g = (said-held (reply-room m o (leb-true (size m) (length o) e))).0 in
    let z : ◌≡◌ {A = ℕ} 0 1 = cc in absurd (omega arith)
five-reply k m o false e f =
    let l = leb-false (size m) (length o) e in
    let g = (said-held (reply-short m o l)).0 in
    let i : k ≡ size m = cc in (i, omega arith)

five-due : (k : ℕ) (d : Due) (o : List ℕ) → Fairly d → (carried_out d o).said ≡ refuse (NoRoom k) → Five k d o
unfolding Five
five-due k (refuse r) o h f = let g : r ≡ NoRoom k = cc in absurd (h k g)
five-due k (reply m) o h f = let g = five-reply k m o (leb (size m) (length o)) refl f in (m, refl, g.0, g.1)
five-due k silence o h f = let z : ◌≡◌ {A = ℕ} 0 1 = cc in absurd (omega arith)
five-due k (hand_over p v g a n) o h f = let z : ◌≡◌ {A = ℕ} 0 1 = cc in absurd (omega arith)
five-due k (mnt a x n) o h f = let z : ◌≡◌ {A = ℕ} 0 1 = cc in absurd (omega arith)
five-due k (umnt a x n) o h f = let z : ◌≡◌ {A = ℕ} 0 1 = cc in absurd (omega arith)
five-due k (export a n) o h f = let z : ◌≡◌ {A = ℕ} 0 1 = cc in absurd (omega arith)
five-due k (getport a x n) o h f = let z : ◌≡◌ {A = ℕ} 0 1 = cc in absurd (omega arith)

either-size : {m : rpc_msg} → Fair 24 m ⊎ Fair 32 m → (size m ≡ 24) ⊎ (size m ≡ 32)
either-size (inl f) = inl f.long
either-size (inr f) = inr f.long

module _ (m : rpc_msg) (o o' : List ℕ) (e : o' ≡ output rpc-msg [] m ++ drop (size m) o) (h : size m ≤ length o) where
  back-of : (n : ℕ) → n ≤ most → Fair n m → Back rpc-msg [] m 0 (size m) o'
  back-of n l f =
      let g : Sendable m = record { whole = f.whole; small = omega (arith, f.long) } in
      wrote-back rpc-msg [] m 0 o (record { says = sym (says m g o ∙ rw (le-leb (size m) (length o) h)); leaves = e; good = f.good })

  back-fair : Fair 24 m ⊎ Fair 32 m → Back rpc-msg [] m 0 (size m) o'
  back-fair (inl f) = back-of 24 (omega arith) f
  back-fair (inr f) = back-of 32 (omega arith) f

module _ (d : Due) (k : Fairly d) (o : List ℕ) {c : Said} {o' : List ℕ} (h : outcome c o' ≡ carried_out d o) where
  is-reply : {m : rpc_msg} → d ≡ reply m → outcome c o' ≡ replying m o
  is-reply e = h ∙ ap (λ y. carried_out y o) e

  gives : {m : rpc_msg} → d ≡ reply m → size m ≤ length o → (c ≡ reply (size m)) × (o' ≡ output rpc-msg [] m ++ drop (size m) o)
  gives {m} e l = said-held (is-reply e ∙ reply-room m o l)

  pub turn-promised : TurnPromised d o c o'
  unfolding Five
  turn-promised =
      record {
        one = λ g. said-held (h ∙ sym g);
        leaves = subst (LeavesOf o) (sym h) (leaves-turn d o);
        five_iff = λ n. (
          λ f. five-due n d o k (sym (said-held h).0 ∙ f),
          λ g. (said-held (is-reply g.1 ∙ reply-short g.0 o (omega (arith, g.2, g.3)))).0 ∙ ap (λ i. refuse (NoRoom i)) (sym g.2),
        );
        sizes = λ e. either-size (subst Fairly e k);
        replies = gives;
        back = λ {m} e l. back-fair m o o' (gives e l).1 l (subst Fairly e k);
      }

-- of `ask`, and of `answer` where the message is bytes
pub ask-promised : (s : List ℕ) (seen : Bool) (o : List ℕ) {c : Said} {o' : List ℕ} → Asks s seen o c o' → TurnPromised (due s seen) o c o'
ask-promised s seen o h = turn-promised (due s seen) (due-fair s h.bytes seen) o h.is

pub answer-promised : (s : List ℕ) (x : ℕ) (a : Option auth_unix) (n p v f : ℕ) (o : List ℕ) {c : Said} {o' : List ℕ} → Bytes s → word.kind.Good x
    → outcome c o' ≡ carried_out (handed_on s x a n p v f) o → TurnPromised (handed_on s x a n p v f) o c o'
answer-promised s x a n p v f o h k e = turn-promised (handed_on s x a n p v f) (handed-fair s h x k a n p v f) o e
