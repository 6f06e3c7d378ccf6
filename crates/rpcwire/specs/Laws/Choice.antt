-- The choice of program, by the case that a message is in.
-- Assumes nothing.
use Rattle.std.proofs.Math.Path.{◌≡◌, refl, sym, ap}
use Rattle.std.proofs.Common.{subst, ◌∙◌, inl, inr, ⊎_elim, arith, length-append, length-drop, drop_at}
use Rattle.std.specs.Prelude.{Bool, cond, ◌⊎◌, List, [], ◌++◌, ℕ, ◌-◌, ◌≤◌, ◌<◌, eqb, leb, length, drop, Result, Ok, Err}
use Rattle.std.proofs.Math.Bool.{true, false}
use Rattle.std.proofs.Math.Option.{Option, none, some}
use borrow.Author.Tests.{eq-eqb, ne_eqb, le-leb, lt-leb, leb-true, leb-false}
use Rattle.xdr.specs.Meaning.Answer.{Answer, took, refused, most, opened, Written, done, unwritten}
use Rattle.xdr.specs.Meaning.Items.{number, word, opaque}
use Rattle.xdr.specs.Meaning.Pieces.{is_inside}
use Rattle.xdr.specs.Meaning.Formats.{piece_held}
use Rattle.xdr.specs.Meaning.Order.{placing}
use Rattle.xdr.specs.Meaning.Public.{Answers, output, writing, leaving, Writes}
use Rattle.rpc.specs.Meaning.Closed.{auth-flavor, flavor_number}
use Rattle.rpc.specs.Meaning.Auth.{opaque-auth}
use Rattle.rpc.specs.Meaning.Reading.{mismatch-info, Reading}
use Rattle.rpc.specs.Meaning.Crate.{rpc-msg}
use Rattle.rpc.specs.Meaning.Reply.{accept_body_of, accepted_reply_of, rejected_reply_of, reply_body_of}
use Rattle.rpc.specs.Meaning.Message.{rpc_body_of, rpc_msg_of}
use Rattle.rpc.specs.Meaning.Makers.{vers_mismatch_of, prog_unavail}
use Rattle.rpc.specs.Meaning.UnixIn.{unix_in}
use Rattle.xdr.specs.Meaning.Views.{view}
use Rattle.rpc.specs.declared.auth.auth_flavor.{auth_flavor}
use Rattle.rpc.specs.declared.auth.auth_flavor.TheVariants.{AUTH_NULL, AUTH_UNIX, AUTH_SHORT, AUTH_DES}
use Rattle.rpc.specs.declared.auth.auth_unix.{auth_unix}
use Rattle.xdr.specs.declared.answer.Took.{Took}
use Rattle.rpc.specs.declared.message.call_body.{call_body}
use Rattle.rpc.specs.declared.message.rpc_msg.{rpc_msg}
use Rattle.rpcwire.specs.Meaning.Choice.{Decision, refuse, reply, silence, hand_over, served, by_program, by_version, by_unix, by_flavor, by_body, by_message, decided, Chosen, turned_away, replied, silent, handed, Outcome, outcome, replying, carried_out, Chooses, Leaves, ChoicePromised}
use Rattle.xdr.specs.Meaning.Bytes.{Bytes}
use Rattle.xdr.specs.Meaning.Refusal.{OfReading}
use Rattle.xdr.specs.Laws.Answers.{on, off}
use Rattle.xdr.specs.Laws.Public.{kept}
use Rattle.rpc.proofs.UnixKept.{unix-numbered}
use Rattle.xdr.specs.declared.refusal.Refusal.{Refusal}
use Rattle.xdr.specs.declared.refusal.Refusal.TheVariants.{Ended, TooLong, NoRoom, NotCall, PastEnd}

-- a message of 24 bytes that has no pieces
pub record Short (m : rpc_msg) : Type 0 where
  pub long : length (output rpc-msg [] m) ≡ 24
  pub whole : rpc-msg.held.inside [] m ≡ true

pub mismatch-short : (v x : ℕ) → Short (vers_mismatch_of v x)
unfolding rpc_msg_of rpc_body_of reply_body_of rejected_reply_of mismatch-info word number
mismatch-short v x = record { long = refl; whole = refl }

pub unavail-short : (x : ℕ) → Short (prog_unavail x)
unfolding rpc_msg_of rpc_body_of reply_body_of accepted_reply_of accept_body_of opaque-auth auth-flavor opaque piece_held is_inside word number
unavail-short x = record { long = refl; whole = refl }

-- what the writer of a message says and leaves, of one that is short
module _ (m : rpc_msg) (h : Short m) (o : List ℕ) where
  says-short : writing rpc-msg [] m 0 (length o) ≡ cond (leb 24 (length o)) (done 24) (unwritten (NoRoom 24))
  unfolding writing placing
  says-short = rw (h.whole, h.long, le-leb 0 (length o) (omega arith))

  done-by : (t : Bool) → leb 24 (length o) ≡ t → {n : ℕ} {o' : List ℕ} → done n ≡ cond t (done 24) (unwritten (NoRoom 24)) → o' ≡ leaving rpc-msg [] m (done n) 0 o
      → outcome (replied n) o' ≡ replying m o
  unfolding replying
  done-by true e {n} {o'} f g =
      let k : n ≡ 24 = cc in
      ap (λ l. outcome (replied n) l) g ∙ rw (k, e)
  done-by false e f g = let z : ◌≡◌ {A = ℕ} 0 1 = cc in absurd (omega arith)

  pub reply-done : {w : Written} {n : ℕ} {o' : List ℕ} → Writes rpc-msg [] m 0 o w o' → w ≡ done n → outcome (replied n) o' ≡ replying m o
  reply-done c e = done-by (leb 24 (length o)) refl (sym e ∙ c.says ∙ says-short) (c.leaves ∙ ap (λ v. leaving rpc-msg [] m v 0 o) e)

  none-by : (t : Bool) → leb 24 (length o) ≡ t → {r : Refusal} {o' : List ℕ} → unwritten r ≡ cond t (done 24) (unwritten (NoRoom 24)) → o' ≡ o
      → outcome (turned_away (NoRoom 24)) o' ≡ replying m o
  unfolding replying
  none-by true e f g = let z : ◌≡◌ {A = ℕ} 0 1 = cc in absurd (omega arith)
  none-by false e f g = ap (λ l. outcome (turned_away (NoRoom 24)) l) g ∙ sym (rw e)

  pub reply-none : {w : Written} {r : Refusal} {o' : List ℕ} → Writes rpc-msg [] m 0 o w o' → w ≡ unwritten r → outcome (turned_away (NoRoom 24)) o' ≡ replying m o
  reply-none c e = none-by (leb 24 (length o)) refl (sym e ∙ c.says ∙ says-short) (c.leaves ∙ ap (λ v. leaving rpc-msg [] m v 0 o) e)

-- a call whose credential is read
module _ (seen : Bool) (o : List ℕ) (v x : ℕ) (c : call_body) (a : Option auth_unix) (n : ℕ) where
  pub version-other : (c.rpcvers ≡ 2 → ⊥) → {r : Outcome} → r ≡ replying (vers_mismatch_of v x) o → r ≡ carried_out (by_version seen v x c a n) o
  unfolding by_version
  version-other h e = e ∙ sym (rw (ne_eqb c.rpcvers 2 h))

  module _ (h : c.rpcvers ≡ 2) where
    pub version-seen : seen ≡ true → outcome silent o ≡ carried_out (by_version seen v x c a n) o
    unfolding by_version
    version-seen e = sym (rw (eq-eqb c.rpcvers 2 h, e))

    module _ (e : seen ≡ false) where
      pub program-served : served c.prog ≡ true → outcome (handed c.prog c.vers c.proc a n) o ≡ carried_out (by_version seen v x c a n) o
      unfolding by_version by_program
      program-served f = sym (rw (eq-eqb c.rpcvers 2 h, e, f))

      pub program-other : served c.prog ≡ false → {r : Outcome} → r ≡ replying (prog_unavail x) o → r ≡ carried_out (by_version seen v x c a n) o
      unfolding by_version by_program
      program-other f g = g ∙ sym (rw (eq-eqb c.rpcvers 2 h, e, f))

pub is-served : (p : ℕ) → ((p ≡ 100000) ⊎ ((p ≡ 100003) ⊎ (p ≡ 100005))) → served p ≡ true
is-served p h = ⊎_elim (λ e. rw e) (λ k. ⊎_elim (λ e. rw e) (λ e. rw e) k) h

pub not-served : (p : ℕ) → ((p ≡ 100000) ⊎ ((p ≡ 100003) ⊎ (p ≡ 100005)) → ⊥) → served p ≡ false
not-served p h = simp (ne_eqb p 100003 (λ e. h (inr (inl e))), ne_eqb p 100000 (λ e. h (inl e)), ne_eqb p 100005 (λ e. h (inr (inr e))))

-- what the choice is, as far as the message is read
module _ (s : List ℕ) (seen : Bool) (o : List ℕ) (v x : ℕ) (c : call_body) (n : ℕ) where
  flavor-of : (f : auth_flavor) → (flavor_number f ≡ 1 → ⊥) → by_flavor s seen v x c n f ≡ by_version seen v x c none n
  flavor-of AUTH_NULL h = refl
  flavor-of AUTH_UNIX h = absurd (h refl)
  flavor-of AUTH_SHORT h = refl
  flavor-of AUTH_DES h = refl

  -- a credential of another flavor says nothing
  pub flavor-other : (flavor_number c.cred.flavor ≡ 1 → ⊥) → {r : Outcome} → r ≡ carried_out (by_version seen v x c none n) o
      → r ≡ carried_out (by_flavor s seen v x c n c.cred.flavor) o
  flavor-other h e = e ∙ sym (ap (λ d. carried_out d o) (flavor-of c.cred.flavor h))

  module _ (h : c.cred.flavor ≡ AUTH_UNIX) where
    by-unix : {y : Answer auth_unix} → unix_in s c.cred.body ≡ y → by_flavor s seen v x c n c.cred.flavor ≡ by_unix s seen v x c n y
    by-unix e = ap (by_flavor s seen v x c n) h ∙ ap (by_unix s seen v x c n) e

    pub unix-refused : {r : Refusal} → unix_in s c.cred.body ≡ refused r
        → outcome (turned_away r) o ≡ carried_out (by_flavor s seen v x c n c.cred.flavor) o
    unix-refused e = sym (ap (λ d. carried_out d o) (by-unix e))

    pub unix-took : {a : auth_unix} {k : ℕ} {b : Bool} → unix_in s c.cred.body ≡ took a k b → {r : Outcome}
        → r ≡ carried_out (by_version seen v x c (some a) n) o → r ≡ carried_out (by_flavor s seen v x c n c.cred.flavor) o
    unix-took e g = g ∙ sym (ap (λ d. carried_out d o) (by-unix e))

module _ {Stat Auth Accept Rejected Accepted Reply Body Msg : Type 0} (R : Reading Stat Auth Accept Rejected Accepted Reply Body Msg) (s : List ℕ) (seen : Bool) (o : List ℕ) where
  pub not_taken : {r : Refusal} → opened s 0 ((rpc_msg_of R).held.read s 0) ≡ refused r → outcome (turned_away r) o ≡ carried_out (decided R s seen) o
  unfolding decided
  not_taken e = sym (ap (λ x. carried_out (by_message R s seen x) o) e)

  module _ {m : Msg} {n : ℕ} {b : Bool} (e : opened s 0 ((rpc_msg_of R).held.read s 0) ≡ took m n b) where
    by-body : {y : call_body ⊎ Reply} → (R.msg.from m).1 ≡ R.body.to y → decided R s seen ≡ by_body R s seen (R.msg.from m).0 n y
    unfolding decided
    by-body {y} f = ap (by_message R s seen) e ∙ ap (by_body R s seen (R.msg.from m).0 n) (ap R.body.from f ∙ R.body.from_to y)

    pub took-reply : {q : Reply} → (R.msg.from m).1 ≡ R.body.to (inr q) → outcome (turned_away NotCall) o ≡ carried_out (decided R s seen) o
    took-reply f = sym (ap (λ d. carried_out d o) (by-body f))

    pub took-call : {c : call_body} → (R.msg.from m).1 ≡ R.body.to (inl c) → {r : Outcome}
        → r ≡ carried_out (by_flavor s seen R.serves (R.msg.from m).0 c n c.cred.flavor) o → r ≡ carried_out (decided R s seen) o
    took-call f g = g ∙ sym (ap (λ d. carried_out d o) (by-body f))

-- by the answers of the calls: that of the reader of auth_unix, and that of a reading's reader of messages
module _ (s : List ℕ) (seen : Bool) (o : List ℕ) (v x : ℕ) (c : call_body) (n : ℕ) (r : Result (Took auth_unix) Refusal) where
  pub unix-lost : (q : Refusal) → c.cred.flavor ≡ AUTH_UNIX → view r ≡ unix_in s c.cred.body → r ≡ Err q
      → outcome (turned_away q) o ≡ carried_out (by_flavor s seen v x c n c.cred.flavor) o
  unix-lost q h e f = unix-refused s seen o v x c n h (off e f)

  pub unix-given : (t : Took auth_unix) (z : Outcome) → c.cred.flavor ≡ AUTH_UNIX → view r ≡ unix_in s c.cred.body
      → r ≡ Ok t → z ≡ carried_out (by_version seen v x c (some t.value) n) o → z ≡ carried_out (by_flavor s seen v x c n c.cred.flavor) o
  unix-given t z h e f g = unix-took s seen o v x c n h (on e f) g

module _ {Stat Auth Accept Rejected Accepted Reply Body Msg : Type 0} (R : Reading Stat Auth Accept Rejected Accepted Reply Body Msg)
    (s : List ℕ) (seen : Bool) (o : List ℕ) (r : Result (Took Msg) Refusal) where
  pub message-lost : (q : Refusal) → Answers (rpc_msg_of R) s 0 (view r) → r ≡ Err q → Chooses R s seen o (turned_away q) o
  message-lost q a e = record { is = not_taken R s seen o (off a.is e); bytes = a.bytes }

  module _ (t : Took Msg) where
    pub message-reply : (y : Reply) → Answers (rpc_msg_of R) s 0 (view r) → r ≡ Ok t → (R.msg.from t.value).1 ≡ R.body.to (inr y)
        → Chooses R s seen o (turned_away NotCall) o
    message-reply y a e f = record { is = took-reply R s seen o (on a.is e) f; bytes = a.bytes }

    pub message-call : (c : call_body) (w : Chosen) (o' : List ℕ) → Answers (rpc_msg_of R) s 0 (view r) → r ≡ Ok t
        → (R.msg.from t.value).1 ≡ R.body.to (inl c)
        → outcome w o' ≡ carried_out (by_flavor s seen R.serves (R.msg.from t.value).0 c t.next c.cred.flavor) o → Chooses R s seen o w o'
    message-call c w o' a e f g = record { is = g ∙ sym (ap (λ d. carried_out d o) (by-body R s seen o (on a.is e) f)); bytes = a.bytes }

-- ---- the promise

-- each reply that is decided on is short, and no refusal that is decided on is 5
abbrev Brief : Decision → Type 0
Brief (refuse r) = r ≡ NoRoom 24 → ⊥
Brief (reply m) = Short m
Brief silence = Unit {0}
Brief (hand_over p v f a n) = Unit {0}

brief-cond : (t : Bool) (d e : Decision) → Brief d → Brief e → Brief (cond t d e)
brief-cond true d e f g = f
brief-cond false d e f g = g

-- a refusal of a reading is not 5
not-of-reading : {r : Refusal} → OfReading r → r ≡ NoRoom 24 → ⊥
not-of-reading h e = subst OfReading e h

not-too-long : {r : Refusal} → r ≡ TooLong → r ≡ NoRoom 24 → ⊥
not-too-long e f = let z : ◌≡◌ {A = ℕ} 0 1 = cc in omega arith

not-past-end : {r : Refusal} → r ≡ PastEnd → r ≡ NoRoom 24 → ⊥
not-past-end e f = let z : ◌≡◌ {A = ℕ} 0 1 = cc in omega arith

not_call : NotCall ≡ NoRoom 24 → ⊥
not_call e = let z : ◌≡◌ {A = ℕ} 0 1 = cc in omega arith

module _ (s : List ℕ) (seen : Bool) (h : Bytes s) (v : ℕ) where
  brief-version : (x : ℕ) (c : call_body) (a : Option auth_unix) (n : ℕ) → Brief (by_version seen v x c a n)
  unfolding by_version by_program
  brief-version x c a n =
      brief-cond (eqb c.rpcvers 2) _ _ (brief-cond seen _ _ tt (brief-cond (served c.prog) _ _ tt (unavail-short x))) (mismatch-short v x)

  brief-unix : (x : ℕ) (c : call_body) (n : ℕ) (r : Answer auth_unix) → unix_in s c.cred.body ≡ r → Brief (by_unix s seen v x c n r)
  brief-unix x c n (took a k b) e = brief-version x c (some a) n
  brief-unix x c n (refused r) e = not-of-reading (unix-numbered s c.cred.body h e)

  brief-flavor : (x : ℕ) (c : call_body) (n : ℕ) (f : auth_flavor) → Brief (by_flavor s seen v x c n f)
  brief-flavor x c n AUTH_NULL = brief-version x c none n
  brief-flavor x c n AUTH_UNIX = brief-unix x c n (unix_in s c.cred.body) refl
  brief-flavor x c n AUTH_SHORT = brief-version x c none n
  brief-flavor x c n AUTH_DES = brief-version x c none n

brief-refused : {r : Refusal} → (r ≡ TooLong) ⊎ ((r ≡ PastEnd) ⊎ OfReading r) → r ≡ NoRoom 24 → ⊥
brief-refused (inl e) = not-too-long e
brief-refused (inr (inl e)) = not-past-end e
brief-refused (inr (inr o)) = not-of-reading o

-- a reply, by the room for it
reply-room : (m : rpc_msg) (o : List ℕ) → 24 ≤ length o → replying m o ≡ outcome (replied 24) (output rpc-msg [] m ++ drop 24 o)
unfolding replying
reply-room m o h = rw (le-leb 24 (length o) h)

reply-short : (m : rpc_msg) (o : List ℕ) → length o < 24 → replying m o ≡ outcome (turned_away (NoRoom 24)) o
unfolding replying
reply-short m o h = rw (lt-leb 24 (length o) h)

abbrev LeavesOf : List ℕ → Outcome → Type 0
LeavesOf o r = Leaves r.said o r.held

leaves-reply : (m : rpc_msg) → Short m → (o : List ℕ) (t : Bool) → leb 24 (length o) ≡ t → LeavesOf o (replying m o)
leaves-reply m h o true e =
    let k : 24 ≤ length o = leb-true 24 (length o) e in
    subst (LeavesOf o) (sym (reply-room m o k)) (
      refl,
      k,
      drop_at (output rpc-msg [] m) (drop 24 o) 24 h.long,
      length-append (output rpc-msg [] m) (drop 24 o) ∙ omega (arith, h.long, length-drop 24 o),
    )
leaves-reply m h o false e = subst (LeavesOf o) (sym (reply-short m o (leb-false 24 (length o) e))) refl

leaves-decision : (d : Decision) (o : List ℕ) → Brief d → LeavesOf o (carried_out d o)
leaves-decision (refuse r) o h = refl
leaves-decision (reply m) o h = leaves-reply m h o (leb 24 (length o)) refl
leaves-decision silence o h = refl
leaves-decision (hand_over p v f a n) o h = refl

pub said-held : {r t : Outcome} → r ≡ t → (r.said ≡ t.said) × (r.held ≡ t.held)
said-held e = (ap (λ (r : Outcome). r.said) e, ap (λ (r : Outcome). r.held) e)

-- a reply of 24 bytes is no refusal
not_five : (m : rpc_msg) (o : List ℕ) (t : Bool) → leb 24 (length o) ≡ t → (replying m o).said ≡ turned_away (NoRoom 24) → length o < 24
not_five m o true e f =
    let k = (said-held (reply-room m o (leb-true 24 (length o) e))).0 in
    let z : ◌≡◌ {A = ℕ} 0 1 = cc in absurd (omega arith)
not_five m o false e f = leb-false 24 (length o) e

-- so where 5 is said, a reply was due
five-due : (d : Decision) (o : List ℕ) → Brief d → (carried_out d o).said ≡ turned_away (NoRoom 24) → (m : rpc_msg) × (d ≡ reply m) × (length o < 24)
five-due (refuse r) o h f = let g : r ≡ NoRoom 24 = cc in absurd (h g)
five-due (reply m) o h f = (m, refl, not_five m o (leb 24 (length o)) refl f)
five-due silence o h f = let z : ◌≡◌ {A = ℕ} 0 1 = cc in absurd (omega arith)
five-due (hand_over p v g a n) o h f = let z : ◌≡◌ {A = ℕ} 0 1 = cc in absurd (omega arith)

module _ {Stat Auth Accept Rejected Accepted Reply Body Msg : Type 0} (R : Reading Stat Auth Accept Rejected Accepted Reply Body Msg) (s : List ℕ) (seen : Bool)
    (o : List ℕ) {c : Chosen} {o' : List ℕ} (h : Chooses R s seen o c o') where
  due : {m : rpc_msg} → decided R s seen ≡ reply m → outcome c o' ≡ replying m o
  due e = h.is ∙ ap (λ d. carried_out d o) e

  pub choice-promised : ChoicePromised R s seen o c o'
  unfolding decided
  choice-promised =
      record {
        one = λ g. said-held (h.is ∙ sym g.is);
        leaves = subst (LeavesOf o) (sym h.is) (leaves-decision (decided R s seen) o brief-decided);
        five_iff = (
          λ f. five-due (decided R s seen) o brief-decided (sym (said-held h.is).0 ∙ f),
          λ g. (said-held (due g.1 ∙ reply-short g.0 o g.2)).0,
        );
        replies = λ {m} e f. said-held (due e ∙ reply-room m o f);
      }
    where
      brief-body : (x n : ℕ) (y : call_body ⊎ Reply) → Brief (by_body R s seen x n y)
      brief-body x n (inl c) = brief-flavor s seen h.bytes R.serves x c n c.cred.flavor
      brief-body x n (inr r) = not_call

      brief-message : (r : Answer Msg) → opened s 0 ((rpc_msg_of R).held.read s 0) ≡ r → Brief (by_message R s seen r)
      brief-message (took m n b) e = brief-body (R.msg.from m).0 n (R.body.from (R.msg.from m).1)
      brief-message (refused r) e = brief-refused ((kept (rpc_msg_of R)).numbered s 0 (record { is = sym e; bytes = h.bytes }))

      brief-decided : Brief (decided R s seen)
      brief-decided = brief-message (opened s 0 ((rpc_msg_of R).held.read s 0)) refl

-- a message that ends too soon: the choice is refused as its reading is; and with fewer bytes than are wanting it is refused at the same place,
-- and wants that many less. (With as many, the reading gets further: `enough` of its kind. In a credential: `unix-later` of `rpc`.)
module _ {Stat Auth Accept Rejected Accepted Reply Body Msg : Type 0} (R : Reading Stat Auth Accept Rejected Accepted Reply Body Msg) (s : List ℕ) (seen : Bool)
    (o : List ℕ) {c : Chosen} {o' : List ℕ} where
  pub cut-choice : {r : Refusal} → Answers (rpc_msg_of R) s 0 (refused r) → Chooses R s seen o c o' → c ≡ turned_away r
  cut-choice a h = (said-held (h.is ∙ sym (not_taken R s seen o (sym a.is)))).0

pub few-choice : {Stat Auth Accept Rejected Accepted Reply Body Msg : Type 0} (R : Reading Stat Auth Accept Rejected Accepted Reply Body Msg) (s t : List ℕ) {seen : Bool} {o o' : List ℕ} {q w : ℕ} {c : Chosen} → Answers (rpc_msg_of R) s 0 (refused (Ended q w))
    → Chooses R (s ++ t) seen o c o' → length (s ++ t) ≤ most → length t < w → c ≡ turned_away (Ended q (w - length t))
few-choice R s t {seen} {o} {o'} {q} {w} a h fits k =
    let b : Answers (rpc_msg_of R) (s ++ t) 0 (opened (s ++ t) 0 ((rpc_msg_of R).held.read (s ++ t) 0)) = record { is = refl; bytes = h.bytes } in
    let e = (kept (rpc_msg_of R)).few (record { before = a; then = b; fits = fits }) k in
    cut-choice R (s ++ t) seen o (record { is = sym e; bytes = h.bytes }) h
