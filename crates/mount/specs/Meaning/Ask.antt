-- Calls to the programs mount, version 3 (RFC 1813, appendix I), and port mapper, version 2 (RFC 1057, appendix A): what a message calls for,
-- what is then answered, and what the output buffer holds.
-- Assumes nothing.
use Rattle.std.specs.Prelude.{◌≡◌, ◌↔◌, ◌⊎◌, Bool, List, [], ◌++◌, ℕ, ◌≤◌, ◌<◌, eqb, leb, length, drop}
use Rattle.std.proofs.Math.Bool.{cond}
use Rattle.std.proofs.Math.Option.{Option}
use Rattle.xdr.specs.Meaning.Bytes.{Bytes}
use Rattle.xdr.specs.Meaning.Answer.{Answer, took, refused, opened}
use Rattle.xdr.specs.Meaning.Items.{word}
use Rattle.xdr.specs.Meaning.Public.{output, Back}
use Rattle.rpc.specs.Meaning.Crate.{crate, rpc-msg}
use Rattle.rpc.specs.Meaning.Makers.{success, proc_unavail, prog_mismatch}
use Rattle.rpc.specs.declared.auth.auth_unix.{auth_unix}
use Rattle.rpc.specs.declared.message.rpc_msg.{rpc_msg}
use Rattle.rpcwire.specs.Meaning.Choice as choice
use Rattle.xdr.specs.declared.piece.Piece.{Piece}
use Rattle.xdr.specs.declared.refusal.Refusal.{Refusal}
use Rattle.xdr.specs.declared.refusal.Refusal.TheVariants.{NoRoom}
use Rattle.mount.specs.Meaning.Path.{dirpath}
use Rattle.mount.specs.Meaning.Portmap.{port_mapping}
use Rattle.mount.specs.declared.portmap.mapping.{mapping}

-- What a message calls for, and what is then answered. They differ in what is said of a reply: the message that is due, or how many bytes
-- stand at the front of the output.
pub data Turn (Reply : Type 0) : Type 0 where
  refuse : Refusal → Turn Reply
  reply : Reply → Turn Reply
  silence : Turn Reply
  -- another program is to answer: program, version, procedure, the auth_unix or none, and the place where the arguments begin
  hand_over : (prog vers proc : ℕ) → Option auth_unix → (args : ℕ) → Turn Reply
  -- a procedure is to answer: the auth_unix or none, the argument, and the place behind it
  mnt : Option auth_unix → Piece → (next : ℕ) → Turn Reply
  umnt : Option auth_unix → Piece → (next : ℕ) → Turn Reply
  export : Option auth_unix → (next : ℕ) → Turn Reply
  getport : Option auth_unix → mapping → (next : ℕ) → Turn Reply

abbrev pub Due : Type 0
Due = Turn rpc_msg

abbrev pub Said : Type 0
Said = Turn ℕ

-- the versions that are served
abbrev pub mount_serves : ℕ
mount_serves = 3

abbrev pub portmap_serves : ℕ
portmap_serves = 2

-- the arguments at a place of a message: a path, and a mapping
abbrev pub path_at : List ℕ → ℕ → Answer Piece
path_at s p = opened s p (dirpath.held.read s p)

abbrev pub mapping_at : List ℕ → ℕ → Answer mapping
mapping_at s p = opened s p (port_mapping.kind.read s p)

-- arguments that were taken are handed on; else the call is refused as they are
abbrev pub taking : {R A : Type 0} → (A → ℕ → Turn R) → Answer A → Turn R
taking to (took x n b) = to x n
taking to (refused r) = refuse r

-- a call with the version v, where `serves` is served: another version is answered first, whatever the procedure calls for
unfoldable pub in_version : (xid serves v : ℕ) → Due → Due
in_version xid serves v d = cond (eqb v serves) d (reply (prog_mismatch xid serves))

-- a call in the message s: its xid, what it says of the caller, and where its arguments begin
module _ (s : List ℕ) (xid : ℕ) (a : Option auth_unix) (args : ℕ) where
  -- by its procedure: NULL, MNT, UMNT and EXPORT
  unfoldable pub mount_procedure : ℕ → Due
  mount_procedure f =
      cond (eqb f 0) (reply (success xid))
      (cond (eqb f 1) (taking (mnt a) (path_at s args))
      (cond (eqb f 3) (taking (umnt a) (path_at s args)) (cond (eqb f 5) (export a args) (reply (proc_unavail xid)))))

  -- NULL and GETPORT
  unfoldable pub portmap_procedure : ℕ → Due
  portmap_procedure f =
      cond (eqb f 0) (reply (success xid)) (cond (eqb f 3) (taking (getport a) (mapping_at s args)) (reply (proc_unavail xid)))

  -- by its program, version and procedure
  unfoldable pub handed_on : (p v f : ℕ) → Due
  unfolding in_version mount_procedure portmap_procedure
  handed_on p v f =
      cond (eqb p 100005) (in_version xid mount_serves v (mount_procedure f))
      (cond (eqb p 100000) (in_version xid portmap_serves v (portmap_procedure f)) (hand_over p v f a args))

-- the xid of a message is its first word (0 if there is none, but a message that is handed over has one: `HandedOver`)
abbrev pub value_of : Answer ℕ → ℕ
value_of (took x n b) = x
value_of (refused r) = 0

unfoldable pub xid_of : List ℕ → ℕ
xid_of s = value_of (opened s 0 (word.kind.read s 0))

-- what the choice of program decides; a hand_over is looked at further
abbrev pub after : List ℕ → choice.Decision → Due
after s (choice.refuse r) = refuse r
after s (choice.reply m) = reply m
after s choice.silence = silence
after s (choice.hand_over p v f a n) = handed_on s (xid_of s) a n p v f

unfoldable pub due : List ℕ → Bool → Due
due s seen = after s (choice.decided crate s seen)

-- of a message that is handed over with arguments at n: it was read as an rpc_msg that ends there, and has that one's xid
pub record HandedOver (s : List ℕ) (n : ℕ) : Type 0 where
  pub message : rpc_msg
  pub plain : Bool
  pub reads : opened s 0 (rpc-msg.held.read s 0) ≡ took message n plain
  pub xid : xid_of s ≡ message.xid

pub record Outcome : Type 0 where
  pub said : Said
  pub held : List ℕ

abbrev pub outcome : Said → List ℕ → Outcome
outcome c o = record { said = c; held = o }

-- the bytes that a reply has: 24, or 32 if it names a version
abbrev pub size : rpc_msg → ℕ
size m = length (output rpc-msg [] m)

-- a reply is written from place 0; refusal 5 where the output is shorter. (The replies have no pieces, so no source.)
unfoldable pub replying : rpc_msg → List ℕ → Outcome
replying m o = cond (leb (size m) (length o)) (outcome (reply (size m)) (output rpc-msg [] m ++ drop (size m) o)) (outcome (refuse (NoRoom (size m))) o)

-- what is due, carried out on the output o
abbrev pub carried_out : Due → List ℕ → Outcome
carried_out (refuse r) o = outcome (refuse r) o
carried_out (reply m) o = replying m o
carried_out silence o = outcome silence o
carried_out (hand_over p v f a n) o = outcome (hand_over p v f a n) o
carried_out (mnt a x n) o = outcome (mnt a x n) o
carried_out (umnt a x n) o = outcome (umnt a x n) o
carried_out (export a n) o = outcome (export a n) o
carried_out (getport a x n) o = outcome (getport a x n) o

-- the contract of `ask`: its answer c to the message s, and the output o' that it leaves of o; and the message is bytes
pub record Asks (s : List ℕ) (seen : Bool) (o : List ℕ) (c : Said) (o' : List ℕ) : Type 0 where
  pub is : outcome c o' ≡ carried_out (due s seen) o
  pub bytes : Bytes s

-- what is left of the output: a reply changes its own bytes, and nothing else changes any
abbrev pub Leaves : Said → List ℕ → List ℕ → Type 0
Leaves (refuse r) o o' = o' ≡ o
Leaves (reply n) o o' = (n ≤ length o) × (drop n o' ≡ drop n o) × (length o' ≡ length o)
Leaves silence o o' = o' ≡ o
Leaves (hand_over p v f a n) o o' = o' ≡ o
Leaves (mnt a x n) o o' = o' ≡ o
Leaves (umnt a x n) o o' = o' ≡ o
Leaves (export a n) o o' = o' ≡ o
Leaves (getport a x n) o o' = o' ≡ o

-- of an answer c and an output o', where d is due
pub record TurnPromised (d : Due) (o : List ℕ) (c : Said) (o' : List ℕ) : Type 0 where
  -- any other that is permitted is the same
  pub one : {e : Said} {q : List ℕ} → outcome e q ≡ carried_out d o → (c ≡ e) × (o' ≡ q)
  -- all but a reply's bytes stay
  pub leaves : Leaves c o o'
  -- 5 is given exactly if a reply is due and the output is shorter, with the bytes that it needs
  pub five_iff : (k : ℕ) → (c ≡ refuse (NoRoom k)) ↔ ((m : rpc_msg) × (d ≡ reply m) × (k ≡ size m) × (length o < k))
  -- a reply that is due has 24 bytes or 32; if there is room it is given, with exactly its bytes, and reads back as that message
  pub sizes : {m : rpc_msg} → d ≡ reply m → (size m ≡ 24) ⊎ (size m ≡ 32)
  pub replies : {m : rpc_msg} → d ≡ reply m → size m ≤ length o → (c ≡ reply (size m)) × (o' ≡ output rpc-msg [] m ++ drop (size m) o)
  pub back : {m : rpc_msg} → d ≡ reply m → size m ≤ length o → Back rpc-msg [] m 0 (size m) o'
