-- Choosing the program (docs/SCOPE.md, section 10): what a message calls for, what is then answered, and what the output buffer holds.
-- Assumes nothing.
use Rattle.std.specs.Prelude.{◌≡◌, ◌↔◌, ◌⊎◌, Bool, ◌||◌, List, [], ◌++◌, ℕ, ◌≤◌, ◌<◌, eqb, leb, length, drop}
use Rattle.std.proofs.Common.{inl, inr}
use Rattle.std.proofs.Math.Bool.{cond}
use Rattle.std.proofs.Math.Option.{Option, none, some}
use Rattle.xdr.specs.Meaning.Bytes.{Bytes}
use Rattle.xdr.specs.Meaning.Answer.{Answer, took, refused, opened}
use Rattle.xdr.specs.Meaning.Public.{output}
use Rattle.rpc.specs.Meaning.Reading.{Reading}
use Rattle.rpc.specs.Meaning.Message.{rpc_msg_of}
use Rattle.rpc.specs.Meaning.Crate.{rpc-msg}
use Rattle.rpc.specs.Meaning.Makers.{vers_mismatch_of, prog_unavail}
use Rattle.rpc.specs.Meaning.UnixIn.{unix_in}
use Rattle.rpc.specs.declared.auth.auth_flavor.{auth_flavor}
use Rattle.rpc.specs.declared.auth.auth_flavor.TheVariants.{AUTH_NULL, AUTH_UNIX, AUTH_SHORT, AUTH_DES}
use Rattle.rpc.specs.declared.auth.auth_unix.{auth_unix}
use Rattle.rpc.specs.declared.message.call_body.{call_body}
use Rattle.rpc.specs.declared.message.rpc_msg.{rpc_msg}
use Rattle.xdr.specs.declared.refusal.Refusal.{Refusal}
use Rattle.xdr.specs.declared.refusal.Refusal.TheVariants.{NoRoom, NotCall}

-- What a message calls for, whatever the output is: a refusal; a reply; silence; or the hand_over, with
-- program, version, procedure, the auth_unix or none, and the place where the arguments begin.
pub data Decision : Type 0 where
  refuse : Refusal → Decision
  reply : rpc_msg → Decision
  silence : Decision
  hand_over : (prog vers proc : ℕ) → Option auth_unix → (args : ℕ) → Decision

-- nfs, portmap and mount
abbrev pub served : ℕ → Bool
served p = eqb p 100003 || (eqb p 100000 || eqb p 100005)

-- `serves` is what a server names as the version of RPC that it serves
module _ (seen : Bool) (serves : ℕ) (xid : ℕ) (c : call_body) (a : Option auth_unix) (args : ℕ) where
  unfoldable pub by_program : Decision
  by_program = cond (served c.prog) (hand_over c.prog c.vers c.proc a args) (reply (prog_unavail xid))

  -- a call whose credential is read
  unfoldable pub by_version : Decision
  unfolding by_program
  by_version = cond (eqb c.rpcvers 2) (cond seen silence by_program) (reply (vers_mismatch_of serves xid))

module _ (s : List ℕ) (seen : Bool) (serves : ℕ) where
  -- the auth_unix of an AUTH_UNIX credential, with the body's end as the end
  abbrev pub by_unix : (xid : ℕ) → call_body → (args : ℕ) → Answer auth_unix → Decision
  by_unix xid c args (took a n b) = by_version seen serves xid c (some a) args
  by_unix xid c args (refused r) = refuse r

  abbrev pub by_flavor : (xid : ℕ) → call_body → (args : ℕ) → auth_flavor → Decision
  by_flavor xid c args AUTH_UNIX = by_unix xid c args (unix_in s c.cred.body)
  by_flavor xid c args AUTH_NULL = by_version seen serves xid c none args
  by_flavor xid c args AUTH_SHORT = by_version seen serves xid c none args
  by_flavor xid c args AUTH_DES = by_version seen serves xid c none args

-- in a reading, which says what a message is and which version is served
module _ {Stat Auth Accept Rejected Accepted Reply Body Msg : Type 0} (R : Reading Stat Auth Accept Rejected Accepted Reply Body Msg) (s : List ℕ) (seen : Bool) where
  abbrev pub by_body : (xid args : ℕ) → call_body ⊎ Reply → Decision
  by_body xid args (inl c) = by_flavor s seen R.serves xid c args c.cred.flavor
  by_body xid args (inr r) = refuse NotCall

  -- the rpc_msg at the message's start, with refusals 3, 1 and 2; the arguments begin behind it
  abbrev pub by_message : Answer Msg → Decision
  by_message (took m n b) = by_body (R.msg.from m).0 n (R.body.from (R.msg.from m).1)
  by_message (refused r) = refuse r

  unfoldable pub decided : Decision
  unfolding by_version
  decided = by_message (opened s 0 ((rpc_msg_of R).held.read s 0))

-- What is answered: a refusal, a reply of so many bytes at the front of the output, silence, or the hand_over.
pub data Chosen : Type 0 where
  turned_away : Refusal → Chosen
  replied : ℕ → Chosen
  silent : Chosen
  handed : (prog vers proc : ℕ) → Option auth_unix → (args : ℕ) → Chosen

pub record Outcome : Type 0 where
  pub said : Chosen
  pub held : List ℕ

abbrev pub outcome : Chosen → List ℕ → Outcome
outcome c o = record { said = c; held = o }

-- a reply is 24 bytes, written from place 0; refusal 5 where the output is shorter. (The two replies have no pieces, so no source.)
unfoldable pub replying : rpc_msg → List ℕ → Outcome
replying m o = cond (leb 24 (length o)) (outcome (replied 24) (output rpc-msg [] m ++ drop 24 o)) (outcome (turned_away (NoRoom 24)) o)

-- a decision carried out on the output o
abbrev pub carried_out : Decision → List ℕ → Outcome
carried_out (refuse r) o = outcome (turned_away r) o
carried_out (reply m) o = replying m o
carried_out silence o = outcome silent o
carried_out (hand_over p v f a n) o = outcome (handed p v f a n) o

-- the contract of `choose` in a reading: its answer c to the message s, and the output o' that it leaves of o; and the message is bytes
pub record Chooses {Stat Auth Accept Rejected Accepted Reply Body Msg : Type 0} (R : Reading Stat Auth Accept Rejected Accepted Reply Body Msg) (s : List ℕ) (seen : Bool) (o : List ℕ)
    (c : Chosen) (o' : List ℕ) : Type 0 where
  pub is : outcome c o' ≡ carried_out (decided R s seen) o
  pub bytes : Bytes s

-- what is left of the output: a reply changes the first 24 bytes, and nothing else changes any
abbrev pub Leaves : Chosen → List ℕ → List ℕ → Type 0
Leaves (turned_away r) o o' = o' ≡ o
Leaves (replied n) o o' = (n ≡ 24) × (24 ≤ length o) × (drop 24 o' ≡ drop 24 o) × (length o' ≡ length o)
Leaves silent o o' = o' ≡ o
Leaves (handed p v f a n) o o' = o' ≡ o

-- of an answer and an output that the contract permits
pub record ChoicePromised {Stat Auth Accept Rejected Accepted Reply Body Msg : Type 0} (R : Reading Stat Auth Accept Rejected Accepted Reply Body Msg) (s : List ℕ) (seen : Bool) (o : List ℕ)
    (c : Chosen) (o' : List ℕ) : Type 0 where
  -- any other that it permits is the same
  pub one : {d : Chosen} {e : List ℕ} → Chooses R s seen o d e → (c ≡ d) × (o' ≡ e)
  -- all but a reply's bytes stay
  pub leaves : Leaves c o o'
  -- 5 is given exactly if a reply is due and the output is shorter; else a reply that is due is given
  pub five_iff : (c ≡ turned_away (NoRoom 24)) ↔ ((m : rpc_msg) × (decided R s seen ≡ reply m) × (length o < 24))
  pub replies : {m : rpc_msg} → decided R s seen ≡ reply m → 24 ≤ length o → (c ≡ replied 24) × (o' ≡ output rpc-msg [] m ++ drop 24 o)
