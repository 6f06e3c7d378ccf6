-- The messages that have bytes in them: what a value of the code, which holds pieces, means in its source. (The other kinds hold their
-- message as it is.) Those of a reply are over the types A and R that a reading (Meaning/Reading) has for accept_body and rejected_reply.
-- Assumes nothing.
use Rattle.std.specs.Prelude.{List, ℕ}
use Rattle.rpc.specs.declared.auth.auth_flavor.{auth_flavor}

pub record OpaqueAuth : Type 0 where
  pub flavor : auth_flavor
  pub body : List ℕ

pub record AuthUnix : Type 0 where
  pub stamp : ℕ
  pub machinename : List ℕ
  pub uid : ℕ
  pub gid : ℕ
  pub gids : List ℕ

pub record CallBody : Type 0 where
  pub rpcvers : ℕ
  pub prog : ℕ
  pub vers : ℕ
  pub proc : ℕ
  pub cred : OpaqueAuth
  pub verf : OpaqueAuth

pub record AcceptedReply (A : Type 0) : Type 0 where
  pub verf : OpaqueAuth
  pub reply_data : A

pub data ReplyBody (A R : Type 0) : Type 0 where
  accepted : AcceptedReply A → ReplyBody A R
  denied : R → ReplyBody A R

pub data RpcBody (A R : Type 0) : Type 0 where
  call : CallBody → RpcBody A R
  reply : ReplyBody A R → RpcBody A R

pub record RpcMsg (A R : Type 0) : Type 0 where
  pub xid : ℕ
  pub body : RpcBody A R
