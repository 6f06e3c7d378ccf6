-- A reading of RFC 5531: which accept statuses and which authentication numbers it declares. Two are built: the crate's, with its older lists
-- (Meaning/Crate), and the current one, with RFC 5531's own (Meaning/Current). What depends on the lists is defined over a reading
-- (Meaning/Reply, Meaning/Message); all else is the same in both.
-- Assumes nothing.
use Rattle.std.specs.Prelude.{◌≡◌, refl, ◌⊎◌, List, [], ◌∷◌, ℕ, zero, suc, ◌≤◌, ◌<◌}
use Rattle.xdr.specs.Meaning.Answer.{stray_tag}
use Rattle.xdr.specs.Meaning.Kind.{Codec}
use Rattle.xdr.specs.Meaning.Combinators.{Seen, means, among}
use Rattle.xdr.specs.Meaning.Codecs.{void, ◌⨾◌, mapped}
use Rattle.xdr.specs.Meaning.Items.{word}
use Rattle.xdr.specs.Meaning.Format.{exactly, Branch, branch}
use Rattle.rpc.specs.declared.auth.opaque_auth.{opaque_auth}
use Rattle.rpc.specs.declared.message.call_body.{call_body}
use Rattle.rpc.specs.declared.reply.mismatch_info.{mismatch_info}

unfoldable pub mismatch-info : Codec mismatch_info
mismatch-info = mapped (word ⨾ word) (λ x. record { low = x.0; high = x.1 }) (λ m. (m.low, m.high)) (λ x. refl) (λ m. refl)

-- what follows an accept status: the versions behind PROG_MISMATCH, and nothing behind any other
abbrev pub accept_arms : ℕ → Branch
accept_arms zero = branch (exactly void)
accept_arms (suc zero) = branch (exactly void)
accept_arms (suc (suc zero)) = branch (exactly mismatch-info)
accept_arms (suc (suc (suc n))) = branch (exactly void)

-- a type of the code, which has what S has under its own names
pub record Same (S T : Type 0) : Type 0 where
  pub to : S → T
  pub from : T → S
  pub from_to : (x : S) → from (to x) ≡ x
  pub to_from : (y : T) → to (from y) ≡ y

-- the lists, and the code's types that depend on them
pub record Reading (Stat Auth Accept Rejected Accepted Reply Body Msg : Type 0) : Type 0 where
  -- the accept statuses, by number
  pub stat_number : Stat → ℕ
  pub stats : List Stat
  pub each_stat : (a : Stat) → among stat_number stats (stat_number a) ≡ means a []
  -- the authentication numbers
  pub auth_number : Auth → ℕ
  pub auths : List Auth
  pub each_auth : (a : Auth) → among auth_number auths (auth_number a) ≡ means a []
  -- accept_body, by its status: those below `count` are declared, each a case of its own; tolerance 5: any other is GARBAGE_ARGS, which is 4
  pub count : ℕ
  pub see : (tag : ℕ) → (accept_arms tag).Msg → Seen Accept
  pub from : Accept → (tag : ℕ) × (accept_arms tag).Msg
  pub declared : (tag : ℕ) → tag < count → (x : (accept_arms tag).Msg) → (m : Accept) × (see tag x ≡ means m []) × (from m ≡ (tag, x))
  pub stray : (tag : ℕ) → count ≤ tag → (x : (accept_arms tag).Msg) → (m : Accept) × (see tag x ≡ means m (stray_tag ∷ [])) × (from m ≡ (4, tt))
  pub back : (m : Accept) → see (from m).0 (from m).1 ≡ means m []
  -- SUCCESS, which a stray reply is read as
  pub success : Accept
  pub success_is : from success ≡ (0, tt)
  -- the code's own types
  pub rejected : Same (mismatch_info ⊎ Auth) Rejected
  pub accepted : Same (opaque_auth × Accept) Accepted
  pub reply : Same (Accepted ⊎ Rejected) Reply
  pub body : Same (call_body ⊎ Reply) Body
  pub msg : Same (ℕ × Body) Msg
  -- what a server that reads so names as the lowest and the highest version of RPC that it serves
  pub serves : ℕ
