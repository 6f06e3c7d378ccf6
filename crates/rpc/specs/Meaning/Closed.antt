-- The closed enumerations of RFC 5531 that are the same in every reading: a word that is none of the numbers is refusal 2.
-- Assumes nothing.
use Rattle.std.specs.Prelude.{◌≡◌, refl, List, [], ◌∷◌, ℕ}
use Rattle.xdr.specs.Meaning.Kind.{Codec}
use Rattle.xdr.specs.Meaning.Combinators.{means}
use Rattle.xdr.specs.Meaning.Items.{closed}
use Rattle.xdr.specs.Meaning.Combinators.{among}
use Rattle.rpc.specs.declared.message.msg_type.{msg_type}
use Rattle.rpc.specs.declared.message.msg_type.TheVariants as msgType
use Rattle.rpc.specs.declared.reply.reply_stat.{reply_stat}
use Rattle.rpc.specs.declared.reply.reply_stat.TheVariants as replyStat
use Rattle.rpc.specs.declared.reply.reject_stat.{reject_stat}
use Rattle.rpc.specs.declared.reply.reject_stat.TheVariants as rejectStat
use Rattle.rpc.specs.declared.auth.auth_flavor.{auth_flavor}
use Rattle.rpc.specs.declared.auth.auth_flavor.TheVariants as flavor

-- the tag of rpc_body: 0 and 1
abbrev pub msg_type_number : msg_type → ℕ
msg_type_number msgType.CALL = 0
msg_type_number msgType.REPLY = 1

abbrev pub msg_types : List msg_type
msg_types = msgType.CALL ∷ msgType.REPLY ∷ []

pub each_msg_type : (a : msg_type) → among msg_type_number msg_types (msg_type_number a) ≡ means a []
each_msg_type msgType.CALL = refl
each_msg_type msgType.REPLY = refl

unfoldable pub msg-type : Codec msg_type
msg-type = closed msg_type_number msg_types each_msg_type

-- the tag of reply_body: 0 and 1
abbrev pub reply_stat_number : reply_stat → ℕ
reply_stat_number replyStat.MSG_ACCEPTED = 0
reply_stat_number replyStat.MSG_DENIED = 1

abbrev pub reply_stats : List reply_stat
reply_stats = replyStat.MSG_ACCEPTED ∷ replyStat.MSG_DENIED ∷ []

pub each_reply_stat : (a : reply_stat) → among reply_stat_number reply_stats (reply_stat_number a) ≡ means a []
each_reply_stat replyStat.MSG_ACCEPTED = refl
each_reply_stat replyStat.MSG_DENIED = refl

unfoldable pub reply-stat : Codec reply_stat
reply-stat = closed reply_stat_number reply_stats each_reply_stat

-- the tag of rejected_reply: 0 and 1
abbrev pub reject_stat_number : reject_stat → ℕ
reject_stat_number rejectStat.RPC_MISMATCH = 0
reject_stat_number rejectStat.AUTH_ERROR = 1

abbrev pub reject_stats : List reject_stat
reject_stats = rejectStat.RPC_MISMATCH ∷ rejectStat.AUTH_ERROR ∷ []

pub each_reject_stat : (a : reject_stat) → among reject_stat_number reject_stats (reject_stat_number a) ≡ means a []
each_reject_stat rejectStat.RPC_MISMATCH = refl
each_reject_stat rejectStat.AUTH_ERROR = refl

unfoldable pub reject-stat : Codec reject_stat
reject-stat = closed reject_stat_number reject_stats each_reject_stat

-- auth_flavor: 0 to 3
abbrev pub flavor_number : auth_flavor → ℕ
flavor_number flavor.AUTH_NULL = 0
flavor_number flavor.AUTH_UNIX = 1
flavor_number flavor.AUTH_SHORT = 2
flavor_number flavor.AUTH_DES = 3

abbrev pub flavors : List auth_flavor
flavors = flavor.AUTH_NULL ∷ flavor.AUTH_UNIX ∷ flavor.AUTH_SHORT ∷ flavor.AUTH_DES ∷ []

pub each_auth_flavor : (a : auth_flavor) → among flavor_number flavors (flavor_number a) ≡ means a []
each_auth_flavor flavor.AUTH_NULL = refl
each_auth_flavor flavor.AUTH_UNIX = refl
each_auth_flavor flavor.AUTH_SHORT = refl
each_auth_flavor flavor.AUTH_DES = refl

unfoldable pub auth-flavor : Codec auth_flavor
auth-flavor = closed flavor_number flavors each_auth_flavor
