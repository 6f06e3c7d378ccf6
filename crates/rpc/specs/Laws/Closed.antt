-- The closed enumerations by their numbers, for the laws of reading and writing them.
-- Assumes nothing.
use Rattle.std.proofs.Math.Path.{refl}
use Rattle.xdr.specs.Laws.Keys.{Numbered, key-writes}
use Rattle.rpc.specs.Meaning.Closed.{msg-type, msg_type_number, msg_types, each_msg_type, reply-stat, reply_stat_number, reply_stats, each_reply_stat, reject-stat, reject_stat_number, reject_stats, each_reject_stat, auth-flavor, flavor_number, flavors, each_auth_flavor}
use Rattle.rpc.specs.Meaning.Reading.{Reading}
use Rattle.rpc.specs.Meaning.Reply.{accept_stat_of, auth_stat_of}
use Rattle.rpc.specs.Meaning.Crate.{accept_stat_number, accept_stats, auth_stat_number, auth_stats, crate, accept-stat, auth-stat}

pub msg-type-numbered : Numbered msg-type msg_type_number msg_types
unfolding msg-type
msg-type-numbered = record { each = each_msg_type; is = refl }

pub reply-stat-numbered : Numbered reply-stat reply_stat_number reply_stats
unfolding reply-stat
reply-stat-numbered = record { each = each_reply_stat; is = refl }

pub reject-stat-numbered : Numbered reject-stat reject_stat_number reject_stats
unfolding reject-stat
reject-stat-numbered = record { each = each_reject_stat; is = refl }

pub auth-flavor-numbered : Numbered auth-flavor flavor_number flavors
unfolding auth-flavor
auth-flavor-numbered = record { each = each_auth_flavor; is = refl }

-- those of a reading
module _ {Stat Auth Accept Rejected Accepted Reply Body Msg : Type 0} (R : Reading Stat Auth Accept Rejected Accepted Reply Body Msg) where
  pub accept-stat-numbered : Numbered (accept_stat_of R) R.stat_number R.stats
  unfolding accept_stat_of
  accept-stat-numbered = record { each = R.each_stat; is = refl }

  pub auth-stat-numbered : Numbered (auth_stat_of R) R.auth_number R.auths
  unfolding auth_stat_of
  auth-stat-numbered = record { each = R.each_auth; is = refl }

pub crate-stat-numbered : Numbered accept-stat accept_stat_number accept_stats
crate-stat-numbered = accept-stat-numbered crate

pub crate-auth-numbered : Numbered auth-stat auth_stat_number auth_stats
crate-auth-numbered = auth-stat-numbered crate

pub ruleset numbers = (msg-type-numbered, reply-stat-numbered, reject-stat-numbered, auth-flavor-numbered, crate-stat-numbered, crate-auth-numbered)

-- what a writer's proof cites
pub ruleset numbered = (key-writes, numbers)
