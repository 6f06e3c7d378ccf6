-- Every row of the table is right.
-- Assumes nothing.
use Rattle.std.specs.Prelude.{refl}
use Rattle.xdr.specs.Meaning.Answer.{opened}
use Rattle.xdr.specs.Meaning.Items.{number, word, word_pair, hyper, flag, int, opaque, words}
use Rattle.xdr.specs.Meaning.Formats.{piece_held, words_held}
use Rattle.rpc.specs.Meaning.Closed.{auth-flavor}
use Rattle.rpc.specs.Meaning.Auth.{opaque-auth}
use Rattle.rpc.specs.Meaning.Reading.{mismatch-info}
use Rattle.rpc.specs.Meaning.Reply.{auth_stat_of, accept_body_of, accepted_reply_of, rejected_reply_of, reply_body_of}
use Rattle.rpc.specs.Meaning.Message.{call-body, rpc_body_of, rpc_msg_of}
use Rattle.nfsattr.specs.Meaning.Attr.{nfstime}
use Rattle.nfs.specs.Meaning.Change.{set_mode, set_uid, set_gid, set_size}
use Rattle.nfs.specs.Meaning.Set.{set_time, set-atime, set-mtime, sattr}
use Rattle.nfs.specs.Meaning.Dir.{nfs_fh, diropargs}
use Rattle.rpcwire.specs.Meaning.Stream.{feed_of, begin, advance, after, step_at, header_byte, headed, settled, fits_of}
use Rattle.worked.specs.Row.{All}
use Rattle.worked.specs.Table.{rows}

pub worked : All rows
unfolding opened number word word_pair hyper flag int opaque words piece_held words_held nfs_fh diropargs auth-flavor auth_stat_of opaque-auth mismatch-info accept_body_of accepted_reply_of rejected_reply_of reply_body_of call-body rpc_body_of rpc_msg_of nfstime set_mode set_uid set_gid set_size set_time set-atime set-mtime sattr feed_of begin advance after step_at header_byte headed settled fits_of
worked =
    ((refl, refl), ((refl, refl), ((refl, refl), ((refl, refl), ((refl, refl), ((refl, refl), ((refl, refl), ((refl, refl), ((refl, refl), ((refl, refl), ((refl, refl), (refl, (refl, ((refl, refl), ((refl, refl), ((refl, refl), ((refl, refl), ((refl, refl), ((refl, refl), (refl, (refl, (refl, (refl, (refl, tt))))))))))))))))))))))))
