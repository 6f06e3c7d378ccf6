-- Worked bytes of arguments and results (RFC 1813, section 3.3), and that every row is right.
-- Assumes nothing.
use Rattle.std.specs.Prelude.{◌≡◌, refl, true, false, List, [], ◌∷◌, ℕ}
use Rattle.std.proofs.Math.Option.{none, some}
use Rattle.xdr.specs.Meaning.Answer.{took, refused, opened}
use Rattle.xdr.specs.Meaning.Items.{number, word, hyper, flag, opaque}
use Rattle.xdr.specs.Meaning.Formats.{piece_held}
use Rattle.xdr.specs.Meaning.Status.{ok, failed}
use Rattle.xdr.specs.Meaning.Programs.{read_by}
use Rattle.xdr.specs.declared.refusal.Refusal.TheVariants.{Ended, Undeclared}
use Rattle.nfsattr.specs.Meaning.Stat.{nfsstat}
use Rattle.nfsattr.specs.Meaning.Attr.{post-op-attr, pre-op-attr, wcc-data, nfstime, wcc-attr, fattr, ftype}
use Rattle.nfsattr.specs.declared.stat.nfsfail3.TheVariants.{NFS3ERR_STALE, NFS3ERR_IO}
use Rattle.nfsattr.specs.declared.attr.post_op_attr.TheVariants as post
use Rattle.nfs.specs.Meaning.Dir.{nfs_fh}
use Rattle.nfsfile.specs.Meaning.Getattr.{getattr_args, getattr_resok, getattr_res}
use Rattle.nfsdata.specs.Meaning.Read.{read_args, read_resok, read_resfail, read_res}
use Rattle.nfsdata.specs.Meaning.Write.{stable-how, write_args, write_resok, write_resfail, write_res}
use Rattle.nfsproc.specs.Meaning.Procedures.{arguments_by_number}
use Rattle.nfsdata.specs.declared.write.stable_how.TheVariants.{FILE_SYNC}
use Rattle.nfsproc.specs.declared.procedures.Arguments.TheVariants as is
use Rattle.worked.specs.Row.{Row, reading, holding, All}

abbrev pub rows : List Row
rows =
    -- a READ that came to the end of the file, by a flag of FFFFFFFF, with one byte of data and rubbish behind it
    reading read_res
    (0 ∷ 0 ∷ 0 ∷ 0 ∷ 0 ∷ 0 ∷ 0 ∷ 0 ∷ 0 ∷ 0 ∷ 0 ∷ 1 ∷ 0xFF ∷ 0xFF ∷ 0xFF ∷ 0xFF ∷ 0 ∷ 0 ∷ 0 ∷ 1 ∷ 0xAA ∷ 0 ∷ 0 ∷ 7 ∷ [])
    (took (ok (record { file_attributes = post.Void; count = 1; eof = true; «data» = 0xAA ∷ [] })) 24 false)
    (0 ∷ 0 ∷ 0 ∷ 0 ∷ 0 ∷ 0 ∷ 0 ∷ 0 ∷ 0 ∷ 0 ∷ 0 ∷ 1 ∷ 0 ∷ 0 ∷ 0 ∷ 1 ∷ 0 ∷ 0 ∷ 0 ∷ 1 ∷ 0xAA ∷ 0 ∷ 0 ∷ 0 ∷ [])
    -- a READ that failed: no data is read, whatever follows
    ∷ reading read_res (0 ∷ 0 ∷ 0 ∷ 5 ∷ 0 ∷ 0 ∷ 0 ∷ 0 ∷ 0 ∷ 0 ∷ 0 ∷ 1 ∷ []) (took (failed NFS3ERR_IO (record { file_attributes = post.Void })) 8 true) (0 ∷ 0 ∷ 0 ∷ 5 ∷ 0 ∷ 0 ∷ 0 ∷ 0 ∷ [])
    -- nothing follows the failure of a GETATTR; success wants 84 bytes of attributes, of which the first word is wanting first
    ∷ reading getattr_res (0 ∷ 0 ∷ 0 ∷ 70 ∷ []) (took (failed NFS3ERR_STALE tt) 4 true) (0 ∷ 0 ∷ 0 ∷ 70 ∷ [])
    ∷ reading getattr_res (0 ∷ 0 ∷ 0 ∷ 0 ∷ []) (refused (Ended 4 4)) []
    -- 3 is no status
    ∷ reading getattr_res (0 ∷ 0 ∷ 0 ∷ 3 ∷ []) (refused (Undeclared 0)) []
    -- committed is 0 to 2
    ∷ reading write_res
    (0 ∷ 0 ∷ 0 ∷ 0 ∷ 0 ∷ 0 ∷ 0 ∷ 0 ∷ 0 ∷ 0 ∷ 0 ∷ 0 ∷ 0 ∷ 0 ∷ 0 ∷ 1 ∷ 0 ∷ 0 ∷ 0 ∷ 3 ∷ 1 ∷ 2 ∷ 3 ∷ 4 ∷ 5 ∷ 6 ∷ 7 ∷ 8 ∷ []) (refused (Undeclared 16)) []
    -- a WRITE of one byte to a file with a handle of one: where the pieces lie
    ∷ holding write_args
    (0 ∷ 0 ∷ 0 ∷ 1 ∷ 9 ∷ 0 ∷ 0 ∷ 0 ∷ 0 ∷ 0 ∷ 0 ∷ 0 ∷ 0 ∷ 0 ∷ 0 ∷ 7 ∷ 0 ∷ 0 ∷ 0 ∷ 1 ∷ 0 ∷ 0 ∷ 0 ∷ 2 ∷ 0 ∷ 0 ∷ 0 ∷ 1 ∷ 0xAA ∷ 0 ∷ 0 ∷ 0 ∷ []) 0
    (took
    (record {
      file = record { «data» = record { at = 4; count = 1; clean = true } };
      offset = 7;
      count = 1;
      stable = FILE_SYNC;
      «data» = record { at = 28; count = 1; clean = true };
    })
    32
    true)
    ∷ []

pub worked : All rows
unfolding opened number word hyper flag opaque piece_held nfsstat post-op-attr pre-op-attr wcc-data wcc-attr nfstime fattr ftype nfs_fh getattr_resok getattr_res read_resok read_resfail read_res stable-how write_args write_resok write_resfail write_res
worked = ((refl, refl), ((refl, refl), ((refl, refl), ((refl, refl), ((refl, refl), ((refl, refl), (refl, tt)))))))

-- by number: 1 is GETATTR, and 4 is another procedure
pub first : read_by (0 ∷ 0 ∷ 0 ∷ 0 ∷ []) 0 arguments_by_number 1 ≡ some (took (is.GETATTR (record { object = record { «data» = record { at = 4; count = 0; clean = true } } })) 4 true)
unfolding opened number word opaque piece_held nfs_fh getattr_args
first = refl

pub fourth : read_by (0 ∷ 0 ∷ 0 ∷ 0 ∷ []) 0 arguments_by_number 4 ≡ none
fourth = refl
