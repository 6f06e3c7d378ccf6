-- made by tools/generate from crates/mount/rfc/mnt.x
use Rattle.xdr.specs.Laws.Tags.{tag-lost, tag-none, tag_is}
use Rattle.xdr.specs.Laws.Answers.{tries, exit}
use Rattle.mount.specs.Meaning.Mnt.{mountstat, mountstat_number, mountstat_all, each_mountstat}
use Rattle.mount.proofs.mnt.mountstat3_at.Goals as goal

pub returns-in_err-v : goal.returns-in_err-v
unfolding mountstat
returns-in_err-v c = search (tag-lost mountstat_number mountstat_all each_mountstat, tries, exit c.from_residual.ensures.1)

pub returns-in_default : goal.returns-in_default
unfolding mountstat
returns-in_default c = search (tag-none mountstat_number mountstat_all each_mountstat, tries)

pub returns : goal.returns
unfolding mountstat
returns c = search (tag_is mountstat_number mountstat_all each_mountstat, tries)
