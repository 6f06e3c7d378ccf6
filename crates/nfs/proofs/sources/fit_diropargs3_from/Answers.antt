use Rattle.nfs.specs.Laws.Sources.{dir-fit-ready, dir-fit-on}
use Rattle.nfs.proofs.SourceRanges.{dir-from-good}
use Rattle.nfs.proofs.sources.fit_diropargs3_from.Goals as goal

-- each source is short, and its piece lies inside
pub put_diropargs3_from-requires-clause-dir_ready : goal.put_diropargs3_from-requires-clause-dir_ready
put_diropargs3_from-requires-clause-dir_ready c =
    dir-fit-ready _ _ _ _ _ c.if-dirs-gt-MOST.false c.if-names-gt-MOST.false c.nfs_fh3_inside.ensures c.if-not-nfs_fh3_inside.false c.inside.ensures
    c.if-not-inside.false

pub returns : goal.returns
returns c = search (dir-fit-on, dir-from-good)
