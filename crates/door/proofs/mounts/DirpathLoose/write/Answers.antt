-- made by tools/generate from kinds.txt
use Rattle.mount.specs.Laws.Path.{dirpath-bounded}
use Rattle.door.specs.Laws.Copy.{bounded}
use Rattle.door.proofs.mounts.DirpathLoose.write.Goals as goal

pub returns : goal.returns
returns c = bounded dirpath-bounded _ _ _ c.requires c.write_dirpath.ensures
