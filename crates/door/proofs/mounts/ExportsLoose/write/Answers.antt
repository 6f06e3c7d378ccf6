-- made by tools/generate from kinds.txt
use Rattle.mount.specs.Laws.Export.{exports-bounded}
use Rattle.door.specs.Laws.Copy.{bounded}
use Rattle.door.proofs.mounts.ExportsLoose.write.Goals as goal

pub returns : goal.returns
returns c = bounded exports-bounded _ _ _ c.requires c.write_exports.ensures
