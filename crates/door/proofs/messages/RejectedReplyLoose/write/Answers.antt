-- made by tools/generate from kinds.txt
use borrow.Author.Rules.{rules}
use Rattle.door.specs.Laws.Copy.{unsourced}
use Rattle.door.proofs.messages.RejectedReplyLoose.write.Goals as goal

pub returns : goal.returns
returns c = unsourced _ _ _ _ c.requires c.write_rejected_reply.ensures (search rules)
