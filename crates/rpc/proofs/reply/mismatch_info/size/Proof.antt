use Rattle.xdr.specs.Laws.Fixed.{Fixed, of_size, word-fixed, pair-fixed, seen-fixed}
use Rattle.rpc.specs.Meaning.Reading.{mismatch-info}
use Rattle.rpc.proofs.reply.mismatch_info.size.Statement.{statement}
use Rattle.rpc.proofs.reply.mismatch_info.size.Tie as tie

mismatch-info-fixed : Fixed 8 mismatch-info
unfolding mismatch-info
mismatch-info-fixed = seen-fixed (pair-fixed word-fixed word-fixed) _ _ _ _

returns : tie.Need-returns
returns c = of_size mismatch-info-fixed

pub size_spec : {M : Type 1} → statement M
size_spec = tie.close (tie.spec returns)
