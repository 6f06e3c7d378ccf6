use Rattle.std.proofs.Common.{◌+◌, ◌-◌, length, arith}
use Rattle.stdio.specs.Laws.{laid}
use Rattle.stdio.proofs.output.lay.Goals as goal

pub returns : goal.returns
returns c = laid c.args.at (c.args.at + length c.args.text.now - c.args.at) c.args.buf.now c.args.text.now c.copy_from_slice.new.self c.requires (omega arith) c.copy_from_slice.ensures.after
