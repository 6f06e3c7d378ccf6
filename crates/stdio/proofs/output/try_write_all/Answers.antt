use Rattle.std.proofs.Common.{◌-◌, length, take, drop, take_all, length-drop, arith}
use Rattle.stdio.specs.Laws.{appends_more}
use Rattle.stdio.proofs.output.try_write_all.Goals as goal

pub loop-done-preserved : goal.loop-done-preserved
loop-done-preserved g c =
    let rest = drop c.loop-done.done c.args.bytes.now in
    let left = length c.args.bytes.now - c.loop-done.done in
    record {
      within = omega (arith, c.in_ok-n.ensures.bound);
      sent = appends_more (g.W.Write.contents c.args.to.now) (g.W.Write.contents c.loop-done.to) (g.W.Write.contents c.write_some.new.to) c.loop-done.done c.in_ok-n.n c.args.bytes.now (take left rest) (take_all left rest (omega (arith, length-drop c.loop-done.done c.args.bytes.now))) c.loop-done.invariant.sent c.in_ok-n.ensures.sent;
    }
