use Rattle.std.proofs.Common.{rules, ◌≡◌, sym, ap, ◌∙◌, arith, List, ℕ, ◌-◌, ◌++◌, length, take, drop, length-drop, length-take-le}
use Rattle.std.proofs.Math.Seq.{take-length}
use Rattle.mount.specs.Laws.Export.{lay-ahead, lay-end, lay-copied}
use Rattle.mount.proofs.export.lay_exports.Goals as goal

ruleset lays = (rules, lay-ahead, lay-end)

pub overflow_sub-n : goal.overflow_sub-n
overflow_sub-n c = search lays

pub slice_bounds-part-count : goal.slice_bounds-part-count
slice_bounds-part-count c = search lays

pub slice_bounds-part-start : goal.slice_bounds-part-start
slice_bounds-part-start c = search lays

pub slice_bounds-part-end : goal.slice_bounds-part-end
slice_bounds-part-end c = search lays

-- what was copied is the part, and as long as it
pub returns-then-plain : goal.returns-then-plain
returns-then-plain c =
    let s : List ℕ = c.args.src.now in
    let o : List ℕ = c.args.out.now in
    let n : ℕ = c.args.next - c.args.at in
    let p : List ℕ = take n (drop c.args.at s) in
    let long : length p ≡ n =
    length-take-le n (drop c.args.at s)
    (omega (arith, length-drop c.args.at s, lay-ahead s c.args.at c.args.next c.args.plain c.requires.nodes_to c.type_inv.src, lay-end s c.args.at c.args.next c.args.plain c.requires.nodes_to c.type_inv.src)) in
    lay-copied s c.args.at c.args.next c.args.plain c.requires.nodes_to c.type_inv.src c.if-plain.true o (c.copy_from_slice.new.self ++ drop n o)
    (ap (λ x. x ++ drop n o) (c.copy_from_slice.ensures.after ∙ sym (take-length p)) ∙ ap (λ k. take (length p) p ++ drop k o) (sym long))
