use Rattle.std.proofs.Common.{◌≡◌, ap, ◌∙◌, arith, ℕ, ◌+◌, ◌-◌, ◌++◌, take, drop, length-drop, length-take-le}
use Rattle.xdr.specs.Laws.Write.{laid-is}
use Rattle.xdr.proofs.copy.run_over.Goals as goal

pub returns : goal.returns
returns g c =
    let n : ℕ = g.row.N in
    let at : ℕ = c.args.at in
    let k : at + n - at ≡ n = omega arith in
    laid-is c.requires.in_bounds
    (record {
      is = ap (λ x. x ++ drop n c.args.out.now) (c.copy_from_slice.ensures.after ∙ ap (λ j. take j (drop at c.args.src.now)) k);
      long = length-take-le n (drop at c.args.src.now) (omega (arith, length-drop at c.args.src.now, c.requires.at_in_bounds));
    })
