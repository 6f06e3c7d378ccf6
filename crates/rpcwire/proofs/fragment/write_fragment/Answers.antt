use Rattle.std.proofs.Common.{◌≡◌, refl, sym, ap, ◌∙◌, subst, List, ℕ, ◌+◌, ◌-◌, ◌≤◌, ◌++◌, length, take, drop, arith}
use borrow.Rule.Slice.PartMut.{mid_of, put_mid, same_len_mid}
use Rattle.xdr.specs.Meaning.Answer.{done}
use Rattle.xdr.specs.Laws.Lists.{known_bytes}
use Rattle.xdr.specs.Laws.Parts.{part-copied}
use Rattle.rpcwire.specs.Meaning.Fragment.{WritesFragment}
use Rattle.rpcwire.specs.Laws.Fragment.{fragment-past, fragment-long, fragment-short, fragment-done}
use Rattle.rpcwire.proofs.fragment.write_fragment.Goals as goal

pub returns-then-out-at : goal.returns-then-out-at
returns-then-out-at c = fragment-past _ _ _ (known_bytes c.args.message.now c.type_inv.message) c.if-out-at.true

pub returns-then-n-gt-MOST : goal.returns-then-n-gt-MOST
returns-then-n-gt-MOST c = fragment-long _ _ _ (known_bytes c.args.message.now c.type_inv.message) c.if-out-at.false c.if-n-gt-MOST.true

pub returns-then-out-at-2 : goal.returns-then-out-at-2
returns-then-out-at-2 c =
    fragment-short _ _ _ (known_bytes c.args.message.now c.type_inv.message) c.if-out-at.false c.if-n-gt-MOST.false c.if-out-at-2.true

-- the message stands in its part of the tail, as if it were copied to the tail's front
pub returns : goal.returns
returns c =
    let m : List ℕ = c.args.message.now in
    let at : ℕ = c.args.at in
    let o : List ℕ = c.args.out.now in
    let o1 : List ℕ = put_mid at (length o - at) o c.put_u32.new.out in
    let same : length o1 ≡ length o = same_len_mid at (length o - at) o c.put_u32.new.out c.put_u32.auto.out in
    let long : at + 4 + length m ≤ length o1 = omega (arith, c.if-out-at.false, c.if-out-at-2.false) in
    let e : put_mid (at + 4) (at + 4 + length m - (at + 4)) o1 c.copy_from_slice.new.self
    ≡ put_mid (at + 4) (length o1 - (at + 4)) o1 (take (length m) m ++ drop (length m) (mid_of (at + 4) (length o1 - (at + 4)) o1)) =
    ap (λ x. put_mid (at + 4) (at + 4 + length m - (at + 4)) o1 x) c.copy_from_slice.ensures.after
    ∙ part-copied o1 m (at + 4) (at + 4 + length m - (at + 4)) long (omega arith) in
    subst (WritesFragment m at o (done (at + 4 + length m))) (sym e)
    (fragment-done m at o (known_bytes m c.type_inv.message) c.if-out-at.false c.if-n-gt-MOST.false c.if-out-at-2.false c.put_u32.ensures refl refl)
