use Rattle.std.proofs.Common.{◌≡◌, refl, sym, ap, ◌∙◌, subst, arith, List, ℕ, ◌-◌, ◌++◌, length, take, drop, length-drop, length-take-le}
use borrow.Rule.Slice.PartMut.{mid_of, put_mid}
use Rattle.xdr.specs.Meaning.Answer.{done}
use Rattle.xdr.specs.Meaning.Bytes.{part}
use Rattle.xdr.specs.Laws.Parts.{part-copied}
use Rattle.xdr.specs.Laws.Room.{room_in}
use Rattle.std.specs.Prelude.{Ok}
use Rattle.door.specs.Meaning.Copy.{Stands}
use Rattle.door.specs.Laws.Span.{stands_on}
use Rattle.door.proofs.copy.write_span.Goals as goal

pub slice_bounds-copy_from_slice-count : goal.slice_bounds-copy_from_slice-count
slice_bounds-copy_from_slice-count c = omega (arith, room_in _ _ _ (c.in_ok-end.ensures {u = tt}) refl)

pub slice_bounds-copy_from_slice-start : goal.slice_bounds-copy_from_slice-start
slice_bounds-copy_from_slice-start c = omega (arith, room_in _ _ _ (c.in_ok-end.ensures {u = tt}) refl)

pub slice_bounds-copy_from_slice-end : goal.slice_bounds-copy_from_slice-end
slice_bounds-copy_from_slice-end c = omega (arith, room_in _ _ _ (c.in_ok-end.ensures {u = tt}) refl)

pub copy_from_slice-requires : goal.copy_from_slice-requires
copy_from_slice-requires c =
    let s : List ℕ = c.args.src.now in
    let o : List ℕ = c.args.out.now in
    let r = room_in _ _ _ (c.in_ok-end.ensures {u = tt}) refl in
    length-take-le (c.in_ok-end.end - c.args.start) (drop c.args.start o) (omega (arith, r, length-drop c.args.start o))
    ∙ omega (arith, r)
    ∙ sym (length-take-le (c.args.next - c.args.at) (drop c.args.at s) (omega (arith, length-drop c.args.at s, c.requires.order, c.requires.inside)))

-- the part of the buffer holds the span, as if it were copied to the front of the tail
pub returns : goal.returns
returns c =
    let s : List ℕ = c.args.src.now in
    let o : List ℕ = c.args.out.now in
    let start : ℕ = c.args.start in
    let end : ℕ = c.in_ok-end.end in
    let bs : List ℕ = part s c.args.at c.args.next in
    let r = room_in _ _ _ (c.in_ok-end.ensures {u = tt}) refl in
    let long : length bs ≡ c.args.next - c.args.at =
    length-take-le (c.args.next - c.args.at) (drop c.args.at s) (omega (arith, length-drop c.args.at s, c.requires.order, c.requires.inside)) in
    let e : put_mid start (end - start) o c.copy_from_slice.new.self
    ≡ put_mid start (length o - start) o (take (length bs) bs ++ drop (length bs) (mid_of start (length o - start) o)) =
    ap (λ x. put_mid start (end - start) o x) c.copy_from_slice.ensures.after
    ∙ part-copied o bs start (end - start) (omega (arith, r, long)) (omega (arith, r, long)) in
    subst (Stands bs start o (done end)) (sym e)
    (stands_on s c.args.at c.args.next start o c.requires (Ok end) c.in_ok-end.ensures end refl refl)
