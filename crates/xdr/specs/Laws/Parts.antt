-- A part of a buffer that is written over by bytes of its length: the same as the tail from there on, with the bytes at its front.
-- Assumes nothing.
use Rattle.std.specs.Prelude.{◌≡◌, refl, List, ℕ, ◌+◌, ◌-◌, ◌≤◌, ◌++◌, length, take, drop}
use Rattle.std.proofs.Common.{sym, ap, ◌∙◌}
use Rattle.std.proofs.Math.Seq.{drop-drop}
use borrow.Rule.Slice.PartMut.{mid_of, put_mid}
use Rattle.xdr.specs.Laws.Write.{copy-laid, laid-at, room_at}

pub part-copied : (o bs : List ℕ) (a k : ℕ) → a + length bs ≤ length o → k ≡ length bs
    → put_mid a k o bs ≡ put_mid a (length o - a) o (take (length bs) bs ++ drop (length bs) (mid_of a (length o - a) o))
part-copied o bs a k h e =
    ap (λ k. put_mid a k o bs) e
    ∙ ap (λ y. take a o ++ (bs ++ y)) (drop-drop (length bs) a o)
    ∙ sym (laid-at o bs a h (copy-laid bs (mid_of a (length o - a) o) _ (room_at o a (length bs) h) refl))
