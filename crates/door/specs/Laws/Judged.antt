-- `yugerzat_judge` says what `yugerzat_rewrite` says in a buffer that has room for the size that was told.
-- Assumes nothing.
use Rattle.std.specs.Prelude.{◌≡◌, true, false, cond, List, [], ◌∷◌, ℕ, zero, suc, ◌+◌, ◌≤◌, leb, length}
use Rattle.std.proofs.Math.Path.{refl}
use Rattle.std.proofs.Common.{sym, ap, subst, ◌∙◌, zero-add, arith, leb-true, leb-false}
use Rattle.std.proofs.Math.Bool.{Bool}
use Rattle.std.proofs.lemmas.List.Edits.{sets}
use Rattle.xdr.specs.Meaning.Refusal.{needed_of}
use Rattle.xdr.specs.Meaning.Answer.{Answer, took, refused, opened, most, Written, done, unwritten}
use Rattle.xdr.specs.Meaning.Format.{Format, Branch}
use Rattle.xdr.specs.Meaning.Public.{output, writing}
use Rattle.xdr.specs.Laws.Placing.{placing-long, placing-outside, placing-large, placing-short, placing-done}
use Rattle.xdr.specs.declared.refusal.Refusal.TheVariants.{TooLong, Outside, NoRoom}
use Rattle.door.specs.Meaning.Copy.{Copy, unknown, unread, unmade, made, said_of, copy_said}
use Rattle.door.specs.Meaning.Kinds.{kinds, CopiesOf}
use Rattle.door.specs.Meaning.Exports.{code_of, figures, Told, judged_code, judged_figures, JudgeTold}

-- the size that is told, or 0
abbrev pub size_told : Copy → ℕ
size_told unknown = 0
size_told (unread r) = 0
size_told (unmade r n b m) = needed_of r
size_told (made n b m e) = e

-- what is said of c in judging is what is said of d in rewriting
record Agrees (c d : Copy) : Type 0 where
  code : judged_code c ≡ code_of d
  list : judged_figures c ≡ figures d

module _ {M S : Type 0} (F : Format M S) (s : List ℕ) (o : List ℕ) where
  -- a reading that was taken: by what its writing into no room says, and into o
  module _ (x : S) (n : ℕ) (b : Bool) where
    abbrev size : ℕ
    size = length (output F s x)

    by_written : (v w : Written) → v ≡ writing F s x 0 0 → w ≡ writing F s x 0 (length o) → Agrees (said_of n b (F.held.marks s x) v) (said_of n b (F.held.marks s x) w)
        → Agrees (said_of n b (F.held.marks s x) (writing F s x 0 0)) (said_of n b (F.held.marks s x) (writing F s x 0 (length o)))
    by_written v w e f g =
        subst (λ z. Agrees (said_of n b (F.held.marks s x) z) (said_of n b (F.held.marks s x) (writing F s x 0 (length o)))) e
        (subst (λ z. Agrees (said_of n b (F.held.marks s x) v) (said_of n b (F.held.marks s x) z)) f g)

    judged : size_told (said_of n b (F.held.marks s x) (writing F s x 0 0)) ≤ length o → Agrees (said_of n b (F.held.marks s x) (writing F s x 0 0)) (said_of n b (F.held.marks s x) (writing F s x 0 (length o)))
    unfolding writing
    judged room = go (leb (length s) most) refl (F.held.inside s x) refl (leb size most) refl (leb size 0) refl
      where
        i : Bool
        i = F.held.inside s x

        go : (p : Bool) → leb (length s) most ≡ p → (q : Bool) → F.held.inside s x ≡ q → (k : Bool) → leb size most ≡ k → (z : Bool) → leb size 0 ≡ z
            → Agrees (said_of n b (F.held.marks s x) (writing F s x 0 0)) (said_of n b (F.held.marks s x) (writing F s x 0 (length o)))
        go false hp q hq k hk z hz =
            let g = leb-false (length s) most hp in
            by_written (unwritten TooLong) (unwritten TooLong) (placing-long (length s) i size 0 0 (omega arith) g) (placing-long (length s) i size (length o) 0 (omega arith) g)
            (record { code = refl; list = refl })
        go true hp false hq k hk z hz =
            let g = leb-true (length s) most hp in
            by_written (unwritten Outside) (unwritten Outside) (placing-outside (length s) i size 0 0 (omega arith) g hq) (placing-outside (length s) i size (length o) 0 (omega arith) g hq)
            (record { code = refl; list = refl })
        go true hp true hq false hk z hz =
            let g = leb-true (length s) most hp in
            let l = leb-false size most hk in
            by_written (unwritten TooLong) (unwritten TooLong) (placing-large (length s) i size 0 0 (omega arith) g hq l) (placing-large (length s) i size (length o) 0 (omega arith) g hq l)
            (record { code = refl; list = refl })
        go true hp true hq true hk true hz =
            let g = leb-true (length s) most hp in
            let l = leb-true size most hk in
            let e = leb-true size 0 hz in
            by_written (done (0 + size)) (done (0 + size)) (placing-done (length s) i size 0 0 (omega arith) g hq l (omega arith))
            (placing-done (length s) i size (length o) 0 (omega arith) g hq l (omega arith)) (record { code = refl; list = refl })
        go true hp true hq true hk false hz =
            let g = leb-true (length s) most hp in
            let l = leb-true size most hk in
            let e = leb-false size 0 hz in
            let none : unwritten (NoRoom size) ≡ writing F s x 0 0 = placing-short (length s) i size 0 0 (omega arith) g hq l (omega arith) in
            let fits : size ≤ length o = subst (λ z. size_told (said_of n b (F.held.marks s x) z) ≤ length o) (sym none) room in
            by_written (unwritten (NoRoom size)) (done (0 + size)) none (placing-done (length s) i size (length o) 0 (omega arith) g hq l (omega arith))
            (record { code = refl; list = ap (λ z. n ∷ cond b 1 0 ∷ z ∷ []) (sym (zero-add size)) })

  by_read : (a : Answer S) → size_told (copy_said F s 0 [] a) ≤ length o → Agrees (copy_said F s 0 [] a) (copy_said F s 0 o a)
  by_read (refused r) h = record { code = refl; list = refl }
  by_read (took x n b) h = judged x n b h

of-kind : (l : List Branch) (k : ℕ) (s : List ℕ) (at : ℕ) (o left o' : List ℕ) (c d : Copy) → CopiesOf l k s at 0 [] c left → CopiesOf l k s at 0 o d o'
    → size_told c ≤ length o → Agrees c d
of-kind [] k s at o left o' c d e f h = subst (λ z. Agrees z d) (sym e.0) (subst (λ z. Agrees unknown z) (sym f.0) (record { code = refl; list = refl }))
of-kind (b ∷ l) zero s at o left o' c d e f h =
    let a = opened s at (b.format.held.read s at) in
    subst (λ z. Agrees z d) (sym e.says)
    (subst (λ z. Agrees (copy_said b.format s 0 [] a) z) (sym f.says) (by_read b.format s o a (subst (λ z. size_told z ≤ length o) e.says h)))
of-kind (b ∷ l) (suc k) s at o left o' c d e f h = of-kind l k s at o left o' c d e f h

-- the same number, and the same three figures
pub judged-is-rewritten : (kind : ℕ) (s : List ℕ) (at : ℕ) (i : List ℕ) (r : ℕ) (i' : List ℕ) (j : JudgeTold kind s at i r i')
    (o : List ℕ) → size_told j.copy ≤ length o → (r' : ℕ) (o' j' : List ℕ) → Told kind s at o i r' o' j' → (r ≡ r') × (i' ≡ j')
judged-is-rewritten kind s at i r i' j o h r' o' j' t =
    let g = of-kind kinds kind s at o j.left o' j.copy t.copy j.copies t.copies h in
    (j.number ∙ g.code ∙ sym t.number, j.list ∙ ap (λ z. sets i 0 z) g.list ∙ sym t.list)
