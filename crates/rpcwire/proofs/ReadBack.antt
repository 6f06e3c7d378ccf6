-- What was written as a fragment is read back as its message.
-- Assumes nothing.
use Rattle.std.proofs.Math.Path.{◌≡◌, refl, sym, ap}
use Rattle.std.proofs.Common.{◌∙◌}
use mathlib.Core.List.{List, ◌++◌}
use Rattle.std.specs.Prelude.{Bool, true, false, leb}
use Prim.Native.Nat.{ℕ, ◌+◌, ◌-◌, ◌≤◌}
use native.Mathlib.Omega.{arith}
use Rattle.std.proofs.Math.ListN.{length, take, drop, length-append}
use Rattle.std.proofs.Math.Seq.{length-take-le, take_at, drop_at}
use borrow.Author.Tests.{leb-true}
use Rattle.xdr.specs.Meaning.Answer.{most, Written, done, unwritten}
use Rattle.xdr.specs.Meaning.Items.{word}
use Rattle.xdr.specs.Laws.Padding.{word-length}
use Rattle.rpcwire.specs.Meaning.Stream.{complete, stand, fresh, feed_of}
use Rattle.rpcwire.specs.Meaning.Fragment.{fragment_of, fragment_said, WritesFragment, FragmentBack}
use Rattle.rpcwire.specs.Laws.Fragment.{fragment-read}
use Rattle.xdr.specs.declared.refusal.Refusal.TheVariants.{TooLong, NoRoom, PastEnd}
use Rattle.xdr.specs.declared.refusal.Refusal.{Refusal}

-- a writer that is done had a place, and has moved on by the fragment
fragment-length : (m : List ℕ) → length (fragment_of m) ≡ 4 + length m
unfolding fragment_of
fragment-length m = length-append (word.kind.write (length m + 2147483648)) m ∙ ap (λ k. k + length m) (word-length (length m + 2147483648))

module _ (m : List ℕ) (at : ℕ) (o : List ℕ) where
  was-done : {n : ℕ} → done n ≡ fragment_said m at (length o) → (at ≤ length o) × (n ≡ at + 4 + length m)
  unfolding fragment_said
  was-done {n} e = go (leb at (length o)) refl (leb (length m) most) refl (leb (at + 4 + length m) (length o)) refl
    where
      no : {r : Refusal} → done n ≡ unwritten r → (at ≤ length o) × (n ≡ at + 4 + length m)
      no f = let z : ◌≡◌ {A = ℕ} 0 1 = cc in absurd (omega arith)

      go : (a : Bool) → leb at (length o) ≡ a → (b : Bool) → leb (length m) most ≡ b → (r : Bool) → leb (at + 4 + length m) (length o) ≡ r
          → (at ≤ length o) × (n ≡ at + 4 + length m)
      go false ha b hb r hr = no {r = PastEnd} (simp ha at e)
      go true ha false hb r hr = no {r = TooLong} (simp (ha, hb) at e)
      go true ha true hb false hr = no {r = NoRoom (4 + length m)} (simp (ha, hb, hr) at e)
      go true ha true hb true hr =
          let f : ◌≡◌ {A = Written} (done n) (done (at + 4 + length m)) = simp (ha, hb, hr) at e in
          (leb-true at (length o) ha, cc f)

  pub fragment-back : {n : ℕ} {o' : List ℕ} → WritesFragment m at o (done n) o' → FragmentBack m at n o'
  fragment-back {n} {o'} c =
      let d = was-done c.says in
      let stands : drop at o' ≡ fragment_of m ++ drop n o =
      ap (drop at) c.leaves ∙ drop_at (take at o) (fragment_of m ++ drop n o) at (length-take-le at o d.0) in
      let size : n - at ≡ 4 + length m = omega (arith, d.1) in
      record {
        bytes = ap (take (n - at)) stands ∙ take_at (fragment_of m) (drop n o) (n - at) (fragment-length m ∙ sym size);
        completes = λ b h k.
            ap (λ l. feed_of (fresh (length b)) l b) stands ∙ fragment-read m (drop n o) b k h
            ∙ ap (λ u. stand (complete (length m) (fresh (length b)) u) (m ++ drop (length m) b)) (sym size);
      }
