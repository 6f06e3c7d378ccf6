-- A stream fed through `yugerzat_feed`: its list of numbers carries the state from call to call.
-- Assumes nothing.
use Rattle.std.specs.Prelude.{◌≡◌, refl, Bool, true, false, not, cond, List, [], ◌∷◌, ℕ, ◌≤◌, eqb, length, take}
use Rattle.std.proofs.Common.{ap, ◌∙◌, arith}
use Rattle.std.proofs.lemmas.List.Edits.{sets, sets-eq}
use Rattle.std.proofs.Math.Seq.{length-sets}
use Rattle.rpcwire.specs.Meaning.Stream.{Said, more, complete, refused}
use Rattle.rpcwire.specs.declared.assembler.Assembler.{Assembler}
use Rattle.door.specs.Meaning.Exports.{state_of, state_list, fed_state, fed_figures, FeedCalled, FedOn}

bit-back : (b : Bool) → not (eqb (cond b 1 0) 0) ≡ b
bit-back true = refl
bit-back false = refl

abbrev with-bits : Assembler → (last stopped : Bool) → Assembler
with-bits s x y =
    record {
      capacity = s.capacity;
      placed = s.placed;
      header_count = s.header_count;
      header_value = s.header_value;
      left = s.left;
      last = x;
      stopped = y;
    }

state-back : (l : List ℕ) (s : Assembler) → 7 ≤ length l → state_of (sets l 0 (state_list s)) ≡ s
state-back l s h =
    ap state_of (sets-eq (state_list s) l 0 h)
    ∙ ap (λ (x : Bool). with-bits s x (not (eqb (cond s.stopped 1 0) 0))) (bit-back s.last)
    ∙ ap (with-bits s s.last) (bit-back s.stopped)

two_back : (i : List ℕ) (a b : ℕ) → 2 ≤ length i → take 2 (sets i 0 (a ∷ b ∷ [])) ≡ a ∷ b ∷ []
two_back i a b h = ap (take 2) (sets-eq (a ∷ b ∷ []) i 0 h)

figures-back : (i : List ℕ) (f : Said) → 2 ≤ length i → take 2 (sets i 0 (fed_figures f)) ≡ fed_figures f
figures-back i (more s u) h = two_back i u 0 h
figures-back i (complete n s u) h = two_back i u n h
figures-back i (refused r s u) h = two_back i u 0 h

pub fed-on : {l run d i : List ℕ} {r : ℕ} {l' d' i' : List ℕ} → 7 ≤ length l → 2 ≤ length i → FeedCalled l run d i r l' d' i' → FedOn l run d r l' d' i'
fed-on {l} {run} {d} {i} h k c =
    let t = c.room h k in
    record {
      said = t.said;
      answers = t.feeds;
      number = t.number;
      figures = ap (take 2) t.list ∙ figures-back i t.said k;
      state = ap state_of t.state ∙ state-back l (fed_state t.said) h;
      again = (
        omega (arith, ap length t.state ∙ length-sets l 0 (state_list (fed_state t.said))),
        omega (arith, ap length t.list ∙ length-sets i 0 (fed_figures t.said)),
      );
    }
