-- How the code walks a linked list: what its step finds, and what a loop keeps that lays the list.
-- Assumes nothing.
use Rattle.std.specs.Prelude.{◌≡◌, List, ℕ, ◌+◌, ◌-◌, ◌≤◌, ◌<◌, length, get_or, Result, Ok, Err, Some, None}
use Rattle.std.specs.Prelude as std
use Rattle.std.proofs.Common.{ap, subst, ◌∙◌, arith, Fits}
use Rattle.std.proofs.Math.Bool.{true}
use Rattle.std.proofs.Math.Option.{Option}
use Rattle.std.specs.Int.{w8}
use borrow.Rule.Slice.PartMut.{mid_of, put_mid}
use Rattle.xdr.specs.Meaning.Answer.{took, refused}
use Rattle.xdr.specs.Meaning.Cases.{maybe_held}
use Rattle.xdr.specs.Meaning.Format.{Format, optional}
use Rattle.xdr.specs.Meaning.Lists.{list_of}
use Rattle.xdr.specs.Meaning.Views.{view, view_option}
use Rattle.xdr.specs.Laws.Answers.{on, off}
use Rattle.xdr.specs.Laws.Even.{Even}
use Rattle.xdr.specs.Laws.Fields.{Lays}
use Rattle.xdr.specs.Laws.Held.{taken-inside}
use Rattle.xdr.specs.Laws.Laying.{LaysFrom, Partly, partly-start, partly-refused, partly-short, partly-end, partly-on}
use Rattle.xdr.specs.Laws.Lists.{known_bytes}
use Rattle.xdr.specs.Laws.Walks.{by_names, by-names-refused, step-inside}
use Rattle.xdr.specs.declared.answer.Took.{Took}
use Rattle.xdr.specs.declared.piece.Piece.{Piece}
use Rattle.xdr.specs.declared.refusal.Refusal.{Refusal}
use Rattle.mount.specs.Meaning.Options.{option_cases}

-- a list, and what stands at a place of it
pub record Steps {M S : Type 0} (F : Format M S) : Type 1 where
  pub list : Format (List M) Piece
  pub list-is : list ≡ list_of F
  pub next : Format (Option M) (std.Option S)
  pub next-is : next ≡ maybe_held F option_cases
  pub even : Even F.codec.kind

module _ {M S : Type 0} {F : Format M S} (W : Steps F) where
  -- a step at the place i
  module _ (s : List ℕ) (i : ℕ) (a : Result (Took (std.Option S)) Refusal) (e : view a ≡ W.next.held.read s i) where
    off-named : (r : Refusal) → a ≡ Err r → (maybe_held F option_cases).held.read s i ≡ refused r
    off-named r f = subst (λ N. N.held.read s i ≡ refused r) W.next-is (off e f)

    pub step-off : (r : Refusal) → a ≡ Err r → (optional F).held.read s i ≡ refused r
    step-off r f = by-names-refused F option_cases s i (off-named r f)

    module _ (t : Took (std.Option S)) (f : a ≡ Ok t) where
      on-named : (maybe_held F option_cases).held.read s i ≡ took t.value t.next t.plain
      on-named = subst (λ N. N.held.read s i ≡ took t.value t.next t.plain) W.next-is (on e f)

      pub step-on : (optional F).held.read s i ≡ took (view_option t.value) t.next t.plain
      step-on = by_names F option_cases s i on-named

      -- by its case
      pub step-at : (o : Option S) → t.value ≡ option_cases.to o → (optional F).held.read s i ≡ took o t.next t.plain
      step-at o g = step-on ∙ ap (λ v. took v t.next t.plain) (ap view_option g ∙ option_cases.from_to o)

      pub step-within : W.next.held.inside s t.value ≡ true
      step-within = taken-inside W.next.held s i (on e f)

      -- it takes four bytes at least, and they lie inside
      module _ (given : (k : ℕ) → Fits w8 (get_or s k 0)) where
        pub step-inner : (i + 4 ≤ t.next) × (t.next ≤ length s)
        step-inner = step-inside F s (known_bytes s given) i step-on

        pub step_less : length s - t.next < length s - i
        step_less = omega (arith, step-inner)

  -- what a loop lays of a list, element by element
  module _ (s : List ℕ) (at : ℕ) (o : List ℕ) where
    pub lay-start : Partly F s at o at o
    lay-start = partly-start F s at o

    module _ (here : ℕ) (z : List ℕ) (inv : Partly F s at o here z) (a : Result (Took (std.Option S)) Refusal) (given : (i : ℕ) → Fits w8 (get_or s i 0))
        (e : view a ≡ W.next.held.read s here) where
      pub lay-refused : (r : Refusal) → a ≡ Err r → LaysFrom F s at o z
      lay-refused r f = partly-refused F option_cases s (known_bytes s given) at o here z inv (off-named s here a e r f)

      module _ (t : Took (std.Option S)) (f : a ≡ Ok t) where
        pub lay-less : length s - t.next < length s - here
        lay-less = step_less s here a e t f given

        module _ (k : at ≤ here) where
          pub lay-ahead : at ≤ t.next
          lay-ahead = omega (arith, step-inner s here a e t f given)

          pub lay-place : t.next - at ≤ length z → here - at ≤ length z
          lay-place j = omega (arith, step-inner s here a e t f given)

        pub lay-short : length z < t.next - at → length z ≡ length o → LaysFrom F s at o z
        lay-short j l =
            partly-short F option_cases s (known_bytes s given) at o here z inv (on-named s here a e t f) W.even (omega arith)

        module _ (zs : List ℕ) (laid : Lays W.next s t.value (mid_of (here - at) (length z - (here - at)) z) zs) where
          laid-named : Lays (maybe_held F option_cases) s t.value (mid_of (here - at) (length z - (here - at)) z) zs
          laid-named = subst (λ N. Lays N s t.value (mid_of (here - at) (length z - (here - at)) z) zs) W.next-is laid

          pub lay-end : t.value ≡ None → LaysFrom F s at o (put_mid (here - at) (length z - (here - at)) z zs)
          lay-end i =
              partly-end F option_cases s (known_bytes s given) at o here z inv (on-named s here a e t f) W.even laid-named (ap view_option i)

          pub lay-on : (x : S) → t.value ≡ Some x → Partly F s at o t.next (put_mid (here - at) (length z - (here - at)) z zs)
          lay-on x i =
              partly-on F option_cases s (known_bytes s given) at o here z inv (on-named s here a e t f) W.even laid-named x (ap view_option i)
