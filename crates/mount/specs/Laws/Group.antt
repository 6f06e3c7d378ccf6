-- How a list of names is read: what the loop keeps.
-- Assumes nothing.
use Rattle.std.specs.Prelude.{◌≡◌, refl, Bool, true, ◌&&◌, List, ℕ, ◌+◌, ◌-◌, ◌≤◌, ◌<◌, length, get_or, Result, Ok, Err, Some, None}
use Rattle.std.specs.Prelude as std
use Rattle.std.proofs.Math.Path.{sym, ap}
use Rattle.std.proofs.Common.{◌∙◌, arith, Fits}
use Rattle.std.proofs.Math.Bool.{and-true}
use Rattle.std.proofs.Math.Option.{none, some}
use Rattle.std.specs.Int.{w8, w64}
use Rattle.xdr.specs.Meaning.Answer.{Answer, took, refused}
use Rattle.xdr.specs.Meaning.Cases.{maybe_held}
use Rattle.xdr.specs.Meaning.Formats.{piece_held, bytes}
use Rattle.xdr.specs.Meaning.Lists.{list_of}
use Rattle.xdr.specs.Meaning.Views.{view}
use Rattle.xdr.specs.Laws.Lists.{known_bytes}
use Rattle.xdr.specs.Laws.Plans.{Planned, plan, at, optionally}
use Rattle.xdr.specs.Laws.Even.{Even, opaque-even, list-even}
use Rattle.xdr.specs.Laws.Optional.{OptionalHeld}
use Rattle.xdr.specs.Laws.Walks.{onward, tally-starts, tally-goes, tally-ends, tally-refused}
use Rattle.xdr.specs.declared.answer.Took.{Took}
use Rattle.xdr.specs.declared.piece.Piece.{Piece}
use Rattle.xdr.specs.declared.refusal.Refusal.{Refusal}
use Rattle.mount.specs.Meaning.Group.{groups, next-group}
use Rattle.mount.specs.Meaning.Options.{option_cases}
use Rattle.mount.specs.Laws.Next.{Steps, step-off, step-at, step-inner}

abbrev pub next-group-plan : Planned next-group.held.read
unfolding next-group
next-group-plan = plan (optionally (at bytes)) _

pub groups-even : Even groups.codec.kind
unfolding groups
groups-even = list-even bytes opaque-even

-- how the code walks it
pub groups-are : groups ≡ list_of bytes
unfolding groups
groups-are = refl

pub next-group-is : next-group ≡ maybe_held bytes option_cases
unfolding next-group
next-group-is = refl

abbrev pub group_steps : Steps bytes
group_steps = record { list = groups; list-is = groups-are; next = next-group; next-is = next-group-is; even = opaque-even }

-- what is read from `at` on, when `count` names were read before the place `here`, `plain` says if nothing was loose in them, and `clean` is
-- their mark
unfoldable pub names_on : List ℕ → ℕ → ℕ → ℕ → Bool → Bool → Answer Piece
names_on s at here count plain clean = onward bytes s at count plain clean here

module _ (s : List ℕ) (at : ℕ) where
  pub names-start : groups.held.read s at ≡ names_on s at at 0 true true
  unfolding groups names_on
  names-start = tally-starts bytes s at

  module _ (here count : ℕ) (plain clean : Bool) (inv : groups.held.read s at ≡ names_on s at here count plain clean) (a : Result (Took (std.Option Piece)) Refusal)
      (given : (i : ℕ) → Fits w8 (get_or s i 0)) (e : view a ≡ next-group.held.read s here) where
    pub names-refused : (q : Refusal) → a ≡ Err q → refused q ≡ groups.held.read s at
    unfolding names_on
    names-refused q f =
        sym (inv ∙ tally-refused bytes s (known_bytes s given) at count plain clean here (step-off group_steps s here a e q f))

    module _ (t : Took (std.Option Piece)) (f : a ≡ Ok t) where
      pub names-end : t.value ≡ None → took (record { at = at; count = count; clean = clean }) t.next (plain && t.plain) ≡ groups.held.read s at
      unfolding names_on
      names-end i =
          sym (inv ∙ tally-ends bytes s (known_bytes s given) at count plain clean here (step-at group_steps s here a e t f none i))

      module _ (x : Piece) (i : t.value ≡ Some x) where
        pub names-on : groups.held.read s at ≡ names_on s at t.next (count + 1) (plain && t.plain) (clean && x.clean)
        unfolding names_on piece_held
        names-on =
            inv
            ∙ tally-goes bytes s (known_bytes s given) at count plain clean here (step-at group_steps s here a e t f (some x) i)
            ∙ ap (λ z. onward bytes s at (count + 1) (plain && t.plain) (clean && z) t.next) (and-true x.clean)

        pub name-inside : (here + 4 ≤ t.next) × (t.next ≤ length s)
        name-inside = step-inner group_steps s here a e t f given

        pub names-less : length s - t.next < length s - here
        names-less = omega (arith, name-inside)

        module _ (k : at + count ≤ here) where
          pub names-further : at + (count + 1) ≤ t.next
          names-further = omega (arith, name-inside)

          pub names-fit : Fits w64 t.next → Fits w64 (count + 1)
          names-fit f = omega (arith, name-inside)

-- what stands first
module _ (s : List ℕ) (at : ℕ) (given : (i : ℕ) → Fits w8 (get_or s i 0)) (a : Result (Took (std.Option Piece)) Refusal) (e : view a ≡ next-group.held.read s at) where
  pub names-lost : (q : Refusal) → a ≡ Err q → refused q ≡ groups.held.read s at
  names-lost = names-refused s at at 0 true true (names-start s at) a given e

  module _ (t : Took (std.Option Piece)) (f : a ≡ Ok t) where
    pub names-none : t.value ≡ None → took (record { at = at; count = 0; clean = true }) t.next t.plain ≡ groups.held.read s at
    names-none = names-end s at at 0 true true (names-start s at) a given e t f

    module _ (x : Piece) (i : t.value ≡ Some x) where
      pub names-first : groups.held.read s at ≡ names_on s at t.next 1 t.plain x.clean
      names-first = names-on s at at 0 true true (names-start s at) a given e t f x i

      pub names-one : at + 1 ≤ t.next
      names-one = omega (arith, name-inside s at at 0 true true (names-start s at) a given e t f x i)

-- what is laid of what stands at a place
pub next-group-optional : OptionalHeld bytes option_cases next-group
unfolding next-group
next-group-optional = record { is = refl }
