-- Lawful kinds, and the combinators that make one of others.
-- Assumes nothing.
use Rattle.std.specs.Prelude.{◌≡◌, List, [], ℕ, zero, suc}
use Rattle.std.proofs.Common.{ap}
use Rattle.xdr.specs.Meaning.Kind.{Codec}
use Rattle.xdr.specs.Meaning.Shapes.{Tuple}
use Rattle.xdr.specs.Meaning.Combinators.{block_kind, void_kind, none_kind, chain_kind, Seen, means, View, view_kind, run_kind, Takes}
use Rattle.xdr.specs.Laws.Block.{block-lawful, void-lawful}
use Rattle.xdr.specs.Laws.Never.{none-lawful}
use Rattle.xdr.specs.Laws.Chain.{chain-lawful}
use Rattle.xdr.specs.Laws.View.{view-lawful}
use Rattle.xdr.specs.Laws.Run.{run-lawful}
use Rattle.xdr.specs.Meaning.Combinators.{Exact}
use Rattle.xdr.specs.Laws.Exact.{exact-faithful}

abbrev pub block : ℕ → Codec (List ℕ)
block n = record { kind = block_kind n; laws = block-lawful n }

abbrev pub void : Codec (Unit {0})
void = record { kind = void_kind; laws = void-lawful }

abbrev pub never : (M : Type 0) → Codec M
never M = record { kind = none_kind; laws = none-lawful M }

abbrev pub chain : {M : Type 0} {N : M → Type 0} → Codec M → ((a : M) → Codec (N a)) → Codec ((a : M) × N a)
chain C D =
    record {
      kind = chain_kind C.kind (λ a. (D a).kind);
      laws = chain-lawful C.kind (λ a. (D a).kind) C.laws (λ a. (D a).laws);
    }

abbrev pub view : {M N : Type 0} (C : Codec M) → View M C.kind.Good N → Codec N
view C W = record { kind = view_kind C.kind W; laws = view-lawful C.kind W C.laws }

abbrev pub run : {M : Type 0} (n : ℕ) (C : Codec M) → Takes n C.kind → Codec M
run n C T = record { kind = run_kind n C.kind; laws = run-lawful n C.kind C.laws T }

-- a view with no range but the one that C has: what is seen with nothing loose is what is written, and a default is in range
module _ {M N : Type 0} (C : Codec M) (see : M → Seen N) (to : N → M) (exact : (x : M) → Exact C.kind.Good to x (see x))
    (see_to : (m : N) → see (to m) ≡ means m []) where
  abbrev pub exact_view : View M C.kind.Good N
  exact_view =
      record {
        Good = λ m. C.kind.Good (to m);
        see = see;
        to = to;
        faithful = λ x g. exact-faithful C.kind.Good to x g (see x) (exact x);
        to_good = λ m g. g;
        see_to = λ m g. see_to m;
      }

  abbrev pub seen : Codec N
  seen = view C exact_view

infixr 20 ◌⨾◌
-- two in order
abbrev pub ◌⨾◌ : {M N : Type 0} → Codec M → Codec N → Codec (M × N)
C ⨾ D = chain C (λ a. D)

-- the same bytes, under another name: f and g undo each other
abbrev pub mapped : {M N : Type 0} (C : Codec M) (f : M → N) (g : N → M) → ((x : M) → g (f x) ≡ x) → ((y : N) → f (g y) ≡ y) → Codec N
mapped C f g gf fg = seen C (λ x. means (f x) []) g gf (λ y. ap (λ z. means z []) (fg y))

-- n values of a kind
abbrev pub times : {M : Type 0} → Codec M → (n : ℕ) → Codec (Tuple M n)
times C zero = void
times C (suc n) = chain C (λ a. times C n)
