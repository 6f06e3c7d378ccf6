-- Walking along a held list finds its elements in order: a list of c + 1 elements has one at its place, and behind it a list of c.
-- Assumes nothing.
use Rattle.std.specs.Prelude.{◌≡◌, refl, Bool, false, List, [], ◌∷◌, ℕ, suc, length, Some, None}
use Rattle.std.proofs.Common.{sym, subst, ◌∙◌, arith, eq-eqb, eqb-true}
use Rattle.std.proofs.Math.Path.{ap}
use Rattle.std.proofs.Math.Bool.{true}
use Rattle.std.proofs.Math.Option.{Option, none, some}
use Rattle.xdr.specs.Meaning.Bytes.{Bytes}
use Rattle.xdr.specs.Meaning.Answer.{Answer, took, refused}
use Rattle.xdr.specs.Meaning.Format.{Format, optional}
use Rattle.xdr.specs.Meaning.Cases.{Cases, maybe_held}
use Rattle.xdr.specs.Meaning.Linked.{elements_of, has_count}
use Rattle.xdr.specs.Meaning.Lists.{linked, list_of}
use Rattle.xdr.specs.Laws.Linked.{put, optional-some}
use Rattle.xdr.specs.Laws.Walks.{list-ends, list-goes, list-refused}
use Rattle.xdr.specs.declared.piece.Piece.{Piece}
use Rattle.mount.specs.Meaning.Options.{option_cases}
use Rattle.mount.specs.Meaning.Group.{groups, next-group}
use Rattle.mount.specs.Meaning.Export.{node, nodes, farther, long_entry, first_long, long_list, exports, next_node, next-export}
use Rattle.mount.specs.declared.export.exportnode.{exportnode}

never : {P : Type 0} → false ≡ true → P
never e = let z : ◌≡◌ {A = ℕ} 0 1 = cc e in absurd (omega arith)

module _ {M S : Type 0} (F : Format M S) (s : List ℕ) (h : Bytes s) (x : Piece) where
  pub record Step (c : ℕ) : Type 0 where
    pub element : S
    pub next : ℕ
    pub plain : Bool
    pub reads : (optional F).held.read s x.at ≡ took (some element) next plain
    pub inside : (list_of F).held.inside s (record { at = next; count = c; clean = true }) ≡ true
    pub mean : (list_of F).held.mean s x ≡ F.held.mean s element ∷ (list_of F).held.mean s (record { at = next; count = c; clean = true })

  pub record End : Type 0 where
    pub next : ℕ
    pub plain : Bool
    pub reads : (optional F).held.read s x.at ≡ took none next plain
    pub mean : (list_of F).held.mean s x ≡ []

  -- what is read there, by its count
  counted : (c : ℕ) → has_count c ((linked F).kind.read s x.at) ≡ true → {a : Answer (List M)} → (linked F).kind.read s x.at ≡ a → has_count c a ≡ true
  counted c i e = ap (has_count c) (sym e) ∙ i

  module _ (y : S) (n : ℕ) (b : Bool) (e : (optional F).held.read s x.at ≡ took (some y) n b) where
    goes : {a : Answer (List M)} → (linked F).kind.read s n ≡ a → (linked F).kind.read s x.at ≡ put (optional F).codec (optional-some F) (F.held.mean s y) b a
    goes g = list-goes F s h x.at e ∙ ap (put (optional F).codec (optional-some F) (F.held.mean s y) b) g

    by-rest : (c : ℕ) → has_count (suc c) ((linked F).kind.read s x.at) ≡ true → (a : Answer (List M)) → (linked F).kind.read s n ≡ a → Step c
    by-rest c i (took l n' b') g =
        let k : suc (length l) ≡ suc c = eqb-true (suc (length l)) (suc c) (counted (suc c) i (goes g)) in
        record {
          element = y;
          next = n;
          plain = b;
          reads = e;
          inside = ap (has_count c) g ∙ eq-eqb (length l) c (omega arith);
          mean = ap elements_of (goes g) ∙ ap (λ z. F.held.mean s y ∷ elements_of z) (sym g);
        }
    by-rest c i (refused r) g = never (counted (suc c) i (goes g))

    no_end : has_count 0 ((linked F).kind.read s x.at) ≡ true → (a : Answer (List M)) → (linked F).kind.read s n ≡ a → End
    no_end i (took l n' b') g = absurd (omega (arith, eqb-true (suc (length l)) 0 (counted 0 i (goes g))))
    no_end i (refused r) g = never (counted 0 i (goes g))

  by-step : (c : ℕ) → has_count (suc c) ((linked F).kind.read s x.at) ≡ true → (a : Answer (Option S)) → (optional F).held.read s x.at ≡ a → Step c
  by-step c i (took (some y) n b) e = by-rest y n b e c i ((linked F).kind.read s n) refl
  by-step c i (took none n b) e = absurd (omega (arith, eqb-true 0 (suc c) (counted (suc c) i (list-ends F s h x.at e))))
  by-step c i (refused r) e = never (counted (suc c) i (list-refused F s h x.at e))

  by_end : has_count 0 ((linked F).kind.read s x.at) ≡ true → (a : Answer (Option S)) → (optional F).held.read s x.at ≡ a → End
  by_end i (took (some y) n b) e = no_end y n b e i ((linked F).kind.read s n) refl
  by_end i (took none n b) e = record { next = n; plain = b; reads = e; mean = ap elements_of (list-ends F s h x.at e) }
  by_end i (refused r) e = never (counted 0 i (list-refused F s h x.at e))

  pub step : (c : ℕ) → x.count ≡ suc c → (list_of F).held.inside s x ≡ true → Step c
  step c e i = by-step c (subst (λ k. has_count k ((linked F).kind.read s x.at) ≡ true) e i) ((optional F).held.read s x.at) refl

  pub end : x.count ≡ 0 → (list_of F).held.inside s x ≡ true → End
  end e i = by_end (subst (λ k. has_count k ((linked F).kind.read s x.at) ≡ true) e i) ((optional F).held.read s x.at) refl

-- an optional value under the names of a type is read alike
named_step : {M S T : Type 0} (F : Format M S) (U : Cases S T) (s : List ℕ) (p : ℕ) {o : Option S} {n : ℕ} {b : Bool}
    → (optional F).held.read s p ≡ took o n b → (maybe_held F U).held.read s p ≡ took (U.to o) n b
named_step F U s p e = rw e

-- names of a list of groups, by what `next_group` reads
module _ (s : List ℕ) (h : Bytes s) (x : Piece) (i : groups.held.inside s x ≡ true) where
  pub record Name (c : ℕ) : Type 0 where
    pub name : Piece
    pub next : ℕ
    pub plain : Bool
    pub reads : next-group.held.read s x.at ≡ took (Some name) next plain
    pub inside : groups.held.inside s (record { at = next; count = c; clean = true }) ≡ true

  pub walk-name : (c : ℕ) → x.count ≡ suc c → Name c
  unfolding groups next-group
  walk-name c e =
      let d = step _ s h x c e i in
      record { name = d.element; next = d.next; plain = d.plain; reads = named_step _ option_cases s x.at d.reads; inside = d.inside }

  pub walk-names-end : x.count ≡ 0 → (n : ℕ) × (b : Bool) × (next-group.held.read s x.at ≡ took None n b)
  unfolding groups next-group
  walk-names-end e = let d = end _ s h x e i in (d.next, d.plain, named_step _ option_cases s x.at d.reads)

-- entries of an export list, by what `next_export` reads
module _ (s : List ℕ) (h : Bytes s) (x : Piece) (i : exports.held.inside s x ≡ true) (w : long_list (exports.held.mean s x) ≡ none) where
  -- what is behind an entry is under the bound too, and so is the entry
  entry_kept : (a b : Option ℕ) → first_long a b ≡ none → a ≡ none
  entry_kept none b e = refl
  entry_kept (some k) b e = e

  rest-kept : (a b : Option ℕ) → first_long a b ≡ none → b ≡ none
  rest-kept none b e = e
  rest-kept (some k) b e = let z : ◌≡◌ {A = ℕ} 0 1 = cc e in absurd (omega arith)

  nearer : (k : ℕ) (o : Option ℕ) → farther k o ≡ none → o ≡ none
  nearer k none e = refl
  nearer k (some n) e = let z : ◌≡◌ {A = ℕ} 0 1 = cc e in absurd (omega arith)

  pub record Entry (c : ℕ) : Type 0 where
    pub entry : exportnode
    pub next : ℕ
    pub plain : Bool
    pub reads : next-export.held.read s x.at ≡ took (Some entry) next plain
    pub inside : exports.held.inside s (record { at = next; count = c; clean = true }) ≡ true
    pub within : long_list (exports.held.mean s (record { at = next; count = c; clean = true })) ≡ none
    pub mean : exports.held.mean s x ≡ node.held.mean s entry ∷ exports.held.mean s (record { at = next; count = c; clean = true })

  pub walk-entry : (c : ℕ) → x.count ≡ suc c → Entry c
  unfolding exports nodes next_node next-export
  walk-entry c e =
      let d = step node s h x c e i in
      let m = node.held.mean s d.element in
      let l = (list_of node).held.mean s (record { at = d.next; count = c; clean = true }) in
      let k : long_list (m ∷ l) ≡ none = ap long_list (sym d.mean) ∙ w in
      let a : long_entry (some m) ≡ none = entry_kept (long_entry (some m)) _ k in
      record {
        entry = d.element;
        next = d.next;
        plain = d.plain;
        reads = rw (named_step node option_cases s x.at d.reads, a);
        inside = d.inside;
        within = nearer _ (long_list l) (rest-kept (long_entry (some m)) _ k);
        mean = d.mean;
      }

  pub walk-entries-end : x.count ≡ 0 → (n : ℕ) × (b : Bool) × (next-export.held.read s x.at ≡ took None n b)
  unfolding exports nodes next_node next-export
  walk-entries-end e =
      let d = end node s h x e i in
      (d.next, d.plain, rw (named_step node option_cases s x.at d.reads))
