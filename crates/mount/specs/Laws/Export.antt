-- How an export list is read: what the loop keeps, and what a walk says of a held list.
-- Assumes nothing.
use Rattle.std.proofs.Math.Path.{◌≡◌, refl, sym, ap, subst}
use Rattle.std.proofs.Common.{ap₂, ◌∙◌, add-zero, zero-add, add_assoc, arith, length-take, length-drop, le-leb, Fits}
use Rattle.std.specs.Prelude.{Bool, ◌&&◌, List, [], ◌∷◌, ◌++◌, ℕ, suc, ◌+◌, ◌-◌, ◌≤◌, ◌<◌, leb, get_or, take, drop, Result, Ok, Err, Some, None}
use Rattle.std.specs.Prelude as std
use Rattle.std.proofs.Math.Bool.{true, false, and-true}
use Rattle.std.proofs.Math.Option.{Option, none, some}
use Rattle.std.proofs.Math.Dec.{eqb}
use Rattle.std.proofs.Math.ListN.{length}
use Rattle.std.proofs.lemmas.Bool.{lt-leb}
use Rattle.std.specs.Int.{w8, w64}
use Rattle.xdr.specs.Meaning.Bytes.{Bytes, part}
use Rattle.xdr.specs.Meaning.Answer.{Answer, took, refused, Written, done, unwritten}
use Rattle.xdr.specs.Meaning.Cases.{maybe_held}
use Rattle.xdr.specs.Meaning.Format.{◌⨟◌, optional}
use Rattle.xdr.specs.Meaning.Formats.{bytes, piece_held}
use Rattle.xdr.specs.Meaning.Linked.{elements_of, has_count}
use Rattle.xdr.specs.Meaning.Lists.{linked, clean_list, list_of}
use Rattle.xdr.specs.Meaning.Marks.{all_clean}
use Rattle.xdr.specs.Meaning.Views.{view, view_wrote}
use Rattle.xdr.specs.Laws.Answers.{on, off}
use Rattle.xdr.specs.Laws.Even.{Even, opaque-even, chain-even, named-even, list-even, even-within}
use Rattle.xdr.specs.Laws.Held.{taken-inside}
use Rattle.xdr.specs.Laws.Lengths.{Within}
use Rattle.xdr.specs.Laws.Linked.{put, optional-some}
use Rattle.xdr.specs.Laws.Linked as linked·
use Rattle.xdr.specs.Laws.Lists.{known_bytes, room}
use Rattle.xdr.specs.Laws.Fields.{Lays, lays-named}
use Rattle.xdr.specs.Laws.Laying.{LaysFrom, list-lays}
use Rattle.xdr.specs.Laws.Optional.{OptionalHeld}
use Rattle.xdr.specs.Laws.Placing.{at_place, has_room}
use Rattle.xdr.specs.Laws.Placing as placing·
use Rattle.xdr.specs.Laws.Promise.{keeps}
use Rattle.xdr.specs.Laws.Within.{Bounded, within-as, over-refused, over_done}
use Rattle.xdr.specs.Laws.Write.{Put, copy-put}
use Rattle.xdr.specs.Meaning.Kind.{Found, Sound}
use Rattle.xdr.specs.Meaning.Public.{output}
use Rattle.xdr.specs.Meaning.Within.{is_within, WritesWithin}
use Rattle.xdr.specs.Meaning.Order.{placing}
use Rattle.xdr.specs.Meaning.Promise.{Reading}
use borrow.Rule.Slice.PartMut.{mid_of, put_mid}
use Rattle.xdr.specs.Laws.Plans.{Planned, plan, at, optionally, ◌then◌}
use Rattle.xdr.specs.Laws.Walks.{clean-goes, clean-ends, list-ends, list-goes, list-refused, step-size}
use Rattle.xdr.specs.declared.answer.Took.{Took}
use Rattle.xdr.specs.declared.piece.Piece.{Piece}
use Rattle.xdr.specs.declared.refusal.Refusal.{Refusal}
use Rattle.xdr.specs.declared.refusal.Refusal.TheVariants.{LongPath}
use Rattle.mount.specs.Meaning.Path.{most_path, long_path}
use Rattle.mount.specs.Meaning.Group.{groups}
use Rattle.mount.specs.Meaning.Options.{option_cases}
use Rattle.mount.specs.Meaning.Export.{Exportnode, node_names, node, nodes, farther, long_list, exports, next_node, next-export, finished, long_at, walked, walk_of, WalkedWithin, NodesTo, or_long}
use Rattle.mount.specs.Laws.Path.{piece-length, short-path, over-path}
use Rattle.mount.specs.Laws.Next.{Steps, step-off, step-at, step-inner}
use Rattle.mount.specs.Laws.Group.{groups-even}
use Rattle.mount.specs.declared.export.exportnode.{exportnode}
use Rattle.mount.specs.declared.export.Walked.{Walked}
use Rattle.mount.specs.declared.export.Walked.TheVariants as walked·

-- plans
abbrev pub node-plan : Planned node.held.read
unfolding node
node-plan = plan (at bytes then at groups) _

abbrev pub next-node-plan : Planned next_node.held.read
unfolding next_node
next-node-plan = plan (optionally (at node)) _

-- every form of an entry, and of a list, is as long as what is written
pub node-even : Even node.codec.kind
unfolding node
node-even = named-even _ node_names (chain-even opaque-even (λ x. groups-even))

pub nodes-even : Even nodes.codec.kind
unfolding nodes
nodes-even = list-even node node-even

pub exports-within : Within 0 exports.codec.kind
unfolding exports
exports-within = record { of = λ m w e f. (even-within nodes-even).of m w e f.0 }

-- how the code walks a list
pub nodes-are : nodes ≡ list_of node
unfolding nodes
nodes-are = refl

pub next-node-is : next_node ≡ maybe_held node option_cases
unfolding next_node
next-node-is = refl

abbrev pub node_steps : Steps node
node_steps = record { list = nodes; list-is = nodes-are; next = next_node; next-is = next-node-is; even = node-even }

-- the first path over the bound, by what is known of it
module _ (w : std.Option ℕ) (q n : ℕ) where
  pub or_kept : (k : ℕ) → w ≡ Some k → Some k ≡ or_long w q n
  or_kept k e = sym (rw e)

  pub or_short : n ≤ most_path → w ≡ or_long w q n
  or_short h = by w
    where
      by : (w : std.Option ℕ) → w ≡ or_long w q n
      by (Some k) = refl
      by None = sym (rw (le-leb n most_path h))

  pub or-over : w ≡ None → most_path < n → Some (q + 4) ≡ or_long w q n
  or-over e h = sym (rw (e, lt-leb n most_path h))

module _ (w : std.Option ℕ) (c n : ℕ) (b d : Bool) where
  pub finished-within : w ≡ None → walked·.Within c n b d ≡ finished w c n b d
  finished-within e = sym (rw e)

  pub finished-over : (k : ℕ) → w ≡ Some k → walked·.Over c k ≡ finished w c n b d
  finished-over k e = sym (rw e)

abbrev pub or_else : std.Option ℕ → ℕ → Option ℕ → std.Option ℕ
or_else (Some k) q o = Some k
or_else None q o = long_at q o

farther-on : (q k : ℕ) (o : Option ℕ) → long_at q (farther k o) ≡ long_at (q + k) o
farther-on q k none = refl
farther-on q k (some n) = ap (λ (i : ℕ). Some i) (sym (add_assoc q k n))

-- the entry m, whose flag stands at q and whose path has n bytes, and then the list l
entry-long : (w : std.Option ℕ) (q n : ℕ) (m : Exportnode) (l : List Exportnode) → length m.ex_dir ≡ n
    → or_else w q (long_list (m ∷ l)) ≡ or_else (or_long w q n) (q + length ((optional node).codec.kind.write (some m))) (long_list l)
entry-long (Some k) q n m l e = refl
entry-long None q n m l e = go (leb n most_path) refl
  where
    size : ℕ
    size = length ((optional node).codec.kind.write (some m))

    same : leb (length m.ex_dir) most_path ≡ leb n most_path
    same = ap (λ i. leb i most_path) e

    go : (b : Bool) → leb n most_path ≡ b
        → long_at q (long_list (m ∷ l)) ≡ or_else (or_long None q n) (q + length ((optional node).codec.kind.write (some m))) (long_list l)
    go true h = rw (same, h) (farther-on q size (long_list l))
    go false h = rw (same, h)

-- what is read from `at` on, when `count` entries were read before the place q; d is the mark of them all
abbrev tallied : std.Option ℕ → ℕ → Bool → Bool → ℕ → Answer (List Exportnode) → Result Walked Refusal
tallied w c b d q (took l n b') = Ok (finished (or_else w q (long_list l)) (c + length l) n (b && b') d)
tallied w c b d q (refused r) = Err r

and_assoc : (a b c : Bool) → (a && (b && c)) ≡ ((a && b) && c)
and_assoc true b c = refl
and_assoc false b c = refl

unfoldable pub entries_on : List ℕ → ℕ → ℕ → Bool → Bool → std.Option ℕ → Result Walked Refusal
entries_on s here count plain clean w = tallied w count plain (clean && clean_list node s here) here ((linked node).kind.read s here)

tally-none : (p : ℕ) (d : Bool) (z : Answer (List Exportnode)) → walked p d z ≡ tallied None 0 true d p z
tally-none p d (took l n b) = rw (zero-add (length l))
tally-none p d (refused r) = refl

else-none : (w : std.Option ℕ) (q : ℕ) → or_else w q none ≡ w
else-none (Some k) q = refl
else-none None q = refl

module _ (s : List ℕ) (h : Bytes s) (w : std.Option ℕ) (c : ℕ) (b d : Bool) (q : ℕ) where
  -- a path that was read has as many bytes as its piece counts
  dir-length : {y : exportnode} {n : ℕ} {b₁ : Bool} → (optional node).held.read s q ≡ took (some y) n b₁
      → length (node.held.mean s y).ex_dir ≡ y.ex_dir.count
  unfolding node piece_held
  dir-length {y} e = piece-length s y.ex_dir (left _ _ (taken-inside (optional node).held s q e))
    where
      left : (x z : Bool) → (x && z) ≡ true → x ≡ true
      left true z i = refl
      left false z i = i

  tally-put : (m : Exportnode) (k n : ℕ) (b₁ d₁ : Bool) → length m.ex_dir ≡ k → n ≡ q + length ((optional node).codec.kind.write (some m))
      → (z : Answer (List Exportnode))
      → tallied w c b d₁ q (put (optional node).codec (optional-some node) m b₁ z) ≡ tallied (or_long w q k) (c + 1) (b && b₁) d₁ n z
  tally-put m k n b₁ d₁ i j (took l n' b₂) =
      let e : c + suc (length l) ≡ c + 1 + length l = omega arith in
      let f : or_else w q (long_list (m ∷ l)) ≡ or_else (or_long w q k) n (long_list l) =
      entry-long w q k m l i ∙ ap (λ z. or_else (or_long w q k) z (long_list l)) (sym j) in
      ap (λ x. Ok (finished x (c + suc (length l)) n' (b && (b₁ && b₂)) d₁)) f
      ∙ ap₂ (λ x y. Ok (finished (or_else (or_long w q k) n (long_list l)) x n' y d₁)) e (and_assoc b b₁ b₂)
  tally-put m k n b₁ d₁ i j (refused r) = refl

  goes : {y : exportnode} {n : ℕ} {b₁ : Bool} → (optional node).held.read s q ≡ took (some y) n b₁
      → tallied w c b (d && clean_list node s q) q ((linked node).kind.read s q)
      ≡ tallied (or_long w q y.ex_dir.count) (c + 1) (b && b₁) ((d && all_clean (node.held.marks s y)) && clean_list node s n) n ((linked node).kind.read s n)
  goes {y} {n} {b₁} e =
      let m = (d && all_clean (node.held.marks s y)) && clean_list node s n in
      ap (λ z. tallied w c b z q ((linked node).kind.read s q)) (clean-goes node s h d q e)
      ∙ ap (tallied w c b m q) (list-goes node s h q e)
      ∙ tally-put (node.held.mean s y) y.ex_dir.count n b₁ m (dir-length e) (step-size node s h q e node-even) ((linked node).kind.read s n)

  ends : {n : ℕ} {b₁ : Bool} → (optional node).held.read s q ≡ took none n b₁
      → tallied w c b (d && clean_list node s q) q ((linked node).kind.read s q) ≡ Ok (finished w c n (b && b₁) d)
  ends {n} {b₁} e =
      ap (λ z. tallied w c b z q ((linked node).kind.read s q)) (clean-ends node s h d q e)
      ∙ ap (tallied w c b d q) (list-ends node s h q e)
      ∙ ap₂ (λ x y. Ok (finished x y n (b && b₁) d)) (else-none w q) (add-zero c)

  refuses : {r : Refusal} → (optional node).held.read s q ≡ refused r
      → tallied w c b (d && clean_list node s q) q ((linked node).kind.read s q) ≡ Err r
  refuses e = ap (tallied w c b (d && clean_list node s q) q) (list-refused node s h q e)

-- in the shape of the loop's goals
module _ (s : List ℕ) (at : ℕ) where
  pub entries-start : walk_of s at ≡ entries_on s at 0 true true None
  unfolding nodes entries_on
  entries-start = tally-none at (clean_list node s at) ((linked node).kind.read s at)

  module _ (here count : ℕ) (plain clean : Bool) (w : std.Option ℕ) (inv : walk_of s at ≡ entries_on s here count plain clean w) (a : Result (Took (std.Option exportnode)) Refusal)
      (given : (i : ℕ) → Fits w8 (get_or s i 0)) (e : view a ≡ next_node.held.read s here) where
    pub entries-refused : (q : Refusal) → a ≡ Err q → Err q ≡ walk_of s at
    unfolding entries_on
    entries-refused q f =
        sym (inv ∙ refuses s (known_bytes s given) w count plain clean here (step-off node_steps s here a e q f))

    module _ (t : Took (std.Option exportnode)) (f : a ≡ Ok t) where
      pub entries-end : t.value ≡ None → (z : Walked) → z ≡ finished w count t.next (plain && t.plain) clean → Ok z ≡ walk_of s at
      unfolding entries_on
      entries-end i z k =
          ap Ok k ∙ sym (inv ∙ ends s (known_bytes s given) w count plain clean here (step-at node_steps s here a e t f none i))

      module _ (x : exportnode) (i : t.value ≡ Some x) where
        entry-inside : (here + 4 ≤ t.next) × (t.next ≤ length s)
        entry-inside = step-inner node_steps s here a e t f given

        pub entry-room : here + 4 ≤ t.next
        entry-room = entry-inside.0

        -- the marks of an entry are its path's and its groups'
        two-marks : (d : Bool) → (d && all_clean (node.held.marks s x)) ≡ ((d && x.ex_dir.clean) && x.ex_groups.clean)
        unfolding node piece_held groups
        two-marks d =
            ap (λ z. d && (x.ex_dir.clean && z)) (and-true x.ex_groups.clean) ∙ and_assoc d x.ex_dir.clean x.ex_groups.clean

        pub entries-on : (y g : Piece) (u : std.Option ℕ) → y ≡ x.ex_dir → g ≡ x.ex_groups → u ≡ or_long w here y.count
            → walk_of s at ≡ entries_on s t.next (count + 1) (plain && t.plain) ((clean && y.clean) && g.clean) u
        unfolding entries_on
        entries-on y g u j l k =
            rw (k, j, l)
            (inv
            ∙ goes s (known_bytes s given) w count plain clean here (step-at node_steps s here a e t f (some x) i)
            ∙ ap
            (λ z. tallied (or_long w here x.ex_dir.count) (count + 1) (plain && t.plain) (z && clean_list node s t.next) t.next ((linked node).kind.read s t.next))
            (two-marks clean))

        pub entries-less : length s - t.next < length s - here
        entries-less = omega (arith, entry-inside)

        module _ (k : at + count ≤ here) where
          pub entries-further : at + (count + 1) ≤ t.next
          entries-further = omega (arith, entry-inside)

          pub entries_fit : Fits w64 t.next → Fits w64 (count + 1)
          entries_fit f = omega (arith, entry-inside)

-- what a walk says of the reading under the bound
abbrev pub said_of : ℕ → Result Walked Refusal → Answer Piece
said_of p (Err r) = refused r
said_of p (Ok (walked·.Within c n b d)) = took (record { at = p; count = c; clean = d }) n b
said_of p (Ok (walked·.Over c k)) = refused (LongPath k)

module _ (s : List ℕ) (p : ℕ) where
  said-by : (l : List Exportnode) (n : ℕ) (b : Bool) (o : Option ℕ) → long_list l ≡ o → (linked node).kind.read s p ≡ took l n b
      → exports.held.read s p ≡ said_of p (walked p (clean_list node s p) (took l n b))
  unfolding exports nodes
  said-by l n b none e f = rw (f, e, f, e)
  said-by l n b (some k) e f = rw (f, e, f, e)

  said-of : (z : Answer (List Exportnode)) → (linked node).kind.read s p ≡ z → exports.held.read s p ≡ said_of p (walked p (clean_list node s p) z)
  unfolding exports nodes
  said-of (took l n b) f = said-by l n b (long_list l) refl f
  said-of (refused r) f = rw f

  module _ (z : Result Walked Refusal) (e : z ≡ walk_of s p) where
    walk-said : said_of p z ≡ exports.held.read s p
    unfolding nodes
    walk-said = sym (said-of ((linked node).kind.read s p) refl ∙ ap (said_of p) (sym e))

    pub said-refused : (r : Refusal) → z ≡ Err r → refused r ≡ exports.held.read s p
    said-refused r f = ap (said_of p) (sym f) ∙ walk-said

    module _ (w : Walked) (g : z ≡ Ok w) where
      pub said-within : (c n : ℕ) (b d : Bool) → w ≡ walked·.Within c n b d → took (record { at = p; count = c; clean = d }) n b ≡ exports.held.read s p
      said-within c n b d f = ap (said_of p) (sym (g ∙ ap Ok f)) ∙ walk-said

      pub said-over : (c k : ℕ) → w ≡ walked·.Over c k → refused (LongPath k) ≡ exports.held.read s p
      said-over c k f = ap (said_of p) (sym (g ∙ ap Ok f)) ∙ walk-said

-- one entry under the bound
module _ (s : List ℕ) (at : ℕ) (a : Result (Took (std.Option exportnode)) Refusal) (e : view a ≡ next_node.held.read s at) where
  pub next-off : (r : Refusal) → a ≡ Err r → refused r ≡ next-export.held.read s at
  unfolding next-export
  next-off r f = let g : next_node.held.read s at ≡ refused r = off e f in sym (rw g)

  module _ (t : Took (std.Option exportnode)) (f : a ≡ Ok t) where
    read_is : (v : std.Option exportnode) → t.value ≡ v → next_node.held.read s at ≡ took v t.next t.plain
    read_is v i = on e f ∙ ap (λ z. took z t.next t.plain) i

    pub next-end : t.value ≡ None → took t.value t.next t.plain ≡ next-export.held.read s at
    unfolding next-export next_node
    next-end i = let g : next_node.held.read s at ≡ took None t.next t.plain = read_is None i in rw i (sym (rw g))

    module _ (given : (i : ℕ) → Fits w8 (get_or s i 0)) (x : exportnode) (i : t.value ≡ Some x) where
      dir : length (node.held.mean s x).ex_dir ≡ x.ex_dir.count
      dir = dir-length s (known_bytes s given) None 0 true true at (step-at node_steps s at a e t f (some x) i)

      pub next-kept : x.ex_dir.count ≤ most_path → took t.value t.next t.plain ≡ next-export.held.read s at
      unfolding next-export next_node
      next-kept h =
          let k : length (node.held.mean s x).ex_dir ≤ most_path = omega (arith, dir) in
          let g : long_path (node.held.mean s x).ex_dir ≡ none = short-path (node.held.mean s x).ex_dir k in
          let r : next_node.held.read s at ≡ took (Some x) t.next t.plain = read_is (Some x) i in
          rw i (sym (rw (r, g)))

      pub next-over : most_path < x.ex_dir.count → refused (LongPath (at + 4)) ≡ next-export.held.read s at
      unfolding next-export next_node
      next-over h =
          let k : most_path < length (node.held.mean s x).ex_dir = omega (arith, dir) in
          let g : long_path (node.held.mean s x).ex_dir ≡ some 0 = over-path (node.held.mean s x).ex_dir k in
          let r : next_node.held.read s at ≡ took (Some x) t.next t.plain = read_is (Some x) i in
          sym (rw (r, g))

      pub next-room : Fits w64 t.next → Fits w64 (at + 4)
      next-room f' = omega (arith, step-inner node_steps s at a e t f given)

-- what is laid of an entry, and of what stands at a place
pub next-node-optional : OptionalHeld node option_cases next_node
unfolding next_node
next-node-optional = record { is = refl }

pub node-lays : (s : List ℕ) (x : exportnode) (o z : List ℕ) → Lays (bytes ⨟ groups) s (x.ex_dir, x.ex_groups) o z → Lays node s x o z
unfolding node
node-lays s x o z a = lays-named _ node_names s x o z a

pub groups-lays : (s : List ℕ) (x : Piece) (o z : List ℕ) → LaysFrom bytes s x.at o z → Lays groups s x o z
unfolding groups
groups-lays s x o z a = list-lays bytes s x o z a

-- a list that is read from p to n: it lies inside, and in published form its bytes are laid as they stand
module _ (s : List ℕ) (p n : ℕ) (b : Bool) (e : NodesTo s p n b) (given : (i : ℕ) → Fits w8 (get_or s i 0)) where
  its-form : Found (linked node).kind s p e.list n b
  unfolding nodes
  its-form = subst (Sound (linked node).kind s p) e.reads ((linked node).laws.sound s p (known_bytes s given))

  its-place : (p ≤ n) × (n ≤ length s)
  its-place =
      let f = its-form in
      omega (
        arith,
        f.next,
        linked·.long (optional node).codec (optional-some node) (suc (length e.list)) e.list f.loose f.used f.form,
        room f.used f.left s p f.stands,
      )

  pub lay-ahead : p ≤ n
  lay-ahead = its-place.0

  pub lay-end : n ≤ length s
  lay-end = its-place.1

  module _ (plain : b ≡ true) where
    -- they are its rewriting
    rewriting-is : part s p n ≡ (linked node).kind.write e.list
    unfolding nodes
    rewriting-is =
        let r : Reading (linked node).kind =
        record { input = s; place = p; message = e.list; next = n; plain = b; bytes = known_bytes s given; inside = omega (arith, its-place); reads = e.reads } in
        ((keeps (linked node)).plain_iff r).0 plain

    pub lay-copied : (o z : List ℕ) → z ≡ take (length (part s p n)) (part s p n) ++ drop (length (part s p n)) o → LaysFrom node s p o z
    unfolding nodes
    lay-copied o z c =
        record {
          put = λ h {l} f r.
              let i : e.list ≡ l = cc (f, e.reads) in
              subst (λ bs. Put o z (length bs) bs) (rewriting-is ∙ ap (linked node).kind.write i) (copy-put c);
        }

pub lay-room : (s : List ℕ) (p n : ℕ) (o : List ℕ) → n - p ≤ length o → length (part s p n) ≤ length o
lay-room s p n o h = simp (length-take, length-drop) (omega arith)

-- what a writer says of a list that does not read, or has a path over the bound
abbrev pub over_bound : ℕ → Bool → ℕ → ℕ → Written
over_bound source inside room at = by (placing source inside 0 room at)
  where
    by : Written → Written
    by (done n) = unwritten (LongPath 0)
    by (unwritten r) = unwritten r

module _ (source : ℕ) (inside : Bool) (room at : ℕ) (w : Result ℕ Refusal) (e : view_wrote w ≡ placing source inside 0 room at) where
  pub over-off : (r : Refusal) → w ≡ Err r → unwritten r ≡ over_bound source inside room at
  over-off r f = let g : placing source inside 0 room at ≡ unwritten r = sym e ∙ ap view_wrote f in sym (rw g)

  pub over-on : (n : ℕ) → w ≡ Ok n → unwritten (LongPath 0) ≡ over_bound source inside room at
  over-on n f = let g : placing source inside 0 room at ≡ done n = sym e ∙ ap view_wrote f in sym (rw g)

-- what a walk says of a held list
module _ (s : List ℕ) (x : Piece) where
  read-there : Answer (List Exportnode)
  read-there = (linked node).kind.read s x.at

  -- it does not read
  gone : (a : Answer (List Exportnode)) → (linked node).kind.read s x.at ≡ a → (d : Bool) (r : Refusal) → Err r ≡ walked x.at d a
      → nodes.held.inside s x ≡ false
  unfolding nodes
  gone (took l n b) e d r f = by (long_at x.at (long_list l)) f
    where
      by : (w : std.Option ℕ) → Err r ≡ Ok (finished w (length l) n b d) → nodes.held.inside s x ≡ false
      by None g = let z : ◌≡◌ {A = ℕ} 0 1 = cc g in absurd (omega arith)
      by (Some k) g = let z : ◌≡◌ {A = ℕ} 0 1 = cc g in absurd (omega arith)
  gone (refused q) e d r f = ap (has_count x.count) e

  -- it has so many entries, and a path over the bound
  over : (a : Answer (List Exportnode)) → (linked node).kind.read s x.at ≡ a → (d : Bool) (c k : ℕ) → Ok (walked·.Over c k) ≡ walked x.at d a
      → (nodes.held.inside s x ≡ eqb c x.count) × (is_within (long_list (nodes.held.mean s x)) ≡ false)
  unfolding nodes
  over (took l n b) e d c k f = by (long_list l) refl f
    where
      by : (o : Option ℕ) → long_list l ≡ o → ◌≡◌ {A = Result Walked Refusal} (Ok (walked·.Over c k)) (Ok (finished (long_at x.at o) (length l) n b d))
          → (nodes.held.inside s x ≡ eqb c x.count) × (is_within (long_list (nodes.held.mean s x)) ≡ false)
      by none i g = let z : ◌≡◌ {A = ℕ} 0 1 = cc g in absurd (omega arith)
      by (some j) i g =
          let h : c ≡ length l = cc g in
          (ap (has_count x.count) e ∙ ap (λ m. eqb m x.count) (sym h), ap (λ z. is_within (long_list (elements_of z))) e ∙ ap is_within i)
  over (refused q) e d c k f = let z : ◌≡◌ {A = ℕ} 0 1 = cc f in absurd (omega arith)

  -- it has so many entries, and is within the bound
  pub record Whole (c n : ℕ) (b : Bool) : Type 0 where
    pub list : List Exportnode
    pub reads : (linked node).kind.read s x.at ≡ took list n b
    pub count : c ≡ length list
    pub short : long_list list ≡ none

  whole : (a : Answer (List Exportnode)) → (linked node).kind.read s x.at ≡ a → (d₁ : Bool) (c n : ℕ) (b d : Bool)
      → Ok (walked·.Within c n b d) ≡ walked x.at d₁ a → Whole c n b
  whole (took l n' b') e d₁ c n b d f = by (long_list l) refl f
    where
      by : (o : Option ℕ) → long_list l ≡ o → ◌≡◌ {A = Result Walked Refusal} (Ok (walked·.Within c n b d)) (Ok (finished (long_at x.at o) (length l) n' b' d₁)) → Whole c n b
      by none i g =
          let h : n' ≡ n = cc g in
          let j : b' ≡ b = cc g in
          record { list = l; reads = e ∙ ap₂ (λ (n : ℕ) b. took l n b) h j; count = cc g; short = i }
      by (some k) i g = let z : ◌≡◌ {A = ℕ} 0 1 = cc g in absurd (omega arith)
  whole (refused q) e d₁ c n b d f = let z : ◌≡◌ {A = ℕ} 0 1 = cc f in absurd (omega arith)

  module _ (at : ℕ) (o : List ℕ) (w : Result ℕ Refusal) where
    over-writes : (i : Bool) → view_wrote w ≡ over_bound (length s) i (length o) at → i ≡ nodes.held.inside s x
        → (nodes.held.inside s x ≡ true → is_within (long_list (nodes.held.mean s x)) ≡ false) → WritesWithin nodes long_list s x at o (view_wrote w) o
    over-writes i e f g = by (placing (length s) i 0 (length o) at) refl
      where
        by : (z : Written) → placing (length s) i 0 (length o) at ≡ z → WritesWithin nodes long_list s x at o (view_wrote w) o
        by (done n) h =
            let j : view_wrote w ≡ unwritten (LongPath 0) = e ∙ rw h in
            let k : placing (length s) i 0 (length o) at ≡ placing (length s) (nodes.held.inside s x) 0 (length o) at = ap (λ b. placing (length s) b 0 (length o) at) f in
            subst (λ v. WritesWithin nodes long_list s x at o v o) (sym j) (over_done nodes long_list s x at o k g h)
        by (unwritten r) h =
            let j : view_wrote w ≡ unwritten r = e ∙ rw h in
            let k : placing (length s) i 0 (length o) at ≡ placing (length s) (nodes.held.inside s x) 0 (length o) at = ap (λ b. placing (length s) b 0 (length o) at) f in
            subst (λ v. WritesWithin nodes long_list s x at o v o) (sym j) (over-refused nodes long_list s x at o k g h)

    module _ (z : Result Walked Refusal) (e : z ≡ walk_of s x.at) where
      pub list-gone : (r : Refusal) → z ≡ Err r → view_wrote w ≡ over_bound (length s) false (length o) at
          → WritesWithin nodes long_list s x at o (view_wrote w) o
      unfolding nodes
      list-gone r f g =
          let i = gone ((linked node).kind.read s x.at) refl (clean_list node s x.at) r (sym f ∙ e) in
          over-writes false g (sym i) (λ t. let j : false ≡ true = sym i ∙ t in let v : ◌≡◌ {A = ℕ} 0 1 = cc j in absurd (omega arith))

      pub list_over : (v : Walked) (c k : ℕ) → z ≡ Ok v → v ≡ walked·.Over c k → view_wrote w ≡ over_bound (length s) (eqb c x.count) (length o) at
          → WritesWithin nodes long_list s x at o (view_wrote w) o
      unfolding nodes
      list_over v c k m f g =
          let i = over ((linked node).kind.read s x.at) refl (clean_list node s x.at) c k (sym (m ∙ ap Ok f) ∙ e) in
          over-writes (eqb c x.count) g (sym i.0) (λ t. i.1)

  pub walk_is : (z : Result Walked Refusal) (v : Walked) (c n : ℕ) (b d : Bool) → z ≡ walk_of s x.at → z ≡ Ok v → v ≡ walked·.Within c n b d → WalkedWithin s x.at c n b
  walk_is z v c n b d e m f = record { clean = d; is = sym (m ∙ ap Ok f) ∙ e }

  -- writing a list that is within the bound
  module _ (c n : ℕ) (b : Bool) (e : WalkedWithin s x.at c n b) where
    its : Whole c n b
    unfolding nodes
    its = whole ((linked node).kind.read s x.at) refl (clean_list node s x.at) c n b e.clean e.is

    pub list_read : NodesTo s x.at n b
    unfolding nodes
    list_read = record { list = its.list; reads = its.reads }

    list_inside : nodes.held.inside s x ≡ eqb c x.count
    unfolding nodes
    list_inside = ap (has_count x.count) its.reads ∙ ap (λ m. eqb m x.count) (sym its.count)

    list-short : long_list (nodes.held.mean s x) ≡ none
    unfolding nodes
    list-short = ap (λ z. long_list (elements_of z)) its.reads ∙ its.short

    module _ (given : (i : ℕ) → Fits w8 (get_or s i 0)) where
      pub list-ahead : x.at ≤ n
      list-ahead = lay-ahead s x.at n b list_read given

      list-good : nodes.codec.kind.Good (nodes.held.mean s x)
      unfolding nodes
      list-good =
          let f = its-form s x.at n b list_read given in
          subst (linked node).kind.Good (ap elements_of (sym list_read.reads)) ((linked node).laws.good list_read.list f.loose f.used f.form)

      list-size : length (output nodes s x) ≡ n - x.at
      unfolding nodes
      list-size =
          let f = its-form s x.at n b list_read given in
          let l : length f.used ≡ length ((linked node).kind.write list_read.list) = nodes-even.of list_read.list f.loose f.used f.form in
          ap (λ z. length ((linked node).kind.write (elements_of z))) list_read.reads ∙ omega (arith, l, f.next)

      module _ (at : ℕ) (o : List ℕ) (w : Result ℕ Refusal) (g : view_wrote w ≡ placing (length s) (eqb c x.count) (n - x.at) (length o) at) where
        said : view_wrote w ≡ placing (length s) (nodes.held.inside s x) (n - x.at) (length o) at
        said = g ∙ ap (λ i. placing (length s) i (n - x.at) (length o) at) (sym list_inside)

        pub list-refuses : (r : Refusal) → w ≡ Err r → WritesWithin nodes long_list s x at o (unwritten r) o
        list-refuses r f =
            subst (λ v. WritesWithin nodes long_list s x at o v o) (ap view_wrote f)
            (within-as nodes long_list s x at o list-short (placing·.refuses nodes s x (λ r. list-size) at o said (ap view_wrote f)))

        pub list-place : (k : ℕ) → w ≡ Ok k → at ≤ length o
        list-place k f = at_place nodes s x (λ r. list-size) at o said (ap view_wrote f)

        pub list-room : (k : ℕ) → w ≡ Ok k → n - x.at ≤ length (mid_of at (length o - at) o)
        list-room k f = has_room nodes s x (λ r. list-size) at o said (ap view_wrote f)

        pub list-writes : (k : ℕ) (zs : List ℕ) → w ≡ Ok k → LaysFrom node s x.at (mid_of at (length o - at) o) zs
            → WritesWithin nodes long_list s x at o (done k) (put_mid at (length o - at) o zs)
        unfolding nodes
        list-writes k zs f a =
            let d = placing·.ready nodes s x (λ r. list-size) at o said (ap view_wrote f) in
            let m : length (output nodes s x) ≤ length (mid_of at (length o - at) o) = omega (arith, list-room k f, list-size) in
            let p = (list-lays node s x (mid_of at (length o - at) o) zs a).put d m in
            let q : Put (mid_of at (length o - at) o) zs (n - x.at) (output nodes s x) =
            subst (λ j. Put (mid_of at (length o - at) o) zs j (output nodes s x)) list-size p in
            subst (λ v. WritesWithin nodes long_list s x at o v (put_mid at (length o - at) o zs)) (ap view_wrote f)
            (within-as nodes long_list s x at o list-short (placing·.wrote nodes s x (λ r. list-size) at o said (ap view_wrote f) list-good q))

-- it is a list under a bound
pub exports-bounded : Bounded nodes long_list exports
unfolding exports
exports-bounded = record { is = refl }
