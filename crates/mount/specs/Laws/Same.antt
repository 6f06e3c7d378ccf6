-- How two export lists are compared: bytes, lists of any elements, and what follows from the answer.
-- Assumes nothing.
use Rattle.std.specs.Prelude.{◌≡◌, ◌↔◌, ◌⊎◌, Bool, cond, ◌&&◌, ℕ, suc, ◌+◌, ◌≤◌, ◌<◌, eqb, drop, Result, Ok, Err}
use Rattle.std.proofs.Math.Path.{refl, ap, ap₂, subst₂}
use Rattle.std.proofs.Common.{sym, subst, ◌∙◌, inl, inr, add-one, length-drop, take-suc, Fits}
use Rattle.std.proofs.Math.Bool.{true, false}
use Rattle.std.proofs.Math.Option.{Option, none, some}
use mathlib.Core.List.{List, [], ◌∷◌, ◌++◌}
use native.Mathlib.Omega.{arith}
use Rattle.std.proofs.Math.Dec.{leb}
use Rattle.std.proofs.Math.ListN.{length, get_or, take}
use Rattle.std.proofs.Math.Seq.{get_or-take, get_or-drop}
use borrow.Author.Tests.{le-leb, lt-leb, eq-eqb, ne_eqb}
use Rattle.std.specs.Int.{w8}
use Rattle.xdr.specs.Meaning.Answer.{Answer, took, refused, most}
use Rattle.xdr.specs.Meaning.Bytes.{Bytes}
use Rattle.xdr.specs.Meaning.Format.{optional}
use Rattle.xdr.specs.Meaning.Formats.{bytes, piece_held}
use Rattle.xdr.specs.Meaning.Kind.{Found, Sound}
use Rattle.xdr.specs.Meaning.Linked.{elements_of, has_count}
use Rattle.xdr.specs.Meaning.Lists.{linked, clean_list}
use Rattle.xdr.specs.Meaning.Pieces.{bytes_in}
use Rattle.xdr.specs.Meaning.Promise.{Reading}
use Rattle.xdr.specs.Meaning.Public.{output}
use Rattle.xdr.specs.Meaning.Within.{is_within}
use Rattle.xdr.specs.Laws.Linked.{optional-some, long}
use Rattle.xdr.specs.Laws.Lists.{known_bytes, room}
use Rattle.xdr.specs.Laws.Pieces.{inside-le}
use Rattle.xdr.specs.Laws.Promise.{keeps}
use Rattle.xdr.specs.declared.piece.Piece.{Piece}
use Rattle.xdr.specs.declared.refusal.Refusal.{Refusal}
use Rattle.xdr.specs.declared.refusal.Refusal.TheVariants.{TooLong, Outside, LongPath}
use Rattle.mount.specs.Meaning.Group.{groups}
use Rattle.mount.specs.Meaning.Export.{Exportnode, node, nodes, long_list, finished, long_at, walked, walk_of}
use Rattle.mount.specs.Meaning.Same.{Alike, with_count, standing_by, standing_of, worse, is_held, is_short, objection, Says, Compares}
use Rattle.mount.specs.Laws.Path.{piece-length}
use Rattle.mount.specs.Laws.Pairs.{is_took, untrue, counted}
use Rattle.mount.specs.declared.export.exportnode.{exportnode}
use Rattle.mount.specs.declared.export.Walked.{Walked}
use Rattle.mount.specs.declared.export.Walked.TheVariants as walked·
use Rattle.mount.specs.declared.same.Standing.{Standing}
use Rattle.mount.specs.declared.same.Standing.TheVariants as standing

-- what the loop over the bytes keeps: the first k of n bytes that lie inside either source are the same
pub record Agree (s : List ℕ) (i : ℕ) (t : List ℕ) (j n k : ℕ) : Type 0 where
  pub same : take k (drop i s) ≡ take k (drop j t)
  pub left : i + n ≤ length s
  pub right : j + n ≤ length t
  pub most : k ≤ n

pub agree_on : {s t : List ℕ} {i j n k : ℕ} → Agree s i t j n k → k < n → get_or s (i + k) 0 ≡ get_or t (j + k) 0 → Agree s i t j n (k + 1)
agree_on {s} {t} {i} {j} {n} {k} a l f =
    record {
      same = rw add-one (more s i a.left ∙ ap₂ (λ l (b : ℕ). l ++ (b ∷ [])) a.same f ∙ sym (more t j a.right));
      left = a.left;
      right = a.right;
      most = omega arith;
    }
  where
    more : (u : List ℕ) (q : ℕ) → q + n ≤ length u → take (suc k) (drop q u) ≡ take k (drop q u) ++ (get_or u (q + k) 0 ∷ [])
    more u q h =
        take-suc (drop q u) k 0 (omega (arith, length-drop q u)) ∙ ap (λ (b : ℕ). take k (drop q u) ++ (b ∷ [])) (get_or-drop q u k 0)

-- two pieces of bytes
module _ (s : List ℕ) (x : Piece) (t : List ℕ) (y : Piece) (h : bytes.held.inside s x ≡ true) (g : bytes.held.inside t y ≡ true) where
  -- of other lengths
  pub lengths_differ : ¬ (x.count ≡ y.count) → Alike bytes s x t y false
  unfolding piece_held
  lengths_differ d = record { tells = λ e. d (sym (piece-length s x h) ∙ ap length e ∙ piece-length t y g) }

  module _ (m : x.count ≡ y.count) where
    pub agree-starts : Agree s x.at t y.at x.count 0
    unfolding piece_held
    agree-starts = record { same = refl; left = inside-le s x h; right = omega (arith, inside-le t y g); most = omega arith }

    module _ (k : ℕ) (a : Agree s x.at t y.at x.count k) where
      -- all bytes are the same
      pub bytes_same : x.count ≤ k → Alike bytes s x t y true
      unfolding piece_held
      bytes_same l =
          let f : x.count ≡ k = omega arith in
          record { tells = ap (λ n. take n (drop x.at s)) f ∙ a.same ∙ ap (λ n. take n (drop y.at t)) (sym f ∙ m) }

      -- one is another
      pub byte-differs : k < x.count → ¬ (get_or s (x.at + k) 0 ≡ get_or t (y.at + k) 0) → Alike bytes s x t y false
      unfolding piece_held
      byte-differs l d = record { tells = λ e. d (sym (at s x l) ∙ ap (λ z. get_or z k 0) e ∙ at t y (omega arith)) }
        where
          at : (u : List ℕ) (z : Piece) → k < z.count → get_or (bytes_in u z) k 0 ≡ get_or u (z.at + k) 0
          at u z l = get_or-take z.count (drop z.at u) k 0 l ∙ get_or-drop z.at u k 0

-- an entry: its path, and then its groups
and_both : (a b : Bool) → (a && b) ≡ true → (a ≡ true) × (b ≡ true)
and_both true b e = (refl, e)
and_both false b e = untrue e

module _ (s : List ℕ) (x : exportnode) (h : node.held.inside s x ≡ true) where
  pub dir-inside : bytes.held.inside s x.ex_dir ≡ true
  unfolding node
  dir-inside = (and_both (bytes.held.inside s x.ex_dir) (groups.held.inside s x.ex_groups) h).0

  pub groups-inside : groups.held.inside s x.ex_groups ≡ true
  unfolding node
  groups-inside = (and_both (bytes.held.inside s x.ex_dir) (groups.held.inside s x.ex_groups) h).1

module _ (s : List ℕ) (x : exportnode) (t : List ℕ) (y : exportnode) (q : Bool) (d : Alike bytes s x.ex_dir t y.ex_dir q) where
  pub dirs-differ : q ≡ false → Alike node s x t y false
  unfolding node
  dirs-differ h = record { tells = λ e. (subst (Alike bytes s x.ex_dir t y.ex_dir) h d).tells (ap (λ z. z.ex_dir) e) }

  by-groups : (r : Bool) → Alike bytes s x.ex_dir t y.ex_dir true → Alike groups s x.ex_groups t y.ex_groups r → Alike node s x t y r
  unfolding node
  by-groups true e f = record { tells = ap₂ (λ u v. record { ex_dir = u; ex_groups = v }) e.tells f.tells }
  by-groups false e f = record { tells = λ k. f.tells (ap (λ z. z.ex_groups) k) }

  pub groups-tell : (r : Bool) → q ≡ true → Alike groups s x.ex_groups t y.ex_groups r → Alike node s x t y r
  groups-tell r h f = by-groups r (subst (Alike bytes s x.ex_dir t y.ex_dir) h d) f

-- how a walked list stands
module _ (c n : ℕ) (u : Standing) where
  pub count-is : c ≡ n → u ≡ with_count c n u
  count-is e = sym (rw (eq-eqb c n e))

  pub count-is-not : ¬ (c ≡ n) → standing.Outside ≡ with_count c n u
  count-is-not e = sym (rw (ne_eqb c n e))

abbrev stand_of : ℕ → Result Walked Refusal → Standing
stand_of n (Err r) = standing.Outside
stand_of n (Ok (walked·.Within c m b d)) = with_count c n standing.Within
stand_of n (Ok (walked·.Over c k)) = with_count c n standing.Long

stand-long : (p c n m : ℕ) (b d : Bool) (o : Option ℕ) → stand_of n (Ok (finished (long_at p o) c m b d)) ≡ standing_by (eqb c n) (is_within o)
stand-long p c n m b d none = refl
stand-long p c n m b d (some k) = refl

stand-walked : (p n : ℕ) (d : Bool) (z : Answer (List Exportnode)) → stand_of n (walked p d z) ≡ standing_by (has_count n z) (is_within (long_list (elements_of z)))
stand-walked p n d (took l m b) = stand-long p (length l) n m b d (long_list l)
stand-walked p n d (refused r) = refl

module _ (s : List ℕ) (x : Piece) (z : Result Walked Refusal) (e : z ≡ walk_of s x.at) where
  stand-is : stand_of x.count z ≡ standing_of s x
  unfolding nodes
  stand-is = ap (stand_of x.count) e ∙ stand-walked x.at x.count (clean_list node s x.at) ((linked node).kind.read s x.at)

  pub stands-refused : (r : Refusal) → z ≡ Err r → standing.Outside ≡ standing_of s x
  stands-refused r f = ap (stand_of x.count) (sym f) ∙ stand-is

  module _ (w : Walked) (g : z ≡ Ok w) where
    pub stands-within : (c m : ℕ) (b d : Bool) (u : Standing) → w ≡ walked·.Within c m b d → u ≡ with_count c x.count standing.Within → u ≡ standing_of s x
    stands-within c m b d u f i = i ∙ ap (stand_of x.count) (sym (g ∙ ap Ok f)) ∙ stand-is

    pub stands-over : (c k : ℕ) (u : Standing) → w ≡ walked·.Over c k → u ≡ with_count c x.count standing.Long → u ≡ standing_of s x
    stands-over c k u f i = i ∙ ap (stand_of x.count) (sym (g ∙ ap Ok f)) ∙ stand-is

-- how two lists stand, and what is said of it
worse-both : (i k j l : Bool) → worse (standing_by i k) (standing_by j l) ≡ standing_by (i && j) (k && l)
worse-both false k j l = refl
worse-both true false false l = refl
worse-both true false true false = refl
worse-both true false true true = refl
worse-both true true j l = refl

abbrev said_by : Standing → Option Refusal
said_by standing.Outside = some Outside
said_by standing.Long = some (LongPath 0)
said_by standing.Within = none

said-by : (i k : Bool) → cond i (cond k none (some (LongPath 0))) (some Outside) ≡ said_by (standing_by i k)
said-by false k = refl
said-by true false = refl
said-by true true = refl

never : {P : Type 0} {u : Standing} → u ≡ standing.Within → (u ≡ standing.Outside) ⊎ (u ≡ standing.Long) → P
never e (inl f) = let z : ◌≡◌ {A = ℕ} 0 1 = cc in absurd (omega arith)
never e (inr f) = let z : ◌≡◌ {A = ℕ} 0 1 = cc in absurd (omega arith)

held_by : (i k : Bool) → standing_by i k ≡ standing.Within → i ≡ true
held_by true k e = refl
held_by false k e = never e (inl refl)

not-worse : (u v : Standing) → worse u v ≡ standing.Within → (u ≡ standing.Within) × (v ≡ standing.Within)
not-worse standing.Within v e = (refl, e)
not-worse standing.Outside v e = never e (inl refl)
not-worse standing.Long standing.Outside e = never e (inl refl)
not-worse standing.Long standing.Long e = never e (inr refl)
not-worse standing.Long standing.Within e = never e (inr refl)

module _ (s : List ℕ) (x : Piece) (u v w : Standing) (f : w ≡ worse u v) (k : w ≡ standing.Within) where
  pub left-held : u ≡ standing_of s x → nodes.held.inside s x ≡ true
  left-held d = held_by (is_held s x) (is_short s x) (sym d ∙ (not-worse u v (sym f ∙ k)).0)

  pub right-held : v ≡ standing_of s x → nodes.held.inside s x ≡ true
  right-held d = held_by (is_held s x) (is_short s x) (sym d ∙ (not-worse u v (sym f ∙ k)).1)

module _ (s : List ℕ) (x : Piece) (t : List ℕ) (y : Piece) (h : (k : ℕ) → Fits w8 (get_or s k 0)) (g : (k : ℕ) → Fits w8 (get_or t k 0)) where
  says : {r : Result Bool Refusal} → Says s x t y r → Compares s x t y r
  says c = record { says = c; left = known_bytes s h; right = known_bytes t g }

  pub left-too-long : most < length s → Compares s x t y (Err TooLong)
  unfolding objection
  left-too-long l = says (rw (lt-leb (length s) most l))

  pub right-too-long : length s ≤ most → most < length t → Compares s x t y (Err TooLong)
  unfolding objection
  right-too-long l m = says (rw (le-leb (length s) most l, lt-leb (length t) most m))

  module _ (l : length s ≤ most) (m : length t ≤ most) (u v w : Standing) (d : u ≡ standing_of s x) (e : v ≡ standing_of t y) (f : w ≡ worse u v) where
    stand : w ≡ standing_by (is_held s x && is_held t y) (is_short s x && is_short t y)
    stand = f ∙ ap₂ (λ a b. worse a b) d e ∙ worse-both (is_held s x) (is_short s x) (is_held t y) (is_short t y)

    said : objection s x t y ≡ said_by w
    unfolding objection
    said =
        rw (le-leb (length s) most l, le-leb (length t) most m) (said-by (is_held s x && is_held t y) (is_short s x && is_short t y))
        ∙ ap said_by (sym stand)

    pub is-outside : w ≡ standing.Outside → Compares s x t y (Err Outside)
    is-outside k = says (said ∙ ap said_by k)

    pub is-long : w ≡ standing.Long → Compares s x t y (Err (LongPath 0))
    is-long k = says (said ∙ ap said_by k)

    module _ (k : w ≡ standing.Within) where
      pub is_compared : (r : Bool) → Alike nodes s x t y r → Compares s x t y (Ok r)
      is_compared true a = says (said ∙ ap said_by k, a.tells)
      is_compared false a = says (said ∙ ap said_by k, a.tells)

-- what the answer says: refused with a number exactly if there is that objection, and else the same exactly if the messages are, which is
-- exactly if their rewritings are equal bytes
differ : {P : Type 0} {r : Refusal} → none ≡ some r → P
differ e = let z : ◌≡◌ {A = ℕ} 0 1 = cc in absurd (omega arith)

none_then : (a i k : Bool) → cond a (cond i (cond k none (some (LongPath 0))) (some Outside)) (some TooLong) ≡ none → i ≡ true
none_then true true k e = refl
none_then true false k e = differ (sym e)
none_then false i k e = differ (sym e)

module _ (s : List ℕ) (h : Bytes s) (p : ℕ) where
  begins : (l : List Exportnode) (n : ℕ) (b : Bool) → Found (linked node).kind s p l n b → p ≤ length s
  begins l n b f =
      omega (
        arith,
        long (optional node).codec (optional-some node) (suc (length l)) l f.loose f.used f.form,
        room f.used f.left s p f.stands,
      )

  reading : (z : Answer (List Exportnode)) → (linked node).kind.read s p ≡ z → is_took z ≡ true
      → (r : Reading (linked node).kind) × (r.message ≡ elements_of z)
  reading (took l n b) e f =
      let g : Found (linked node).kind s p l n b = subst (Sound (linked node).kind s p) e ((linked node).laws.sound s p h) in
      (record { input = s; place = p; message = l; next = n; plain = b; bytes = h; inside = begins l n b g; reads = e }, refl)
  reading (refused r) e f = untrue f

module _ (s : List ℕ) (x : Piece) (t : List ℕ) (y : Piece) where
  pub refused_iff : (r : Result Bool Refusal) (q : Refusal) → Compares s x t y r → (r ≡ Err q) ↔ (objection s x t y ≡ some q)
  refused_iff (Err q') q c = ((λ e. let z : q' ≡ q = cc e in c.says ∙ ap some z), (λ e. let z : q' ≡ q = cc (c.says, e) in ap Err z))
  refused_iff (Ok true) q c = ((λ e. let z : ◌≡◌ {A = ℕ} 0 1 = cc in absurd (omega arith)), (λ e. differ (sym c.says.0 ∙ e)))
  refused_iff (Ok false) q c = ((λ e. let z : ◌≡◌ {A = ℕ} 0 1 = cc in absurd (omega arith)), (λ e. differ (sym c.says.0 ∙ e)))

  -- two answers that the contract permits are one
  pub one-compared : (q r : Result Bool Refusal) → Compares s x t y q → Compares s x t y r → q ≡ r
  one-compared (Err q) r c d = sym ((refused_iff r q d).1 c.says)
  one-compared (Ok true) (Err r) c d = (refused_iff (Ok true) r c).1 d.says
  one-compared (Ok false) (Err r) c d = (refused_iff (Ok false) r c).1 d.says
  one-compared (Ok true) (Ok true) c d = refl
  one-compared (Ok true) (Ok false) c d = absurd (d.says.1 c.says.1)
  one-compared (Ok false) (Ok true) c d = absurd (c.says.1 d.says.1)
  one-compared (Ok false) (Ok false) c d = refl

  module _ (k : objection s x t y ≡ none) where
    pub same_iff : (r : Result Bool Refusal) → Compares s x t y r → (r ≡ (Ok true)) ↔ (nodes.held.mean s x ≡ nodes.held.mean t y)
    same_iff (Err q) c = differ (sym k ∙ c.says)
    same_iff (Ok true) c = ((λ e. c.says.1), (λ e. refl))
    same_iff (Ok false) c = ((λ e. let z : ◌≡◌ {A = ℕ} 0 1 = cc in absurd (omega arith)), (λ e. absurd (c.says.1 e)))

    both-held : (is_held s x ≡ true) × (is_held t y ≡ true)
    unfolding objection
    both-held =
        and_both (is_held s x) (is_held t y)
        (none_then (leb (length s) most && leb (length t) most) (is_held s x && is_held t y) (is_short s x && is_short t y) k)

    rewritten-iff : Bytes s → Bytes t → (nodes.held.mean s x ≡ nodes.held.mean t y) ↔ (output nodes s x ≡ output nodes t y)
    unfolding nodes
    rewritten-iff h g =
        let u = reading s h x.at ((linked node).kind.read s x.at) refl (counted x.count ((linked node).kind.read s x.at) both-held.0) in
        let v = reading t g y.at ((linked node).kind.read t y.at) refl (counted y.count ((linked node).kind.read t y.at) both-held.1) in
        subst₂ (λ a b. (a ≡ b) ↔ ((linked node).kind.write a ≡ (linked node).kind.write b)) u.1 v.1 ((keeps (linked node)).same_iff u.0 v.0)

    pub same-rewritten-iff : (r : Result Bool Refusal) → Compares s x t y r → (r ≡ (Ok true)) ↔ (output nodes s x ≡ output nodes t y)
    same-rewritten-iff r c =
        let e = same_iff r c in
        let f = rewritten-iff c.left c.right in
        ((λ z. f.0 (e.0 z)), (λ z. e.1 (f.1 z)))
