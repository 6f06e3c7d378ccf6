-- The marks of a reading are all clean exactly if no padding that was read is dirty: a step for each combinator, and the items.
-- Assumes nothing.
use Rattle.std.specs.Prelude.{◌≡◌, refl, ◌↔◌, Bool, true, false, cond, ◌&&◌, List, [], ◌∷◌, ◌++◌, ℕ, ◌+◌, ◌-◌, ◌*◌, leb, length, drop}
use Rattle.std.proofs.Common.{sym, ap, ap₂, subst, ◌∙◌, arith, take-append-drop}
use Rattle.std.proofs.Math.Bool.{and-true}
use Rattle.std.proofs.Math.Option.{Option, none, some}
use Rattle.xdr.specs.Meaning.Bytes.{Stands, digits, value, number_at, padding, zeros}
use Rattle.xdr.specs.Meaning.Refusal.{cut_short}
use Rattle.xdr.specs.Meaning.Answer.{Answer, took, refused, Taken, Way, dirty_pad, Loose, here, shifted, clean}
use Rattle.xdr.specs.Meaning.Kind.{Codec}
use Rattle.xdr.specs.Meaning.Combinators.{Seen, means, undeclared, View, Raw}
use Rattle.xdr.specs.Meaning.Codecs.{exact_view}
use Rattle.xdr.specs.Meaning.Items.{hyper, eight}
use Rattle.xdr.specs.Laws.Items.{eight-faithful, eight-to-good, eight-see-to}
use Rattle.xdr.specs.Meaning.Held.{Held, then_first, then_second, then_marks, Holds, map_seen, seen_as, look_at}
use Rattle.xdr.specs.Meaning.Format.{Format, plain, held_chain, ◌⨟◌, held_view, Renaming, named_see_to, named_square, named_within, named, Branch, tagged, Choice, Lawfully, choice}
use Rattle.xdr.specs.Meaning.Status.{Status, Arms, arm_of, status_of, on_status}
use Rattle.xdr.specs.Meaning.Pieces.{pad_zero, piece_at, word_piece_at}
use Rattle.xdr.specs.Meaning.Bounded.{capped, cap}
use Rattle.xdr.specs.Meaning.Lists.{bounded}
use Rattle.xdr.specs.Meaning.Formats.{eight_held, eight_bytes, piece_held, bytes, words_held, word_list}
use Rattle.xdr.specs.Meaning.Public.{Took, message, used_by}
use Rattle.xdr.specs.Meaning.Marks.{all_clean, no_pad, pads_clean, OnlyPads, Marked, MarksAre, marks_of, MarksTell}
use Rattle.xdr.specs.Laws.Lists.{stands-first, stands-second}
use Rattle.xdr.specs.Laws.Forms.{pad-mark, opaque-stands, words-form}
use Rattle.xdr.specs.Laws.Held.{means-taken}
use Rattle.xdr.specs.Laws.Unpadded.{pads-append, pads-shifted, Unpadded, hyper-unpadded, view-unpadded}
use Rattle.xdr.specs.Laws.Public.{opened-took, kept}
use Rattle.xdr.specs.declared.piece.Piece.{Piece}
use Rattle.xdr.specs.declared.refusal.Refusal.{Refusal}

-- the marks of two values are those of both
pub marks-append : (a b : List Bool) → all_clean (a ++ b) ≡ (all_clean a && all_clean b)
marks-append [] b = refl
marks-append (true ∷ a) b = marks-append a b
marks-append (false ∷ a) b = refl

-- what is read where a form stands: a value that means it, up to its end
module _ {M S : Type 0} {C : Codec M} (H : Held C S) (m : M) (w : List Loose) (e t s : List ℕ) (p : ℕ) (f : C.kind.Form m w e) (h : Stands e t s p) where
  pub stood : (x : S) × (H.read s p ≡ took x (p + length e) (clean w)) × (H.mean s x ≡ m)
  stood = means-taken H s p (C.laws.complete m w e t s p f h)

-- to show of an answer what holds of the value that it took
pub taken : {A : Type 0} (P : A → Type 0) {a : Answer A} {x : A} {n : ℕ} {b : Bool} → a ≡ took x n b → P x → Taken P a
taken P e h = subst (Taken P) (sym e) h

pub of-taken : {A : Type 0} (P : A → Type 0) {a : Answer A} {x : A} {n : ℕ} {b : Bool} → a ≡ took x n b → Taken P a → P x
of-taken P e h = subst (Taken P) e h

-- no pieces, and no padding
pub plain-marked : {M : Type 0} {C : Codec M} → Unpadded C.kind → Marked (plain C)
plain-marked {M} {C} u = record { tells = λ m w e t s p h f g. taken _ (C.laws.complete m w e t s p f g) (sym (u.none m w e f)) }

-- one after another
module _ {M S : Type 0} {N : M → Type 0} {T : S → Type 0} {A : Codec M} (B : (a : M) → Codec (N a)) (H : Held A S)
    (G : (s : List ℕ) (x : S) → Held (B (H.mean s x)) (T x)) where
  both : (s : List ℕ) (x : S) (b c d : Bool) (w : List Loose) → all_clean (H.marks s x) ≡ c → (c && d) ≡ pads_clean w → (y : Answer (T x))
      → Taken (λ v. all_clean ((G s x).marks s v) ≡ d) y → Taken (λ z. all_clean (then_marks B H G s z) ≡ pads_clean w) (then_second B H G x b y)
  both s x b c d w i j (took y n b') k = marks-append (H.marks s x) ((G s x).marks s y) ∙ ap₂ (λ u v. u && v) i k ∙ j
  both s x b c d w i j (refused r) k = tt

  behind : (s : List ℕ) (x : S) (a : M) → H.mean s x ≡ a → (y : N a) (w : List Loose) (e : List ℕ) → (B a).kind.Form y w e
      → (y' : N (H.mean s x)) × (B (H.mean s x)).kind.Form y' w e
  behind s x a i y w e f =
      subst (λ a. (y : N a) → (B a).kind.Form y w e → (y' : N (H.mean s x)) × (B (H.mean s x)).kind.Form y' w e) i (λ y f. (y, f)) y f

  pub then-marked : Marked H → ((s : List ℕ) (x : S) → Marked (G s x)) → Marked (held_chain B H G)
  then-marked K L =
      record {
        tells = λ m w e t s p h f g.
            let g' : Stands (f.e₁ ++ f.e₂) t s p = rw f.bytes at g in
            let g₁ = stands-first f.e₁ f.e₂ t s p g' in
            let g₂ = stands-second f.e₁ f.e₂ t s p g' in
            let d = stood H m.0 f.w₁ f.e₁ (f.e₂ ++ t) s p f.form₁ g₁ in
            let x = d.0 in
            let o = behind s x m.0 d.2 m.1 f.w₂ f.e₂ f.form₂ in
            let i : all_clean (H.marks s x) ≡ pads_clean f.w₁ =
            of-taken _ d.1 (K.tells m.0 f.w₁ f.e₁ (f.e₂ ++ t) s p h f.form₁ g₁) in
            let j : (pads_clean f.w₁ && pads_clean f.w₂) ≡ pads_clean w =
            sym
            (ap pads_clean f.loose
            ∙ pads-append f.w₁ (shifted (length f.e₁) f.w₂)
            ∙ ap (λ b. pads_clean f.w₁ && b) (pads-shifted (length f.e₁) f.w₂)) in
            let k = (L s x).tells o.0 f.w₂ f.e₂ t s (p + length f.e₁) h o.1 g₂ in
            subst (λ a. Taken (λ z. all_clean (then_marks B H G s z) ≡ pads_clean w) (then_first B H G s a)) (sym d.1)
            (both s x (clean f.w₁) (pads_clean f.w₁) (pads_clean f.w₂) w i j ((G s x).read s (p + length f.e₁)) k);
      }

pub pair-marked : {M N S T : Type 0} {F : Format M S} {G : Format N T} → Marked F.held → Marked G.held → Marked (F ⨟ G).held
pair-marked {F = F} {G = G} K L = then-marked (λ a. G.codec) F.held (λ s x. G.held) K (λ s x. L)

-- seen as another: the marks are those that were there, and dirty where the view sees dirty padding
abbrev pub CarriesTo : {T : Type 0} → (T → Bool) → Bool → Seen T → Type 0
CarriesTo mark b (means y w) = mark y ≡ (pads_clean (here w) && b)
CarriesTo mark b undeclared = Unit {0}

module _ {M S N T : Type 0} {C : Codec M} (W : View M C.kind.Good N) (H : Held C S) (U : Holds H W.see T) where
  abbrev Carries : List ℕ → S → Seen T → Type 0
  Carries s x = CarriesTo (λ y. all_clean (U.marks s y)) (all_clean (H.marks s x))

  module _ (s : List ℕ) (x : S) (m : N) (v : List Way) (w₁ w : List Loose) (l : w ≡ here v ++ w₁) (i : all_clean (H.marks s x) ≡ pads_clean w₁) where
    seen-marks : (p n : ℕ) (b : Bool) (y : Seen T) → map_seen (U.mean s) y ≡ means m v → Carries s x y
        → Taken (λ z. all_clean (U.marks s z) ≡ pads_clean w) (seen_as p n b y)
    seen-marks p n b (means y v') e c =
        let j : v' ≡ v = cc e in
        c ∙ ap₂ (λ a b. pads_clean (here a) && b) j i ∙ sym (ap pads_clean l ∙ pads-append (here v) w₁)
    seen-marks p n b undeclared e c = let z : ◌≡◌ {A = ℕ} 0 1 = cc e in absurd (omega arith)

  pub view-marked : ((s : List ℕ) (x : S) → Carries s x (U.holds x)) → Marked H → Marked (held_view W H U)
  view-marked c K =
      record {
        tells = λ m w e t s p h f g.
            let d = stood H f.of f.w₁ e t s p f.form g in
            let x = d.0 in
            let i : all_clean (H.marks s x) ≡ pads_clean f.w₁ = of-taken _ d.1 (K.tells f.of f.w₁ e t s p h f.form g) in
            let j : map_seen (U.mean s) (U.holds x) ≡ means m f.w₂ = sym (U.square s x) ∙ ap W.see d.2 ∙ f.sees in
            subst (λ a. Taken (λ z. all_clean (U.marks s z) ≡ pads_clean w) (look_at U.holds p a)) (sym d.1)
            (seen-marks s x m f.w₂ f.w₁ w f.loose i p (p + length e) (clean f.w₁) (U.holds x) j (c s x));
      }

pub named-marked : {M N S T : Type 0} (F : Format M S) (R : Renaming M N S T) → Marked F.held → Marked (named F R).held
named-marked F R K =
    view-marked (exact_view F.codec (λ x. means (R.to x) []) R.from R.from_to (named_see_to F R)) F.held
    (record {
      holds = λ y. means (R.hold y) [];
      mean = λ s y. R.to (F.held.mean s (R.pieces y));
      inside = λ s y. F.held.inside s (R.pieces y);
      marks = λ s y. F.held.marks s (R.pieces y);
      square = named_square F R;
      within = named_within F R;
    })
    (λ s x. ap (λ y. all_clean (F.held.marks s y)) (R.pieces_hold x)) K

-- the items: an opaque's mark is the one thing that can be loose in it
abbrev MarkedAs : Answer Piece → Type 0
MarkedAs (took x n b) = x.clean ≡ b
MarkedAs (refused r) = Unit {0}

marked-as : (t u : Bool) (x : Piece) (n : ℕ) (b : Bool) (r r' : Refusal) → x.clean ≡ b → MarkedAs (cond t (cond u (took x n b) (refused r)) (refused r'))
marked-as true true x n b r r' h = h
marked-as true false x n b r r' h = tt
marked-as false u x n b r r' h = tt

piece-as : (s : List ℕ) (p : ℕ) → MarkedAs (piece_at s p)
piece-as s p =
    let n : ℕ = number_at 4 s p in
    marked-as (leb 4 (length s - p)) (leb (4 + n + padding n) (length s - p)) (record { at = p + 4; count = n; clean = pad_zero s p n })
    (p + 4 + n + padding n) (pad_zero s p n) (cut_short (4 + n + padding n) s p) (cut_short 4 s p) refl

one-pad : (t : Bool) (k : ℕ)
    → clean {A = Loose} (cond t [] (record { offset = k; way = dirty_pad } ∷ [])) ≡ pads_clean (cond t [] (record { offset = k; way = dirty_pad } ∷ []))
one-pad true k = refl
one-pad false k = refl

pub bytes-marked : Marked bytes.held
unfolding piece_held
bytes-marked =
    record {
      tells = λ l w e t s p h f g.
          let d = stood piece_held l w e t s p f g in
          let o = opaque-stands l w e f in
          let m = o.loose ∙ pad-mark (length l) (zeros o.pad) in
          let c : d.0.clean ≡ clean w = subst MarkedAs d.1 (piece-as s p) in
          let i : clean w ≡ pads_clean w = rw m (one-pad (zeros o.pad) (4 + length l)) in
          taken _ d.1 (and-true d.0.clean ∙ c ∙ i);
    }

pub words-marked : Marked word_list.held
unfolding words_held
words-marked =
    record {
      tells = λ l w e t s p h f g.
          let d = stood words_held l w e t s p f g in
          let o = (words-form l w e).0 f in
          let c : d.0.clean ≡ clean w = subst MarkedAs d.1 (marks s p) in
          let i : clean w ≡ pads_clean w = rw o.loose in
          taken _ d.1 (and-true d.0.clean ∙ c ∙ i);
    }
  where
    marks : (s : List ℕ) (p : ℕ) → MarkedAs (word_piece_at s p)
    marks s p =
        let n : ℕ = number_at 4 s p in
        marked-as (leb 4 (length s - p)) (leb (4 + n * 4) (length s - p)) (record { at = p + 4; count = n; clean = true }) (p + 4 + n * 4) true
        (cut_short (4 + n * 4) s p) (cut_short 4 s p) refl

pub eight-marked : Marked eight_bytes.held
unfolding eight_held eight
eight-marked =
    view-marked
    (record { Good = Raw 8; see = λ n. means (digits 8 n) []; to = value; faithful = eight-faithful; to_good = eight-to-good; see_to = eight-see-to })
    (plain hyper)
    (record { holds = λ n. means n []; mean = λ s n. digits 8 n; inside = λ s n. true; marks = λ s n. []; square = λ s n. refl; within = λ s n h. refl })
    (λ s x. refl) (plain-marked hyper-unpadded)

-- the mark of a piece
pub piece-marks : (x : Piece) (l : List Bool) → l ≡ x.clean ∷ [] → MarksAre bytes x l
unfolding piece_held
piece-marks x l e = record { are = λ s. e }

pub words-marks : (x : Piece) (l : List Bool) → l ≡ x.clean ∷ [] → MarksAre word_list x l
unfolding words_held
words-marks x l e = record { are = λ s. e }

-- a union
module _ {A : Type 0} (tags : Codec A) (branches : A → Branch) (u : Unpadded tags.kind) (K : (tag : A) → Marked (branches tag).format.held) where
  pub tagged-marked : Marked (tagged tags branches).held
  tagged-marked = then-marked _ _ _ (plain-marked u) (λ s tag. K tag)

  pub choice-marked : {N T : Type 0} (U : Choice tags branches N T) (L : Lawfully tags branches U)
      → ((s : List ℕ) (tag : A) (y : (branches tag).Has)
      → CarriesTo (λ z. all_clean (U.marks s z)) (all_clean ((branches tag).format.held.marks s y)) (U.hold tag y))
      → Marked (choice tags branches U L).held
  choice-marked U L c =
      view-marked (exact_view (tagged tags branches).codec (λ y. U.see y.0 y.1) U.to (λ y. L.kept y.0 y.1) L.back) (tagged tags branches).held
      (record {
        holds = λ y. U.hold y.0 y.1;
        mean = U.mean;
        inside = U.inside;
        marks = U.marks;
        square = λ s y. L.square s y.0 y.1;
        within = λ s y h. L.within s y.0 y.1 h;
      })
      (λ s y. c s y.0 y.1) tagged-marked

-- a union on a status
module _ {A Fail M N S T R : Type 0} (C : Codec A) (U : Status A Fail) (F : Format M S) (G : Format N T) (W : Arms Fail S T R) where
  pub status-marked : Unpadded C.kind → Marked F.held → Marked G.held → Marked (on_status C U F G W).held
  status-marked u K L = named-marked (tagged (status_of C U F G W) (arm_of F G)) _ (tagged-marked (status_of C U F G W) (arm_of F G) (view-unpadded (λ x. refl) u) arm)
    where
      arm : (o : Option Fail) → Marked (arm_of F G o).format.held
      arm none = K
      arm (some f) = L

-- a bound
pub bounded-marked : {M S : Type 0} (F : Format M S) (over : M → Option ℕ) → Marked F.held → Marked (bounded F over).held
bounded-marked F over K =
    record {
      tells = λ m w e t s p h f g.
          let d = stood F.held m w e t s p f.0 g in
          let o : over (F.held.mean s d.0) ≡ none = ap over d.2 ∙ f.1 in
          let r : (bounded F over).held.read s p ≡ took d.0 (p + length e) (clean w) =
          ap (cap (λ x. over (F.held.mean s x)) p) d.1 ∙ ap (capped p d.0 (p + length e) (clean w)) o in
          taken _ r (of-taken _ d.1 (K.tells m w e t s p h f.0 g));
    }

-- so in every answer of a public reader
only_none : (w : List Loose) → OnlyPads w → pads_clean w ≡ true → w ≡ []
only_none [] o h = refl
only_none (x ∷ w) o h = let z : ◌≡◌ {A = ℕ} 0 1 = cc (ap no_pad o.0, h) in absurd (omega arith)

module _ {M S : Type 0} (F : Format M S) (K : Marked F.held) where
  read : (t : Took F) → F.held.read t.source t.place ≡ took t.value t.next t.plain
  read t = (opened-took t.source t.place (F.held.read t.source t.place) t.answers.is).0

  pads : (t : Took F) (w : List Loose) → F.codec.kind.Form (message F t) w (used_by F t) → all_clean (marks_of F t) ≡ pads_clean w
  pads t w f =
      let n : ℕ = t.next - t.place in
      let g : Stands (used_by F t) (drop n (drop t.place t.source)) t.source t.place =
      sym (take-append-drop n (drop t.place t.source)) in
      of-taken (λ x. all_clean (F.held.marks t.source x) ≡ pads_clean w) (read t)
      (K.tells (message F t) w (used_by F t) (drop n (drop t.place t.source)) t.source t.place t.answers.bytes f g)

  clean_iff : (t : Took F) (w : List Loose) → F.codec.kind.Form (message F t) w (used_by F t) → OnlyPads w
      → (t.plain ≡ true) ↔ (all_clean (marks_of F t) ≡ true)
  clean_iff t w f o =
      let k = (kept F).clean_iff t w f in
      let i = pads t w f in (
        (λ e. i ∙ ap pads_clean (k.0 e)),
        (λ e. k.1 (only_none w o (sym i ∙ e))),
      )

  pub marks-tell : MarksTell F
  marks-tell =
      record {
        pads = pads;
        plain_iff = clean_iff;
        plain_clean = λ t e. let f = (kept F).formed t in pads t f.0 f.1 ∙ ap pads_clean (((kept F).clean_iff t f.0 f.1).0 e);
      }
