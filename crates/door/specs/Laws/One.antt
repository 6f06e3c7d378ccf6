-- Two answers that a contract permits are one: of `copy_kind`, and of each exported function.
-- Assumes nothing.
use Rattle.std.specs.Prelude.{◌≡◌, refl, Bool, true, false, not, ◌&&◌, List, [], ◌∷◌, ◌⊎◌, ℕ, zero, suc, ◌+◌, ◌≤◌, ◌<◌, leb, eqb, length}
use Rattle.std.proofs.Common.{sym, ap, ◌∙◌, inl, inr, leb-true, leb-false}
use Rattle.std.proofs.Math.Option.{Option, none, some}
use Rattle.std.proofs.lemmas.List.Edits.{sets}
use Rattle.xdr.specs.Meaning.Answer.{Answer, Written}
use Rattle.xdr.specs.Meaning.Format.{Format, Branch}
use Rattle.xdr.specs.Meaning.Public.{Answers, leaving, Writes}
use Rattle.xdr.specs.Meaning.Pieces.{is_inside, are_inside}
use Rattle.xdr.specs.Meaning.Sources.{longer}
use Rattle.xdr.specs.Laws.One.{Told}
use Rattle.xdr.specs.Laws.Sources.{from_one}
use Rattle.xdr.specs.declared.piece.Piece.{Piece}
use Rattle.door.specs.declared.copy.Marking.{Marking}
use Rattle.door.specs.declared.copy.Marking.TheVariants as marking
use Rattle.rpc.specs.Meaning.Auth.{opaque-auth, auth-unix}
use Rattle.rpc.specs.Meaning.Reading.{Reading}
use Rattle.rpc.specs.Meaning.Crate.{rpc-msg}
use Rattle.rpc.specs.Meaning.Sources.{unix_from, WritesUnixFrom, message_from, WritesCallFrom}
use Rattle.nfs.specs.Meaning.Dir.{nfs_fh, diropargs}
use Rattle.nfs.specs.Meaning.Sources.{diropargs_from, WritesDiropargsFrom}
use Rattle.rpcwire.specs.Laws.Promise.{promised}
use Rattle.rpcwire.specs.Laws.Fragment.{one-fragment}
use Rattle.rpcwire.specs.Laws.Choice.{choice-promised}
use Rattle.door.specs.Meaning.Copy.{view_marking, Copy, view_copied}
use Rattle.door.specs.Meaning.Kinds.{kinds, CopiesOf}
use Rattle.door.specs.Meaning.Exports.{code_of, figures, RewriteCalled, judged_code, judged_figures, JudgeCalled, wrote_code, wrote_figure, FragmentCalled, chosen_code, chosen_figures, ChooseCalled, state_list, fed_code, fed_state, fed_figures, FeedCalled}
use Rattle.door.specs.Meaning.Marks.{marks_figures, MarksCalled}
use Rattle.door.specs.declared.copy.Copied.{Copied}
use Rattle.door.specs.declared.copy.Copied.TheVariants.{Unknown, Unread, Unwritten, Done}
use Rattle.door.specs.Meaning.Values.{read_code, read_figures, ValueCalled, PartCalled}
use Rattle.door.specs.Meaning.Given.{GivenTold, WriteCalled, diropargs3_given, WriteDiropargs3Called, call_given, WriteCallCalled, unix_given, WriteUnixCalled}

module _ {S : Type 0} (Answered : Answer S → Type 0) (one : (a b : Answer S) → Answered a → Answered b → a ≡ b) (f : S → List ℕ) (k : ℕ) (i : List ℕ) {r t : ℕ} {i' j' : List ℕ} where
  pub value-one : ValueCalled Answered f k i r i' → ValueCalled Answered f k i t j' → (r ≡ t) × (i' ≡ j')
  value-one c d = by-room (leb (2 + k) (length i)) refl
    where
      by-room : (b : Bool) → leb (2 + k) (length i) ≡ b → (r ≡ t) × (i' ≡ j')
      by-room true e =
          let h : 2 + k ≤ length i = leb-true (2 + k) (length i) e in
          let x = c.room h in
          let y = d.room h in
          let g : x.answer ≡ y.answer = one x.answer y.answer x.answers y.answers in
          (x.number ∙ ap read_code g ∙ sym y.number, x.list ∙ ap (λ a. sets i 0 (read_figures f k a)) g ∙ sym y.list)
      by-room false e =
          let h : length i < 2 + k = leb-false (2 + k) (length i) e in
          ((c.short h).0 ∙ sym (d.short h).0, (c.short h).1 ∙ sym (d.short h).1)

pub answers_one : {M S : Type 0} (F : Format M S) (s : List ℕ) (at : ℕ) (a b : Answer S) → Answers F s at a → Answers F s at b → a ≡ b
answers_one F s at a b c d = c.is ∙ sym d.is

module _ {S : Type 0} (W : S → Written → List ℕ → Type 0)
    (one : (x : S) (a b : Written) (o' p' : List ℕ) → W x a o' → W x b p' → (a ≡ b) × (o' ≡ p')) (o i : List ℕ) {r t : ℕ} {o' p' i' j' : List ℕ} where
  given-one : (g : Option S) → GivenTold W g o i r o' i' → GivenTold W g o i t p' j' → (r ≡ t) × (o' ≡ p') × (i' ≡ j')
  given-one none c d = (c.0 ∙ sym d.0, c.1 ∙ sym d.1, c.2 ∙ sym d.2)
  given-one (some x) c d =
      let g = one x c.answer d.answer o' p' c.writes d.writes in
      (c.number ∙ ap wrote_code g.0 ∙ sym d.number, g.1, c.list ∙ ap (λ w. sets i 0 (wrote_figure w ∷ [])) g.0 ∙ sym d.list)

  pub write-one : (k : ℕ) (given : List ℕ → Option S) (l : List ℕ) → WriteCalled W k given l o i r o' i' → WriteCalled W k given l o i t p' j'
      → (r ≡ t) × (o' ≡ p') × (i' ≡ j')
  write-one k given l c d = by-room (leb k (length l)) refl (leb 1 (length i)) refl
    where
      both : (length l < k) ⊎ (length i < 1) → (r ≡ t) × (o' ≡ p') × (i' ≡ j')
      both h = ((c.short h).0 ∙ sym (d.short h).0, (c.short h).1 ∙ sym (d.short h).1, (c.short h).2 ∙ sym (d.short h).2)

      by-room : (a : Bool) → leb k (length l) ≡ a → (b : Bool) → leb 1 (length i) ≡ b → (r ≡ t) × (o' ≡ p') × (i' ≡ j')
      by-room false e b f = both (inl (leb-false k (length l) e))
      by-room true e false f = both (inr (leb-false 1 (length i) f))
      by-room true e true f =
          given-one (given l) (c.room (leb-true k (length l) e) (leb-true 1 (length i) f)) (d.room (leb-true k (length l) e) (leb-true 1 (length i) f))

pub writes_one : {M S : Type 0} (F : Format M S) (s : List ℕ) (start : ℕ) (o : List ℕ) (x : S) (a b : Written) (o' p' : List ℕ)
    → Writes F s x start o a o' → Writes F s x start o b p' → (a ≡ b) × (o' ≡ p')
writes_one F s start o x a b o' p' c d =
    let g : a ≡ b = c.says ∙ sym d.says in
    (g, c.leaves ∙ ap (λ w. leaving F s x w start o) g ∙ sym d.leaves)

-- the writers from two sources
module _ (s t l o : List ℕ) (start : ℕ) (i : List ℕ) {r r' : ℕ} {o' p' i' j' : List ℕ} where
  pub call-called-one : WriteCallCalled s t l o start i r o' i' → WriteCallCalled s t l o start i r' p' j' → (r ≡ r') × (o' ≡ p') × (i' ≡ j')
  call-called-one c d =
      write-one (λ x w p. WritesCallFrom s t x.0 x.1 start o w p)
      (λ x v w p q. from_one rpc-msg.codec (message_from s t x.0 x.1) (longer (length s) (length t)) (opaque-auth.held.inside s x.1.cred && opaque-auth.held.inside t x.1.verf) start o v w p q)
      o i 11 call_given l c d

  pub unix-called-one : WriteUnixCalled s t l o start i r o' i' → WriteUnixCalled s t l o start i r' p' j' → (r ≡ r') × (o' ≡ p') × (i' ≡ j')
  unix-called-one c d =
      write-one (λ x w p. WritesUnixFrom s t x start o w p)
      (λ x v w p q. from_one auth-unix.codec (unix_from s t x) (longer (length s) (length t)) (is_inside s x.machinename && are_inside t x.gids) start o v w p q)
      o i 7 unix_given l c d

  pub diropargs-called-one : WriteDiropargs3Called s t l o start i r o' i' → WriteDiropargs3Called s t l o start i r' p' j'
      → (r ≡ r') × (o' ≡ p') × (i' ≡ j')
  diropargs-called-one c d =
      write-one (λ x w p. WritesDiropargsFrom s t x start o w p)
      (λ x v w p q. from_one diropargs.codec (diropargs_from s t x) (longer (length s) (length t)) (nfs_fh.held.inside s x.dir && is_inside t x.name) start o v w p q)
      o i 4 diropargs3_given l c d

-- `copy_kind`: its answer, and the buffer
-- what a view says is what it is of
abbrev marking_of : List Bool → Marking
marking_of [] = marking.None
marking_of (true ∷ []) = marking.Clean
marking_of (false ∷ []) = marking.Dirty
marking_of (true ∷ true ∷ l) = marking.BothClean
marking_of (true ∷ false ∷ l) = marking.SecondDirty
marking_of (false ∷ true ∷ l) = marking.FirstDirty
marking_of (false ∷ false ∷ l) = marking.BothDirty

marking-is : (m : Marking) → marking_of (view_marking m) ≡ m
marking-is marking.None = refl
marking-is marking.Clean = refl
marking-is marking.Dirty = refl
marking-is marking.BothClean = refl
marking-is marking.SecondDirty = refl
marking-is marking.FirstDirty = refl
marking-is marking.BothDirty = refl

marks-told : (m m' : Marking) → view_marking m ≡ view_marking m' → m ≡ m'
marks-told m m' e = sym (marking-is m) ∙ ap marking_of e ∙ marking-is m'

pub copied-told : Told view_copied
copied-told Unknown Unknown e = refl
copied-told Unknown (Unread r) e = cc
copied-told Unknown (Unwritten r n b m) e = cc
copied-told Unknown (Done n b k m) e = cc
copied-told (Unread r) Unknown e = cc
copied-told (Unread r) (Unread r') e = cc
copied-told (Unread r) (Unwritten r' n' b' m') e = cc
copied-told (Unread r) (Done n b k m) e = cc
copied-told (Unwritten r n b m) Unknown e = cc
copied-told (Unwritten r n b m) (Unread r') e = cc
copied-told (Unwritten r n b m) (Unwritten r' n' b' m') e = let h : m ≡ m' = marks-told m m' (cc e) in cc (e, h)
copied-told (Unwritten r n b m) (Done n' b' k m') e = cc
copied-told (Done n b k m) Unknown e = cc
copied-told (Done n b k m) (Unread r) e = cc
copied-told (Done n b k m) (Unwritten r n' b' m') e = cc
copied-told (Done n b k m) (Done n' b' k' m') e = let h : m ≡ m' = marks-told m m' (cc e) in cc (e, h)

copies-one : (l : List Branch) (k : ℕ) (s : List ℕ) (at start : ℕ) (o : List ℕ) {c d : Copy} {o' p' : List ℕ} → CopiesOf l k s at start o c o'
    → CopiesOf l k s at start o d p' → (c ≡ d) × (o' ≡ p')
copies-one [] k s at start o c d = (c.0 ∙ sym d.0, c.1 ∙ sym d.1)
copies-one (b ∷ l) zero s at start o c d = (c.says ∙ sym d.says, c.leaves ∙ sym d.leaves)
copies-one (b ∷ l) (suc k) s at start o c d = copies-one l k s at start o c d

pub copy-kind-one : (k : ℕ) (s : List ℕ) (at start : ℕ) (o : List ℕ) (c d : Copied) {o' p' : List ℕ} → CopiesOf kinds k s at start o (view_copied c) o'
    → CopiesOf kinds k s at start o (view_copied d) p' → (c ≡ d) × (o' ≡ p')
copy-kind-one k s at start o c d e f = let g = copies-one kinds k s at start o e f in (copied-told c d g.0, g.1)

-- the other exported functions: by the room for their figures
module _ (i : List ℕ) {r t : ℕ} {i' j' : List ℕ} where
  pub rewrite-one : (kind : ℕ) (s : List ℕ) (at : ℕ) (o : List ℕ) {o' p' : List ℕ} → RewriteCalled kind s at o i r o' i' → RewriteCalled kind s at o i t p' j'
      → (r ≡ t) × (o' ≡ p') × (i' ≡ j')
  rewrite-one kind s at o {o'} {p'} c d = by (leb 3 (length i)) refl
    where
      by : (b : Bool) → leb 3 (length i) ≡ b → (r ≡ t) × (o' ≡ p') × (i' ≡ j')
      by true e =
          let x = c.room (leb-true 3 (length i) e) in
          let y = d.room (leb-true 3 (length i) e) in
          let g = copies-one kinds kind s at 0 o x.copies y.copies in
          (x.number ∙ ap code_of g.0 ∙ sym y.number, g.1, x.list ∙ ap (λ a. sets i 0 (figures a)) g.0 ∙ sym y.list)
      by false e =
          let h = leb-false 3 (length i) e in
          ((c.short h).0 ∙ sym (d.short h).0, (c.short h).1 ∙ sym (d.short h).1, (c.short h).2 ∙ sym (d.short h).2)

  pub judge-one : (kind : ℕ) (s : List ℕ) (at : ℕ) → JudgeCalled kind s at i r i' → JudgeCalled kind s at i t j' → (r ≡ t) × (i' ≡ j')
  judge-one kind s at c d = by (leb 3 (length i)) refl
    where
      by : (b : Bool) → leb 3 (length i) ≡ b → (r ≡ t) × (i' ≡ j')
      by true e =
          let x = c.room (leb-true 3 (length i) e) in
          let y = d.room (leb-true 3 (length i) e) in
          let g = copies-one kinds kind s at 0 [] x.copies y.copies in
          (x.number ∙ ap judged_code g.0 ∙ sym y.number, x.list ∙ ap (λ a. sets i 0 (judged_figures a)) g.0 ∙ sym y.list)
      by false e =
          let h = leb-false 3 (length i) e in
          ((c.short h).0 ∙ sym (d.short h).0, (c.short h).1 ∙ sym (d.short h).1)

  pub marks-one : (kind : ℕ) (s : List ℕ) (at : ℕ) → MarksCalled kind s at i r i' → MarksCalled kind s at i t j' → (r ≡ t) × (i' ≡ j')
  marks-one kind s at c d = by (leb 5 (length i)) refl
    where
      by : (b : Bool) → leb 5 (length i) ≡ b → (r ≡ t) × (i' ≡ j')
      by true e =
          let x = c.room (leb-true 5 (length i) e) in
          let y = d.room (leb-true 5 (length i) e) in
          let g = copies-one kinds kind s at 0 [] x.copies y.copies in
          (x.number ∙ ap judged_code g.0 ∙ sym y.number, x.list ∙ ap (λ a. sets i 0 (marks_figures a)) g.0 ∙ sym y.list)
      by false e =
          let h = leb-false 5 (length i) e in
          ((c.short h).0 ∙ sym (d.short h).0, (c.short h).1 ∙ sym (d.short h).1)

  pub fragment-called-one : (m : List ℕ) (start : ℕ) (o : List ℕ) {o' p' : List ℕ} → FragmentCalled m start o i r o' i' → FragmentCalled m start o i t p' j'
      → (r ≡ t) × (o' ≡ p') × (i' ≡ j')
  fragment-called-one m start o {o'} {p'} c d = by (leb 1 (length i)) refl
    where
      by : (b : Bool) → leb 1 (length i) ≡ b → (r ≡ t) × (o' ≡ p') × (i' ≡ j')
      by true e =
          let x = c.room (leb-true 1 (length i) e) in
          let y = d.room (leb-true 1 (length i) e) in
          let g = one-fragment m start o x.writes y.writes in
          (x.number ∙ ap wrote_code g.0 ∙ sym y.number, g.1, x.list ∙ ap (λ w. sets i 0 (wrote_figure w ∷ [])) g.0 ∙ sym y.list)
      by false e =
          let h = leb-false 1 (length i) e in
          ((c.short h).0 ∙ sym (d.short h).0, (c.short h).1 ∙ sym (d.short h).1, (c.short h).2 ∙ sym (d.short h).2)

  pub choose-called-one : {Stat Auth Accept Rejected Accepted Reply Body Msg : Type 0} (R : Reading Stat Auth Accept Rejected Accepted Reply Body Msg) (s : List ℕ) (seen : ℕ)
      (o : List ℕ) {o' p' : List ℕ} → ChooseCalled R s seen o i r o' i' → ChooseCalled R s seen o i t p' j' → (r ≡ t) × (o' ≡ p') × (i' ≡ j')
  choose-called-one R s seen o {o'} {p'} c d = by (leb 12 (length i)) refl
    where
      by : (b : Bool) → leb 12 (length i) ≡ b → (r ≡ t) × (o' ≡ p') × (i' ≡ j')
      by true e =
          let x = c.room (leb-true 12 (length i) e) in
          let y = d.room (leb-true 12 (length i) e) in
          let g = (choice-promised R s (not (eqb seen 0)) o x.chooses).one y.chooses in
          (x.number ∙ ap chosen_code g.0 ∙ sym y.number, g.1, x.list ∙ ap (λ a. sets i 0 (chosen_figures a)) g.0 ∙ sym y.list)
      by false e =
          let h = leb-false 12 (length i) e in
          ((c.short h).0 ∙ sym (d.short h).0, (c.short h).1 ∙ sym (d.short h).1, (c.short h).2 ∙ sym (d.short h).2)

  pub feed-called-one : (l run d : List ℕ) {l' k' d' e' : List ℕ} → FeedCalled l run d i r l' d' i' → FeedCalled l run d i t k' e' j'
      → (r ≡ t) × (l' ≡ k') × (d' ≡ e') × (i' ≡ j')
  feed-called-one l run d {l'} {k'} {d'} {e'} c f = by (leb 7 (length l)) refl (leb 2 (length i)) refl
    where
      both : (length l < 7) ⊎ (length i < 2) → (r ≡ t) × (l' ≡ k') × (d' ≡ e') × (i' ≡ j')
      both h =
          let x = c.short h in let y = f.short h in
          (x.0 ∙ sym y.0, x.1 ∙ sym y.1, x.2 ∙ sym y.2, x.3 ∙ sym y.3)

      by : (a : Bool) → leb 7 (length l) ≡ a → (b : Bool) → leb 2 (length i) ≡ b → (r ≡ t) × (l' ≡ k') × (d' ≡ e') × (i' ≡ j')
      by false e b g = both (inl (leb-false 7 (length l) e))
      by true e false g = both (inr (leb-false 2 (length i) g))
      by true e true g =
          let x = c.room (leb-true 7 (length l) e) (leb-true 2 (length i) g) in
          let y = f.room (leb-true 7 (length l) e) (leb-true 2 (length i) g) in
          let o = (promised x.feeds).one y.feeds in (
            x.number ∙ ap fed_code o.0 ∙ sym y.number,
            x.state ∙ ap (λ a. sets l 0 (state_list (fed_state a))) o.0 ∙ sym y.state,
            o.1,
            x.list ∙ ap (λ a. sets i 0 (fed_figures a)) o.0 ∙ sym y.list,
          )

  pub part-called-one : (s : List ℕ) (x : Piece) → PartCalled s x i r i' → PartCalled s x i t j' → (r ≡ t) × (i' ≡ j')
  part-called-one s x c d = by (leb 2 (length i)) refl
    where
      by : (b : Bool) → leb 2 (length i) ≡ b → (r ≡ t) × (i' ≡ j')
      by true e =
          let h = leb-true 2 (length i) e in
          ((c.room h).0 ∙ sym (d.room h).0, (c.room h).1 ∙ sym (d.room h).1)
      by false e =
          let h = leb-false 2 (length i) e in
          ((c.short h).0 ∙ sym (d.short h).0, (c.short h).1 ∙ sym (d.short h).1)
