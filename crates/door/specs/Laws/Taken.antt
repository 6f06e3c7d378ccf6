-- Values taken straight into the list of their figures, and a sattr3 so taken: what the private functions of the readers promise, and what
-- their proofs cite.
-- Assumes nothing.
use Rattle.std.specs.Prelude.{◌≡◌, refl, Bool, false, not, cond, ◌&&◌, List, [], ◌∷◌, ◌++◌, get_or, length, drop, set, Result, Ok, Some, None}
use Rattle.std.specs.Prelude as std
use Rattle.std.proofs.Common.{sym, ap, ap₂, subst, ◌∙◌, append_assoc, arith, add-zero, zero-add, suc-add, add-suc, add-one, length-append, Fits}
use Rattle.std.proofs.Math.Bool.{true, and-true, and_assoc}
use Rattle.std.proofs.Math.Option.{Option, none, some}
use Prim.Native.Nat.{ℕ, zero, suc, ◌+◌, ◌≤◌, ◌<◌}
use Rattle.std.proofs.lemmas.List.{length-replicate, set_comm}
use Rattle.std.specs.Int.{w8}
use Rattle.std.proofs.Math.Seq.{sets, length-sets}
use Rattle.std.proofs.lemmas.List.Edits.{sets-eq}
use Rattle.xdr.specs.Meaning.Answer.{Answer, took, refused, opened, map_answer}
use Rattle.xdr.specs.Meaning.Kind.{Codec}
use Rattle.xdr.specs.Meaning.Format.{exactly}
use Rattle.xdr.specs.Meaning.Items.{flag, word, hyper, option}
use Rattle.xdr.specs.Meaning.Public.{Answers}
use Rattle.xdr.specs.Meaning.Views.{view, view_opening}
use Rattle.xdr.specs.Laws.Answers.{on, word-on}
use Rattle.xdr.specs.Laws.Public.{answers-on}
use Rattle.xdr.specs.declared.answer.Took.{Took}
use Rattle.xdr.specs.declared.refusal.Refusal.{Refusal}
use Rattle.nfsattr.specs.Meaning.Attr.{nfstime}
use Rattle.nfsattr.specs.declared.attr.nfstime3.{nfstime3}
use Rattle.nfs.specs.Meaning.Change.{set_mode_from_to, set_uid_from_to, set_gid_from_to, set_size_from_to, set_mode_from, set_uid_from, set_gid_from, set_size_from}
use Rattle.nfs.specs.Meaning.Set.{SetTime, dont_change, server_time, client_time, set_time, atime_from_to, mtime_from_to, atime_from, mtime_from, sattr}
use Rattle.nfs.specs.declared.set.sattr3.{sattr3}
use Rattle.door.specs.Meaning.Values.{option_figures, time_figures, sattr3_figures, read_figures, ValueCalled}
use Rattle.door.specs.Laws.Walked.{unset, is-set, six_fields, of_six, six-named}
use Rattle.door.specs.declared.sattr3.Step.{Step}

-- a value of C was read at p of s, up to n, and its figures f put into the list i from figure k on; b: in published form
module _ {X : Type 0} (C : Codec X) (f : X → List ℕ) (s : List ℕ) (p k : ℕ) (i : List ℕ) where
  pub record Taken (n : ℕ) (b : Bool) (i' : List ℕ) : Type 0 where
    pub value : X
    pub reads : C.kind.read s p ≡ took value n b
    pub list : i' ≡ sets i k (f value)

  abbrev pub TakesBy : std.Option Step → List ℕ → Type 0
  TakesBy None i' = i' ≡ i
  TakesBy (Some t) i' = Taken t.next t.plain i'

  -- or nothing was put
  pub record Takes (r : std.Option Step) (i' : List ℕ) : Type 0 where
    pub by : TakesBy r i'

-- only the first k figures of a list may be others
pub record Within (k : ℕ) (i i' : List ℕ) : Type 0 where
  pub same : length i' ≡ length i
  pub rest : drop k i' ≡ drop k i

-- mode, uid and gid, and size, atime and mtime: their figures from the third and from the ninth on
module _ (s : List ℕ) (p : ℕ) (i : List ℕ) where
  pub record Owner (n : ℕ) (b : Bool) (i' : List ℕ) : Type 0 where
    pub mode : Option ℕ
    pub uid : Option ℕ
    pub gid : Option ℕ
    pub n₁ : ℕ
    pub n₂ : ℕ
    pub b₁ : Bool
    pub b₂ : Bool
    pub b₃ : Bool
    pub first : (option word).kind.read s p ≡ took mode n₁ b₁
    pub second : (option word).kind.read s n₁ ≡ took uid n₂ b₂
    pub third : (option word).kind.read s n₂ ≡ took gid n b₃
    pub mark : b ≡ b₁ && (b₂ && b₃)
    pub list : i' ≡ sets i 2 (option_figures mode ++ (option_figures uid ++ option_figures gid))

  pub record Change (n : ℕ) (b : Bool) (i' : List ℕ) : Type 0 where
    pub size : Option ℕ
    pub atime : SetTime
    pub mtime : SetTime
    pub n₁ : ℕ
    pub n₂ : ℕ
    pub b₁ : Bool
    pub b₂ : Bool
    pub b₃ : Bool
    pub first : (option hyper).kind.read s p ≡ took size n₁ b₁
    pub second : set_time.kind.read s n₁ ≡ took atime n₂ b₂
    pub third : set_time.kind.read s n₂ ≡ took mtime n b₃
    pub mark : b ≡ b₁ && (b₂ && b₃)
    pub list : i' ≡ sets i 8 (option_figures size ++ (time_figures atime ++ time_figures mtime))

  abbrev pub OwnerBy : std.Option Step → List ℕ → Type 0
  OwnerBy None i' = Within 16 i i'
  OwnerBy (Some t) i' = Owner t.next t.plain i'

  pub record OwnerTakes (r : std.Option Step) (i' : List ℕ) : Type 0 where
    pub by : OwnerBy r i'

  abbrev pub ChangeBy : std.Option Step → List ℕ → Type 0
  ChangeBy None i' = Within 16 i i'
  ChangeBy (Some t) i' = Change t.next t.plain i'

  pub record ChangeTakes (r : std.Option Step) (i' : List ℕ) : Type 0 where
    pub by : ChangeBy r i'

-- a whole value, which has k figures, from the third on
module _ {X : Type 0} (C : Codec X) (f : X → List ℕ) (k : ℕ) (s : List ℕ) (p : ℕ) (i : List ℕ) where
  abbrev pub WholeBy : std.Option Step → List ℕ → Type 0
  WholeBy None i' = Within (2 + k) i i'
  WholeBy (Some t) i' = Taken C f s p 2 i t.next t.plain i'

  pub record Whole (r : std.Option Step) (i' : List ℕ) : Type 0 where
    pub by : WholeBy r i'

  -- the same as a public reader's answer
  pub record Answered (n : ℕ) (b : Bool) (i' : List ℕ) : Type 0 where
    pub value : X
    pub answers : Answers (exactly C) s p (took value n b)
    pub list : i' ≡ sets i 2 (f value)

  abbrev pub WholeAnswersBy : std.Option Step → List ℕ → Type 0
  WholeAnswersBy None i' = Within (2 + k) i i'
  WholeAnswersBy (Some t) i' = Answered t.next t.plain i'

  pub record WholeAnswers (r : std.Option Step) (i' : List ℕ) : Type 0 where
    pub by : WholeAnswersBy r i'

-- stores: one run behind another, one before another, and what stands behind them all
sets-append : (f : List ℕ) (l : List ℕ) (k : ℕ) (g : List ℕ) → sets (sets l k f) (k + length f) g ≡ sets l k (f ++ g)
sets-append [] l k g = ap (λ j. sets l j g) (add-zero k)
sets-append (a ∷ f) l k g =
    ap (λ j. sets (sets (set l k a) (suc k) f) j g) (add-suc k (length f) ∙ sym (suc-add k (length f))) ∙ sets-append f (set l k a) (suc k) g

set_before : (f : List ℕ) (l : List ℕ) (k j a : ℕ) → j < k → set (sets l k f) j a ≡ sets (set l j a) k f
set_before [] l k j a h = refl
set_before (x ∷ f) l k j a h =
    set_before f (set l k x) (suc k) j a (omega arith) ∙ ap (λ m. sets m (suc k) f) (set_comm l k j x a (λ e. omega arith))

drop-set : (l : List ℕ) (k m a : ℕ) → k < m → drop m (set l k a) ≡ drop m l
drop-set [] k m a h = refl
drop-set (x ∷ l) zero zero a h = absurd (omega arith)
drop-set (x ∷ l) zero (suc m) a h = refl
drop-set (x ∷ l) (suc k) zero a h = absurd (omega arith)
drop-set (x ∷ l) (suc k) (suc m) a h = drop-set l k m a (omega arith)

drop-sets : (f : List ℕ) (l : List ℕ) (k m : ℕ) → k + length f ≤ m → drop m (sets l k f) ≡ drop m l
drop-sets [] l k m h = refl
drop-sets (a ∷ f) l k m h = drop-sets f (set l k a) (suc k) m (omega arith) ∙ drop-set l k m a (omega arith)

pub within_none : {k : ℕ} (i : List ℕ) → Within k i i
within_none i = record { same = refl; rest = refl }

-- figures put over what may be others leave the same list
pub within-over : {k : ℕ} {i i' : List ℕ} → Within k i i' → (g : List ℕ) → length g ≡ k → k ≤ length i → sets i' 0 g ≡ sets i 0 g
within-over {k} {i} {i'} w g e h =
    let a = w.same in
    let over : (l : List ℕ) → k ≤ length l → sets l 0 g ≡ g ++ drop k l = λ l q. rw (sym e) (simp zero-add at (sets-eq g l 0 (omega arith))) in
    over i' (omega arith) ∙ ap (λ r. g ++ r) w.rest ∙ sym (over i h)

-- figures one after another
pub two-set : (i : List ℕ) (k a b : ℕ) → set (set i k a) (k + 1) b ≡ sets i k (a ∷ b ∷ [])
two-set i k a b = ap (λ j. set (set i k a) j b) (add-one k)

pub three-set : (i : List ℕ) (k a b c : ℕ) → set (set (set i k a) (k + 1) b) (k + 2) c ≡ sets i k (a ∷ b ∷ c ∷ [])
three-set i k a b c =
    let e : k + 2 ≡ suc (suc k) = omega arith in
    rw (add-one k, e) refl

-- six, by threes
pub six-set : (i : List ℕ) {i₁ i₂ : List ℕ} (k a b c d e f : ℕ) → i₁ ≡ sets i k (a ∷ b ∷ c ∷ []) → i₂ ≡ sets i₁ (k + 3) (d ∷ e ∷ f ∷ [])
    → i₂ ≡ sets i k (a ∷ b ∷ c ∷ d ∷ e ∷ f ∷ [])
six-set i k a b c d e f g h = h ∙ ap (λ l. sets l (k + 3) (d ∷ e ∷ f ∷ [])) g ∙ sets-append (a ∷ b ∷ c ∷ []) i k (d ∷ e ∷ f ∷ [])

-- a flag, and what it sets
module _ (C : Codec ℕ) (s : List ℕ) (p k : ℕ) (i : List ℕ) (i' : List ℕ) (r : Result (Took Bool) Refusal) (t : Took Bool) (e : view r ≡ flag.kind.read s p) (f : r ≡ Ok t) where
  pub set-none : not t.value ≡ true → i' ≡ sets i k (0 ∷ 0 ∷ []) → Takes (option C) option_figures s p k i (Some (record { next = t.next; plain = t.plain })) i'
  set-none g h =
      let l : flag.kind.read s p ≡ took false t.next t.plain = rw (unset t.value g) at (on e f) in
      record { by = record { value = none; reads = rw (l, and-true); list = h } }

  pub set-some : not t.value ≡ false → (r' : Result (Took ℕ) Refusal) (x : Took ℕ) → view r' ≡ C.kind.read s t.next → r' ≡ Ok x
      → i' ≡ sets i k (1 ∷ x.value ∷ []) → Takes (option C) option_figures s p k i (Some (record { next = x.next; plain = t.plain && x.plain })) i'
  set-some g r' x e' f' h =
      let l : flag.kind.read s p ≡ took true t.next t.plain = rw (is-set t.value g) at (on e f) in
      record { by = record { value = some x.value; reads = rw (l, on e' f'); list = h } }

-- a tag, and the time that it sets
module _ (s : List ℕ) (p k : ℕ) (i : List ℕ) (i' : List ℕ) (r : Result (Took ℕ) Refusal) (t : Took ℕ) (e : view r ≡ word.kind.read s p) (f : r ≡ Ok t) where
  pub time-unset : t.value < 2 → i' ≡ sets i k (t.value ∷ 0 ∷ 0 ∷ []) → Takes set_time time_figures s p k i (Some (record { next = t.next; plain = true })) i'
  unfolding set_time
  time-unset g h = by t.value (word-on s p e f) g h
    where
      by : (v : ℕ) → word.kind.read s p ≡ took v t.next true → v < 2 → i' ≡ sets i k (v ∷ 0 ∷ 0 ∷ [])
          → Takes set_time time_figures s p k i (Some (record { next = t.next; plain = true })) i'
      by zero e g h = record { by = record { value = dont_change; reads = rw e; list = h } }
      by (suc zero) e g h = record { by = record { value = server_time; reads = rw e; list = h } }
      by (suc (suc v)) e g h = absurd (omega arith)

  pub time-client : t.value ≡ 2 → (r' : Result (Took nfstime3) Refusal) (x : Took nfstime3) → view r' ≡ nfstime.kind.read s t.next → r' ≡ Ok x
      → i' ≡ sets i k (2 ∷ x.value.seconds ∷ x.value.nseconds ∷ [])
      → Takes set_time time_figures s p k i (Some (record { next = x.next; plain = x.plain })) i'
  unfolding set_time
  time-client g r' x e' f' h = record { by = record { value = client_time x.value; reads = rw (word-on s p e f, g, on e' f'); list = h } }

pub sets-long : (i : List ℕ) {i' : List ℕ} (k : ℕ) (f : List ℕ) → i' ≡ sets i k f → length i' ≡ length i
sets-long i k f e = ap length e ∙ length-sets i k f

-- a list whose first figures are being put
within-sets : {m : ℕ} {i i' : List ℕ} (k : ℕ) (f : List ℕ) → Within m i i' → k + length f ≤ m → Within m i (sets i' k f)
within-sets {m} {i} {i'} k f w h =
    record { same = length-sets i' k f ∙ w.same; rest = drop-sets f i' k m h ∙ w.rest }

pub within_by : {m : ℕ} {X : Type 0} (C : Codec X) (f : X → List ℕ) (s : List ℕ) (p k : ℕ) {i i' i'' : List ℕ} (r : std.Option Step) → Within m i i'
    → ((x : X) → k + length (f x) ≤ m) → TakesBy C f s p k i' r i'' → Within m i i''
within_by {m} C f s p k {i} None w h e = subst (Within m i) (sym e) w
within_by {m} C f s p k {i} (Some u) w h t = subst (Within m i) (sym t.list) (within-sets k (f t.value) w (h t.value))

option-long : (x : Option ℕ) → length (option_figures x) ≡ 2
option-long none = refl
option-long (some v) = refl

time-long : (x : SetTime) → length (time_figures x) ≡ 3
time-long dont_change = refl
time-long server_time = refl
time-long (client_time t) = refl

module _ {m : ℕ} {s : List ℕ} {p k : ℕ} {i i' i'' : List ℕ} {r : std.Option Step} (w : Within m i i') where
  pub within-option : (C : Codec (Option ℕ)) → Takes C option_figures s p k i' r i'' → k + 2 ≤ m → Within m i i''
  within-option C t h = within_by C option_figures s p k r w (λ x. let e = option-long x in omega arith) t.by

  pub within-time : Takes set_time time_figures s p k i' r i'' → k + 3 ≤ m → Within m i i''
  within-time t h = within_by set_time time_figures s p k r w (λ x. let e = time-long x in omega arith) t.by

-- the list after each step of a half
module _ {s : List ℕ} {p : ℕ} {i i₁ : List ℕ} {r₁ : std.Option Step} (t₁ : Takes (option hyper) option_figures s p 8 i r₁ i₁) where
  pub change-1 : Within 16 i i₁
  change-1 = within-option (within_none i) (option hyper) t₁ (omega arith)

  module _ {n₁ : ℕ} {i₂ : List ℕ} {r₂ : std.Option Step} (t₂ : Takes set_time time_figures s n₁ 10 i₁ r₂ i₂) where
    pub change-2 : Within 16 i i₂
    change-2 = within-time change-1 t₂ (omega arith)

    pub change-3 : {n₂ : ℕ} {i₃ : List ℕ} {r₃ : std.Option Step} → Takes set_time time_figures s n₂ 13 i₂ r₃ i₃ → Within 16 i i₃
    change-3 t₃ = within-time change-2 t₃ (omega arith)

module _ (s : List ℕ) (p : ℕ) {i i' : List ℕ} {r : std.Option Step} (e : r ≡ None) (w : Within 16 i i') where
  pub change-lost : ChangeTakes s p i r i'
  change-lost = record { by = subst (λ z. ChangeBy s p i z i') (sym e) w }

-- figures behind an option's two or a time's three
behind : (i i' : List ℕ) {i'' : List ℕ} (k : ℕ) (v : Option ℕ) (g : List ℕ) → i' ≡ sets i k (option_figures v) → i'' ≡ sets i' (k + 2) g → i'' ≡ sets i k (option_figures v ++ g)
behind i i' k v g e f =
    f ∙ ap₂ (λ l j. sets l j g) e (ap (λ n. k + n) (sym (option-long v))) ∙ sets-append (option_figures v) i k g

behind-time : (i i' : List ℕ) {i'' : List ℕ} (k : ℕ) (v : SetTime) (g : List ℕ) → i' ≡ sets i k (time_figures v) → i'' ≡ sets i' (k + 3) g → i'' ≡ sets i k (time_figures v ++ g)
behind-time i i' k v g e f =
    f ∙ ap₂ (λ l j. sets l j g) e (ap (λ n. k + n) (sym (time-long v))) ∙ sets-append (time_figures v) i k g

-- the marks of six fields, as the halves join them
six : (a b c d e f : Bool) → a && (b && (c && (d && (e && f)))) ≡ (a && (b && c)) && (d && (e && f))
six a b c d e f = sym (and_assoc a (b && c) (d && (e && f)) ∙ ap (λ z. a && z) (and_assoc b c (d && (e && f))))

-- three fields
module _ (s : List ℕ) (p : ℕ) (i : List ℕ) {i₁ i₂ i₃ : List ℕ} {a b c : Step} where
  pub owner-took : Takes (option word) option_figures s p 2 i (Some a) i₁ → Takes (option word) option_figures s a.next 4 i₁ (Some b) i₂
      → Takes (option word) option_figures s b.next 6 i₂ (Some c) i₃ → OwnerTakes s p i (Some (record { next = c.next; plain = a.plain && (b.plain && c.plain) })) i₃
  owner-took t₁ t₂ t₃ =
      let x₁ = t₁.by in
      let x₂ = t₂.by in
      let x₃ = t₃.by in
      record {
        by = record {
          mode = x₁.value;
          uid = x₂.value;
          gid = x₃.value;
          n₁ = a.next;
          n₂ = b.next;
          b₁ = a.plain;
          b₂ = b.plain;
          b₃ = c.plain;
          first = x₁.reads;
          second = x₂.reads;
          third = x₃.reads;
          mark = refl;
          list = behind i i₁ 2 x₁.value _ x₁.list (behind i₁ i₂ 4 x₂.value _ x₂.list x₃.list);
        };
      }

  pub change-took : Takes (option hyper) option_figures s p 8 i (Some a) i₁ → Takes set_time time_figures s a.next 10 i₁ (Some b) i₂
      → Takes set_time time_figures s b.next 13 i₂ (Some c) i₃ → ChangeTakes s p i (Some (record { next = c.next; plain = a.plain && (b.plain && c.plain) })) i₃
  change-took t₁ t₂ t₃ =
      let x₁ = t₁.by in
      let x₂ = t₂.by in
      let x₃ = t₃.by in
      record {
        by = record {
          size = x₁.value;
          atime = x₂.value;
          mtime = x₃.value;
          n₁ = a.next;
          n₂ = b.next;
          b₁ = a.plain;
          b₂ = b.plain;
          b₃ = c.plain;
          first = x₁.reads;
          second = x₂.reads;
          third = x₃.reads;
          mark = refl;
          list = behind i i₁ 8 x₁.value _ x₁.list (behind-time i₁ i₂ 10 x₂.value _ x₂.list x₃.list);
        };
      }

-- both halves
module _ (s : List ℕ) (p : ℕ) (i : List ℕ) {i₁ i₂ : List ℕ} {n₁ n₂ : ℕ} {b₁ b₂ : Bool} (x : Owner s p i n₁ b₁ i₁) (y : Change s n₁ i₁ n₂ b₂ i₂) where
  abbrev theirs : sattr3
  theirs = of_six (x.mode, (x.uid, (x.gid, (y.size, (y.atime, y.mtime)))))

  read-six : sattr.kind.read s p ≡ took theirs n₂ (b₁ && b₂)
  read-six =
      let all : six_fields.kind.read s p
      ≡ took (x.mode, (x.uid, (x.gid, (y.size, (y.atime, y.mtime))))) n₂ (x.b₁ && (x.b₂ && (x.b₃ && (y.b₁ && (y.b₂ && y.b₃))))) =
      rw (x.first, x.second, x.third, y.first, y.second, y.third) in
      six-named.reads s p ∙ ap (map_answer of_six) all
      ∙ ap (took theirs n₂) (six x.b₁ x.b₂ x.b₃ y.b₁ y.b₂ y.b₃ ∙ ap₂ (λ u v. u && v) (sym x.mark) (sym y.mark))

  owner-long : length (option_figures x.mode ++ (option_figures x.uid ++ option_figures x.gid)) ≡ 6
  owner-long = simp (length-append, option-long x.mode, option-long x.uid, option-long x.gid)

  list-six : i₂ ≡ sets i 2 (sattr3_figures theirs)
  list-six =
      let f : List ℕ = option_figures x.mode ++ (option_figures x.uid ++ option_figures x.gid) in
      let g : List ℕ = option_figures y.size ++ (time_figures y.atime ++ time_figures y.mtime) in
      rw (
        set_mode_from_to x.mode,
        set_uid_from_to x.uid,
        set_gid_from_to x.gid,
        set_size_from_to y.size,
        atime_from_to y.atime,
        mtime_from_to y.mtime,
      )
      (y.list ∙ ap₂ (λ l j. sets l j g) x.list (ap (λ n. 2 + n) (sym owner-long)) ∙ sets-append f i 2 g
      ∙ ap (sets i 2) (append_assoc (option_figures x.mode) (option_figures x.uid ++ option_figures x.gid) g
      ∙ ap (λ l. option_figures x.mode ++ l) (append_assoc (option_figures x.uid) (option_figures x.gid) g)))

  all-six : Taken sattr sattr3_figures s p 2 i n₂ (b₁ && b₂) i₂
  all-six = record { value = theirs; reads = read-six; list = list-six }

within-owner : (s : List ℕ) (p : ℕ) (i : List ℕ) {i' : List ℕ} (r : std.Option Step) → OwnerBy s p i r i' → Within 16 i i'
within-owner s p i None w = w
within-owner s p i (Some t) x =
    let f : List ℕ = option_figures x.mode ++ (option_figures x.uid ++ option_figures x.gid) in
    let l : length f ≡ 6 = simp (length-append, option-long x.mode, option-long x.uid, option-long x.gid) in
    subst (Within 16 i) (sym x.list) (within-sets 2 f (within_none i) (omega arith))

module _ {s : List ℕ} {p : ℕ} {i i₁ : List ℕ} {r₁ : std.Option Step} (t : OwnerTakes s p i r₁ i₁) where
  pub fields-1 : Within 16 i i₁
  fields-1 = within-owner s p i r₁ t.by

  pub fields-2 : {n₁ : ℕ} {i₂ : List ℕ} → ChangeTakes s n₁ i₁ None i₂ → Within 16 i i₂
  fields-2 u = record { same = u.by.same ∙ fields-1.same; rest = u.by.rest ∙ fields-1.rest }

pub fields-took : {s : List ℕ} {p : ℕ} {i i₁ i₂ : List ℕ} {a b : Step} → OwnerTakes s p i (Some a) i₁ → ChangeTakes s a.next i₁ (Some b) i₂
    → Whole sattr sattr3_figures 14 s p i (Some (record { next = b.next; plain = a.plain && b.plain })) i₂
fields-took {s} {p} {i} t u = record { by = all-six s p i t.by u.by }

-- all its figures, for the laws of a whole value
pub sattr3-long : (x : sattr3) → length (sattr3_figures x) ≡ 14
sattr3-long x =
    simp (
      length-append,
      option-long (set_mode_from x.mode),
      option-long (set_uid_from x.uid),
      option-long (set_gid_from x.gid),
      option-long (set_size_from x.size),
      time-long (atime_from x.atime),
      time-long (mtime_from x.mtime),
    )

-- a whole value; by whether the source may be read from the place on; `given` is what a slice's rule gives
pub whole-lost : {X : Type 0} (C : Codec X) (f : X → List ℕ) (k : ℕ) (s : List ℕ) (p : ℕ) {i i' : List ℕ} {r : std.Option Step} → r ≡ None → Within (2 + k) i i'
    → Whole C f k s p i r i'
whole-lost C f k s p {i} {i'} e w = record { by = subst (λ z. WholeBy C f k s p i z i') (sym e) w }

module _ {X : Type 0} (C : Codec X) (f : X → List ℕ) (k : ℕ) (s : List ℕ) (p : ℕ) (i : List ℕ) where
  pub whole-answer : (given : (j : ℕ) → Fits w8 (get_or s j 0)) {r : Result (Unit {0}) Refusal} → view_opening p r ≡ opened s p (took tt p true)
      → {u : Unit {0}} → r ≡ Ok u → (i' : List ℕ) (q : std.Option Step) → Whole C f k s p i q i' → WholeAnswers C f k s p i q i'
  whole-answer given e g i' None t = record { by = t.by }
  whole-answer given e g i' (Some x) t =
      record {
        by = record { value = t.by.value; answers = answers-on (exactly C) s p given e g (sym t.by.reads); list = t.by.list };
      }

-- what the exported reader answers: as the careful reader does, or with the figures that were put
figures-long : {X : Type 0} (f : X → List ℕ) (k : ℕ) → ((x : X) → length (f x) ≡ k) → (a : Answer X) → length (read_figures f k a) ≡ 2 + k
figures-long f k long (took x n b) = omega (arith, long x)
figures-long f k long (refused r) = omega (arith, length-replicate {A = ℕ} k 0)

module _ {X : Type 0} (C : Codec X) (f : X → List ℕ) (k : ℕ) (s : List ℕ) (p : ℕ) (i i₁ i₂ : List ℕ) (q : std.Option Step) (a : WholeAnswers C f k s p i q i₁) (h : 2 + k ≤ length i) where
  pub told-again : ((x : X) → length (f x) ≡ k) → q ≡ None → {r : ℕ} → ValueCalled (Answers (exactly C) s p) f k i₁ r i₂ → ValueCalled (Answers (exactly C) s p) f k i r i₂
  told-again long e c =
      let w : Within (2 + k) i i₁ = subst (λ z. WholeAnswersBy C f k s p i z i₁) e a.by in
      let same = w.same in
      let t = c.room (omega arith) in
      record {
        room = λ _. record {
          answer = t.answer;
          answers = t.answers;
          number = t.number;
          list = t.list ∙ within-over w (read_figures f k t.answer) (figures-long f k long t.answer) h;
        };
        short = λ g. absurd (omega arith);
      }

  pub told-whole : {x : Step} {v : ℕ} → q ≡ Some x → v ≡ cond x.plain 1 0 → i₂ ≡ sets i₁ 0 (x.next ∷ v ∷ []) → ValueCalled (Answers (exactly C) s p) f k i 0 i₂
  told-whole {x} {v} e d g =
      let t : Answered C f k s p i x.next x.plain i₁ = subst (λ z. WholeAnswersBy C f k s p i z i₁) e a.by in
      let fs : List ℕ = f t.value in
      record {
        room = λ _. record {
          answer = took t.value x.next x.plain;
          answers = t.answers;
          number = refl;
          list =
              g ∙ ap (λ l. set (set l 0 x.next) 1 v) t.list ∙ ap (λ l. set l 1 v) (set_before fs i 2 0 x.next (omega arith))
              ∙ set_before fs (set i 0 x.next) 2 1 v (omega arith) ∙ ap (λ j. sets i 0 (x.next ∷ j ∷ fs)) d;
        };
        short = λ g. absurd (omega arith);
      }
