-- A fattr3 taken straight into the list of its figures, group by group.
-- Assumes nothing.
use Rattle.std.specs.Prelude.{◌≡◌, refl, Bool, true, false, ◌&&◌, List, [], ◌∷◌, ℕ, length, Result, Ok, Some, None}
use Rattle.std.specs.Prelude as std
use Rattle.std.proofs.Math.Path.{ap}
use Rattle.std.proofs.Common.{◌∙◌, arith}
use Rattle.std.proofs.Math.Seq.{sets}
use Rattle.xdr.specs.Meaning.Answer.{took}
use Rattle.xdr.specs.Meaning.Items.{word, word_pair, hyper_pair}
use Rattle.xdr.specs.Meaning.Views.{view}
use Rattle.xdr.specs.Laws.Answers.{on}
use Rattle.xdr.specs.declared.answer.Took.{Took}
use Rattle.xdr.specs.declared.refusal.Refusal.{Refusal}
use Rattle.nfsattr.specs.Meaning.Attr.{ftype, ftype_number, specdata, nfstime, fattr}
use Rattle.nfsattr.specs.Laws.Groups.{ids, sizes, times}
use Rattle.nfsattr.specs.Laws.Plans.{specdata-plan, nfstime-plan, ids-plan, sizes-plan, times-plan, fattr-plan}
use Rattle.nfsattr.specs.declared.attr.fattr3.{fattr3}
use Rattle.nfsattr.specs.declared.attr.ftype3.{ftype3}
use Rattle.nfsattr.specs.declared.inner.attr.Ids.{Ids}
use Rattle.nfsattr.specs.declared.inner.attr.Sizes.{Sizes}
use Rattle.nfsattr.specs.declared.inner.attr.Times.{Times}
use Rattle.door.specs.Meaning.Values.{fattr3_figures}
use Rattle.door.specs.Laws.Taken.{Takes, Within, Whole, within_none, within_by}
use Rattle.door.specs.declared.sattr3.Step.{Step}

-- the figures of each group
abbrev pub ids_figures : Ids → List ℕ
ids_figures v = ftype_number v.ftype ∷ v.mode ∷ v.nlink ∷ v.uid ∷ v.gid ∷ []

abbrev pub sizes_figures : Sizes → List ℕ
sizes_figures v = v.size ∷ v.used ∷ v.rdev.specdata1 ∷ v.rdev.specdata2 ∷ v.fsid ∷ v.fileid ∷ []

abbrev pub times_figures : Times → List ℕ
times_figures v = v.atime.seconds ∷ v.atime.nseconds ∷ v.mtime.seconds ∷ v.mtime.nseconds ∷ v.ctime.seconds ∷ v.ctime.nseconds ∷ []

pub fattr3-long : (x : fattr3) → length (fattr3_figures x) ≡ 17
fattr3-long x = refl

-- words that are read by themselves
module _ (s : List ℕ) (p : ℕ) {x y n m : ℕ} {b c : Bool} (e : word.kind.read s p ≡ took x n b) (f : word.kind.read s n ≡ took y m c) where
  read-pair : word_pair.kind.read s p ≡ took (x, y) m (b && c)
  unfolding word_pair
  read-pair = rw (e, f)

  read-specdata : specdata.kind.read s p ≡ took (record { specdata1 = x; specdata2 = y }) m (b && c)
  unfolding specdata
  read-specdata = specdata-plan.is s p ∙ rw read-pair

  read-nfstime : nfstime.kind.read s p ≡ took (record { seconds = x; nseconds = y }) m (b && c)
  unfolding nfstime
  read-nfstime = nfstime-plan.is s p ∙ rw read-pair

module _ {s : List ℕ} {p k : ℕ} {i i₁ i' : List ℕ} (t : Took ftype3) (a b c d : Took ℕ) (r : Result (Took ftype3) Refusal) (r₁ r₂ r₃ r₄ : Result (Took ℕ) Refusal)
    (f : r ≡ Ok t) (f₁ : r₁ ≡ Ok a) (f₂ : r₂ ≡ Ok b) (f₃ : r₃ ≡ Ok c) (f₄ : r₄ ≡ Ok d) where
  pub ids-put : k ≡ ftype_number t.value → i₁ ≡ sets i 2 (k ∷ a.value ∷ []) → i' ≡ sets i₁ 4 (b.value ∷ c.value ∷ d.value ∷ []) → view r ≡ ftype.kind.read s p
      → view r₁ ≡ word.kind.read s t.next → view r₂ ≡ word.kind.read s a.next → view r₃ ≡ word.kind.read s b.next → view r₄ ≡ word.kind.read s c.next
      → Takes ids ids_figures s p 2 i (Some (record { next = d.next; plain = (t.plain && (a.plain && b.plain)) && (c.plain && d.plain) })) i'
  unfolding ids
  ids-put g h h₁ e e₁ e₂ e₃ e₄ =
      record {
        by = record {
          value =
              record {
                ftype = t.value;
                mode = a.value;
                nlink = b.value;
                uid = c.value;
                gid = d.value;
              };
          reads = ids-plan.is s p ∙ rw (on e f, read-pair s t.next (on e₁ f₁) (on e₂ f₂), read-pair s b.next (on e₃ f₃) (on e₄ f₄));
          list = h₁ ∙ ap (λ l. sets l 4 (b.value ∷ c.value ∷ d.value ∷ [])) (h ∙ ap (λ n. sets i 2 (n ∷ a.value ∷ [])) g);
        };
      }

module _ {s : List ℕ} {p : ℕ} {i i' : List ℕ} (a d : Took (ℕ × ℕ)) (b c : Took ℕ) (r₁ r₄ : Result (Took (ℕ × ℕ)) Refusal) (r₂ r₃ : Result (Took ℕ) Refusal)
    (f₁ : r₁ ≡ Ok a) (f₂ : r₂ ≡ Ok b) (f₃ : r₃ ≡ Ok c) (f₄ : r₄ ≡ Ok d) where
  pub sizes-put : i' ≡ sets i 7 (a.value.0 ∷ a.value.1 ∷ b.value ∷ c.value ∷ d.value.0 ∷ d.value.1 ∷ []) → view r₁ ≡ hyper_pair.kind.read s p
      → view r₂ ≡ word.kind.read s a.next → view r₃ ≡ word.kind.read s b.next → view r₄ ≡ hyper_pair.kind.read s c.next
      → Takes sizes sizes_figures s p 7 i (Some (record { next = d.next; plain = (a.plain && (b.plain && c.plain)) && d.plain })) i'
  unfolding sizes
  sizes-put h e₁ e₂ e₃ e₄ =
      record {
        by = record {
          value =
              record {
                size = a.value.0;
                used = a.value.1;
                rdev = record { specdata1 = b.value; specdata2 = c.value };
                fsid = d.value.0;
                fileid = d.value.1;
              };
          reads = sizes-plan.is s p ∙ rw (on e₁ f₁, read-specdata s a.next (on e₂ f₂) (on e₃ f₃), on e₄ f₄);
          list = h;
        };
      }

module _ {s : List ℕ} {p : ℕ} {i i' : List ℕ} (a b c d u v : Took ℕ) (r₁ r₂ r₃ r₄ r₅ r₆ : Result (Took ℕ) Refusal)
    (f₁ : r₁ ≡ Ok a) (f₂ : r₂ ≡ Ok b) (f₃ : r₃ ≡ Ok c) (f₄ : r₄ ≡ Ok d) (f₅ : r₅ ≡ Ok u) (f₆ : r₆ ≡ Ok v) where
  pub times-put : i' ≡ sets i 13 (a.value ∷ b.value ∷ c.value ∷ d.value ∷ u.value ∷ v.value ∷ []) → view r₁ ≡ word.kind.read s p
      → view r₂ ≡ word.kind.read s a.next → view r₃ ≡ word.kind.read s b.next → view r₄ ≡ word.kind.read s c.next
      → view r₅ ≡ word.kind.read s d.next → view r₆ ≡ word.kind.read s u.next
      → Takes times times_figures s p 13 i (Some (record { next = v.next; plain = ((a.plain && b.plain) && (c.plain && d.plain)) && (u.plain && v.plain) })) i'
  unfolding times
  times-put h e₁ e₂ e₃ e₄ e₅ e₆ =
      record {
        by = record {
          value =
              record {
                atime = record { seconds = a.value; nseconds = b.value };
                mtime = record { seconds = c.value; nseconds = d.value };
                ctime = record { seconds = u.value; nseconds = v.value };
              };
          reads =
              times-plan.is s p
              ∙ rw (read-nfstime s p (on e₁ f₁) (on e₂ f₂), read-nfstime s b.next (on e₃ f₃) (on e₄ f₄), read-nfstime s d.next (on e₅ f₅) (on e₆ f₆));
          list = h;
        };
      }

-- the list after each group
module _ {s : List ℕ} {p : ℕ} {i i₁ : List ℕ} {r₁ : std.Option Step} (t₁ : Takes ids ids_figures s p 2 i r₁ i₁) where
  pub group-1 : Within 19 i i₁
  group-1 = within_by ids ids_figures s p 2 r₁ (within_none i) (λ x. let e : length (ids_figures x) ≡ 5 = refl in omega arith) t₁.by

  module _ {n₁ : ℕ} {i₂ : List ℕ} {r₂ : std.Option Step} (t₂ : Takes sizes sizes_figures s n₁ 7 i₁ r₂ i₂) where
    pub group-2 : Within 19 i i₂
    group-2 = within_by sizes sizes_figures s n₁ 7 r₂ group-1 (λ x. let e : length (sizes_figures x) ≡ 6 = refl in omega arith) t₂.by

    module _ {n₂ : ℕ} {i₃ : List ℕ} {r₃ : std.Option Step} (t₃ : Takes times times_figures s n₂ 13 i₂ r₃ i₃) where
      pub group-3 : Within 19 i i₃
      group-3 = within_by times times_figures s n₂ 13 r₃ group-2 (λ x. let e : length (times_figures x) ≡ 6 = refl in omega arith) t₃.by

three : (a b c : Bool) → ((true && a) && b) && c ≡ a && (b && c)
three true b c = refl
three false b c = refl

-- all three
module _ (s : List ℕ) (p : ℕ) (i : List ℕ) {i₁ i₂ i₃ : List ℕ} {u v w : Step} where
  pub groups-took : Takes ids ids_figures s p 2 i (Some u) i₁ → Takes sizes sizes_figures s u.next 7 i₁ (Some v) i₂
      → Takes times times_figures s v.next 13 i₂ (Some w) i₃ → Whole fattr fattr3_figures 17 s p i (Some (record { next = w.next; plain = u.plain && (v.plain && w.plain) })) i₃
  unfolding fattr
  groups-took t₁ t₂ t₃ =
      let x₁ = t₁.by in
      let x₂ = t₂.by in
      let x₃ = t₃.by in
      let a = x₁.value in
      let b = x₂.value in
      let c = x₃.value in
      record {
        by = record {
          value =
              record {
                ftype = a.ftype;
                mode = a.mode;
                nlink = a.nlink;
                uid = a.uid;
                gid = a.gid;
                size = b.size;
                used = b.used;
                rdev = b.rdev;
                fsid = b.fsid;
                fileid = b.fileid;
                atime = c.atime;
                mtime = c.mtime;
                ctime = c.ctime;
              };
          reads = fattr-plan.is s p ∙ rw (x₁.reads, x₂.reads, x₃.reads, three u.plain v.plain w.plain);
          list = x₃.list ∙ ap (λ l. sets l 13 (times_figures c)) (x₂.list ∙ ap (λ l. sets l 7 (sizes_figures b)) x₁.list);
        };
      }
