-- The groups of fields by which the code reads and writes `fattr3` and `fsinfo3`, and that reading in groups and pairs is reading the fields
-- one by one. Nobody has to believe these definitions: they are private to the code.
-- Assumes nothing.
use Rattle.std.specs.Prelude.{◌≡◌, refl, Bool, List, [], ℕ}
use Rattle.std.proofs.Common.{sym, ap, ◌∙◌}
use Rattle.xdr.specs.Meaning.Answer.{Answer, took, refused}
use Rattle.xdr.specs.Meaning.Kind.{Codec}
use Rattle.xdr.specs.Meaning.Combinators.{means, look}
use Rattle.xdr.specs.Meaning.Codecs.{◌⨾◌, mapped, exact_view}
use Rattle.xdr.specs.Meaning.Items.{word, hyper, word_pair, hyper_pair}
use Rattle.xdr.specs.Meaning.Format.{exactly}
use Rattle.xdr.specs.Laws.Plans.{Prog, follow, run, Plan, ◌next◌}
use Rattle.xdr.specs.Laws.Records.{one}
use Rattle.nfsattr.specs.Meaning.Attr.{ftype, specdata, nfstime, post-op-attr}
use Rattle.nfsattr.specs.declared.attr.ftype3.{ftype3}
use Rattle.nfsattr.specs.declared.attr.specdata3.{specdata3}
use Rattle.nfsattr.specs.declared.attr.nfstime3.{nfstime3}
use Rattle.nfsattr.specs.declared.attr.post_op_attr.{post_op_attr}
use Rattle.nfsattr.specs.declared.inner.attr.Ids.{Ids}
use Rattle.nfsattr.specs.declared.inner.attr.Sizes.{Sizes}
use Rattle.nfsattr.specs.declared.inner.attr.Times.{Times}
use Rattle.nfsattr.specs.declared.inner.attr.Transfer.{Transfer}
use Rattle.nfsattr.specs.declared.inner.attr.Limits.{Limits}

-- of fattr3
unfoldable pub ids : Codec Ids
ids =
    mapped (ftype ⨾ word_pair ⨾ word_pair) (λ x. record { ftype = x.0; mode = x.1.0.0; nlink = x.1.0.1; uid = x.1.1.0; gid = x.1.1.1 }) (λ m. (m.ftype, ((m.mode, m.nlink), (m.uid, m.gid))))
    (λ x. refl) (λ m. refl)

unfoldable pub sizes : Codec Sizes
sizes =
    mapped (hyper_pair ⨾ specdata ⨾ hyper_pair) (λ x. record { size = x.0.0; used = x.0.1; rdev = x.1.0; fsid = x.1.1.0; fileid = x.1.1.1 }) (λ m. ((m.size, m.used), (m.rdev, (m.fsid, m.fileid))))
    (λ x. refl) (λ m. refl)

unfoldable pub times : Codec Times
times =
    mapped (nfstime ⨾ nfstime ⨾ nfstime) (λ x. record { atime = x.0; mtime = x.1.0; ctime = x.1.1 }) (λ m. (m.atime, (m.mtime, m.ctime)))
    (λ x. refl) (λ m. refl)

-- of fsinfo3: for a READ or a WRITE, the most bytes, the preferred number and what it is best a multiple of; and the rest
unfoldable pub transfer : Codec Transfer
transfer =
    mapped (word ⨾ word_pair) (λ x. record { max = x.0; pref = x.1.0; mult = x.1.1 }) (λ m. (m.max, (m.pref, m.mult)))
    (λ x. refl) (λ m. refl)

unfoldable pub limits : Codec Limits
limits =
    mapped (word ⨾ hyper ⨾ nfstime ⨾ word) (λ x. record { dtpref = x.0; maxfilesize = x.1.0; time_delta = x.1.1.0; properties = x.1.1.1 }) (λ m. (m.dtpref, (m.maxfilesize, (m.time_delta, m.properties))))
    (λ x. refl) (λ m. refl)

-- a group, field by field
module _ {M N : Type 0} {C : Codec M} (P : Plan (exactly C)) (f : M → N) (g : N → M) (gf : (x : M) → g (f x) ≡ x) (fg : (y : N) → f (g y) ≡ y) where
  module _ {U : Type 0} (k : N → Prog U) (s : List ℕ) where
    looked-is : (p : ℕ) (b : Bool) (a : Answer M)
        → follow (λ x n d. run (k x) s n d) b (look C.kind (exact_view C (λ x. means (f x) []) g gf (λ y. ap (λ z. means z []) (fg y))) p a)
        ≡ follow (λ x n d. run (k (f x)) s n d) b a
    looked-is p b (took x n b') = refl
    looked-is p b (refused r) = refl

    pub group-is : (p : ℕ) (b : Bool)
        → follow (λ x n d. run (k x) s n d) b ((mapped C f g gf fg).kind.read s p) ≡ run (P.by (λ x. k (f x))) s p b
    group-is p b = looked-is p b (C.kind.read s p) ∙ P.is (λ x. k (f x)) s p b

  abbrev pub group : Plan (exactly (mapped C f g gf fg))
  group = record { by = λ k. P.by (λ x. k (f x)); is = λ k s p b. group-is k s p b }

-- fields that are read in groups: P asks for the fields, Q for the fields of each group, which are the same, and R for the groups
module _ {M N : Type 0} {C : Codec M} {D : Codec N} (P : Plan (exactly C)) (Q R : Plan (exactly D)) (held : N → M)
    (same : (U : Type 0) (k : M → Prog U) → P.by k ≡ Q.by (λ x. k (held x))) where
  module _ {U : Type 0} (k : M → Prog U) (s : List ℕ) (p : ℕ) (b : Bool) where
    pub regrouped-is : follow (λ x n d. run (k x) s n d) b (C.kind.read s p) ≡ run (R.by (λ x. k (held x))) s p b
    regrouped-is =
        P.is k s p b ∙ ap (λ A. run A s p b) (same U k) ∙ sym (Q.is (λ x. k (held x)) s p b) ∙ R.is (λ x. k (held x)) s p b

  abbrev pub regrouped : Plan (exactly C)
  regrouped = record { by = λ k. R.by (λ x. k (held x)); is = λ k s p b. regrouped-is k s p b }

-- the pairs and the groups, field by field
abbrev pub words : Plan (exactly word_pair)
unfolding word_pair
words = one word next one word

abbrev pub hypers : Plan (exactly hyper_pair)
unfolding hyper_pair
hypers = one hyper next one hyper

abbrev pub ids-fields : Plan (exactly ids)
unfolding ids
ids-fields = group (one ftype next words next words) _ _ _ _

abbrev pub sizes-fields : Plan (exactly sizes)
unfolding sizes
sizes-fields = group (hypers next one specdata next hypers) _ _ _ _

abbrev pub times-fields : Plan (exactly times)
unfolding times
times-fields = group (one nfstime next one nfstime next one nfstime) _ _ _ _

abbrev pub transfer-fields : Plan (exactly transfer)
unfolding transfer
transfer-fields = group (one word next words) _ _ _ _

abbrev pub limits-fields : Plan (exactly limits)
unfolding limits
limits-fields = group (one word next one hyper next one nfstime next one word) _ _ _ _

-- fattr3: the fields, what the groups hold of them, and that both ask the same
abbrev pub FattrFields : Type 0
FattrFields = ftype3 × (ℕ × (ℕ × (ℕ × (ℕ × (ℕ × (ℕ × (specdata3 × (ℕ × (ℕ × (nfstime3 × (nfstime3 × nfstime3)))))))))))

abbrev pub fattr-list : Codec FattrFields
fattr-list = ftype ⨾ word ⨾ word ⨾ word ⨾ word ⨾ hyper ⨾ hyper ⨾ specdata ⨾ hyper ⨾ hyper ⨾ nfstime ⨾ nfstime ⨾ nfstime

abbrev pub fattr-fields : Plan (exactly fattr-list)
fattr-fields =
    one ftype next one word next one word next one word next one word next one hyper next one hyper next one specdata next one hyper next one hyper
    next one nfstime next one nfstime next one nfstime

abbrev pub fattr-held : Ids × (Sizes × Times) → FattrFields
fattr-held x =
    let a = x.0 in
    let b = x.1.0 in
    let c = x.1.1 in
    (a.ftype, (a.mode, (a.nlink, (a.uid, (a.gid, (b.size, (b.used, (b.rdev, (b.fsid, (b.fileid, (c.atime, (c.mtime, c.ctime))))))))))))

pub fattr-same : (U : Type 0) (k : FattrFields → Prog U)
    → fattr-fields.by k ≡ (ids-fields next sizes-fields next times-fields).by (λ x. k (fattr-held x))
unfolding ids-fields sizes-fields times-fields words hypers
fattr-same U k = refl

abbrev pub fattr-groups : Plan (exactly fattr-list)
fattr-groups =
    regrouped fattr-fields (ids-fields next sizes-fields next times-fields) (one ids next one sizes next one times) fattr-held fattr-same

-- fsinfo3
abbrev pub FsinfoFields : Type 0
FsinfoFields = post_op_attr × (ℕ × (ℕ × (ℕ × (ℕ × (ℕ × (ℕ × (ℕ × (ℕ × (nfstime3 × ℕ)))))))))

abbrev pub fsinfo-list : Codec FsinfoFields
fsinfo-list = post-op-attr ⨾ word ⨾ word ⨾ word ⨾ word ⨾ word ⨾ word ⨾ word ⨾ hyper ⨾ nfstime ⨾ word

abbrev pub fsinfo-fields : Plan (exactly fsinfo-list)
fsinfo-fields =
    one post-op-attr next one word next one word next one word next one word next one word next one word next one word next one hyper next one nfstime
    next one word

abbrev pub fsinfo-held : post_op_attr × (Transfer × (Transfer × Limits)) → FsinfoFields
fsinfo-held x =
    let a = x.1.0 in
    let b = x.1.1.0 in
    let c = x.1.1.1 in
    (x.0, (a.max, (a.pref, (a.mult, (b.max, (b.pref, (b.mult, (c.dtpref, (c.maxfilesize, (c.time_delta, c.properties))))))))))

pub fsinfo-same : (U : Type 0) (k : FsinfoFields → Prog U)
    → fsinfo-fields.by k ≡ (one post-op-attr next transfer-fields next transfer-fields next limits-fields).by (λ x. k (fsinfo-held x))
unfolding transfer-fields limits-fields words
fsinfo-same U k = refl

abbrev pub fsinfo-groups : Plan (exactly fsinfo-list)
fsinfo-groups =
    regrouped fsinfo-fields (one post-op-attr next transfer-fields next transfer-fields next limits-fields)
    (one post-op-attr next one transfer next one transfer next one limits) fsinfo-held fsinfo-same
