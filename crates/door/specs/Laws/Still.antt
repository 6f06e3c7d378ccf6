-- Kinds that have no loose forms: a step for each combinator, the items, and the kinds. What is read of them is plain.
-- Assumes nothing.
use Rattle.std.specs.Prelude.{◌≡◌, cond, Bool, true, false, List, [], ◌∷◌, ◌++◌, ℕ, zero, suc, eqb, length}
use Rattle.std.proofs.Common.{ap₂, ◌∙◌, arith}
use Rattle.std.proofs.Math.Option.{Option, none, some}
use Rattle.xdr.specs.Meaning.Answer.{took, Way, Loose, here, shifted}
use Rattle.xdr.specs.Meaning.Kind.{Codec}
use Rattle.xdr.specs.Meaning.Codecs.{◌⨾◌, void, chain, mapped}
use Rattle.xdr.specs.Meaning.Codecs as codecs
use Rattle.xdr.specs.Meaning.Combinators.{View, means, among}
use Rattle.xdr.specs.Meaning.Items.{number, word, hyper, int, long, eight, closed}
use Rattle.xdr.specs.Meaning.Format.{Format, exactly, tagged}
use Rattle.xdr.specs.Meaning.Formats.{eight_bytes}
use Rattle.xdr.specs.Meaning.Status.{Status, Arms, arm_of, status_of, on_status}
use Rattle.xdr.specs.Meaning.Public.{Answers, Took}
use Rattle.xdr.specs.Laws.Public.{kept}
use Rattle.rpc.specs.Meaning.Closed.{msg-type, msg_type_number, msg_types, each_msg_type, reply-stat, reply_stat_number, reply_stats, each_reply_stat, reject-stat, reject_stat_number, reject_stats, each_reject_stat, auth-flavor, flavor_number, flavors, each_auth_flavor}
use Rattle.rpc.specs.Meaning.Reading.{Reading, mismatch-info}
use Rattle.rpc.specs.Meaning.Reply.{accept_stat_of, auth_stat_of}
use Rattle.rpc.specs.Meaning.Crate.{crate, accept-stat, auth-stat}
use Rattle.rpc.specs.Meaning.Current.{current, current_accept_stat, current_auth_stat}
use Rattle.nfsattr.specs.Meaning.Stat.{nfsstat, stat_number, statuses, each_stat, success_or}
use Rattle.nfsattr.specs.Meaning.Attr.{ftype, ftype_number, ftypes, each_ftype, specdata, nfstime, fattr, wcc-attr}
use Rattle.nfs.specs.Meaning.Set.{time_how, how_number, hows, each_how, SetTime, time_arms, see_time, set_time, set-atime, set-mtime}
use Rattle.nfsfile.specs.Meaning.Getattr.{getattr_resok, getattr_res_arms, getattr_res}
use Rattle.nfsdata.specs.Meaning.Write.{stable-how, stable_how_number, stable_how_all, each_stable_how}
use Rattle.mount.specs.Meaning.Mnt.{mountstat, mountstat_number, mountstat_all, each_mountstat}
use Rattle.mount.specs.Meaning.Portmap.{port_mapping}

-- nothing is ever loose
pub record Still {X : Type 0} (C : Codec X) : Type 0 where
  pub none : (m : X) (w : List Loose) (e : List ℕ) → C.kind.Form m w e → w ≡ []

-- what is read of such a kind is plain
module _ {M S : Type 0} (F : Format M S) where
  pub still-plain : Still F.codec → (s : List ℕ) (p : ℕ) (x : S) (n : ℕ) (b : Bool) → Answers F s p (took x n b) → b ≡ true
  still-plain h s p x n b c =
      let t : Took F = record { source = s; place = p; value = x; next = n; plain = b; answers = c } in
      let f = (kept F).formed t in
      ((kept F).clean_iff t f.0 f.1).1 (h.none _ f.0 _ f.1)

-- one after another
none_both : (k : ℕ) (v w u : List Loose) → v ≡ [] → w ≡ [] → u ≡ v ++ shifted k w → u ≡ []
none_both k v w u e f g = g ∙ ap₂ (λ x y. x ++ shifted k y) e f

pub still-two : {X : Type 0} {Y : X → Type 0} (A : Codec X) (B : (a : X) → Codec (Y a)) → Still A → ((a : X) → Still (B a)) → Still (chain A B)
still-two A B S T =
    record {
      none = λ m w e f.
          none_both (length f.e₁) f.w₁ f.w₂ w (S.none m.0 f.w₁ f.e₁ f.form₁) ((T m.0).none m.1 f.w₂ f.e₂ f.form₂) f.loose;
    }

still-pair : {X Y : Type 0} {A : Codec X} {B : Codec Y} → Still A → Still B → Still (A ⨾ B)
still-pair {A = A} {B = B} S T = still-two A (λ a. B) S (λ a. T)

-- seen as another
module _ {M N : Type 0} (C : Codec M) (W : View M C.kind.Good N) where
  still-view : Still C → ((x : M) (m : N) (l : List Way) → W.see x ≡ means m l → l ≡ []) → Still (codecs.view C W)
  still-view S T =
      record {
        none = λ m w e f.
            f.loose ∙ ap₂ (λ x y. here x ++ y) (T f.of m f.w₂ f.sees) (S.none f.of f.w₁ e f.form);
      }

means-none : {N : Type 0} {m m' : N} {l : List Way} → means m [] ≡ means m' l → l ≡ []
means-none e = cc

still-mapped : {M N : Type 0} {C : Codec M} (f : M → N) (g : N → M) (gf : (x : M) → g (f x) ≡ x) (fg : (y : N) → f (g y) ≡ y) → Still C → Still (mapped C f g gf fg)
still-mapped {C = C} f g gf fg S = still-view C _ S (λ x m l e. means-none e)

-- the items
still-number : (k : ℕ) → Still (number k)
unfolding number
still-number k = record { none = λ m w e f. f.loose ∙ ap₂ (λ x y. here x ++ y) (means-none f.sees) f.form.0 }

pub still-word : Still word
unfolding word
still-word = still-number 4

pub still-hyper : Still hyper
unfolding hyper
still-hyper = still-number 8

pub still-int : Still int
unfolding int number
still-int = still-view (number 4) _ (still-number 4) (λ x m l e. means-none e)

pub still-long : Still long
unfolding long number
still-long = still-view (number 8) _ (still-number 8) (λ x m l e. means-none e)

pub still-eight : Still eight_bytes.codec
unfolding eight
still-eight = still-view hyper _ still-hyper (λ x m l e. means-none e)

still-void : Still void
still-void = record { none = λ m w e f. f.0 }

-- a closed enumeration
module _ {A : Type 0} (number : A → ℕ) where
  among-still : (l : List A) (v : ℕ) (m : A) (w : List Way) → among number l v ≡ means m w → w ≡ []
  among-still [] v m w e = let z : ◌≡◌ {A = ℕ} 0 1 = cc in absurd (omega arith)
  among-still (a ∷ l) v m w e = by (eqb v (number a)) (among-still l v m w) e
    where
      by : (b : Bool) → (among number l v ≡ means m w → w ≡ []) → cond b (means a []) (among number l v) ≡ means m w → w ≡ []
      by true h e = means-none e
      by false h e = h e

  still-closed : (l : List A) (each : (a : A) → among number l (number a) ≡ means a []) → Still (closed number l each)
  still-closed l each = still-view word _ still-word (among-still l)

-- a union on a status
module _ {A Fail M N S T R : Type 0} (C : Codec A) (U : Status A Fail) (F : Format M S) (G : Format N T) (W : Arms Fail S T R) where
  still-status : Still C → Still F.codec → Still G.codec → Still (on_status C U F G W).codec
  still-status h i j =
      still-view (tagged (status_of C U F G W) (arm_of F G)).codec _
      (still-two (status_of C U F G W) (λ o. (arm_of F G o).format.codec) (still-mapped _ _ _ _ h) arms)
      (λ x m l e. means-none e)
    where
      arms : (o : Option Fail) → Still (arm_of F G o).format.codec
      arms none = i
      arms (some f) = j

-- the closed enumerations
pub still-msg-type : Still msg-type
unfolding msg-type
still-msg-type = still-closed msg_type_number msg_types each_msg_type

pub still-reply-stat : Still reply-stat
unfolding reply-stat
still-reply-stat = still-closed reply_stat_number reply_stats each_reply_stat

pub still-reject-stat : Still reject-stat
unfolding reject-stat
still-reject-stat = still-closed reject_stat_number reject_stats each_reject_stat

pub still-auth-flavor : Still auth-flavor
unfolding auth-flavor
still-auth-flavor = still-closed flavor_number flavors each_auth_flavor

-- over a reading
module _ {Stat Auth Accept Rejected Accepted Reply Body Msg : Type 0} (R : Reading Stat Auth Accept Rejected Accepted Reply Body Msg) where
  still-stat : Still (accept_stat_of R)
  unfolding accept_stat_of
  still-stat = still-closed R.stat_number R.stats R.each_stat

  still-auth : Still (auth_stat_of R)
  unfolding auth_stat_of
  still-auth = still-closed R.auth_number R.auths R.each_auth

pub still-accept-stat : Still accept-stat
still-accept-stat = still-stat crate

pub still-auth-stat : Still auth-stat
still-auth-stat = still-auth crate

pub still-current-accept-stat : Still current_accept_stat
still-current-accept-stat = still-stat current

pub still-current-auth-stat : Still current_auth_stat
still-current-auth-stat = still-auth current

pub still-time-how : Still time_how
unfolding time_how
still-time-how = still-closed how_number hows each_how

pub still-nfsstat : Still nfsstat
unfolding nfsstat
still-nfsstat = still-closed stat_number statuses each_stat

pub still-ftype : Still ftype
unfolding ftype
still-ftype = still-closed ftype_number ftypes each_ftype

pub still-stable-how : Still stable-how
unfolding stable-how
still-stable-how = still-closed stable_how_number stable_how_all each_stable_how

pub still-mountstat : Still mountstat
unfolding mountstat
still-mountstat = still-closed mountstat_number mountstat_all each_mountstat

-- the records of such kinds
pub still-mismatch-info : Still mismatch-info
unfolding mismatch-info
still-mismatch-info = still-mapped _ _ _ _ (still-pair still-word still-word)

pub still-mapping : Still port_mapping
unfolding port_mapping
still-mapping = still-mapped _ _ _ _ (still-pair still-word (still-pair still-word (still-pair still-word still-word)))

pub still-specdata : Still specdata
unfolding specdata
still-specdata = still-mapped _ _ _ _ (still-pair still-word still-word)

pub still-nfstime : Still nfstime
unfolding nfstime
still-nfstime = still-mapped _ _ _ _ (still-pair still-word still-word)

pub still-fattr : Still fattr
unfolding fattr
still-fattr =
    still-mapped _ _ _ _
    (still-pair still-ftype
    (still-pair still-word
    (still-pair still-word
    (still-pair still-word
    (still-pair still-word
    (still-pair still-hyper
    (still-pair still-hyper
    (still-pair still-specdata (still-pair still-hyper (still-pair still-hyper (still-pair still-nfstime (still-pair still-nfstime still-nfstime))))))))))))

pub still-wcc-attr : Still wcc-attr
unfolding wcc-attr
still-wcc-attr = still-mapped _ _ _ _ (still-pair still-hyper (still-pair still-nfstime still-nfstime))

-- a time that is set: the tag, and what follows it
pub still-time : Still set_time
unfolding set_time
still-time = still-view (chain word (λ tag. (time_arms tag).format.codec)) _ (still-two word _ still-word arms) sees
  where
    arms : (tag : ℕ) → Still (time_arms tag).format.codec
    arms zero = still-void
    arms (suc zero) = still-void
    arms (suc (suc zero)) = still-nfstime
    arms (suc (suc (suc n))) = still-void

    by : (tag : ℕ) (u : (time_arms tag).Msg) (m : SetTime) (l : List Way) → see_time tag u ≡ means m l → l ≡ []
    by zero u m l e = means-none e
    by (suc zero) u m l e = means-none e
    by (suc (suc zero)) u m l e = means-none e
    by (suc (suc (suc n))) u m l e = let z : ◌≡◌ {A = ℕ} 0 1 = cc in absurd (omega arith)

    sees : (x : (tag : ℕ) × (time_arms tag).Msg) (m : SetTime) (l : List Way) → see_time x.0 x.1 ≡ means m l → l ≡ []
    sees x m l e = by x.0 x.1 m l e

pub still-atime : Still set-atime
unfolding set-atime
still-atime = still-mapped _ _ _ _ still-time

pub still-mtime : Still set-mtime
unfolding set-mtime
still-mtime = still-mapped _ _ _ _ still-time

-- the attributes of a file, behind its status
still-resok : Still getattr_resok
unfolding getattr_resok
still-resok = still-mapped _ _ _ _ still-fattr

pub still-getattr-res : Still getattr_res.codec
unfolding getattr_res
still-getattr-res = still-status nfsstat success_or (exactly getattr_resok) (exactly void) getattr_res_arms still-nfsstat still-resok still-void
