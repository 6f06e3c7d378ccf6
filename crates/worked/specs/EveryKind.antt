-- Of each of the door's kinds there are two different messages, so that the theorems of `Idle` speak of every kind: each takes the word
-- 00000001 again and again, and takes another message from the word 00000002, or from zeros; a list takes its end, and an entry of zeros.
-- Assumes nothing.
use Rattle.std.specs.Prelude.{◌≡◌, refl, Bool, true, false, ◌&&◌, List, [], ◌∷◌, ◌++◌, ℕ, zero, suc, ◌<◌, leb, ltb, eqb, length}
use Rattle.std.proofs.Common.{sym, ap, ◌∙◌, arith, leb-true, ltb-true, eq-eqb}
use Rattle.xdr.specs.Meaning.Bytes.{Bytes}
use Rattle.xdr.specs.Meaning.Answer.{Answer, took, refused, Taken, most, opened, Written}
use Rattle.xdr.specs.Meaning.Format.{Format, Branch}
use Rattle.xdr.specs.Meaning.Pieces.{part_of, words_part_of}
use Rattle.xdr.specs.Meaning.Public.{Took, output}
use Rattle.xdr.specs.Laws.Public.{kept}
-- made by tools/generate: meanings
use Rattle.xdr.specs.Meaning.Items.{number, word, hyper, word_pair, hyper_pair, flag, int, long, eight, opaque, words}
use Rattle.xdr.specs.Meaning.Formats.{eight_held, piece_held, words_held}
use Rattle.xdr.specs.Meaning.Pieces.{is_inside, part_place, are_inside, words_place, word_of, size_up_to, words_up_to}
use Rattle.rpc.specs.Meaning.Closed.{msg-type, reply-stat, reject-stat, auth-flavor}
use Rattle.rpc.specs.Meaning.Reading.{mismatch-info}
use Rattle.rpc.specs.Meaning.Reply.{accept_stat_of, auth_stat_of, accept_body_of, accepted_reply_of, rejected_reply_of, reply_body_of}
use Rattle.rpc.specs.Meaning.Message.{call-body, rpc_body_of, rpc_msg_of}
use Rattle.rpc.specs.Meaning.Auth.{opaque-auth, auth-unix}
use Rattle.nfsattr.specs.Meaning.Stat.{nfsstat}
use Rattle.nfsattr.specs.Meaning.Attr.{ftype, specdata, nfstime, fattr, wcc-attr, pre-op-attr, post-op-attr, wcc-data, fsinfo}
use Rattle.nfs.specs.Meaning.Set.{time_how, set_time, set-atime, set-mtime, sattr}
use Rattle.nfs.specs.Meaning.Change.{set_mode, set_uid, set_gid, set_size}
use Rattle.nfs.specs.Meaning.Dir.{nfs_fh, post_op_fh, diropargs, symlinkdata}
use Rattle.nfsfile.specs.Meaning.Setattr.{sattrguard, setattr_args, setattr_resok, setattr_resfail, setattr_res}
use Rattle.nfsfile.specs.Meaning.Getattr.{getattr_args, getattr_resok, getattr_res}
use Rattle.nfsfile.specs.Meaning.Lookup.{lookup_args, lookup_resok, lookup_resfail, lookup_res}
use Rattle.nfsdata.specs.Meaning.Write.{stable-how, write_args, write_resok, write_resfail, write_res}
use Rattle.nfsdata.specs.Meaning.Read.{read_args, read_resok, read_resfail, read_res}
use Rattle.mount.specs.Meaning.Path.{dirpath}
use Rattle.mount.specs.Meaning.Mnt.{mountstat, mountres_ok, mountres}
use Rattle.mount.specs.Meaning.Export.{node, nodes, exports, next_node, next-export}
use Rattle.mount.specs.Meaning.Group.{groups, next-group}
use Rattle.mount.specs.Meaning.Portmap.{port_mapping}
-- end of meanings
use Rattle.door.specs.Meaning.Kinds.{kinds}
use Rattle.worked.specs.Idle.{Sample, Reads, Refuses, refuses_all, one_for_all, Puts, idles}

-- a word below 256, n times
abbrev again : ℕ → ℕ → List ℕ
again zero v = []
again (suc n) v = 0 ∷ 0 ∷ 0 ∷ v ∷ again n v

again_bytes : (n v : ℕ) → v < 256 → Bytes (again n v)
again_bytes zero v h = tt
again_bytes (suc n) v h = (omega arith, (omega arith, (omega arith, (h, again_bytes n v h))))

abbrev pub all_bytes : List ℕ → Bool
all_bytes [] = true
all_bytes (x ∷ l) = ltb x 256 && all_bytes l

both : (a b : Bool) → a && b ≡ true → (a ≡ true) × (b ≡ true)
both true b h = (refl, h)
both false b h = let z : ◌≡◌ {A = ℕ} 0 1 = cc h in absurd (omega arith)

pub are_bytes : (l : List ℕ) → all_bytes l ≡ true → Bytes l
are_bytes [] h = tt
are_bytes (x ∷ l) h = let g = both (ltb x 256) (all_bytes l) h in (ltb-true x 256 g.0, are_bytes l g.1)

abbrev same : List ℕ → List ℕ → Bool
same [] [] = true
same [] (y ∷ m) = false
same (x ∷ l) [] = false
same (x ∷ l) (y ∷ m) = eqb x y && same l m

abbrev pub Different : {M S : Type 0} → Format M S → Type 0
Different F = (m : Sample F) × (m' : Sample F) × (m.message ≡ m'.message → ⊥)

abbrev pub Each : List Branch → Type 0
Each [] = Unit {0}
Each (b ∷ l) = Different b.format × Each l

-- what was taken, as it is rewritten, and whether it can be read again
module _ {M S : Type 0} (F : Format M S) (s : List ℕ) where
  abbrev tell : Answer S → List ℕ
  tell (took x n b) = output F s x
  tell (refused r) = []

  abbrev fine : Answer S → Bool
  fine (took x n b) = leb (length (output F s x)) most && all_bytes (output F s x)
  fine (refused r) = false

  some_of : (a : Answer S) → opened s 0 (F.held.read s 0) ≡ a → Bytes s → fine a ≡ true → (m : Sample F) × (F.codec.kind.write m.message ≡ tell a)
  some_of (took x n b) e h f =
      let t : Took F = record { source = s; place = 0; value = x; next = n; plain = b; answers = record { is = sym e; bytes = h } } in
      let g = both (leb (length (output F s x)) most) (all_bytes (output F s x)) f in
      (record { message = F.held.mean s x; good = (kept F).in_range t; short = leb-true (length (output F s x)) most g.0; bytes = are_bytes (output F s x) g.1 }, refl)
  some_of (refused r) e h f = let z : ◌≡◌ {A = ℕ} 0 1 = cc f in absurd (omega arith)

same_self : (l : List ℕ) → same l l ≡ true
same_self [] = refl
same_self (x ∷ l) = simp (eq-eqb x x refl, same_self l)

module _ {M S : Type 0} (F : Format M S) where
  abbrev look : List ℕ → Answer S
  look s = opened s 0 (F.held.read s 0)

  two : (s t : List ℕ) → Bytes s → Bytes t → fine F s (look s) ≡ true → fine F t (look t) ≡ true → same (tell F s (look s)) (tell F t (look t)) ≡ false → Different F
  two s t hs ht fs ft d =
      let m = some_of F s (look s) refl hs fs in
      let m' = some_of F t (look t) refl ht ft in (
        m.0,
        m'.0,
        λ e.
            let w : tell F s (look s) ≡ tell F t (look t) = sym m.1 ∙ ap F.codec.kind.write e ∙ m'.1 in
            let z : ◌≡◌ {A = Bool} true false = sym (same_self (tell F t (look t))) ∙ ap (λ l. same l (tell F t (look t))) (sym w) ∙ d in
            let y : ◌≡◌ {A = ℕ} 0 1 = cc z in omega arith,
      )

  -- by words of 1 and of 2; by words of 1 and zeros
  by_two : fine F (again 34 1) (look (again 34 1)) ≡ true → fine F (again 34 2) (look (again 34 2)) ≡ true
      → same (tell F (again 34 1) (look (again 34 1))) (tell F (again 34 2) (look (again 34 2))) ≡ false → Different F
  by_two = two (again 34 1) (again 34 2) (again_bytes 34 1 (omega arith)) (again_bytes 34 2 (omega arith))

  by_zero : fine F (again 1 1) (look (again 1 1)) ≡ true → fine F (again 1 0) (look (again 1 0)) ≡ true
      → same (tell F (again 1 1) (look (again 1 1))) (tell F (again 1 0) (look (again 1 0))) ≡ false → Different F
  by_zero = two (again 1 1) (again 1 0) (again_bytes 1 1 (omega arith)) (again_bytes 1 0 (omega arith))

  -- of a list: its end, and a flag of 1 and zeros, which is an entry of nothing and then the end
  by_list : fine F (again 1 0) (look (again 1 0)) ≡ true → fine F (again 1 1 ++ again 3 0) (look (again 1 1 ++ again 3 0)) ≡ true
      → same (tell F (again 1 0) (look (again 1 0))) (tell F (again 1 1 ++ again 3 0) (look (again 1 1 ++ again 3 0))) ≡ false → Different F
  by_list = two (again 1 0) (again 1 1 ++ again 3 0) (again_bytes 1 0 (omega arith)) (are_bytes (again 1 1 ++ again 3 0) refl)

-- made by tools/generate: every_kind
pub every_kind : Each kinds
unfolding opened part_of words_part_of number word hyper word_pair hyper_pair flag int long eight opaque words eight_held piece_held words_held is_inside part_place are_inside words_place word_of size_up_to words_up_to msg-type reply-stat reject-stat auth-flavor mismatch-info accept_stat_of auth_stat_of accept_body_of accepted_reply_of rejected_reply_of reply_body_of call-body rpc_body_of rpc_msg_of time_how set_time set-atime set-mtime sattr set_mode set_uid set_gid set_size nfsstat ftype specdata nfstime fattr wcc-attr pre-op-attr post-op-attr wcc-data fsinfo opaque-auth auth-unix nfs_fh post_op_fh diropargs symlinkdata stable-how write_args write_resok write_resfail write_res sattrguard setattr_args setattr_resok setattr_resfail setattr_res getattr_args getattr_resok getattr_res lookup_args lookup_resok lookup_resfail lookup_res read_args read_resok read_resfail read_res dirpath mountstat mountres_ok mountres node nodes exports next_node next-export groups next-group port_mapping
every_kind =
    (by_zero _ refl refl refl, (by_two _ refl refl refl, (by_two _ refl refl refl, (by_two _ refl refl refl, (by_two _ refl refl refl, (by_two _ refl refl refl, (by_two _ refl refl refl, (by_two _ refl refl refl, (by_two _ refl refl refl, (by_zero _ refl refl refl, (by_zero _ refl refl refl, (by_two _ refl refl refl, (by_zero _ refl refl refl, (by_two _ refl refl refl, (by_two _ refl refl refl, (by_two _ refl refl refl, (by_two _ refl refl refl, (by_two _ refl refl refl, (by_two _ refl refl refl, (by_two _ refl refl refl, (by_two _ refl refl refl, (by_two _ refl refl refl, (by_two _ refl refl refl, (by_two _ refl refl refl, (by_two _ refl refl refl, (by_two _ refl refl refl, (by_two _ refl refl refl, (by_two _ refl refl refl, (by_two _ refl refl refl, (by_two _ refl refl refl, (by_two _ refl refl refl, (by_two _ refl refl refl, (by_two _ refl refl refl, (by_two _ refl refl refl, (by_two _ refl refl refl, (by_two _ refl refl refl, (by_two _ refl refl refl, (by_two _ refl refl refl, (by_two _ refl refl refl, (by_two _ refl refl refl, (by_two _ refl refl refl, (by_two _ refl refl refl, (by_two _ refl refl refl, (by_two _ refl refl refl, (by_two _ refl refl refl, (by_two _ refl refl refl, (by_two _ refl refl refl, (by_two _ refl refl refl, (by_two _ refl refl refl, (by_two _ refl refl refl, (by_two _ refl refl refl, (by_two _ refl refl refl, (by_two _ refl refl refl, (by_two _ refl refl refl, (by_two _ refl refl refl, (by_two _ refl refl refl, (by_two _ refl refl refl, (by_two _ refl refl refl, (by_two _ refl refl refl, (by_two _ refl refl refl, (by_two _ refl refl refl, (by_two _ refl refl refl, (by_two _ refl refl refl, (by_two _ refl refl refl, (by_two _ refl refl refl, (by_two _ refl refl refl, (by_two _ refl refl refl, (by_two _ refl refl refl, (by_two _ refl refl refl, (by_two _ refl refl refl, (by_list _ refl refl refl, (by_two _ refl refl refl, tt))))))))))))))))))))))))))))))))))))))))))))))))))))))))))))))))))))))))

-- end of every_kind

-- So no function that keeps the contract of a reader of one of them refuses all, or gives one message for all; and none that keeps the
-- contract of a writer writes nothing.
pub record Useful {M S : Type 0} (F : Format M S) : Type 0 where
  pub some : (f : List ℕ → ℕ → Answer S) → Reads F f → ((s : List ℕ) (p : ℕ) → Bytes s → Refuses F (f s p)) → ⊥
  pub many : (f : List ℕ → ℕ → Answer S) → Reads F f → (c : M)
      → ((s : List ℕ) (p : ℕ) → Bytes s → Taken (λ x. F.held.mean s x ≡ c) (f s p)) → ⊥
  pub writes : (says : List ℕ → S → ℕ → List ℕ → Written) (leaves : List ℕ → S → ℕ → List ℕ → List ℕ) → Puts F says leaves
      → ((s : List ℕ) (x : S) (at : ℕ) (o : List ℕ) → leaves s x at o ≡ o) → ⊥

useful : {M S : Type 0} (F : Format M S) → Different F → Useful F
useful F d =
    record {
      some = λ f k. refuses_all F f k d.0;
      many = λ f k. one_for_all F f k d.0 d.1 d.2;
      writes = λ says leaves k idle. idles F says leaves k idle d.0 d.1 d.2;
    }

abbrev pub EachUseful : List Branch → Type 0
EachUseful [] = Unit {0}
EachUseful (b ∷ l) = Useful b.format × EachUseful l

each : (l : List Branch) → Each l → EachUseful l
each [] h = tt
each (b ∷ l) h = (useful b.format h.0, each l h.1)

pub every_one : EachUseful kinds
every_one = each kinds every_kind
