-- Messages whose pieces lie in two sources: how they are laid, how long they are, and that with one source they are as any other.
-- Assumes nothing.
use Rattle.std.specs.Prelude.{◌≡◌, refl, Bool, true, ◌&&◌, ℕ, ◌+◌, ◌-◌, ◌≤◌, length, get_or, Result, Ok, Err}
use Rattle.std.proofs.Common.{sym, ap, ap₂, ◌∙◌, arith, length-append, Fits}
use mathlib.Core.List.{List, ◌++◌, append_assoc}
use Rattle.std.specs.Int.{w8}
use borrow.Rule.Slice.PartMut.{mid_of, put_mid}
use Rattle.xdr.specs.Meaning.Bytes.{Bytes}
use Rattle.xdr.specs.Meaning.Answer.{most, done, unwritten}
use Rattle.xdr.specs.Meaning.Items.{word, word_pair}
use Rattle.xdr.specs.Meaning.Formats.{bytes, word_list, piece_held, words_held}
use Rattle.xdr.specs.Meaning.Pieces.{is_inside, are_inside, size_up_to, words_up_to}
use Rattle.xdr.specs.Meaning.Order.{placing}
use Rattle.xdr.specs.Meaning.Public.{output, laid, laid_of}
use Rattle.xdr.specs.Meaning.Sources.{longer}
use Rattle.xdr.specs.Meaning.Views.{view_wrote}
use Rattle.xdr.specs.Laws.Marks.{and_left, and_right}
use Rattle.xdr.specs.Laws.Lists.{known_bytes}
use Rattle.xdr.specs.Laws.Padding.{word-length, word-pair-length}
use Rattle.xdr.specs.Laws.LayPieces.{words_size}
use Rattle.xdr.specs.Laws.Write.{Put, Ready, put_same, put-laid, field, lent, lent_of}
use Rattle.xdr.specs.Laws.Writers.{bytes-sized}
use Rattle.xdr.specs.Laws.Putting.{placed}
use Rattle.xdr.specs.Laws.Sources.{first_short, second_short, placing-two, from-off, from_on}
use Rattle.rpc.specs.Meaning.Auth.{opaque-auth, auth-unix}
use Rattle.rpc.specs.Meaning.Message.{call-body, rpc_body_of, rpc_msg_of}
use Rattle.rpc.specs.Meaning.Crate.{rpc-msg}
use Rattle.rpc.specs.Meaning.Sources.{unix_from, WritesUnixFrom, call_from, message_from, WritesCallFrom}
use Rattle.rpc.specs.Laws.Sizes.{auth_size, auth-length, unix_size, unix-name, unix-gids, call_size, call-cred, call-verf}
use Rattle.rpc.specs.Laws.Puts.{lent_from, back_at, put-sized}
use Rattle.rpc.specs.declared.auth.auth_unix.{auth_unix}
use Rattle.rpc.specs.declared.message.call_body.{call_body}
use Rattle.xdr.specs.declared.refusal.Refusal.{Refusal}

-- each source is not too long, and its piece lies inside it
pub record UnixReady (s t : List ℕ) (m : auth_unix) : Type 0 where
  pub name : Ready bytes s m.machinename
  pub gids : Ready word_list t m.gids

pub record CallReady (s t : List ℕ) (m : call_body) : Type 0 where
  pub cred : Ready opaque-auth s m.cred
  pub verf : Ready opaque-auth t m.verf

-- one source
pub unix-one : (s : List ℕ) (m : auth_unix) → Ready auth-unix s m → UnixReady s s m
unix-one s m r = record { name = unix-name s m r; gids = unix-gids s m r }

pub call-one : (s : List ℕ) (m : call_body) → Ready call-body s m → CallReady s s m
call-one s m r = record { cred = call-cred s m r; verf = call-verf s m r }

pub unix-put-one : (xs ys s : List ℕ) (m : auth_unix) → Put xs ys (unix_size m) (auth-unix.codec.kind.write (unix_from s s m))
    → Put xs ys (unix_size m) (output auth-unix s m)
unfolding auth-unix
unix-put-one xs ys s m p = p

pub call-put-one : (xs ys s : List ℕ) (m : call_body) → Put xs ys (call_size m) (call-body.codec.kind.write (call_from s s m))
    → Put xs ys (call_size m) (output call-body s m)
unfolding call-body
call-put-one xs ys s m p = p

module _ (s t : List ℕ) where
  -- what is written of an auth_unix, part by part
  unix-parts : (m : auth_unix)
      → ((word.kind.write m.stamp ++ output bytes s m.machinename) ++ word_pair.kind.write (m.uid, m.gid)) ++ output word_list t m.gids
      ≡ auth-unix.codec.kind.write (unix_from s t m)
  unfolding word_pair auth-unix
  unix-parts m = simp append_assoc

  gids-long : Bytes t → (m : auth_unix) → Ready word_list t m.gids → length (output word_list t m.gids) ≡ words_up_to m.gids.count
  unfolding words_held
  gids-long b m h = words_size t m.gids b h.short h.inside

  unix-long : (m : auth_unix) → Bytes t → UnixReady s t m → length (auth-unix.codec.kind.write (unix_from s t m)) ≡ unix_size m
  unix-long m b h =
      ap length (sym (unix-parts m))
      ∙ simp (length-append, word-length, word-pair-length) (omega (arith, bytes-sized s m.machinename h.name, gids-long b m h.gids))

  -- and of a call
  call-parts : (m : call_body)
      → ((word_pair.kind.write (m.rpcvers, m.prog) ++ word_pair.kind.write (m.vers, m.proc)) ++ output opaque-auth s m.cred)
      ++ output opaque-auth t m.verf ≡ call-body.codec.kind.write (call_from s t m)
  unfolding word_pair call-body
  call-parts m = simp append_assoc

  message-parts : (xid : ℕ) (m : call_body)
      → word_pair.kind.write (xid, 0) ++ call-body.codec.kind.write (call_from s t m) ≡ rpc-msg.codec.kind.write (message_from s t xid m)
  unfolding word_pair rpc_msg_of rpc_body_of
  message-parts xid m = simp append_assoc

  call_long : (m : call_body) → CallReady s t m → length (call-body.codec.kind.write (call_from s t m)) ≡ call_size m
  call_long m h =
      ap length (sym (call-parts m))
      ∙ simp (length-append, word-pair-length) (omega (arith, auth-length s m.cred h.cred, auth-length t m.verf h.verf))

  message-long : (xid : ℕ) (m : call_body) → CallReady s t m → length (rpc-msg.codec.kind.write (message_from s t xid m)) ≡ 8 + call_size m
  message-long xid m h =
      ap length (sym (message-parts xid m)) ∙ simp (length-append, word-pair-length) (omega (arith, call_long m h))

  -- from what a writer tests
  module _ (k : longer (length s) (length t) ≤ most) where
    pub unix-ready : (m : auth_unix) → (is_inside s m.machinename && are_inside t m.gids) ≡ true → UnixReady s t m
    unfolding piece_held words_held
    unix-ready m i =
        record {
          name = record { short = first_short (length s) (length t) most k; inside = and_left (is_inside s m.machinename) (are_inside t m.gids) i };
          gids = record { short = second_short (length s) (length t) most k; inside = and_right (is_inside s m.machinename) (are_inside t m.gids) i };
        }

    pub call-ready : (m : call_body) → (opaque-auth.held.inside s m.cred && opaque-auth.held.inside t m.verf) ≡ true → CallReady s t m
    call-ready m i =
        record {
          cred =
              record {
                short = first_short (length s) (length t) most k;
                inside = and_left (opaque-auth.held.inside s m.cred) (opaque-auth.held.inside t m.verf) i;
              };
          verf =
              record {
                short = second_short (length s) (length t) most k;
                inside = and_right (opaque-auth.held.inside s m.cred) (opaque-auth.held.inside t m.verf) i;
              };
        }

-- whether both pieces lie inside, by what the code found of each
pub call-found-from : (s t : List ℕ) (i j k : Bool) (m : call_body) → j ≡ opaque-auth.held.inside s m.cred → k ≡ opaque-auth.held.inside t m.verf
    → i ≡ (j && k) → i ≡ (opaque-auth.held.inside s m.cred && opaque-auth.held.inside t m.verf)
call-found-from s t i j k m e f g = g ∙ ap₂ (λ x y. x && y) e f

-- laid one behind the other
module _ (xs y₁ z₁ z₂ z₃ s t : List ℕ) (n : ℕ) where
  pub unix-from-put : (m : auth_unix) → ((j : ℕ) → Fits w8 (get_or t j 0)) → UnixReady s t m → unix_size m ≤ length xs → n ≡ size_up_to m.machinename.count
      → let y₂ = back_at 4 y₁ z₁ in
      let y₃ = back_at (4 + n) y₂ z₂ in
      y₁ ≡ laid (word.kind.write m.stamp) xs → z₁ ≡ laid_of bytes s m.machinename (lent_from 4 y₁)
      → z₂ ≡ laid (word_pair.kind.write (m.uid, m.gid)) (lent_from (4 + n) y₂) → z₃ ≡ laid_of word_list t m.gids (lent_from (4 + n + 8) y₃)
      → Put xs (back_at (4 + n + 8) y₃ z₃) (unix_size m) (auth-unix.codec.kind.write (unix_from s t m))
  unix-from-put m given r h e a b c d =
      let f₁ = put-laid (word-length m.stamp) (omega arith) a in
      let f₂ = lent_of bytes s m.machinename r.name f₁ (omega arith) (bytes-sized s m.machinename r.name) b in
      let f₃ = lent _ (put-sized (ap (λ k. 4 + k) (sym e)) f₂) (omega arith) (word-pair-length m.uid m.gid) c in
      let f₄ = lent_of word_list t m.gids r.gids f₃ (omega arith) (gids-long s t (known_bytes t given) m r.gids) d in
      put-sized (omega arith) (put_same (unix-parts s t m) f₄)

  pub call-from-put : (m : call_body) → call_size m ≤ length xs → n ≡ auth_size m.cred
      → let y₂ = back_at 8 y₁ z₁ in
      let y₃ = back_at 16 y₂ z₂ in
      y₁ ≡ laid (word_pair.kind.write (m.rpcvers, m.prog)) xs → z₁ ≡ laid (word_pair.kind.write (m.vers, m.proc)) (lent_from 8 y₁)
      → Put (lent_from 16 y₂) z₂ (auth_size m.cred) (output opaque-auth s m.cred)
      → Put (lent_from (16 + n) y₃) z₃ (auth_size m.verf) (output opaque-auth t m.verf)
      → Put xs (back_at (16 + n) y₃ z₃) (call_size m) (call-body.codec.kind.write (call_from s t m))
  call-from-put m h e a b c d =
      let f₁ = put-laid (word-pair-length m.rpcvers m.prog) (omega arith) a in
      let f₂ = lent _ f₁ (omega arith) (word-pair-length m.vers m.proc) b in
      let f₃ = field f₂ (omega arith) c in
      let f₄ = field (put-sized (ap (λ k. 16 + k) (sym e)) f₃) (omega arith) d in
      put-sized (ap (λ k. 16 + k + auth_size m.verf) e) (put_same (call-parts s t m) f₄)

pub message-put : (xs ys zs s t : List ℕ) (xid : ℕ) (m : call_body) → 8 + call_size m ≤ length xs → ys ≡ laid (word_pair.kind.write (xid, 0)) xs
    → Put (lent_from 8 ys) zs (call_size m) (call-body.codec.kind.write (call_from s t m))
    → Put xs (back_at 8 ys zs) (8 + call_size m) (rpc-msg.codec.kind.write (message_from s t xid m))
message-put xs ys zs s t xid m h e f =
    put_same (message-parts s t xid m) (field (put-laid (word-pair-length xid 0) (omega arith) e) h f)

-- what the writers leave, by what the code found
module _ (s t : List ℕ) (at : ℕ) (o : List ℕ) (w : Result ℕ Refusal) (lng k : ℕ) (i : Bool) where
  module _ (j h : Bool) (m : auth_unix) (e : view_wrote w ≡ placing lng i k (length o) at) (f : lng ≡ longer (length s) (length t)) (g : i ≡ (j && h))
      (u : j ≡ is_inside s m.machinename) (v : h ≡ are_inside t m.gids) (l : k ≡ unix_size m) (known : (n : ℕ) → Fits w8 (get_or s n 0)) (given : (n : ℕ) → Fits w8 (get_or t n 0)) where
    unix-said : view_wrote w ≡ placing (longer (length s) (length t)) (is_inside s m.machinename && are_inside t m.gids) (unix_size m) (length o) at
    unix-said =
        placing-two (length s) (length t) (is_inside s m.machinename) (are_inside t m.gids) (unix_size m) (length o) at lng k i j h e f g u v l

    unix-size : longer (length s) (length t) ≤ most → (is_inside s m.machinename && are_inside t m.gids) ≡ true
        → length (auth-unix.codec.kind.write (unix_from s t m)) ≡ unix_size m
    unix-size a b = unix-long s t m (known_bytes t given) (unix-ready s t a m b)

    pub unix-from-off : (q : Refusal) → w ≡ Err q → WritesUnixFrom s t m at o (unwritten q) o
    unix-from-off q r =
        from-off (unix_from s t m) (longer (length s) (length t)) (is_inside s m.machinename && are_inside t m.gids) (unix_size m) at o w unix-said unix-size q r

    pub unix-from-on : (n : ℕ) (zs : List ℕ) → w ≡ Ok n
        → Put (mid_of at (length o - at) o) zs (unix_size m) (auth-unix.codec.kind.write (unix_from s t m))
        → (Bytes s → Bytes t → UnixReady s t m → auth-unix.codec.kind.Good (unix_from s t m)) → WritesUnixFrom s t m at o (done n) (put_mid at (length o - at) o zs)
    unix-from-on n zs r p good =
        let d = placed (longer (length s) (length t)) (is_inside s m.machinename && are_inside t m.gids) (unix_size m) (length o) at w n unix-said r in
        from_on (unix_from s t m) (longer (length s) (length t)) (is_inside s m.machinename && are_inside t m.gids) (unix_size m) at o w unix-said unix-size n zs r p
        (good (known_bytes s known) (known_bytes t given) (unix-ready s t d.short m d.inside))

    pub unix-from-ready : (n : ℕ) → w ≡ Ok n → UnixReady s t m
    unix-from-ready n r =
        let d = placed (longer (length s) (length t)) (is_inside s m.machinename && are_inside t m.gids) (unix_size m) (length o) at w n unix-said r in
        unix-ready s t d.short m d.inside

  module _ (m : call_body) (e : view_wrote w ≡ placing lng i k (length o) at) (f : lng ≡ longer (length s) (length t))
      (g : i ≡ (opaque-auth.held.inside s m.cred && opaque-auth.held.inside t m.verf)) (l : k ≡ 8 + call_size m) where
    call-said : view_wrote w ≡ placing (longer (length s) (length t)) (opaque-auth.held.inside s m.cred && opaque-auth.held.inside t m.verf) (8 + call_size m) (length o) at
    call-said =
        placing-two (length s) (length t) (opaque-auth.held.inside s m.cred) (opaque-auth.held.inside t m.verf) (8 + call_size m) (length o) at lng k i (opaque-auth.held.inside s m.cred) (opaque-auth.held.inside t m.verf) e f g refl refl l

    pub call-from-ready : (n : ℕ) → w ≡ Ok n → CallReady s t m
    call-from-ready n r =
        let d = placed (longer (length s) (length t)) (opaque-auth.held.inside s m.cred && opaque-auth.held.inside t m.verf) (8 + call_size m) (length o) at w n call-said r in
        call-ready s t d.short m d.inside

    module _ (xid : ℕ) where
      call-size : longer (length s) (length t) ≤ most → (opaque-auth.held.inside s m.cred && opaque-auth.held.inside t m.verf) ≡ true
          → length (rpc-msg.codec.kind.write (message_from s t xid m)) ≡ 8 + call_size m
      call-size a b = message-long s t xid m (call-ready s t a m b)

      pub call-from-off : (q : Refusal) → w ≡ Err q → WritesCallFrom s t xid m at o (unwritten q) o
      call-from-off q r =
          from-off (message_from s t xid m) (longer (length s) (length t)) (opaque-auth.held.inside s m.cred && opaque-auth.held.inside t m.verf)
          (8 + call_size m) at o w call-said call-size q r

      pub call-from-on : (n : ℕ) (zs : List ℕ) → w ≡ Ok n
          → Put (mid_of at (length o - at) o) zs (8 + call_size m) (rpc-msg.codec.kind.write (message_from s t xid m))
          → ((n : ℕ) → Fits w8 (get_or s n 0)) → ((n : ℕ) → Fits w8 (get_or t n 0))
          → (Bytes s → Bytes t → CallReady s t m → rpc-msg.codec.kind.Good (message_from s t xid m)) → WritesCallFrom s t xid m at o (done n) (put_mid at (length o - at) o zs)
      call-from-on n zs r p known given good =
          from_on (message_from s t xid m) (longer (length s) (length t)) (opaque-auth.held.inside s m.cred && opaque-auth.held.inside t m.verf)
          (8 + call_size m) at o w call-said call-size n zs r p
          (good (known_bytes s known) (known_bytes t given) (call-from-ready n r))

pub ruleset puts-from = (unix-put-one, call-put-one, unix-from-put, call-from-put, message-put)

pub ruleset readies-from = (unix-one, call-one)

-- a size of 8 more, for a message
pub pair-more : (n m : ℕ) → n ≡ m → 8 + n ≡ 8 + m
pair-more n m e = ap (λ k. 8 + k) e

pub ruleset writes-from = (pair-more, unix-from-off, unix-from-on, unix-from-ready, call-from-off, call-from-ready, call-from-on)
