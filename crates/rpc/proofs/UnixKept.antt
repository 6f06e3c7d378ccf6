-- The auth_unix inside a credential, read as a public reading of auth_unix: what it accepts, what is plain, how it refuses, and what more bytes change.
-- Assumes nothing.
use Rattle.std.specs.Prelude.{◌≡◌, refl, ◌↔◌, Bool, true, false, List, ℕ, ◌+◌, ◌≤◌, length, drop}
use Rattle.std.proofs.Common.{sym, ap, subst, ◌∙◌, arith, take-append-drop}
use Rattle.xdr.specs.Meaning.Bytes.{Bytes, part}
use Rattle.xdr.specs.Meaning.Refusal.{OfReading}
use Rattle.xdr.specs.Meaning.Answer.{Answer, took, refused, most}
use Rattle.xdr.specs.Meaning.Promise.{Begins}
use Rattle.xdr.specs.Meaning.Public.{Answers, Took, Later}
use Rattle.xdr.specs.Meaning.Pieces.{is_inside}
use Rattle.xdr.specs.Laws.Lists.{bytes_take}
use Rattle.xdr.specs.Laws.Held.{refused-means}
use Rattle.xdr.specs.Laws.Promise.{keeps}
use Rattle.xdr.specs.Laws.Public.{kept, opened_in, opened-took}
use Rattle.xdr.specs.declared.refusal.Refusal.{Refusal}
use Rattle.xdr.specs.declared.refusal.Refusal.TheVariants.{Ended}
use Rattle.xdr.specs.declared.piece.Piece.{Piece}
use Rattle.rpc.specs.Meaning.Auth.{auth-unix}
use Rattle.rpc.specs.Meaning.UnixIn.{unix_in, AnswersIn}
use Rattle.rpc.specs.Laws.UnixIn.{unix-whole}
use Rattle.rpc.specs.Laws.UnixKept.{part-grows, up_to, inside-read, outside-read, up-to-short, up-to-holds, took-inside, Longer}
use Rattle.rpc.specs.declared.auth.auth_unix.{auth_unix}

module _ (s : List ℕ) (x : Piece) where
  -- where the body lies inside, it is a public reading of auth_unix
  pub as-answers : {a : Answer auth_unix} → AnswersIn s x a → length s ≤ most → is_inside s x ≡ true → Answers auth-unix (up_to s x) x.at a
  as-answers c h i =
      record {
        is =
            c.is
            ∙ opened_in s 0 (unix_in s x) h (omega arith)
            ∙ inside-read s x i
            ∙ sym (opened_in (up_to s x) x.at (auth-unix.held.read (up_to s x) x.at) (up-to-short s x h) (up-to-holds s x i));
        bytes = bytes_take (x.at + x.count) s c.bytes;
      }

  -- accepted exactly if the message is short enough, the body lies inside, and one begins there before the body's end
  pub unix-accepted-iff : {a : Answer auth_unix} → AnswersIn s x a
      → ((v : auth_unix) × (n : ℕ) × (b : Bool) × (a ≡ took v n b))
      ↔ ((length s ≤ most) × (is_inside s x ≡ true) × Begins auth-unix.codec.kind (up_to s x) x.at)
  unix-accepted-iff c = (
    (λ t.
        let o = opened-took s 0 (unix_in s x) (sym t.3 ∙ c.is) in
        let i = took-inside s x (is_inside s x) refl o.0 in
        (o.1, i, (((kept auth-unix).accepted_iff (up_to s x) x.at (as-answers c o.1 i)).0 t).2)),
    (λ g. ((kept auth-unix).accepted_iff (up_to s x) x.at (as-answers c g.0 g.1)).1 (up-to-short s x g.0, up-to-holds s x g.1, g.2)),
  )

  -- plain exactly if the bytes used are its rewriting
  pub unix-plain-iff : {v : auth_unix} {n : ℕ} {b : Bool} → AnswersIn s x (took v n b)
      → (b ≡ true) ↔ (part s x.at n ≡ auth-unix.codec.kind.write (auth-unix.held.mean s v))
  unix-plain-iff {v} {n} {b} c =
      let o = opened-took s 0 (unix_in s x) c.is in
      let i = took-inside s x (is_inside s x) refl o.0 in
      let t : Took auth-unix = record { source = (up_to s x); place = x.at; value = v; next = n; plain = b; answers = as-answers c o.1 i } in
      let w = (kept auth-unix).within t in
      let f = (kept auth-unix).plain_iff t in
      let m : auth-unix.held.mean s v ≡ auth-unix.held.mean (up_to s x) v = (unix-whole s (x.at + x.count) x.at (sym (inside-read s x i) ∙ o.0)).1 in
      let u : part s x.at n ≡ part (up_to s x) x.at n =
      rw (take-append-drop (x.at + x.count) s) at (part-grows (up_to s x) (drop (x.at + x.count) s) x.at n w.0 w.1) in (
        (λ e. u ∙ f.0 e ∙ ap auth-unix.codec.kind.write (sym m)),
        (λ e. f.1 (sym u ∙ e ∙ ap auth-unix.codec.kind.write m)),
      )

  by-inside : (t : Bool) → is_inside s x ≡ t → Bytes s → {r : Refusal} → unix_in s x ≡ refused r → OfReading r
  by-inside true i h {r} e =
      let f : auth-unix.codec.kind.read (up_to s x) x.at ≡ refused r = refused-means auth-unix.held (up_to s x) x.at (sym (inside-read s x i) ∙ e) in
      auth-unix.codec.laws.numbered (up_to s x) x.at r
      (((keeps auth-unix.codec).fault_iff (up_to s x) x.at r (bytes_take (x.at + x.count) s h)).0 f)
  by-inside false i h {r} e =
      let g : ◌≡◌ {A = Answer auth_unix} (refused (Ended 0 4)) (refused r) = sym (outside-read s x i) ∙ e in
      let q : Ended 0 4 ≡ r = cc in subst OfReading q tt

  -- refused as a reader refuses
  pub unix-numbered : Bytes s → {r : Refusal} → unix_in s x ≡ refused r → OfReading r
  unix-numbered h e = by-inside (is_inside s x) refl h e

-- bytes are wanting in the body: appending them there is appending them to a public reading of auth_unix, so `kept auth-unix` says what changes
pub unix-later : {s s' : List ℕ} {x x' : Piece} {t : List ℕ} {a a' : Answer auth_unix} → Longer s s' x x' t → AnswersIn s x a → AnswersIn s' x' a'
    → Later auth-unix (up_to s x) t x.at a a'
unix-later {s} {s'} {x} {x'} {t} {a} {a'} l c d =
    record {
      before = as-answers s x c l.short l.inside;
      then =
          subst (λ (z : List ℕ). Answers auth-unix z x.at a') l.more
          (subst (λ (p : ℕ). Answers auth-unix (up_to s' x') p a') l.at (as-answers s' x' d l.short' l.inside'));
      fits = subst (λ (z : List ℕ). length z ≤ most) l.more (up-to-short s' x' l.short');
    }
