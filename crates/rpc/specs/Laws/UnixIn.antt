-- The auth_unix of a credential: the two answers of its public reader, and that what it takes means the same in the whole message.
-- Assumes nothing.
use Rattle.std.specs.Prelude.{◌≡◌, Bool, true, false, ◌&&◌, List, ◌++◌, ℕ, ◌+◌, ◌^◌, ◌<◌, ◌≤◌, length, take, drop, get_or}
use Rattle.std.proofs.Math.Path.{sym, ap₂}
use Rattle.std.proofs.Common.{◌∙◌, arith, take-append-drop, length-take-le, Fits}
use Rattle.std.specs.Int.{w8, w64}
use Rattle.std.proofs.lemmas.Bool.{lt-leb}
use Rattle.xdr.specs.Meaning.Answer.{Answer, took, refused, most, opened}
use Rattle.xdr.specs.Meaning.Formats.{piece_held, words_held}
use Rattle.xdr.specs.Meaning.Pieces.{is_inside, are_inside}
use Rattle.xdr.specs.Laws.Lists.{known_bytes}
use Rattle.xdr.specs.Laws.Marks.{and_left, and_right}
use Rattle.xdr.specs.Laws.Held.{taken-inside}
use Rattle.xdr.specs.Laws.Pieces.{inside-le, bytes-grow, inside-grows}
use Rattle.xdr.specs.Laws.LayPieces.{yes, no}
use Rattle.xdr.specs.Laws.Words.{words-grow, are-inside-grows}
use Rattle.xdr.specs.Laws.Public.{opened_in}
use Rattle.xdr.specs.declared.piece.Piece.{Piece}
use Rattle.rpc.specs.Meaning.Auth.{auth-unix}
use Rattle.rpc.specs.Meaning.UnixIn.{unix_in, AnswersIn}
use Rattle.rpc.specs.declared.auth.auth_unix.{auth_unix}
use Rattle.xdr.specs.declared.refusal.Refusal.TheVariants.{Ended, TooLong}

module _ (s : List ℕ) (x : Piece) where
  -- by the test of the body
  module _ (i : Bool) (e : i ≡ is_inside s x) where
    pub unix-outside : i ≡ false → refused (Ended 0 4) ≡ unix_in s x
    unfolding unix_in
    unix-outside t = simp (no e t)

    pub end_fits : i ≡ true → length s < 2 ^ 64 → Fits w64 (x.at + x.count)
    end_fits t h = record { fits = omega (arith, inside-le s x (yes e t)) }

    pub end-count : i ≡ true → x.at + x.count ≡ length (take (x.at + x.count) s)
    end-count t = sym (length-take-le (x.at + x.count) s (inside-le s x (yes e t)))

    pub unix-inside : (a : Answer auth_unix) → i ≡ true → a ≡ auth-unix.held.read (take (x.at + x.count) s) x.at → a ≡ unix_in s x
    unfolding unix_in
    unix-inside a t f = f ∙ sym (simp (yes e t))

  module _ (given : (i : ℕ) → Fits w8 (get_or s i 0)) where
    pub in-long : most < length s → AnswersIn s x (refused TooLong)
    unfolding opened
    in-long h = record { is = sym (simp (lt-leb (length s) most h)); bytes = known_bytes s given }

    pub in-short : {a : Answer auth_unix} → length s ≤ most → a ≡ unix_in s x → AnswersIn s x a
    in-short h e = record { is = e ∙ sym (opened_in s 0 (unix_in s x) h (omega arith)); bytes = known_bytes s given }

  -- two answers that the contract permits are one
  pub in_one : {a b : Answer auth_unix} → AnswersIn s x a → AnswersIn s x b → a ≡ b
  in_one c d = c.is ∙ sym d.is

module _ (s t : List ℕ) (v : auth_unix) (h : auth-unix.held.inside s v ≡ true) where
  both : (is_inside s v.machinename && are_inside s v.gids) ≡ true
  unfolding auth-unix piece_held words_held
  both = h

  name-inside : is_inside s v.machinename ≡ true
  name-inside = and_left (is_inside s v.machinename) (are_inside s v.gids) both

  gids-inside : are_inside s v.gids ≡ true
  gids-inside = and_right (is_inside s v.machinename) (are_inside s v.gids) both

  unix-grows : auth-unix.held.mean (s ++ t) v ≡ auth-unix.held.mean s v
  unfolding auth-unix piece_held words_held
  unix-grows =
      ap₂ (λ a b. record { stamp = v.stamp; machinename = a; uid = v.uid; gid = v.gid; gids = b })
      (bytes-grow s t v.machinename name-inside) (words-grow s t v.gids gids-inside)

  unix-inside-grows : auth-unix.held.inside (s ++ t) v ≡ true
  unfolding auth-unix piece_held words_held
  unix-inside-grows =
      ap₂ (λ a b. a && b) (inside-grows s t v.machinename name-inside) (are-inside-grows s t v.gids gids-inside)

-- what is taken before the end of a body lies inside the whole message, and means the same there
pub unix-whole : (s : List ℕ) (e p : ℕ) {v : auth_unix} {n : ℕ} {b : Bool} → auth-unix.held.read (take e s) p ≡ took v n b
    → (auth-unix.held.inside s v ≡ true) × (auth-unix.held.mean s v ≡ auth-unix.held.mean (take e s) v)
unix-whole s e p {v} r =
    let i : auth-unix.held.inside (take e s) v ≡ true = taken-inside auth-unix.held (take e s) p r in
    (rw (take-append-drop e s) at (unix-inside-grows (take e s) (drop e s) v i), rw (take-append-drop e s) at (unix-grows (take e s) (drop e s) v i))
