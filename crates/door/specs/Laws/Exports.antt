-- What the exported functions' proofs cite: by the room for the figures, and by what is told.
-- Assumes nothing.
use Rattle.std.specs.Prelude.{◌≡◌, refl, List, [], ◌∷◌, ℕ, ◌≤◌, ◌<◌, eqb, length, Bool, true, false, not, cond}
use Rattle.std.proofs.Common.{sym, ap, subst, ◌∙◌, ⊎_elim, arith, eq-eqb, ne_eqb}
use Rattle.std.proofs.lemmas.List.Edits.{sets}
use Rattle.xdr.specs.Meaning.Answer.{Written}
use Rattle.rpcwire.specs.Meaning.Fragment.{WritesFragment}
use Rattle.rpc.specs.Meaning.Reading.{Reading}
use Rattle.rpcwire.specs.Meaning.Choice.{Chosen, Chooses}
use Rattle.rpcwire.specs.Meaning.Stream.{Said, Feeds}
use Rattle.xdr.specs.Meaning.Refusal.{number_of, needed_of}
use Rattle.xdr.specs.declared.refusal.Refusal.{Refusal}
use Rattle.door.specs.declared.copy.Copied.{Copied}
use Rattle.door.specs.Meaning.Copy.{Copy, unmade, view_copied}
use Rattle.door.specs.Meaning.Kinds.{kinds, CopiesOf}
use Rattle.door.specs.Meaning.Figures.{Shown, Says}
use Rattle.door.specs.Meaning.Exports.{code_of, figures, RewriteCalled, size_code, size_figures, judged_code, judged_figures, JudgeCalled, wrote_code, wrote_figures, FragmentCalled, chosen_code, chosen_figures, ChooseCalled, state_of, state_list, fed_code, fed_state, fed_figures, FeedCalled}

module _ (kind at : ℕ) (s o i : List ℕ) where
  pub rewrite-short : length i < 3 → RewriteCalled kind s at o i 254 o i
  rewrite-short h = record { room = λ g. absurd (omega arith); short = λ g. (refl, refl, refl) }

  pub rewrite-told : 3 ≤ length i → {c : Copy} {r : ℕ} {o' i' : List ℕ} → Says code_of figures c i r i' → CopiesOf kinds kind s at 0 o c o'
      → RewriteCalled kind s at o i r o' i'
  rewrite-told h t c =
      record {
        room = λ g. record { copy = _; copies = c; number = t.number; list = t.shown.list };
        short = λ g. absurd (omega arith);
      }

-- by the number that a kind has
pub rewrite-at : {kind k at : ℕ} {s o i : List ℕ} {r : ℕ} {o' i' : List ℕ} → kind ≡ k → RewriteCalled k s at o i r o' i' → RewriteCalled kind s at o i r o' i'
rewrite-at {at = at} {s} {o} {i} {r} {o'} {i'} e c = subst (λ n. RewriteCalled n s at o i r o' i') (sym e) c

pub judge-at : {kind k at : ℕ} {s i : List ℕ} {r : ℕ} {i' : List ℕ} → kind ≡ k → JudgeCalled k s at i r i' → JudgeCalled kind s at i r i'
judge-at {at = at} {s} {i} {r} {i'} e c = subst (λ n. JudgeCalled n s at i r i') (sym e) c

-- a refusal by its number: only 5 says how long the rewriting is
module _ (n k : ℕ) (b : Bool) (r : Refusal) (i i' : List ℕ) where
  pub size-other : k ≡ number_of r → (k ≡ 5 → ⊥) → Shown (0 ∷ 0 ∷ 0 ∷ []) i i' → Says size_code (size_figures n b) r i k i'
  size-other e f s =
      let g : eqb (number_of r) 5 ≡ false = ne_eqb (number_of r) 5 (λ h. f (e ∙ h)) in
      record { number = e ∙ sym (rw g); shown = record { list = s.list ∙ sym (rw g) } }

  pub size-told : k ≡ number_of r → k ≡ 5 → Shown (n ∷ cond b 1 0 ∷ needed_of r ∷ []) i i' → Says size_code (size_figures n b) r i 0 i'
  size-told e f s =
      let g : eqb (number_of r) 5 ≡ true = eq-eqb (number_of r) 5 (sym e ∙ f) in
      record { number = sym (rw g); shown = record { list = s.list ∙ sym (rw g) } }

-- what `tell_size` says, as what is said of the copy
pub says-size : (x t : Copied) (r : Refusal) (n k : ℕ) (b : Bool) (m : List Bool) (i i' : List ℕ) → x ≡ t → Says size_code (size_figures n b) r i k i'
    → view_copied t ≡ unmade r n b m
    → Says judged_code judged_figures (view_copied x) i k i'
says-size x t r n k b m i i' e s h =
    let g = ap view_copied e ∙ h in
    record { number = s.number ∙ sym (ap judged_code g); shown = record { list = s.shown.list ∙ sym (ap (λ z. sets i 0 (judged_figures z)) g) } }

module _ (kind at : ℕ) (s i : List ℕ) where
  pub judge-short : length i < 3 → JudgeCalled kind s at i 254 i
  judge-short h = record { room = λ g. absurd (omega arith); short = λ g. (refl, refl) }

  pub judge-told : (c : Copy) (r : ℕ) (o' i' : List ℕ) → 3 ≤ length i → Says judged_code judged_figures c i r i' → CopiesOf kinds kind s at 0 [] c o'
      → JudgeCalled kind s at i r i'
  judge-told c r o' i' h t d =
      record {
        room = λ g. record { copy = c; left = o'; copies = d; number = t.number; list = t.shown.list };
        short = λ g. absurd (omega arith);
      }

module _ (m : List ℕ) (start : ℕ) (o i : List ℕ) where
  pub fragment-short : length i < 1 → FragmentCalled m start o i 254 o i
  fragment-short h = record { room = λ g. absurd (omega arith); short = λ g. (refl, refl, refl) }

  pub fragment-told : 1 ≤ length i → {w : Written} {r : ℕ} {o' i' : List ℕ} → Says wrote_code wrote_figures w i r i' → WritesFragment m start o w o'
      → FragmentCalled m start o i r o' i'
  fragment-told h t c =
      record {
        room = λ g. record { answer = _; writes = c; number = t.number; list = t.shown.list };
        short = λ g. absurd (omega arith);
      }

module _ {Stat Auth Accept Rejected Accepted Reply Body Msg : Type 0} (R : Reading Stat Auth Accept Rejected Accepted Reply Body Msg) (s : List ℕ) (seen : ℕ)
    (o i : List ℕ) where
  pub choose-short : length i < 12 → ChooseCalled R s seen o i 254 o i
  choose-short h = record { room = λ g. absurd (omega arith); short = λ g. (refl, refl, refl) }

  pub choose-told : 12 ≤ length i → {c : Chosen} {r : ℕ} {o' i' : List ℕ} → Says chosen_code chosen_figures c i r i' → Chooses R s (not (eqb seen 0)) o c o'
      → ChooseCalled R s seen o i r o' i'
  choose-told h t c =
      record {
        room = λ g. record { chosen = _; chooses = c; number = t.number; list = t.shown.list };
        short = λ g. absurd (omega arith);
      }

module _ (l run d i : List ℕ) where
  pub feed-no-state : length l < 7 → FeedCalled l run d i 254 l d i
  feed-no-state h = record { room = λ g k. absurd (omega arith); short = λ g. (refl, refl, refl, refl) }

  pub feed-short : length i < 2 → FeedCalled l run d i 254 l d i
  feed-short h = record { room = λ g k. absurd (omega arith); short = λ g. (refl, refl, refl, refl) }

  pub feed-told : 7 ≤ length l → 2 ≤ length i → {f : Said} {r : ℕ} {l' d' i' : List ℕ} → Says fed_code fed_figures f i r i'
      → Shown (state_list (fed_state f)) l l' → Feeds (state_of l) run d f d' → FeedCalled l run d i r l' d' i'
  feed-told h k t u c =
      record {
        room = λ g g'. record { said = _; feeds = c; number = t.number; state = u.list; list = t.shown.list };
        short = λ g. absurd (⊎_elim (λ w. omega arith) (λ w. omega arith) g);
      }
