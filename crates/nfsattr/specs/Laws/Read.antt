-- A status, by its number.
-- Assumes nothing.
use Rattle.std.specs.Prelude.{◌≡◌, refl, Bool, true, false, cond, ◌&&◌, ◌||◌, List, [], ◌∷◌, map, ℕ, zero, suc, ◌+◌, ◌≤◌, ◌<◌, T, eqb, leb, Some, None}
use Rattle.std.specs.Prelude as std
use Rattle.std.proofs.Common.{sym, ap, subst, ◌∙◌, arith, ne_eqb, leb-true, eqb-true}
use Rattle.xdr.specs.Meaning.Combinators.{Seen, means, undeclared, among}
use Rattle.xdr.specs.Meaning.Held.{map_seen}
use Rattle.xdr.specs.Laws.Numbers.{Others, found_none}
use Rattle.nfsattr.specs.Meaning.Stat.{fail_number, failures, stat_number, statuses, each_stat}
use Rattle.xdr.specs.Meaning.Views.{view_found}
use Rattle.nfsattr.specs.declared.stat.nfsfail3.{nfsfail3}
use Rattle.nfsattr.specs.declared.stat.nfsstat3.{nfsstat3}
use Rattle.nfsattr.specs.declared.stat.nfsstat3.TheVariants.{NFS3_OK, Failed}

-- a failure, where its number was told
pub stat-failed : (v : ℕ) (f : nfsfail3) → v ≡ fail_number f → means (Failed f) [] ≡ among stat_number statuses v
stat-failed v f e = rw e (sym (each_stat (Failed f)))

-- A number of a run that is none of its first k, as a match says it of its rest, is past them.
abbrev pub NotFirst : ℕ → ℕ → ℕ → Type 0
NotFirst lo zero v = Unit {0}
NotFirst lo (suc k) v = NotFirst lo k v × (v ≡ lo + k → ⊥)

pub past_first : (lo k v : ℕ) → lo ≤ v → NotFirst lo k v → lo + k ≤ v
past_first lo zero v h r = omega arith
past_first lo (suc k) v h r = let i = past_first lo k v h r.0 in let n = r.1 in omega arith

-- A number that fails a test which every number of a list passes is none of them.
module _ {A : Type 0} (number : A → ℕ) (test : ℕ → Bool) where
  abbrev pub every : List A → Bool
  every [] = true
  every (a ∷ l) = cond (test (number a)) (every l) false

  step : (l : List A) (v n : ℕ) → test v ≡ false → (b : Bool) → test n ≡ b → cond b (every l) false ≡ true → (v ≡ n → ⊥) × (every l ≡ true)
  step l v n e true f p = (λ q. subst T (sym f ∙ ap test (sym q) ∙ e) tt, p)
  step l v n e false f p = absurd (subst T (sym p) tt)

  pub none_pass : (l : List A) (v : ℕ) → test v ≡ false → every l ≡ true → undeclared ≡ among number l v
  none_pass [] v e p = refl
  none_pass (a ∷ l) v e p =
      let s = step l v (number a) e (test (number a)) refl p in rw (ne_eqb v (number a) s.0) (none_pass l v e s.1)

-- the numbers of statuses that stand alone; the others form two runs
abbrev pub alone : List ℕ
alone = 0 ∷ 1 ∷ 2 ∷ 5 ∷ 6 ∷ 13 ∷ 27 ∷ 28 ∷ 30 ∷ 31 ∷ 63 ∷ 66 ∷ 69 ∷ 70 ∷ 71 ∷ []

abbrev in_run : ℕ → ℕ → ℕ → Bool
in_run lo hi v = leb lo v && leb v hi

outside : (lo hi v : ℕ) → (lo ≤ v → v ≤ hi → ⊥) → in_run lo hi v ≡ false
outside lo hi v h = by (leb lo v) (leb v hi) refl refl
  where
    by : (a b : Bool) → leb lo v ≡ a → leb v hi ≡ b → (a && b) ≡ false
    by true true e f = absurd (h (leb-true lo v e) (leb-true v hi f))
    by true false e f = refl
    by false b e f = refl

abbrev seen : Seen ℕ → Bool
seen (means a w) = true
seen undeclared = false

-- all numbers of statuses
abbrev listed : ℕ → Bool
listed v = seen (among (λ n. n) alone v) || (in_run 17 22 v || in_run 10001 10008 v)

-- none of those that stand alone, and outside the runs: below, between or above them
module _ (v : ℕ) (o : Others (λ n. n) v (Unit {0}) alone) where
  none : (17 ≤ v → v ≤ 22 → ⊥) → (10001 ≤ v → v ≤ 10008 → ⊥) → undeclared ≡ among stat_number statuses v
  none h k =
      none_pass stat_number listed statuses v
      (rw (sym (found_none (λ n. n) alone v (Unit {0}) o)) (rw (outside 17 22 v h) (outside 10001 10008 v k))) refl

  pub stat-below : v < 17 → undeclared ≡ among stat_number statuses v
  stat-below h = none (omega arith) (omega arith)

  pub stat-between : 23 ≤ v → v < 10001 → undeclared ≡ among stat_number statuses v
  stat-between h k = none (omega arith) (omega arith)

  pub stat-above : 10009 ≤ v → undeclared ≡ among stat_number statuses v
  stat-above h = none (omega arith) (omega arith)

-- a list of values under another name
map_first : {A B : Type 0} (f : A → B) (a : A) (t : Bool) (x : Seen A) {y : Seen B} → y ≡ map_seen f x
    → cond t (means (f a) []) y ≡ map_seen f (cond t (means a []) x)
map_first f a true x e = refl
map_first f a false x e = e

pub among-map : {A B : Type 0} (f : A → B) (number : B → ℕ) (l : List A) (v : ℕ) → among number (map f l) v ≡ map_seen f (among (λ a. number (f a)) l v)
among-map f number [] v = refl
among-map f number (a ∷ l) v = map_first f a (eqb v (number (f a))) (among (λ a. number (f a)) l v) (among-map f number l v)

-- a failure, by the status
abbrev pub failed : Seen nfsstat3 → Seen nfsfail3
failed (means NFS3_OK w) = undeclared
failed (means (Failed f) w) = means f w
failed undeclared = undeclared

failed-map : (x : Seen nfsfail3) → failed (map_seen Failed x) ≡ x
failed-map (means f w) = refl
failed-map undeclared = refl

among-failed : (v : ℕ) → failed (among stat_number statuses v) ≡ among fail_number failures v
among-failed v = by (eqb v 0) refl
  where
    by : (t : Bool) → eqb v 0 ≡ t → failed (cond t (means NFS3_OK []) (among stat_number (map Failed failures) v)) ≡ among fail_number failures v
    by true e = rw (eqb-true v 0 e) refl
    by false e = ap failed (among-map Failed stat_number failures v) ∙ failed-map (among fail_number failures v)

module _ (v : ℕ) (s : std.Option nfsstat3) (e : view_found s ≡ among stat_number statuses v) where
  pub fail-none : s ≡ None → undeclared ≡ among fail_number failures v
  fail-none f = ap failed (ap view_found (sym f) ∙ e) ∙ among-failed v

  pub fail-is : (x t : nfsstat3) (y : Seen nfsfail3) → s ≡ Some x → x ≡ t → y ≡ failed (means t []) → y ≡ among fail_number failures v
  fail-is x t y f g h = h ∙ ap failed (ap view_found (sym (f ∙ ap Some g)) ∙ e) ∙ among-failed v
