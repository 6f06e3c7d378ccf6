-- Two answers that a contract permits are one, in the code's own types.
-- Assumes nothing.
use Rattle.std.specs.Prelude.{◌≡◌, refl, Bool, List, ℕ}
use Rattle.std.proofs.Common.{sym, ap, ◌∙◌}
use Rattle.xdr.specs.Laws.One.{Told}
use Rattle.mount.specs.Meaning.Options.{option_to, option_to_from}
use Rattle.mount.specs.Meaning.Ask.{Said, refuse, reply, silence, hand_over, mnt, umnt, export, getport, Asks}
use Rattle.mount.specs.Meaning.Views.{view_asked}
use Rattle.mount.specs.Laws.Ask.{said-held}
use Rattle.mount.specs.declared.asking.Asked.{Asked}

-- the view loses nothing: what it shows can be made again
abbrev asked_of : Said → Asked
asked_of (refuse r) = Asked.Refused r
asked_of (reply n) = Asked.Replied n
asked_of silence = Asked.Silent
asked_of (hand_over p v f a n) = Asked.HandOver p v f (option_to a) n
asked_of (mnt a x n) = Asked.Mnt (option_to a) x n
asked_of (umnt a x n) = Asked.Umnt (option_to a) x n
asked_of (export a n) = Asked.Export (option_to a) n
asked_of (getport a x n) = Asked.Getport (option_to a) x n

asked-again : (r : Asked) → asked_of (view_asked r) ≡ r
asked-again (Asked.Refused r) = refl
asked-again (Asked.Replied n) = refl
asked-again Asked.Silent = refl
asked-again (Asked.HandOver p v f c n) = ap (λ d. Asked.HandOver p v f d n) (option_to_from c)
asked-again (Asked.Mnt c x n) = ap (λ d. Asked.Mnt d x n) (option_to_from c)
asked-again (Asked.Umnt c x n) = ap (λ d. Asked.Umnt d x n) (option_to_from c)
asked-again (Asked.Export c n) = ap (λ d. Asked.Export d n) (option_to_from c)
asked-again (Asked.Getport c x n) = ap (λ d. Asked.Getport d x n) (option_to_from c)

pub asked-told : Told view_asked
asked-told r r' e = sym (asked-again r) ∙ ap asked_of e ∙ asked-again r'

pub ask-one : (s : List ℕ) (seen : Bool) (o : List ℕ) (r r' : Asked) {p q : List ℕ} → Asks s seen o (view_asked r) p → Asks s seen o (view_asked r') q → (r ≡ r') × (p ≡ q)
ask-one s seen o r r' c d = let f = said-held (c.is ∙ sym d.is) in (asked-told r r' f.0, f.1)
