-- What the exported functions answer: a number, and figures in a lent list.
-- Assumes nothing.
use Rattle.std.specs.Prelude.{◌≡◌, Bool, cond, not, List, [], ◌∷◌, ℕ, ◌≤◌, ◌<◌, length, get_or, take, ◌⊎◌, eqb}
use Rattle.std.proofs.lemmas.List.Edits.{sets}
use Rattle.std.proofs.Math.Option.{Option, none, some}
use Rattle.xdr.specs.Meaning.Refusal.{number_of, place_of, wanting_of, needed_of}
use Rattle.xdr.specs.Meaning.Answer.{Written, done, unwritten}
use Rattle.xdr.specs.declared.refusal.Refusal.{Refusal}
use Rattle.rpc.specs.declared.auth.auth_unix.{auth_unix}
use Rattle.rpcwire.specs.Meaning.Fragment.{WritesFragment}
use Rattle.rpc.specs.Meaning.Reading.{Reading}
use Rattle.rpcwire.specs.Meaning.Choice.{Chosen, turned_away, replied, silent, handed, Chooses}
use Rattle.rpcwire.specs.Meaning.Stream.{Said, more, complete, refused, Feeds}
use Rattle.rpcwire.specs.declared.assembler.Assembler.{Assembler}
use Rattle.door.specs.Meaning.Copy.{Copy, unknown, unread, unmade, made}
use Rattle.door.specs.Meaning.Kinds.{kinds, CopiesOf}

abbrev pub code_of : Copy → ℕ
code_of unknown = 255
code_of (unread r) = number_of r
code_of (unmade r n b m) = number_of r
code_of (made n b m e) = 0

abbrev pub figures : Copy → List ℕ
figures unknown = 0 ∷ 0 ∷ 0 ∷ []
figures (unread r) = place_of r ∷ wanting_of r ∷ 0 ∷ []
figures (unmade r n b m) = 0 ∷ 0 ∷ needed_of r ∷ []
figures (made n b m e) = n ∷ cond b 1 0 ∷ e ∷ []

-- `yugerzat_rewrite`, where its list has room for three figures: the copy to place 0
pub record Told (kind : ℕ) (s : List ℕ) (at : ℕ) (o i : List ℕ) (r : ℕ) (o' i' : List ℕ) : Type 0 where
  pub copy : Copy
  pub copies : CopiesOf kinds kind s at 0 o copy o'
  pub number : r ≡ code_of copy
  pub list : i' ≡ sets i 0 (figures copy)

-- and where it has not, 254, with both as they were
pub record RewriteCalled (kind : ℕ) (s : List ℕ) (at : ℕ) (o i : List ℕ) (r : ℕ) (o' i' : List ℕ) : Type 0 where
  pub room : 3 ≤ length i → Told kind s at o i r o' i'
  pub short : length i < 3 → (r ≡ 254) × (o' ≡ o) × (i' ≡ i)

-- `yugerzat_judge`: by the copy into an empty buffer. Refusal 5 there is no refusal to judge: it tells the size of the rewriting
abbrev pub size_code : Refusal → ℕ
size_code r = cond (eqb (number_of r) 5) 0 (number_of r)

abbrev pub size_figures : ℕ → Bool → Refusal → List ℕ
size_figures n b r = cond (eqb (number_of r) 5) (n ∷ cond b 1 0 ∷ needed_of r ∷ []) (0 ∷ 0 ∷ 0 ∷ [])

abbrev pub judged_code : Copy → ℕ
judged_code unknown = 255
judged_code (unread r) = number_of r
judged_code (unmade r n b m) = size_code r
judged_code (made n b m e) = 0

abbrev pub judged_figures : Copy → List ℕ
judged_figures unknown = 0 ∷ 0 ∷ 0 ∷ []
judged_figures (unread r) = place_of r ∷ wanting_of r ∷ 0 ∷ []
judged_figures (unmade r n b m) = size_figures n b r
judged_figures (made n b m e) = n ∷ cond b 1 0 ∷ e ∷ []

pub record JudgeTold (kind : ℕ) (s : List ℕ) (at : ℕ) (i : List ℕ) (r : ℕ) (i' : List ℕ) : Type 0 where
  pub copy : Copy
  pub left : List ℕ
  pub copies : CopiesOf kinds kind s at 0 [] copy left
  pub number : r ≡ judged_code copy
  pub list : i' ≡ sets i 0 (judged_figures copy)

pub record JudgeCalled (kind : ℕ) (s : List ℕ) (at : ℕ) (i : List ℕ) (r : ℕ) (i' : List ℕ) : Type 0 where
  pub room : 3 ≤ length i → JudgeTold kind s at i r i'
  pub short : length i < 3 → (r ≡ 254) × (i' ≡ i)

-- `yugerzat_fragment`: one figure, the place after the fragment, or how many bytes it needs
abbrev pub wrote_code : Written → ℕ
wrote_code (done n) = 0
wrote_code (unwritten r) = number_of r

abbrev pub wrote_figure : Written → ℕ
wrote_figure (done n) = n
wrote_figure (unwritten r) = needed_of r

abbrev pub wrote_figures : Written → List ℕ
wrote_figures w = wrote_figure w ∷ []

pub record FragmentTold (m : List ℕ) (start : ℕ) (o i : List ℕ) (r : ℕ) (o' i' : List ℕ) : Type 0 where
  pub answer : Written
  pub writes : WritesFragment m start o answer o'
  pub number : r ≡ wrote_code answer
  pub list : i' ≡ sets i 0 (wrote_figure answer ∷ [])

pub record FragmentCalled (m : List ℕ) (start : ℕ) (o i : List ℕ) (r : ℕ) (o' i' : List ℕ) : Type 0 where
  pub room : 1 ≤ length i → FragmentTold m start o i r o' i'
  pub short : length i < 1 → (r ≡ 254) × (o' ≡ o) × (i' ≡ i)

-- `yugerzat_choose` and `yugerzat_current_choose`: twelve figures
abbrev pub chosen_code : Chosen → ℕ
chosen_code (turned_away r) = number_of r
chosen_code (replied n) = 101
chosen_code silent = 102
chosen_code (handed p v f a n) = 100

abbrev pub handed_figures : (prog vers proc args : ℕ) → Option auth_unix → List ℕ
handed_figures p v f n none = p ∷ v ∷ f ∷ n ∷ 0 ∷ 0 ∷ 0 ∷ 0 ∷ 0 ∷ 0 ∷ 0 ∷ 0 ∷ []
handed_figures p v f n (some a) =
    p ∷ v ∷ f ∷ n ∷ 1 ∷ a.stamp ∷ a.machinename.at ∷ a.machinename.count ∷ a.uid ∷ a.gid ∷ a.gids.at ∷ a.gids.count ∷ []

abbrev pub chosen_figures : Chosen → List ℕ
chosen_figures (turned_away r) = place_of r ∷ wanting_of r ∷ 0 ∷ 0 ∷ 0 ∷ 0 ∷ 0 ∷ 0 ∷ 0 ∷ 0 ∷ 0 ∷ 0 ∷ []
chosen_figures (replied n) = n ∷ 0 ∷ 0 ∷ 0 ∷ 0 ∷ 0 ∷ 0 ∷ 0 ∷ 0 ∷ 0 ∷ 0 ∷ 0 ∷ []
chosen_figures silent = 0 ∷ 0 ∷ 0 ∷ 0 ∷ 0 ∷ 0 ∷ 0 ∷ 0 ∷ 0 ∷ 0 ∷ 0 ∷ 0 ∷ []
chosen_figures (handed p v f a n) = handed_figures p v f n a

module _ {Stat Auth Accept Rejected Accepted Reply Body Msg : Type 0} (R : Reading Stat Auth Accept Rejected Accepted Reply Body Msg) (s : List ℕ) (seen : ℕ) (o i : List ℕ) (r : ℕ) (o' i' : List ℕ) where
  pub record ChooseTold : Type 0 where
    pub chosen : Chosen
    pub chooses : Chooses R s (not (eqb seen 0)) o chosen o'
    pub number : r ≡ chosen_code chosen
    pub list : i' ≡ sets i 0 (chosen_figures chosen)

  pub record ChooseCalled : Type 0 where
    pub room : 12 ≤ length i → ChooseTold
    pub short : length i < 12 → (r ≡ 254) × (o' ≡ o) × (i' ≡ i)

-- `yugerzat_feed`: the state is seven numbers, and two figures say what was used and how long the record is
abbrev pub state_of : List ℕ → Assembler
state_of l =
    record {
      capacity = get_or l 0 0;
      placed = get_or l 1 0;
      header_count = get_or l 2 0;
      header_value = get_or l 3 0;
      left = get_or l 4 0;
      last = not (eqb (get_or l 5 0) 0);
      stopped = not (eqb (get_or l 6 0) 0);
    }

abbrev pub state_list : Assembler → List ℕ
state_list s =
    s.capacity ∷ s.placed ∷ s.header_count ∷ s.header_value ∷ s.left ∷ cond s.last 1 0 ∷ cond s.stopped 1 0 ∷ []

abbrev pub fed_code : Said → ℕ
fed_code (more s u) = 103
fed_code (complete n s u) = 104
fed_code (refused r s u) = number_of r

abbrev pub fed_state : Said → Assembler
fed_state (more s u) = s
fed_state (complete n s u) = s
fed_state (refused r s u) = s

abbrev pub fed_figures : Said → List ℕ
fed_figures (more s u) = u ∷ 0 ∷ []
fed_figures (complete n s u) = u ∷ n ∷ []
fed_figures (refused r s u) = u ∷ 0 ∷ []

pub record FeedTold (l run d i : List ℕ) (r : ℕ) (l' d' i' : List ℕ) : Type 0 where
  pub said : Said
  pub feeds : Feeds (state_of l) run d said d'
  pub number : r ≡ fed_code said
  pub state : l' ≡ sets l 0 (state_list (fed_state said))
  pub list : i' ≡ sets i 0 (fed_figures said)

pub record FeedCalled (l run d i : List ℕ) (r : ℕ) (l' d' i' : List ℕ) : Type 0 where
  pub room : 7 ≤ length l → 2 ≤ length i → FeedTold l run d i r l' d' i'
  pub short : (length l < 7) ⊎ (length i < 2) → (r ≡ 254) × (l' ≡ l) × (d' ≡ d) × (i' ≡ i)

-- A stream can be fed through it: the answer is one that `feed` may give of the state that the list said, and the list then says the state to
-- go on with. So what `rpcwire` Meaning/Session promises of every way of feeding holds of such calls
pub record FedOn (l run d : List ℕ) (r : ℕ) (l' d' i' : List ℕ) : Type 0 where
  pub said : Said
  pub answers : Feeds (state_of l) run d said d'
  -- the caller sees all of it: which answer it is, the bytes used and a record's length, and the state
  pub number : r ≡ fed_code said
  pub figures : take 2 i' ≡ fed_figures said
  pub state : state_of l' ≡ fed_state said
  -- and can call again with the same lists
  pub again : (7 ≤ length l') × (2 ≤ length i')
