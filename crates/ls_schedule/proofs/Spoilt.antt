-- Once a text has a fault, only the groups round it can have an earlier one.
use Rattle.std.proofs.Common.{◌≡◌, ◌∙◌, ◌≤◌, ℕ, zero, suc, Bool, true, false, List, [], ◌∷◌, ◌++◌, length, Option, Some}
use Rattle.std.proofs.Common.{None, Result, Ok, Err, refl, ap, arith}
use Rattle.std.specs.Prelude.{◌&&◌, nat_lt, if◌then◌else◌}
use Rattle.std.proofs.lemmas.Bool.{lt-ltb}
use Rattle.ls_schedule.specs.declared.fault.ScheduleFault.{ScheduleFault}
use Rattle.ls_schedule.specs.declared.fault.ScheduleFault.TheVariants as fault
use Rattle.ls_schedule.specs.Pieces.{Piece, Gap, Word, Opens, Closes, opens}
use Rattle.ls_schedule.specs.Reading.{Content, Group, closed, ended, followed_by, group_steps, group_times, item_turns}
use Rattle.ls_schedule.specs.Reading.{nothing, repeated, steps_in, ◌>>=◌}
use Rattle.ls_schedule.specs.Passing.{fault_after, first_fault, unclosed}

-- a group that is open, before which this stands without a fault
pub record Level : Type 0 where
  pub at : ℕ
  pub filled : Bool
  pub steps : List ℕ

abbrev pub content_of : Bool → List ℕ → Content
content_of filled steps = record { filled = filled; steps = Ok steps }

abbrev pub group_of : Level → Group
group_of l = record { at = l.at; before = content_of l.filled l.steps }

abbrev pub groups_of : List Level → List Group
groups_of [] = []
groups_of (l ∷ ls) = group_of l ∷ groups_of ls

abbrev pub places_of : List Level → List ℕ
places_of [] = []
places_of (l ∷ ls) = l.at ∷ places_of ls

pub groups_length : (ls : List Level) → length (groups_of ls) ≡ length ls
groups_length [] = refl
groups_length (l ∷ ls) = ap (λ n. suc n) (groups_length ls)

-- something stands there, and what
abbrev holds : Result (List ℕ) ScheduleFault → Content
holds steps = record { filled = true; steps = steps }

abbrev pub broken : ScheduleFault → Content
broken e = record { filled = true; steps = Err e }

-- ---- the end of the text

pub ended_broken : (ls : List Level) (e : ScheduleFault) →
    ended (groups_of ls) (broken e) ≡ Err (unclosed (places_of ls) e)
ended_broken [] e = refl
ended_broken (l ∷ ls) e = ended_broken ls (fault.BadItem l.at)

-- ---- groups that begin after the fault, or at it

-- however the outermost of them ends, what stands then in the innermost of n others has the fault
abbrev pub SpoiltBy : ℕ → Group → List Group → ScheduleFault → Type 0
SpoiltBy n d [] e = (f : Bool) (t : Option ℕ) (r : Result (List ℕ) ScheduleFault) →
    (followed_by d.before (group_steps d.at (nat_lt n 8 && f) t r)).steps ≡ Err e
SpoiltBy n d (d' ∷ ds) e = SpoiltBy n d' ds e

abbrev pub Spoilt : ℕ → List Group → Content → ScheduleFault → Type 0
Spoilt n [] c e = c ≡ broken e
Spoilt n (d ∷ ds) c e = SpoiltBy n d ds e

ended_spoilt : (ls : List Level) (d : Group) (ds : List Group) (c : Content) (e : ScheduleFault) →
    SpoiltBy (length (groups_of ls)) d ds e
    → ended (d ∷ ds ++ groups_of ls) c ≡ Err (unclosed (places_of ls) e)
ended_spoilt ls d [] c e h = ap (ended (groups_of ls)) (ap holds (h false None (Ok []))) ∙ ended_broken ls e
ended_spoilt ls d (d' ∷ ds) c e h = ended_spoilt ls d' ds (followed_by d.before (Err (fault.BadItem d.at))) e h

-- a group that is closed after a fault in it
closing_broken : (l : Level) (xs : List ℕ) (others : List Group) (c : Content) (e : ScheduleFault) (t : Option ℕ) →
    nat_lt (length others) 8 ≡ true →
    c ≡ broken e
    → closed (group_of l) others c t ≡ broken (fault_after 0 (l.at ∷ xs) e t)
closing_broken l xs others c e None lt h = ap (λ x. closed (group_of l) others x None) h
closing_broken l xs others c e (Some n) lt h =
    ap (λ x. closed (group_of l) others x (Some n)) h
    ∙ ap (λ b. followed_by (content_of l.filled l.steps) (if b && true then (Err e >>= λ ts. Ok (repeated n ts)) else
    Err (fault.BadItem l.at))) lt

few_others : (l : Level) (ls : List Level) → length (l ∷ ls) ≤ 8 → nat_lt (length (groups_of ls)) 8 ≡ true
few_others l ls few = lt-ltb (length (groups_of ls)) 8 (omega (arith, few, groups_length ls))

pub spoilt : (names : List (List ℕ)) (ls : List Level) (ds : List Group) (c : Content) (e : ScheduleFault)
    (ps : List Piece) →
    length ls ≤ 8 →
    Spoilt (length (groups_of ls)) ds c e
    → steps_in names (ds ++ groups_of ls) c ps ≡ Err (first_fault (places_of ls) (length ds) e ps)
spoilt names ls [] c e [] few h = ap (ended (groups_of ls)) h ∙ ended_broken ls e
spoilt names ls (d ∷ ds) c e [] few h = ended_spoilt ls d ds c e h
spoilt names ls ds c e (Gap ∷ ps) few h = spoilt names ls ds c e ps few h
spoilt names ls [] c e (Word at bytes ∷ ps) few h =
    let more : Result (List ℕ) ScheduleFault = item_turns names at bytes (opens ps) >>= λ p. Ok (repeated p.1 p.0) in
    spoilt names ls [] (followed_by c more) e ps few (ap (λ x. followed_by x more) h)
spoilt names ls (d ∷ ds) c e (Word at bytes ∷ ps) few h =
    spoilt names ls (d ∷ ds) (followed_by c (item_turns names at bytes (opens ps) >>= λ p. Ok (repeated p.1 p.0))) e ps
    few h
spoilt names ls [] c e (Opens at ∷ ps) few h =
    spoilt names ls (record { at = at; before = c } ∷ []) nothing e ps few
    (λ f t r. ap (λ x. (followed_by x (group_steps at (nat_lt (length (groups_of ls)) 8 && f) t r)).steps) h)
spoilt names ls (d ∷ ds) c e (Opens at ∷ ps) few h = spoilt names ls (record { at = at; before = c } ∷ d ∷ ds) nothing e
    ps few h
spoilt names [] [] c e (Closes at after ∷ ps) few h =
    spoilt names [] [] (followed_by c (Err (fault.BadItem at))) e ps few
    (ap (λ x. followed_by x (Err (fault.BadItem at))) h)
spoilt names (l ∷ ls) [] c e (Closes at after ∷ ps) few h =
    let t : Option ℕ = group_times after (opens ps) in
    spoilt names ls [] (closed (group_of l) (groups_of ls) c t) (fault_after 0 (places_of (l ∷ ls)) e t) ps
    (omega (arith, few))
    (closing_broken l (places_of ls) (groups_of ls) c e t (few_others l ls few) h)
spoilt names ls (d ∷ []) c e (Closes at after ∷ ps) few h =
    let t : Option ℕ = group_times after (opens ps) in
    spoilt names ls [] (closed d (groups_of ls) c t) e ps few (ap holds (h c.filled t c.steps))
spoilt names ls (d ∷ d' ∷ ds) c e (Closes at after ∷ ps) few h =
    spoilt names ls (d' ∷ ds) (closed d (d' ∷ ds ++ groups_of ls) c (group_times after (opens ps))) e ps few h

-- outside of all groups a fault is the first
pub outside_all : (e : ScheduleFault) (ps : List Piece) → first_fault [] 0 e ps ≡ e
outside_all e ps = none 0 e ps
  where
    none : (deeper : ℕ) (f : ScheduleFault) (qs : List Piece) → first_fault [] deeper f qs ≡ f
    none deeper f [] = refl
    none deeper f (Gap ∷ qs) = none deeper f qs
    none deeper f (Word at bytes ∷ qs) = none deeper f qs
    none deeper f (Opens at ∷ qs) = none (suc deeper) f qs
    none zero f (Closes at after ∷ qs) = none zero f qs
    none (suc deeper) f (Closes at after ∷ qs) = none deeper f qs
