-- The whole search: configurations up to names, each with what was noted, closed after steps that are taken at once.
use Rattle.std.specs.Prelude.{◌≡◌, ◌≢◌, ◌⊎◌, ℕ, ◌<◌, Bool, true, false, List, [], ◌∷◌, length, replicate, Contains}
use Rattle.std.specs.List.{fold}
use Rattle.ls_events.specs.declared.value.Value.{Value}
use Rattle.ls_events.specs.declared.action.Action.{Action}
use Rattle.ls_events.specs.declared.action.Answer.{Answer}
use Rattle.ls_events.specs.declared.event.Event.{Event}
use Rattle.ls_checked.specs.CheckedTree.{File}
use Rattle.ls_checked.specs.CheckedProgram.{Program}
use Rattle.ls_meaning.specs.declared.step.Did.TheVariants as did
use Rattle.ls_meaning.specs.Store.{Store}
use Rattle.ls_meaning.specs.Effect.{Does, effect}
use Rattle.ls_meaning.specs.Renamings.{renamed_action, renamed_answer}
use Rattle.ls_meaning.specs.Runs.{source_history, source_run, step}
use Rattle.ls_meaning.specs.Still.{IsActing, IsOver, IsStill}
use Rattle.ls_search_laws.specs.Stepping.{IsBefore, SetsUp}
use Rattle.ls_search_laws.specs.AtOnce.{Choice, IsReading, ReadsSame}
use Rattle.ls_search_laws.specs.Noticing.{AreAllGood, AreRenamings, BadAlike, IsAlikeUnder, Noticed, StaysBad}
use Rattle.ls_search_laws.specs.Noticing.{noticed_after, noticed_of}
use Rattle.ls_search_laws.specs.Configuration.{Configuration, IsRenamed, stride}

-- the thread acts by an action that is taken at once
pub record IsPrompt (quiet : Choice) (file : File) (c : Configuration) (t : ℕ) : Type 0 where
  pub action : Action Value
  pub answer : Answer Value
  pub did : (stride file c t).did ≡ did.Acted action answer
  pub chosen : quiet t action answer ≡ true

-- each of these threads in turn acts by such an action, and the last configuration is this one
abbrev pub LeadsTo : Choice → File → Configuration → List ℕ → Configuration → Type 0
LeadsTo quiet file c [] last = c ≡ last
LeadsTo quiet file c (t ∷ ts) last = IsPrompt quiet file c t × LeadsTo quiet file (stride file c t).after ts last

-- under each of the renamings, the action of a thread changes no answer of another's action that is taken at once
abbrev pub IsUnnoticed : Choice → ((ℕ → ℕ) → Type 0) → File → ℕ → Action Value → Type 0
IsUnnoticed quiet Names file t action =
    (names : ℕ → ℕ) → Names names → (s s' : Store) (answer : Answer Value) →
    effect file.classes s t (renamed_action names action) ≡ Does s' answer →
    (u : ℕ) (a : Action Value) (x : Answer Value) → t ≢ u → quiet u a x ≡ true → ReadsSame file.classes u a x s s'

-- which actions may be taken at once: they only read, are none of the setup's, and are chosen whatever the names
pub record IsFair (quiet : Choice) (Names : (ℕ → ℕ) → Type 0) : Type 0 where
  pub setup : (a : Action Value) (x : Answer Value) → quiet 0 a x ≡ false
  pub reading : (t : ℕ) (a : Action Value) (x : Answer Value) → quiet t a x ≡ true → IsReading a
  pub renamed : (names : ℕ → ℕ) → Names names → (t : ℕ) (a : Action Value) (x : Answer Value) → quiet t a x ≡ true →
      quiet t (renamed_action names a) (renamed_answer names x) ≡ true

-- After some steps at once this is one of the list with other names, and was noted alike.
pub record IsFound {M : Type 0} (quiet : Choice) (Names : (ℕ → ℕ) → Type 0) (Alike : M → M → Type 0) (file : File)
    (pairs : List (Noticed M)) (p : Noticed M) : Type 0 where
  pub pair : Noticed M
  pub there : Contains pairs pair
  pub threads : List ℕ
  pub last : Configuration
  pub leads : LeadsTo quiet file p.configuration threads last
  pub names : ℕ → ℕ
  pub allowed : Names names
  pub same : IsRenamed names pair.configuration last
  pub alike : Alike pair.noted p.noted

module _ {M : Type 0} (first : M) (next : M → Event → M) (quiet : Choice) (Names : (ℕ → ℕ) → Type 0)
    (Alike : M → M → Type 0) (file : File) (program : Program) where
  pub record IsComplete (pairs : List (Noticed M)) : Type 0 where
    pub more : (p : Noticed M) (t : ℕ) → Contains pairs p → t < length program.threads →
        IsActing (stride file p.configuration t).did →
        IsFound quiet Names Alike file pairs (noticed_after first next file program p t)
    pub unnoticed : (p : Noticed M) (t : ℕ) (action : Action Value) (answer : Answer Value) → Contains pairs p →
        (stride file p.configuration t).did ≡ did.Acted action answer → IsUnnoticed quiet Names file t action

  pub record IsSearch (k : ℕ) (pairs : List (Noticed M)) : Type 0 where
    pub names : AreRenamings Names
    pub alike : IsAlikeUnder Names next Alike
    pub fair : IsFair quiet Names
    pub up : SetsUp file program k
    pub root : IsFound quiet Names Alike file pairs (noticed_of first next file program (replicate k 0))
    pub complete : IsComplete pairs

  -- each schedule, of any length, is found
  abbrev pub FindsAll : Type 0
  FindsAll =
      (k : ℕ) (pairs : List (Noticed M)) → IsSearch k pairs → (schedule : List ℕ) →
      IsFound quiet Names Alike file pairs (noticed_of first next file program schedule)
      ⊎ IsBefore file program k schedule

  -- where none of the list is bad, no schedule has a bad history
  abbrev pub FindsNoneBad : (M → Bool) → Type 0
  FindsNoneBad is_bad =
      (k : ℕ) (pairs : List (Noticed M)) → IsSearch k pairs → BadAlike Alike is_bad → StaysBad next is_bad →
      AreAllGood is_bad pairs → (schedule : List ℕ) →
      is_bad (fold next first (source_history file program schedule)) ≡ false

  -- a schedule after which no thread acts is one of the list in which no thread acts and the same threads wait
  pub record IsEndFound (pairs : List (Noticed M)) (schedule : List ℕ) : Type 0 where
    pub found : IsFound quiet Names Alike file pairs (noticed_of first next file program schedule)
    pub over : (t : ℕ) → IsStill (stride file found.pair.configuration t).did
    pub waits : (t : ℕ) → (step file program (source_run file program schedule) t).did ≡ did.Waits →
        (stride file found.pair.configuration t).did ≡ did.Waits

  abbrev pub FindsEnds : Type 0
  FindsEnds =
      (k : ℕ) (pairs : List (Noticed M)) → IsSearch k pairs → (schedule : List ℕ) →
      IsOver file program (source_run file program schedule) → IsEndFound pairs schedule
