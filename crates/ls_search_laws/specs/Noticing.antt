-- Configurations, each with what was noted of the history, and how runs lead to them.
use Rattle.std.specs.Prelude.{◌≡◌, ℕ, Bool, true, false, List, ◌++◌, length, Contains}
use Rattle.std.specs.List.{fold}
use Rattle.ls_events.specs.declared.event.Event.{Event}
use Rattle.ls_events.specs.declared.event.Happening.{Happening}
use Rattle.ls_events.specs.declared.event.Happening.TheVariants.{Called, Returned, Trapped}
use Rattle.ls_checked.specs.CheckedTree.{File}
use Rattle.ls_checked.specs.CheckedProgram.{Program}
use Rattle.ls_meaning.specs.Renamings.{IsRenaming, renamed_result}
use Rattle.ls_meaning.specs.Runs.{State, source_history, source_run, step}
use Rattle.ls_search_laws.specs.Stepping.{events_of}
use Rattle.ls_search_laws.specs.Configuration.{Configuration, IsRenamed, IsRenamedStride, configuration_of, stride}

-- a configuration under other names does the same, under other names
abbrev pub StridesRename : Type 0
StridesRename =
    (file : File) (names : ℕ → ℕ) → IsRenaming names → (c c' : Configuration) → IsRenamed names c c' → (t : ℕ) →
    IsRenamedStride names (stride file c t) (stride file c' t)

-- a step of a state is one of its configuration
abbrev pub StepsStride : Type 0
StepsStride =
    (file : File) (program : Program) (s : State) → length s.answers ≡ length program.threads → (t : ℕ) →
    ((step file program s t).did ≡ (stride file (configuration_of file program s) t).did)
    × (configuration_of file program (step file program s t).after ≡
    (stride file (configuration_of file program s) t).after)

abbrev pub renamed_happening : (ℕ → ℕ) → Happening → Happening
renamed_happening names Called = Called
renamed_happening names (Returned v) = Returned (renamed_result names v)
renamed_happening names (Trapped kind) = Trapped kind

abbrev pub renamed_event : (ℕ → ℕ) → Event → Event
renamed_event names e = record { thread = e.thread; call = e.call; happening = renamed_happening names e.happening }

pub record Noticed (M : Type 0) : Type 0 where
  pub configuration : Configuration
  pub noted : M

abbrev pub AreAllGood : {M : Type 0} → (M → Bool) → List (Noticed M) → Type 0
AreAllGood {M} is_bad pairs = (p : Noticed M) → Contains pairs p → is_bad p.noted ≡ false

-- what is bad stays bad, whatever happens
abbrev pub StaysBad : {M : Type 0} → (M → Event → M) → (M → Bool) → Type 0
StaysBad {M} next is_bad = (m : M) (e : Event) → is_bad m ≡ true → is_bad (next m e) ≡ true

-- what is like something bad is bad
abbrev pub BadAlike : {M : Type 0} → (M → M → Type 0) → (M → Bool) → Type 0
BadAlike {M} Alike is_bad = (m n : M) → Alike m n → is_bad n ≡ true → is_bad m ≡ true

-- some renamings, with one after another
pub record AreRenamings (Names : (ℕ → ℕ) → Type 0) : Type 0 where
  pub each : (f : ℕ → ℕ) → Names f → IsRenaming f
  pub both : (f g : ℕ → ℕ) → Names f → Names g → Names (λ n. g (f n))

-- what is noted alike stays so, whatever happens, under each of the renamings
pub record IsAlikeUnder {M : Type 0} (Names : (ℕ → ℕ) → Type 0) (next : M → Event → M) (Alike : M → M → Type 0) : Type 0
  where
    pub along : (l m n : M) → Alike l m → Alike m n → Alike l n
    pub stays : (names : ℕ → ℕ) → Names names → (m n : M) (e : Event) → Alike m n →
        Alike (next m e) (next n (renamed_event names e))

module _ {M : Type 0} (first : M) (next : M → Event → M) (file : File) (program : Program) where
  -- a schedule's configuration, and what is noted of its history
  abbrev pub noticed_of : List ℕ → Noticed M
  noticed_of schedule = record {
    configuration = configuration_of file program (source_run file program schedule);
    noted = fold next first (source_history file program schedule);
  }

  -- one step of a thread
  abbrev pub noticed_after : Noticed M → ℕ → Noticed M
  noticed_after p t = record {
    configuration = (stride file p.configuration t).after;
    noted = fold next p.noted (events_of t (stride file p.configuration t).did);
  }

  -- what threads lead to is that of a schedule: so a bad one is told by its schedule
  abbrev pub TellsTruth : Type 0
  TellsTruth =
      (schedule path : List ℕ) → fold noticed_after (noticed_of schedule) path ≡ noticed_of (schedule ++ path)
