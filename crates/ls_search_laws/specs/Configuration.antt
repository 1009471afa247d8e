-- Configurations: the store, and how each thread goes on.
use Rattle.std.specs.Prelude.{◌≡◌, ℕ, true, [], ◌∷◌, ◌++◌, nat_eq, if◌then◌else◌}
use Rattle.ls_events.specs.declared.value.Value.{Value}
use Rattle.ls_events.specs.declared.action.Action.{Action}
use Rattle.ls_events.specs.declared.action.Answer.{Answer}
use Rattle.ls_checked.specs.CheckedTree.{File}
use Rattle.ls_checked.specs.CheckedProgram.{Program}
use Rattle.ls_meaning.specs.declared.step.Did.{Did}
use Rattle.ls_meaning.specs.declared.step.Did.TheVariants as did
use Rattle.ls_meaning.specs.Course.{Answers}
use Rattle.ls_meaning.specs.Store.{Store}
use Rattle.ls_meaning.specs.Effect.{Effect, Waits, Does, effect}
use Rattle.ls_meaning.specs.Threads.{Next, Goes, Ended, Trapped, next}
use Rattle.ls_meaning.specs.Runs.{State, answers_of, has_ended}
use Rattle.ls_meaning.specs.Renamings.{renamed_answers, renamed_next, renamed_action, renamed_answer}
use Rattle.ls_search_laws.specs.Renaming.{IsRenamedStore}

-- the store, and for each thread what it does next after any answers that it has from now on
pub record Configuration : Type 0 where
  pub store : Store
  pub continues : ℕ → Answers → Next

-- the configuration of a state: what answers a thread has had counts only for how it goes on
abbrev pub configuration_of : File → Program → State → Configuration
configuration_of file program s = record {
  store = s.store;
  continues = λ t later. next file program t (answers_of s t ++ later);
}

-- a step, as that of a state
pub record Stride : Type 0 where
  pub did : Did
  pub after : Configuration

-- one more answer of a thread
abbrev pub with_answer : (ℕ → Answers → Next) → ℕ → Answer Value → ℕ → Answers → Next
with_answer continues t answer u later = if nat_eq u t then continues t (answer ∷ later) else continues u later

abbrev pub performing : Configuration → ℕ → Action Value → Effect → Stride
performing c t action Waits = record { did = did.Waits; after = c }
performing c t action (Does store answer) = record {
  did = did.Acted action answer;
  after = record { store = store; continues = with_answer c.continues t answer };
}

abbrev pub idling : Configuration → Stride
idling c = record { did = did.Idle; after = c }

abbrev pub stride_of : File → Configuration → ℕ → Next → Stride
stride_of file c t (Goes action sort) = performing c t action (effect file.classes c.store t action)
stride_of file c t Ended = idling c
stride_of file c t Trapped = idling c

abbrev pub stride : File → Configuration → ℕ → Stride
stride file c t =
    if (if nat_eq t 0 then true else has_ended (c.continues 0 []))
    then stride_of file c t (c.continues t [])
    else idling c

-- the second is the first with other names
pub record IsRenamed (names : ℕ → ℕ) (c c' : Configuration) : Type 0 where
  pub store : IsRenamedStore names c.store c'.store
  pub continues : (t : ℕ) (later : Answers) →
      c'.continues t (renamed_answers names later) ≡ renamed_next names (c.continues t later)

abbrev pub renamed_did : (ℕ → ℕ) → Did → Did
renamed_did names (did.Acted action answer) = did.Acted (renamed_action names action) (renamed_answer names answer)
renamed_did names did.Waits = did.Waits
renamed_did names did.Idle = did.Idle

-- a state takes the steps of its configuration under other names
pub record IsRenamedStride (names : ℕ → ℕ) (p p' : Stride) : Type 0 where
  pub did : p'.did ≡ renamed_did names p.did
  pub after : IsRenamed names p.after p'.after
