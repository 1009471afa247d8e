-- A step after runs that are alike.
use Rattle.std.proofs.Common.{◌≡◌, ℕ, Bool, true, false, List, [], ◌∷◌, ◌++◌, length, get_or, set, refl, sym, ap, ◌∙◌}
use Rattle.std.proofs.Common.{zero, suc, subst, arith}
use Rattle.std.specs.Prelude.{nat_eq, if◌then◌else◌}
use Rattle.std.proofs.Math.ListN.{length-set}
use Rattle.std.proofs.lemmas.List.{append_assoc, append-nil}
use Rattle.ls_events.specs.declared.value.Value.{Value}
use Rattle.ls_events.specs.declared.action.Action.{Action}
use Rattle.ls_events.specs.declared.action.Answer.{Answer}
use Rattle.ls_checked.specs.CheckedTree.{File}
use Rattle.ls_checked.specs.CheckedProgram.{Program}
use Rattle.ls_meaning.specs.Course.{Answers}
use Rattle.ls_meaning.specs.Effect.{Effect, Waits, Does, effect}
use Rattle.ls_meaning.specs.Threads.{Next, Goes, Ended, Trapped, next}
use Rattle.ls_meaning.specs.Runs.{State, Step, answers_of, has_ended, has_started, idle, performed, step, step_of}
use Rattle.ls_labels.specs.Names.{Names}
use Rattle.ls_trace.specs.Told.{Told, after_step, calls_after, labels_after, step_in}
use Rattle.ls_choices.specs.Alike.{Alike, GoesOnAlike}

-- one more answer of a thread
answers_alike : (goes : ℕ → Answers → Next) (xs ys : List Answers) (t : ℕ) (x : Answer Value) →
    length xs ≡ length ys →
    ((i : ℕ) (q : Answers) → goes i (get_or xs i [] ++ q) ≡ goes i (get_or ys i [] ++ q)) →
    (i : ℕ) (q : Answers) →
    goes i (get_or (set xs t (get_or xs t [] ++ x ∷ [])) i [] ++ q) ≡
    goes i (get_or (set ys t (get_or ys t [] ++ x ∷ [])) i [] ++ q)
answers_alike goes [] [] t x e h i q = h i q
answers_alike goes [] (b ∷ bs) t x e h i q = absurd (cc)
answers_alike goes (a ∷ as_) [] t x e h i q = absurd (cc)
answers_alike goes (a ∷ as_) (b ∷ bs) zero x e h zero q =
    ap (goes 0) (append_assoc a (x ∷ []) q) ∙ h 0 (x ∷ q) ∙ ap (goes 0) (sym (append_assoc b (x ∷ []) q))
answers_alike goes (a ∷ as_) (b ∷ bs) zero x e h (suc i) q = h (suc i) q
answers_alike goes (a ∷ as_) (b ∷ bs) (suc t) x e h zero q = h 0 q
answers_alike goes (a ∷ as_) (b ∷ bs) (suc t) x e h (suc i) q =
    answers_alike (λ j. goes (suc j)) as_ bs t x (omega (arith, e)) (λ j. h (suc j)) i q

-- steps that do the same, after which threads go on alike
abbrev StepsAlike : File → Program → Step → Step → Type 0
StepsAlike file program st st' = (st.did ≡ st'.did) × GoesOnAlike file program st.after st'.after

performed_alike : (file : File) (program : Program) (s s' : State) (t : ℕ) (action : Action Value) (e : Effect) →
    GoesOnAlike file program s s' →
    StepsAlike file program (performed s t action e) (performed s' t action e)
performed_alike file program s s' t action Waits h = (refl, h)
performed_alike file program s s' t action (Does store answer) h = (
  refl,
  record {
    store = refl;
    lists = length-set s.answers t (answers_of s t ++ answer ∷ []) ∙ h.lists
        ∙ sym (length-set s'.answers t (answers_of s' t ++ answer ∷ []));
    continues = answers_alike (next file program) s.answers s'.answers t answer h.lists h.continues;
  },
)

next_alike : (file : File) (program : Program) (s s' : State) (t : ℕ) (n : Next) →
    GoesOnAlike file program s s' →
    StepsAlike file program (step_of file s t n) (step_of file s' t n)
next_alike file program s s' t (Goes action sort) h =
    subst (λ x. StepsAlike file program (performed s t action (effect file.classes s.store t action))
    (performed s' t action (effect file.classes x t action))) h.store
    (performed_alike file program s s' t action (effect file.classes s.store t action) h)
next_alike file program s s' t Ended h = (refl, h)
next_alike file program s s' t Trapped h = (refl, h)

if_alike : (file : File) (program : Program) (s s' : State) (b : Bool) (st st' : Step) →
    GoesOnAlike file program s s' →
    StepsAlike file program st st' →
    StepsAlike file program (if b then st else idle s) (if b then st' else idle s')
if_alike file program s s' true st st' h k = k
if_alike file program s s' false st st' h k = (refl, h)

-- what a thread does next
pub next_same : (file : File) (program : Program) (s s' : State) (t : ℕ) → GoesOnAlike file program s s' →
    next file program t (answers_of s t) ≡ next file program t (answers_of s' t)
next_same file program s s' t h =
    ap (next file program t) (sym (append-nil (answers_of s t))) ∙ h.continues t []
    ∙ ap (next file program t) (append-nil (answers_of s' t))

pub started_same : (file : File) (program : Program) (s s' : State) (t : ℕ) → GoesOnAlike file program s s' →
    has_started file program s t ≡ has_started file program s' t
started_same file program s s' t h =
    ap (λ n. if nat_eq t 0 then true else has_ended n) (next_same file program s s' 0 h)

pub steps_alike : (file : File) (program : Program) (s s' : State) (t : ℕ) → GoesOnAlike file program s s' →
    StepsAlike file program (step file program s t) (step file program s' t)
steps_alike file program s s' t h =
    subst (λ b. StepsAlike file program (step file program s t)
    (if b then step_of file s' t (next file program t (answers_of s' t)) else idle s'))
    (started_same file program s s' t h)
    (subst (λ n. StepsAlike file program (step file program s t)
    (if has_started file program s t then step_of file s' t n else idle s')) (next_same file program s s' t h)
    (if_alike file program s s' (has_started file program s t)
    (step_of file s t (next file program t (answers_of s t)))
    (step_of file s' t (next file program t (answers_of s t))) h
    (next_alike file program s s' t (next file program t (answers_of s t)) h)))

pub did_same : (names : Names) (r r' : Told) (t : ℕ) → Alike names r r' →
    (step_in names r t).did ≡ (step_in names r' t).did
did_same names r r' t h = (steps_alike names.file names.program r.state r'.state t h.state).0

pub after_alike : (names : Names) (r r' : Told) (t : ℕ) → Alike names r r' →
    Alike names (after_step names r t) (after_step names r' t)
after_alike names r r' t h =
    let did = did_same names r r' t h in
    record {
      state = (steps_alike names.file names.program r.state r'.state t h.state).1;
      labels = ap (λ l. labels_after l (step_in names r t).did) h.labels ∙ ap (labels_after r'.labels) did;
      calls = ap (λ l. calls_after l t (step_in names r t).did) h.calls ∙ ap (calls_after r'.calls t) did;
    }

pub alike_then : (names : Names) (r r' r'' : Told) → Alike names r r' → Alike names r' r'' → Alike names r r''
alike_then names r r' r'' h k = record {
  state = record {
    store = h.state.store ∙ k.state.store;
    lists = h.state.lists ∙ k.state.lists;
    continues = λ t q. h.state.continues t q ∙ k.state.continues t q;
  };
  labels = h.labels ∙ k.labels;
  calls = h.calls ∙ k.calls;
}
