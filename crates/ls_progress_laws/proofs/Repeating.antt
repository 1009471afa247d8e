-- Steps of threads that begin their calls again.
use Rattle.std.proofs.Common.{◌≡◌, ◌⊎◌, inl, inr, ℕ, zero, suc, Bool, true, false, List, [], ◌∷◌, refl, sym, ap, ◌∙◌}
use Rattle.std.proofs.Common.{subst, arith}
use Rattle.std.specs.Prelude.{nat_eq, if◌then◌else◌}
use Rattle.std.proofs.lemmas.Bool.Decides.{nat_tests}
use Rattle.ls_events.specs.declared.value.Value.{Value}
use Rattle.ls_events.specs.declared.action.Action.{Action}
use Rattle.ls_events.specs.declared.action.Answer.{Answer}
use Rattle.ls_checked.specs.CheckedTree.{File}
use Rattle.ls_meaning.specs.Course.{Answers}
use Rattle.ls_meaning.specs.Effect.{Effect, Waits, Does, effect}
use Rattle.ls_meaning.specs.Renamings.{IsRenaming, renamed_answer, renamed_answers, renamed_next}
use Rattle.ls_meaning.specs.Runs.{has_ended}
use Rattle.ls_meaning.specs.Threads.{Next, Goes, Ended, Trapped}
use Rattle.ls_search_laws.specs.Configuration.{Configuration, Stride, idling, performing, stride, stride_of}
use Rattle.ls_search_laws.specs.Configuration.{with_answer}
use Rattle.ls_progress_laws.specs.Again.{again, again_in}
use Rattle.ls_progress_laws.specs.Laws.{IsOther}

-- ---- other names

-- what a thread does next is the same under other names
abbrev pub Renames : (ℕ → ℕ) → (Answers → Next) → (Answers → Next) → Type 0
Renames names g g' = (later : Answers) → g' (renamed_answers names later) ≡ renamed_next names (g later)

abbrev rest : (b g : Answers → Next) → Answer Value → Answers → Next → Next
rest b g x later m =
    if has_ended m then again b (λ more. b (x ∷ more)) later else again b (λ more. g (x ∷ more)) later

again_renamed : (names : ℕ → ℕ) (b b' g g' : Answers → Next) → Renames names b b' → Renames names g g' →
    Renames names (again b g) (again b' g')
again_renamed names b b' g g' begins goes [] = by (g []) (goes []) refl
  where
    by : (n : Next) → g' [] ≡ renamed_next names n → g [] ≡ n →
        (if has_ended (g' []) then b' [] else g' []) ≡ renamed_next names (if has_ended (g []) then b [] else g [])
    by (Goes a sort) e f =
        ap (λ m. if has_ended m then b' [] else m) e
        ∙ sym (ap (λ m. renamed_next names (if has_ended m then b [] else m)) f)
    by Ended e f =
        ap (λ m. if has_ended m then b' [] else m) e
        ∙ begins []
        ∙ sym (ap (λ m. renamed_next names (if has_ended m then b [] else m)) f)
    by Trapped e f =
        ap (λ m. if has_ended m then b' [] else m) e
        ∙ sym (ap (λ m. renamed_next names (if has_ended m then b [] else m)) f)
again_renamed names b b' g g' begins goes (x ∷ later) =
    by (g []) (goes []) refl
    (again_renamed names b b' (λ more. g (x ∷ more)) (λ more. g' (renamed_answer names x ∷ more)) begins
    (λ more. goes (x ∷ more)) later)
    (again_renamed names b b' (λ more. b (x ∷ more)) (λ more. b' (renamed_answer names x ∷ more)) begins
    (λ more. begins (x ∷ more)) later)
  where
    by : (n : Next) → g' [] ≡ renamed_next names n → g [] ≡ n →
        again b' (λ more. g' (renamed_answer names x ∷ more)) (renamed_answers names later) ≡
        renamed_next names (again b (λ more. g (x ∷ more)) later) →
        again b' (λ more. b' (renamed_answer names x ∷ more)) (renamed_answers names later) ≡
        renamed_next names (again b (λ more. b (x ∷ more)) later) →
        rest b' g' (renamed_answer names x) (renamed_answers names later) (g' []) ≡
        renamed_next names (rest b g x later (g []))
    by (Goes a sort) e f going beginning =
        ap (rest b' g' (renamed_answer names x) (renamed_answers names later)) e ∙ going
        ∙ sym (ap (λ m. renamed_next names (rest b g x later m)) f)
    by Ended e f going beginning =
        ap (rest b' g' (renamed_answer names x) (renamed_answers names later)) e ∙ beginning
        ∙ sym (ap (λ m. renamed_next names (rest b g x later m)) f)
    by Trapped e f going beginning =
        ap (rest b' g' (renamed_answer names x) (renamed_answers names later)) e ∙ going
        ∙ sym (ap (λ m. renamed_next names (rest b g x later m)) f)

module _ (begins : ℕ → Answers → Next) where
  -- each thread begins the same under other names
  abbrev pub AllRename : Type 0
  AllRename = (names : ℕ → ℕ) → IsRenaming names → (u : ℕ) → Renames names (begins u) (begins u)

  pub again_other : AllRename → (c d : Configuration) → IsOther c d → IsOther (again_in begins c) (again_in begins d)
  again_other rename c d h = record {
    names = h.names;
    renaming = h.renaming;
    same = record {
      store = h.same.store;
      continues = λ u later. by u (nat_eq u 0) later;
    };
  }
    where
      by : (u : ℕ) (b : Bool) (later : Answers) →
          (if b then d.continues u (renamed_answers h.names later)
          else again (begins u) (d.continues u) (renamed_answers h.names later)) ≡
          renamed_next h.names (if b then c.continues u later else again (begins u) (c.continues u) later)
      by u true later = h.same.continues u later
      by u false later =
          again_renamed h.names (begins u) (begins u) (c.continues u) (d.continues u) (rename h.names h.renaming u)
          (h.same.continues u) later

-- ---- one that has ended is one that begins

pub begun : (b g : Answers → Next) → has_ended (g []) ≡ true → (later : Answers) → again b g later ≡ again b b later
begun b g ended [] = ap (λ o. if o then b [] else g []) ended ∙ sym (either (has_ended (b [])))
  where
    either : (o : Bool) → (if o then b [] else b []) ≡ b []
    either true = refl
    either false = refl
begun b g ended (x ∷ later) =
    ap (λ o. if o then again b (λ more. b (x ∷ more)) later else again b (λ more. g (x ∷ more)) later) ended
    ∙ sym (either (has_ended (b [])))
  where
    either : (o : Bool) →
        (if o then again b (λ more. b (x ∷ more)) later else again b (λ more. b (x ∷ more)) later) ≡
        again b (λ more. b (x ∷ more)) later
    either true = refl
    either false = refl

-- ---- a step

module _ (file : File) (begins : ℕ → Answers → Next) (c : Configuration) (t : ℕ) where
  -- the step is that of the configuration, and so is what comes after it
  pub record SameStride (p q : Stride) : Type 0 where
    pub did : q.did ≡ p.did
    pub after : q.after ≡ again_in begins p.after

  abbrev ever : Configuration
  ever = again_in begins c

  answered : (x : Answer Value) → (nat_eq t 0 ≡ false → has_ended (c.continues t []) ≡ false) →
      (v : ℕ) (later : Answers) →
      with_answer ever.continues t x v later ≡
      (again_in begins (record { store = c.store; continues = with_answer c.continues t x })).continues v later
  answered x going v later = by (nat_eq v t) (nat_eq t 0) (nat_eq v 0) refl refl refl
    where
      same : v ≡ t → nat_eq v 0 ≡ nat_eq t 0
      same e = ap (λ k. nat_eq k 0) e

      by : (a b d : Bool) → nat_eq v t ≡ a → nat_eq t 0 ≡ b → nat_eq v 0 ≡ d →
          (if a then (if b then c.continues t (x ∷ later) else again (begins t) (c.continues t) (x ∷ later))
          else (if d then c.continues v later else again (begins v) (c.continues v) later)) ≡
          (if d then (if a then c.continues t (x ∷ later) else c.continues v later)
          else again (begins v) (λ l. if a then c.continues t (x ∷ l) else c.continues v l) later)
      by true true true e f h = refl
      by true false false e f h =
          ap (λ o. if o then again (begins t) (λ more. begins t (x ∷ more)) later
          else again (begins t) (λ more. c.continues t (x ∷ more)) later) (going f)
          ∙ ap (λ k. again (begins k) (λ l. c.continues t (x ∷ l)) later) (sym (grind (arith, nat_tests, e)))
      by true true false e f h = absurd (grind (arith, nat_tests, e, f, h))
      by true false true e f h = absurd (grind (arith, nat_tests, e, f, h))
      by false b true e f h = refl
      by false b false e f h = refl

  performed : (a : Action Value) (e : Effect) → (nat_eq t 0 ≡ false → has_ended (c.continues t []) ≡ false) →
      SameStride (performing c t a e) (performing ever t a e)
  performed a Waits going = record { did = refl; after = refl }
  performed a (Does store x) going = record {
    did = refl;
    after = λ i. record { store = store; continues = λ v later. answered x going v later i };
  }

  taken : (n : Next) → c.continues t [] ≡ n → SameStride (stride_of file c t n) (stride_of file ever t n)
  taken (Goes a sort) e = performed a (effect file.classes c.store t a) (λ f. ap has_ended e)
  taken Ended e = record { did = refl; after = refl }
  taken Trapped e = record { did = refl; after = refl }

  pub again_stride : ever.continues t [] ≡ c.continues t [] → SameStride (stride file c t) (stride file ever t)
  again_stride same = by (if nat_eq t 0 then true else has_ended (c.continues 0 []))
    where
      by : (b : Bool) →
          SameStride (if b then stride_of file c t (c.continues t []) else idling c)
          (if b then stride_of file ever t (ever.continues t []) else idling ever)
      by true = subst (λ n. SameStride (stride_of file c t (c.continues t [])) (stride_of file ever t n)) (sym same)
          (taken (c.continues t []) refl)
      by false = record { did = refl; after = refl }
