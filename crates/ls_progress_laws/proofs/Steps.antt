-- Steps of states as steps of configurations, one after another.
use Rattle.std.proofs.Common.{◌≡◌, ℕ, ◌+◌, Bool, true, false, cond, List, [], ◌∷◌, ◌++◌, length}
use Rattle.std.proofs.Common.{refl, sym, ap, ◌∙◌, subst, arith, append-nil, append_assoc}
use Rattle.std.specs.Prelude.{if◌then◌else◌, nat_eq}
use Rattle.ls_events.specs.declared.value.Value.{Value}
use Rattle.ls_events.specs.declared.action.Action.{Action}
use Rattle.ls_checked.specs.CheckedTree.{File}
use Rattle.ls_checked.specs.CheckedProgram.{Program}
use Rattle.ls_meaning.specs.Effect.{Effect, Waits, Does, effect}
use Rattle.ls_meaning.specs.Threads.{Next, Goes, Ended, Trapped}
use Rattle.ls_meaning.specs.Runs.{State, has_ended, source_run, step}
use Rattle.ls_meaning.specs.Still.{IsStill}
use Rattle.ls_search_laws.specs.Stepping.{events_of}
use Rattle.ls_search_laws.specs.Configuration.{Configuration, configuration_of, idling, performing, stride, stride_of}
use Rattle.ls_search_laws.proofs.Renamed.{step_stride, told_length}
use Rattle.ls_search_laws.proofs.Stepping.{one_more}
use Rattle.ls_search_laws.proofs.Telling.{long_of_all}
use Rattle.ls_progress_laws.specs.Progress.{IsWithin, Kind, own, own_steps}
use Rattle.ls_progress_laws.specs.Strides.{AreWithin, end, own_strides}

module _ (kind : Kind) (file : File) where
  -- ---- steps after steps

  pub end_both : (c : Configuration) (p q : List ℕ) → end file c (p ++ q) ≡ end file (end file c p) q
  end_both c [] q = refl
  end_both c (u ∷ p) q = end_both (stride file c u).after p q

  pub own_both : (c : Configuration) (p q : List ℕ) →
      own_strides kind file c (p ++ q) ≡ own_strides kind file c p + own_strides kind file (end file c p) q
  own_both c [] q = zero_first (own_strides kind file c q)
    where
      zero_first : (n : ℕ) → n ≡ 0 + n
      zero_first n = omega arith
  own_both c (u ∷ p) q =
      let more = own_both (stride file c u).after p q in
      let a : ℕ = own kind u (stride file c u).did in
      ap (λ n. a + n) more ∙ sum_of a (own_strides kind file (stride file c u).after p)
      (own_strides kind file (end file (stride file c u).after p) q)
    where
      sum_of : (a b d : ℕ) → a + (b + d) ≡ (a + b) + d
      sum_of a b d = omega arith

  pub within_both : (c : Configuration) (p q : List ℕ) → AreWithin kind file c p →
      AreWithin kind file (end file c p) q →
      AreWithin kind file c (p ++ q)
  within_both c [] q w v = v
  within_both c (u ∷ p) q w v = (w.0, w.1, within_both (stride file c u).after p q w.2 v)

  -- ---- steps that don't act

  performing_still : (c : Configuration) (t : ℕ) (a : Action Value) (e : Effect) → IsStill (performing c t a e).did →
      (performing c t a e).after ≡ c
  performing_still c t a Waits still = refl
  performing_still c t a (Does store answer) still = absurd still

  next_still : (c : Configuration) (t : ℕ) (n : Next) → IsStill (stride_of file c t n).did →
      (stride_of file c t n).after ≡ c
  next_still c t (Goes a sort) still = performing_still c t a (effect file.classes c.store t a) still
  next_still c t Ended still = refl
  next_still c t Trapped still = refl

  started_still : (c : Configuration) (t : ℕ) (b : Bool) →
      IsStill (cond b (stride_of file c t (c.continues t [])) (idling c)).did →
      (cond b (stride_of file c t (c.continues t [])) (idling c)).after ≡ c
  started_still c t true still = next_still c t (c.continues t []) still
  started_still c t false still = refl

  pub stride_still : (c : Configuration) (t : ℕ) → IsStill (stride file c t).did → (stride file c t).after ≡ c
  stride_still c t still = started_still c t (if nat_eq t 0 then true else has_ended (c.continues 0 [])) still

  -- ---- states

  module _ (program : Program) where
    abbrev pub conf : State → Configuration
    conf s = configuration_of file program s

    abbrev pub IsLong : State → Type 0
    IsLong s = length s.answers ≡ length program.threads

    pub own_is : (s : State) (path : List ℕ) → IsLong s →
        own_steps kind file program s path ≡ own_strides kind file (conf s) path
    own_is s [] long = refl
    own_is s (u ∷ path) long =
        let go = step_stride file program s long u in
        ap (λ d. own kind u d + own_steps kind file program (step file program s u).after path) go.0
        ∙ ap (λ n. own kind u (stride file (conf s) u).did + n)
        (own_is (step file program s u).after path (told_length file program s u long)
        ∙ ap (λ c. own_strides kind file c path) go.1)

    pub within_is : (s : State) (path : List ℕ) → IsLong s → IsWithin kind file program s path →
        AreWithin kind file (conf s) path
    within_is s [] long w = tt
    within_is s (u ∷ path) long w =
        let go = step_stride file program s long u in (
          w.0,
          λ e. ap (events_of u) (sym go.0) ∙ w.1 e,
          subst (λ c. AreWithin kind file c path) go.1
              (within_is (step file program s u).after path (told_length file program s u long) w.2),
        )

    pub within_was : (s : State) (path : List ℕ) → IsLong s → AreWithin kind file (conf s) path →
        IsWithin kind file program s path
    within_was s [] long w = tt
    within_was s (u ∷ path) long w =
        let go = step_stride file program s long u in (
          w.0,
          λ e. ap (events_of u) go.0 ∙ w.1 e,
          within_was (step file program s u).after path (told_length file program s u long)
              (subst (λ c. AreWithin kind file c path) (sym go.1) w.2),
        )

    -- where a schedule leads to
    pub end_is : (schedule path : List ℕ) →
        end file (conf (source_run file program schedule)) path ≡
        conf (source_run file program (schedule ++ path))
    end_is schedule [] = ap (λ s. conf (source_run file program s)) (sym (append-nil schedule))
    end_is schedule (u ∷ path) =
        let go = step_stride file program (source_run file program schedule) (long_of_all file program schedule) u in
        ap (λ c. end file c path) (sym go.1 ∙ ap conf (sym (one_more file program schedule u).state))
        ∙ end_is (schedule ++ u ∷ []) path
        ∙ ap (λ s. conf (source_run file program s)) (append_assoc schedule (u ∷ []) path)
