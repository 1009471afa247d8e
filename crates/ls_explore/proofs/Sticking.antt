-- A setup that doesn't end.
use Rattle.std.proofs.Common.{◌≡◌, ◌⊎◌, inl, inr, ℕ, zero, suc, ◌+◌, ◌-◌, ◌<◌, ◌≤◌, false, List, [], ◌∷◌, ◌++◌}
use Rattle.std.proofs.Common.{replicate, sym, ap, ◌∙◌, subst, arith, append_assoc, append-nil}
use Rattle.std.proofs.lemmas.Bool.{cases_lt}
use Rattle.ls_checked.specs.CheckedTree.{File}
use Rattle.ls_checked.specs.CheckedProgram.{Program}
use Rattle.ls_meaning.specs.Steps.{Same}
use Rattle.ls_meaning.specs.Runs.{source_run, source_history, source_step, history_of, step}
use Rattle.ls_preservation.specs.Translations.{has_setup_ended}
use Rattle.ls_meaning.specs.Still.{IsOver, IsStill}
use Rattle.ls_events.specs.Beginnings.{IsBeginning}
use Rattle.ls_explore.specs.Stuck.{IsStuck, StuckCovers}
use Rattle.ls_explore.proofs.SourceSteps.{Like, like_itself, like_more, like_still, idle_still}
use Rattle.ls_explore.proofs.SettingUp.{fewer_first, not_started, one_more}
use Rattle.ls_explore.proofs.Endings.{still_same}

module _ (file : File) (program : Program) (k : ℕ) (stuck : IsStuck file program k) where
  -- each schedule is like so many steps of the setup, or fewer
  record IsEarly (ts : List ℕ) : Type 0 where
    pub count : ℕ
    pub few : count ≤ k
    pub like : Like file program ts (replicate count 0)

  early_more : (ts : List ℕ) (t : ℕ) → IsEarly ts → IsEarly (ts ++ t ∷ [])
  early_more ts zero p = by_count (cases_lt p.count k)
    where
      by_count : (p.count < k) ⊎ (k ≤ p.count) → IsEarly (ts ++ 0 ∷ [])
      by_count (inl less) = record {
        count = suc p.count;
        few = omega arith;
        like = subst (Like file program (ts ++ 0 ∷ [])) (one_more p.count)
            (like_more file program ts (replicate p.count 0) 0 p.like);
      }
      by_count (inr more) =
          let e : k ≡ p.count = omega (arith, p.few) in
          let at : source_run file program (replicate k 0) ≡ source_run file program ts = ap
          (λ n. source_run file program (replicate n 0)) e ∙ sym p.like.states in
          let same : source_step file program (source_run file program ts) 0 ≡ Same =
          still_same file program (source_run file program ts) 0
          (subst (λ s. IsStill (step file program s 0).did) at stuck.still) in
          record { count = p.count; few = p.few; like = like_still file program ts (replicate p.count 0) 0 same p.like }
  early_more ts (suc t) p =
      let goes : has_setup_ended file program (source_run file program ts) ≡ false =
      ap (has_setup_ended file program) p.like.states ∙ stuck.before p.count (omega (arith, p.few)) in
      record {
        count = p.count;
        few = p.few;
        like =
            like_still file program ts (replicate p.count 0) (suc t)
            (idle_still file program (source_run file program ts) (suc t)
            (not_started file program (source_run file program ts) t goes))
            p.like;
      }

  early_all : (us ts : List ℕ) → IsEarly ts → IsEarly (ts ++ us)
  early_all [] ts p = subst IsEarly (sym (append-nil ts)) p
  early_all (u ∷ us) ts p = subst IsEarly (append_assoc ts (u ∷ []) us)
      (early_all us (ts ++ u ∷ []) (early_more ts u p))

  early : (ts : List ℕ) → IsEarly ts
  early ts = early_all ts [] (record { count = 0; few = omega arith; like = like_itself file program [] })

  shown : (ts : List ℕ) → IsBeginning (source_history file program ts) (source_history file program (replicate k 0))
  shown ts =
      let p = early ts in
      let first = fewer_first file program p.count k p.few in
      (first.0, ap (λ h. h ++ first.0) (ap history_of p.like.traces) ∙ first.1)

  over : IsOver file program (source_run file program (replicate k 0))
  over zero = stuck.still
  over (suc t) = subst IsStill
      (sym (not_started file program (source_run file program (replicate k 0)) t (stuck.before k (omega arith)))) tt

  -- a setup that stands still stays where it stands
  stays : (j : ℕ) →
      IsStill (step file program (source_run file program (replicate j 0)) 0).did →
      (n : ℕ) →
      Like file program (replicate (j + n) 0) (replicate j 0)
  stays j still zero =
      let e : j ≡ j + 0 = omega arith in
      subst (λ i. Like file program (replicate i 0) (replicate j 0)) e (like_itself file program (replicate j 0))
  stays j still (suc n) =
      let before : Like file program (replicate (j + n) 0) (replicate j 0) = stays j still n in
      let same : source_step file program (source_run file program (replicate (j + n) 0)) 0 ≡ Same =
      still_same file program (source_run file program (replicate (j + n) 0)) 0
      (subst (λ s. IsStill (step file program s 0).did) (sym before.states) still) in
      let e : suc (j + n) ≡ j + suc n = omega arith in
      subst (λ i. Like file program (replicate i 0) (replicate j 0)) e
      (subst (λ ts. Like file program ts (replicate j 0)) (one_more (j + n))
      (like_still file program (replicate (j + n) 0) (replicate j 0) 0 same before))

  whole : (ts : List ℕ) →
      IsOver file program (source_run file program ts) →
      source_history file program ts ≡ source_history file program (replicate k 0)
  whole ts ends =
      let p = early ts in
      let still : IsStill (step file program (source_run file program (replicate p.count 0)) 0).did = subst
      (λ s. IsStill (step file program s 0).did) p.like.states (ends 0) in
      let e : p.count + (k - p.count) ≡ k = omega (arith, p.few) in
      let later : Like file program (replicate k 0) (replicate p.count 0) = subst
      (λ i. Like file program (replicate i 0) (replicate p.count 0)) e (stays p.count still (k - p.count)) in
      ap history_of p.like.traces ∙ sym (ap history_of later.traces)

pub stuck_covers : StuckCovers
stuck_covers file program k stuck = record {
  over = over file program k stuck;
  begins = shown file program k stuck;
  whole = whole file program k stuck;
}
