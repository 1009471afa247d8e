-- If each step of a schedule acts, so does each of a beginning of it.
use Rattle.std.proofs.Common.{◌≡◌, ◌∙◌, ◌+◌, ◌<◌, ◌≤◌, ℕ, zero, suc, List, [], ◌∷◌, ◌++◌, length, map, take, refl, ap}
use Rattle.std.proofs.Common.{arith}
use Rattle.std.proofs.Common.{get_or, subst}
use Rattle.std.proofs.lemmas.List.{length-map, take_more}
use Rattle.ls_events.specs.declared.value.Value.{Value}
use Rattle.ls_checked.specs.CheckedTree.{File}
use Rattle.ls_checked.specs.CheckedProgram.{Program}
use Rattle.ls_meaning.specs.Runs.{State, source_step, source_trace, start}
use Rattle.ls_meaning.specs.Steps.{Acted, Entry, Moved, Same, Stepped, after, trace, traced}

-- the threads of a trace's lines
abbrev pub threads_of : List (Entry Value) → List ℕ
threads_of entries = map (λ (e : Entry Value). e.thread) entries

module _ (file : File) (program : Program) where
  abbrev does : State → ℕ → Stepped State (Entry Value)
  does = source_step file program

  few_more : (d : Stepped State (Entry Value)) (s : State) (ts : List ℕ) →
      ((z : State) → length (trace does z ts) ≤ length ts) →
      length (traced d (trace does (after s d) ts)) ≤ suc (length ts)
  few_more Same s ts h = let g = h s in omega arith
  few_more (Moved s') s ts h = let g = h s' in omega arith
  few_more (Acted s' line) s ts h = let g = h s' in omega arith

  few : (ts : List ℕ) (s : State) → length (trace does s ts) ≤ length ts
  few [] s = omega arith
  few (t ∷ ts) s = few_more (does s t) s ts (λ z. few ts z)

  short : (d : List (Entry Value)) (t : ℕ) (ts : List ℕ) → threads_of d ≡ t ∷ ts → length d ≤ length ts → ⊥
  short d t ts e h = omega (arith, h, ap length e, length-map d (λ (x : Entry Value). x.thread))

  more : (d : Stepped State (Entry Value)) (s : State) (t : ℕ) (ts : List ℕ) (n : ℕ) →
      ((z : State) → threads_of (trace does z ts) ≡ ts → threads_of (trace does z (take n ts)) ≡ take n ts) →
      threads_of (traced d (trace does (after s d) ts)) ≡ t ∷ ts →
      threads_of (traced d (trace does (after s d) (take n ts))) ≡ t ∷ take n ts
  more Same s t ts n go e = absurd (short (trace does s ts) t ts e (few ts s))
  more (Moved s') s t ts n go e = absurd (short (trace does s' ts) t ts e (few ts s'))
  more (Acted s' line) s t ts n go e =
      ap (λ x. x ∷ threads_of (trace does s' (take n ts))) (head e) ∙ ap (λ l. t ∷ l) (go s' (tail e))
    where
      head : {x y : ℕ} {xs ys : List ℕ} → x ∷ xs ≡ y ∷ ys → x ≡ y
      head h = cc

      tail : {x y : ℕ} {xs ys : List ℕ} → x ∷ xs ≡ y ∷ ys → xs ≡ ys
      tail h = cc

  to : (ts : List ℕ) (n : ℕ) (s : State) → threads_of (trace does s ts) ≡ ts →
      threads_of (trace does s (take n ts)) ≡ take n ts
  to ts zero s e = refl
  to [] (suc n) s e = refl
  to (t ∷ ts) (suc n) s e = more (does s t) s t ts n (λ z h. to ts n z h) e

  -- each step of a beginning acts
  pub acts_to : (schedule : List ℕ) (n : ℕ) → threads_of (source_trace file program schedule) ≡ schedule →
      threads_of (source_trace file program (take n schedule)) ≡ take n schedule
  acts_to schedule n e = to schedule n (start program) e

  -- and a thread acts after it
  pub goes_on : (schedule : List ℕ) (n : ℕ) → n < length schedule →
      threads_of (source_trace file program schedule) ≡ schedule →
      (t : ℕ) × (threads_of (source_trace file program (take n schedule ++ t ∷ [])) ≡ take n schedule ++ t ∷ [])
  goes_on schedule n lt e = (
    get_or schedule n 0,
    subst (λ (ts : List ℕ). threads_of (source_trace file program ts) ≡ ts) (take_more schedule n 0 lt)
        (acts_to schedule (n + 1) e),
  )
