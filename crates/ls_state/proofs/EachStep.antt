-- Scenes step by step, and a text for each step.
use Rattle.std.proofs.Common.{◌≡◌, ℕ, ◌+◌, ◌<◌, ◌≤◌, Bool, true, false, List, [], ◌∷◌, ◌++◌, refl, sym, ap, ◌∙◌, arith}
use Rattle.std.proofs.Common.{zero, suc}
use Rattle.std.specs.Prelude.{filter, flat_map, nat_le, if◌then◌else◌}
use Rattle.std.specs.List.{range_with_len}
use Rattle.std.proofs.lemmas.List.{append-nil}
use Rattle.std.proofs.lemmas.List.Elements.{filter-append, filter_map-append}
use Rattle.std.proofs.lemmas.Grind.{flat_map-append}
use Rattle.std.proofs.lemmas.Bool.Decides.{nat_tests}
use Rattle.ls_events.specs.declared.value.Value.{Value}
use Rattle.ls_events.specs.declared.event.Event.{Event}
use Rattle.ls_meaning.specs.declared.step.Did.{Did}
use Rattle.ls_meaning.specs.Steps.{Entry, Stepped, Same, Moved, Acted, after, traced, run, trace}
use Rattle.ls_meaning.specs.Runs.{State, Step, event_of, history_of, source_step, source_run, source_trace, start}
use Rattle.ls_meaning.specs.Runs.{stepped, step}
use Rattle.ls_report.specs.Events.{Text}
use Rattle.ls_labels.specs.declared.label.Label.{Label}
use Rattle.ls_labels.specs.Labels.{label_of, labels_of}
use Rattle.ls_labels.specs.Names.{Names}
use Rattle.ls_source.specs.Progress.{Progress, gone_on}
use Rattle.ls_state.specs.Each.{each_from}
use Rattle.ls_state.specs.Scene.{Scene, made_by, scene_after, scene_of}
use Rattle.ls_state.proofs.Steps.{after_step_is, label_first, step_is}

-- ---- one step more at the end of a schedule

run_more : {S L : Type 0} (does : S → ℕ → Stepped S L) (s : S) (ts : List ℕ) (t : ℕ)
    → run does s (ts ++ t ∷ []) ≡ after (run does s ts) (does (run does s ts) t)
run_more does s [] t = refl
run_more does s (u ∷ us) t = run_more does (after s (does s u)) us t

traced-append : {S L : Type 0} (d : Stepped S L) (xs ys : List L) → traced d (xs ++ ys) ≡ traced d xs ++ ys
traced-append Same xs ys = refl
traced-append (Moved s) xs ys = refl
traced-append (Acted s line) xs ys = refl

trace_more : {S L : Type 0} (does : S → ℕ → Stepped S L) (s : S) (ts : List ℕ) (t : ℕ)
    → trace does s (ts ++ t ∷ []) ≡ trace does s ts ++ traced (does (run does s ts) t) []
trace_more does s [] t = refl
trace_more does s (u ∷ us) t =
    ap (traced (does s u)) (trace_more does (after s (does s u)) us t)
    ∙ traced-append (does s u) (trace does (after s (does s u)) us)
    (traced (does (run does (after s (does s u)) us) t) [])

abbrev scene : State → List Label → List Event → Scene
scene s ls es = record { state = s; labels = ls; history = es }

same_scene : (s s' : State) (ls ls' : List Label) (es es' : List Event) →
    s ≡ s' →
    ls ≡ ls' →
    es ≡ es' →
    scene s ls es ≡ scene s' ls' es'
same_scene s s' ls ls' es es' a b c = ap (λ x. scene x ls es) a ∙ ap (λ x. scene s' x es) b ∙ ap (λ x. scene s' ls' x) c

pub scene_of_more : (names : Names) (ts : List ℕ) (t : ℕ) →
    scene_of names (ts ++ t ∷ []) ≡ scene_after names (scene_of names ts) t
scene_of_more names ts t =
    let does : State → ℕ → Stepped State (Entry Value) = source_step names.file names.program in
    let s : State = source_run names.file names.program ts in
    let entries : List (Entry Value) = source_trace names.file names.program ts in
    let more = trace_more does (start names.program) ts t in
    let st : Step = step names.file names.program s t in
    same_scene (source_run names.file names.program (ts ++ t ∷ [])) st.after _ (labels_of entries ++ made_by st.did) _
    (history_of entries ++ history_of (traced (does s t) []))
    (run_more does (start names.program) ts t ∙ after_step_is names.file names.program s t)
    (ap labels_of more ∙ filter_map-append (λ e. label_of e.action) entries (traced (does s t) [])
    ∙ ap (λ l. labels_of entries ++ l) (label_first t st.did st.after [] ∙ append-nil (made_by st.did)))
    (ap history_of more ∙ filter_map-append (λ e. event_of e.thread e.action) entries (traced (does s t) []))

-- what a step leaves
pub scene_step : (names : Names) (r r' : Progress) (ls ls' : List Label) (x : Did) (t : ℕ) →
    r.file ≡ names.file →
    r.program ≡ names.program →
    r' ≡ gone_on r t → x ≡ (step r.file r.program r.state t).did → ls' ≡ ls ++ made_by x →
    scene r'.state ls' r'.history ≡ scene_after names (scene r.state ls r.history) t
scene_step names r r' ls ls' x t file program is did made =
    let st = step_is r names.file names.program t file program in
    same_scene _ _ _ _ _ _ (ap (λ q. q.state) is ∙ ap (λ q. q.after) st)
    (made ∙ ap (λ q. ls ++ made_by q) (did ∙ ap (λ q. q.did) st))
    (ap (λ q. q.history) is ∙ ap (λ q. r.history ++ history_of (traced (stepped t q.did q.after) [])) st)

-- ---- a text for each step

range_more : (a n j : ℕ) → a + n ≡ j → range_with_len a (suc n) ≡ range_with_len a n ++ j ∷ []
range_more a zero j e = let same : a ≡ j = omega (arith, e) in ap (λ k. k ∷ []) same
range_more a (suc n) j e = ap (λ l. a ∷ l) (range_more (a + 1) n j (omega (arith, e)))

-- the text of a step, if it is shown
abbrev pub shown_if : Bool → Text → Text
shown_if is_shown text = if is_shown then text else []

one_text : (text : ℕ → Text) (p : ℕ → Bool) (j : ℕ) → flat_map text (filter p (j ∷ [])) ≡ shown_if (p j) (text j)
one_text text p j = by_test (p j)
  where
    by_test : (b : Bool) → flat_map text (if b then j ∷ [] else []) ≡ shown_if b (text j)
    by_test true = append-nil (text j)
    by_test false = refl

pub each_more : (text : ℕ → Text) (from i : ℕ) (b : Bool) (out out' : Text) →
    b ≡ nat_le from (i + 1) →
    out' ≡ out ++ shown_if b (text (i + 1)) →
    out ≡ each_from text from i → out' ≡ each_from text from (i + 1)
each_more text from i b out out' test more h =
    let p : ℕ → Bool = nat_le from in
    let on : i + 1 ≡ suc i = omega arith in
    let range : range_with_len 1 (i + 1) ≡ range_with_len 1 i ++ (i + 1) ∷ [] = ap (range_with_len 1) on ∙
    range_more 1 i (i + 1) (omega arith) in
    more
    ∙ ap (λ x. x ++ shown_if b (text (i + 1))) h
    ∙ ap (λ x. each_from text from i ++ shown_if x (text (i + 1))) test
    ∙ ap (λ x. each_from text from i ++ x) (sym (one_text text p (i + 1)))
    ∙ sym (flat_map-append text (filter p (range_with_len 1 i)) (filter p ((i + 1) ∷ [])))
    ∙ ap (flat_map text) (sym (filter-append p (range_with_len 1 i) ((i + 1) ∷ [])))
    ∙ ap (λ l. flat_map text (filter p l)) (sym range)

pub is_shown : (from j : ℕ) (out text : Text) → from ≤ j → out ++ text ≡ out ++ shown_if (nat_le from j) text
is_shown from j out text h =
    let b : nat_le from j ≡ true = grind (arith, nat_tests) in
    rw b refl

pub is_hidden : (from j : ℕ) (out text : Text) → j < from → out ≡ out ++ shown_if (nat_le from j) text
is_hidden from j out text h =
    let b : nat_le from j ≡ false = grind (arith, nat_tests) in
    rw b (sym (append-nil out))
