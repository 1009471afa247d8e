-- An action that a machine and the source that it follows both perform.
use Rattle.std.proofs.Common.{◌≡◌, ℕ, zero, suc, ◌≤◌, ◌≢◌, Bool, true, List, [], ◌∷◌, ◌++◌, length, Option, Some, None}
use Rattle.std.proofs.Common.{sym, ap, ◌∙◌, subst, arith, slice_get, slice_set, if◌then◌else◌}
use Rattle.ls_events.specs.declared.event.Event.{Event}
use Rattle.ls_events.specs.declared.value.Value.{Value}
use Rattle.ls_events.specs.declared.value.ValueType.{ValueType}
use Rattle.ls_events.specs.declared.action.Action.{Action}
use Rattle.ls_events.specs.declared.action.Answer.{Answer}
use Rattle.ls_meaning.specs.declared.sort.Sort.{Sort}
use Rattle.ls_meaning.specs.Course.{Answers}
use Rattle.ls_meaning.specs.Store.{Store}
use Rattle.ls_meaning.specs.Effect.{Does, effect}
use Rattle.ls_meaning.specs.Threads.{Goes, next}
use Rattle.ls_meaning.specs.Steps.{Acted}
use Rattle.ls_meaning.specs.Runs.{State, answers_of, has_started, performed, idle, step_of, stepped, source_step}
use Rattle.ls_code.specs.Thread.{Thread}
use Rattle.ls_code.specs.Cells.{Cells}
use Rattle.ls_code.specs.Fed.{Paused}
use Rattle.ls_code.specs.Reading.{quiet_from}
use Rattle.ls_preservation.proofs.Setting.{Setting}
use Rattle.ls_preservation.proofs.Others.{Sees, sees_kept}
use Rattle.ls_preservation.proofs.Middle.{Middle, middle_kept}
use Rattle.ls_code.specs.Machine.{Machine, started}
use Rattle.ls_preservation.specs.InWords.{written, map_answer}
use Rattle.ls_preservation.specs.Sorts.{Names, Refers, ActionHas, Suits, Known}
use Rattle.ls_preservation.proofs.Lists.{set_here, index_there, get_within, each_set, map_end, length-set}
use Rattle.ls_preservation.proofs.Feeding.{IsLoud, told_one, stand-append}
use Rattle.ls_preservation.proofs.Cells.{AgreeTo}
use Rattle.ls_preservation.proofs.Effects.{Extends, refers_more, things_length, renaming}
use Rattle.ls_preservation.proofs.Effects as effects
use Rattle.ls_preservation.proofs.Answers.{suited_end, suited_more, answer_agree, answers_agree, action_agree, says}
use Rattle.ls_preservation.proofs.Following.{line, line_in, told_to, went, entry_same}
use Rattle.ls_preservation.proofs.Following

module _ (setting : Setting) where
  open setting use {file, program, code, room}
  open Following.notions setting use {named, names, bound, StoreHolds, stands, words, fed_to, Each, Follows, InWords}
  open Following.notions setting use {Live, Later, write, acts_as}

  names_more : (σ σ' : List ValueType) → Extends σ σ' → (n : ℕ) (q : ValueType) → Names σ n q → Names σ' n q
  names_more σ σ' e zero q h = absurd h
  names_more σ σ' e (suc n) q h = e n q h

  names_within : (σ : List ValueType) (n : ℕ) (q : ValueType) → Names σ n q → n ≤ length σ
  names_within σ zero q h = absurd h
  names_within σ (suc n) q h = get_within σ n q h

  -- what another thread's action leaves of a thread
  each_more : (σ σ' : List ValueType) (st st' : Store) (c c' : Cells) →
      StoreHolds σ st c →
      StoreHolds σ' st' c' →
      Extends σ σ' →
      AgreeTo (length σ) (renaming names st) (renaming names st') →
      (t : ℕ) (a : Action Value) (y : Answer Value) →
      effect file.classes st t a ≡ Does st' y →
      (u : ℕ) →
      u ≢ t →
      (o : Option Answers) (p : Option Thread) →
      Each c σ (renaming names st) u o p →
      Each c' σ' (renaming names st') u o p
  each_more σ σ' st st' c c' holds holds' e ag t a y does u d None None h = tt
  each_more σ σ' st st' c c' holds holds' e ag t a y does u d None (Some x) h = absurd h
  each_more σ σ' st st' c c' holds holds' e ag t a y does u d (Some had) None h = absurd h
  each_more σ σ' st st' c c' holds holds' e ag t a y does u d (Some had) (Some x) h = (
    h.0,
    h.1,
    suited_more (Refers σ) (Refers σ') (refers_more σ σ' e) (next file program u) had h.2,
    h.3,
    h.4 ∙ ap (fed_to u h.0) (answers_agree σ (renaming names st) (renaming names st') ag (next file program u) had h.2),
    middle_kept code c u h.3 x c' (λ runs b go lock w em on sees.
        let l = Following.lock_of setting σ st c holds u had x h runs b go em lock on in
        subst (λ z. Sees c' u z w) l.4
        (sees_kept file.classes named code.sizes room σ σ' st st' c c' holds holds' u t (λ z. d (sym z)) a y does l.0
        l.1 l.2 l.3 (names_more σ σ' e l.0 l.1 l.3) (ag l.0 (names_within σ l.0 l.1 l.3)) w
        (subst (λ z. Sees c u z w) (sym l.4) sees))) h.5,
  )

  -- a thread goes on, and the source stays in its place
  pub went_on : (s : State) (m : Machine) (h : Follows s m) (t : ℕ) (had : Answers) (x x' : Thread) (stopped : Bool)
      (events : List Event) →
      slice_get s.answers t ≡ Some had →
      slice_get m.threads t ≡ Some x →
      Each m.cells h.sorts (renaming names s.store) t (Some had) (Some x') →
      Follows s (went m t x' m.cells stopped events)
  went_on s m h t had x x' stopped events at there each' = record {
    sorts = h.sorts;
    same_code = h.same_code;
    holds = h.holds;
    count = h.count;
    each = λ u. subst (λ l. Each m.cells h.sorts (renaming names s.store) u (slice_get l u)
        (slice_get (slice_set m.threads t x') u)) (set_here s.answers t had at)
        (each_set (Each m.cells h.sorts (renaming names s.store)) s.answers m.threads t had had x x' at there
        (λ v d. h.each v) each' u);
  }

  -- both perform the same action
  pub both_act : (s : State) (m : Machine) (h : Follows s m) (t : ℕ) (had : Answers) (x : Thread) →
      slice_get s.answers t ≡ Some had →
      slice_get m.threads t ≡ Some x →
      (each : Each m.cells h.sorts (renaming names s.store) t (Some had) (Some x)) →
      (a : Action Value) (q : Sort) →
      next file program t had ≡ Goes a q →
      ActionHas file program h.sorts t a q →
      (go : Answer ℕ → Option Thread) →
      stands t each.3 ≡ Paused (acts_as s a) go →
      (st' : Store) (y : Answer Value) (c' : Cells) (w : Answer ℕ) →
      effect file.classes s.store t a ≡ Does st' y →
      (x_of : Thread → Thread) →
      ((y' : Thread) → go w ≡ Some y' → IsLoud (stands t y') →
      (y'' : Thread) × (stands t y'' ≡ stands t y') × Middle code c' t y'' (x_of y')) →
      effects.Done file.classes named code.sizes room h.sorts s.store a q st' y c' w →
      (y' : Thread) × (go w ≡ Some y') × ((stopped : Bool) (events : List Event) →
      Follows (told_to s t had st' y) (went m t (x_of y') c' stopped events)) ×
      (line_in t (acts_as s a) w ≡ write (told_to s t had st' y) (line t a y)) ×
      Live (told_to s t had st' y) (line t a y) × Later s (told_to s t had st' y)
  both_act s m h t had x at there each a q goes has go acts st' y c' w does x_of mid done =
      let σ = h.sorts in
      let σ' = done.sorts in
      let ρ = renaming names s.store in
      let ρ' = renaming names st' in
      let long : length σ ≡ length s.store.things = things_length file.classes σ s.store.things σ h.holds.typed in
      let long' : length σ' ≡ length st'.things = things_length file.classes σ' st'.things σ' done.holds.typed in
      let agree : AgreeTo (length σ) ρ ρ' = λ n le. done.grows.places n (omega arith) in
      let known : Known file program σ' t (had ++ y ∷ []) = suited_end (Refers σ') (next file program t) had y
      (suited_more (Refers σ) (Refers σ') (refers_more σ σ' done.extends) (next file program t) had each.2)
      (subst (λ d. Suits (Refers σ') d y) (sym goes) done.suits) in
      let said : words ρ' (had ++ y ∷ []) ≡ words ρ had ++ w ∷ [] =
      map_end (map_answer (written ρ')) had y ∙ ap (λ l. l ++ map_answer (written ρ') y ∷ [])
      (sym (answers_agree σ ρ ρ' agree (next file program t) had each.2)) ∙
      ap (λ z. words ρ had ++ z ∷ []) (sym done.word) in
      let way : fed_to t each.0 (words ρ' (had ++ y ∷ [])) ≡ quiet_from code t bound (go w) =
      ap (fed_to t each.0) said ∙ stand-append code t bound (words ρ had) w (stands t (started each.0)) ∙
      ap (λ z. told_one code t bound z w) (sym each.4 ∙ acts) in
      let leads = Following.some_thread setting ρ' t (next file program t (had ++ y ∷ [])) (go w)
      (subst (λ z. InWords ρ' (next file program t (had ++ y ∷ [])) z) way
      (Following.asks_words setting σ' st' c' done.holds t each.0 (had ++ y ∷ []) each.1 known)) in
      let way' : stands t leads.0 ≡ fed_to t each.0 (words ρ' (had ++ y ∷ [])) = sym
      (way ∙ ap (λ o. quiet_from code t bound o) leads.1) in
      let loud : IsLoud (stands t leads.0) = subst IsLoud (sym way')
      (Following.in_words_loud setting ρ' (next file program t (had ++ y ∷ [])) _
      (Following.asks_words setting σ' st' c' done.holds t each.0 (had ++ y ∷ []) each.1 known)) in
      let mids = mid leads.0 leads.1 loud in (
        leads.0,
        leads.1,
        (λ stopped events. record {
          sorts = σ';
          same_code = h.same_code;
          holds = done.holds;
          count = length-set s.answers t (had ++ y ∷ []) ∙ h.count;
          each = each_set (Each c' σ' ρ') s.answers m.threads t had (had ++ y ∷ []) x (x_of leads.0) at there
              (λ u d. each_more σ σ' s.store st' m.cells c' h.holds done.holds done.extends agree t a y does u d
              (slice_get s.answers u) (slice_get m.threads u) (h.each u))
              (each.0, each.1, known, mids.0, mids.1 ∙ way', mids.2);
        }),
        entry_same t _ _ _ _ (action_agree file program σ ρ ρ' agree t a q has) done.word,
        (
          (λ ρ2 ag. entry_same t _ _ _ _ (action_agree file program σ ρ' ρ2
              (λ n le. ag n (omega (arith, done.grows.things))) t a q has)
              (answer_agree σ' ρ' ρ2 (λ n le. ag n (omega arith)) (Goes a q) y done.suits)),
          says file program σ t a q has,
        ),
        done.grows,
      )

  -- a step of the source, from its parts
  pub source_acts : (s : State) (t : ℕ) (had : Answers) (a : Action Value) (q : Sort) (st' : Store) (y : Answer Value) →
      has_started file program s t ≡ true →
      slice_get s.answers t ≡ Some had →
      next file program t had ≡ Goes a q →
      effect file.classes s.store t a ≡ Does st' y →
      source_step file program s t ≡ Acted (told_to s t had st' y) (line t a y)
  source_acts s t had a q st' y start at goes does =
      let here : answers_of s t ≡ had = index_there s.answers t had [] at in
      ap (λ z. stepped t z.did z.after)
      (ap (λ b. if b then step_of file s t (next file program t (answers_of s t)) else idle s) start
      ∙ ap (step_of file s t) (ap (next file program t) here ∙ goes) ∙ ap (performed s t a) does)
      ∙ ap (λ l. Acted (told_to s t l st' y) (line t a y)) here
