-- Threads that act at once: their steps one after another, and a step of one of them before or after those.
use Rattle.std.proofs.Common.{◌≡◌, ◌≢◌, ◌⊎◌, inl, inr, ℕ, true, false, List, [], ◌∷◌, ◌++◌, refl, sym, ap, ◌∙◌, subst}
use Rattle.std.proofs.lemmas.Bool.{cases_eq}
use Rattle.ls_events.specs.declared.value.Value.{Value}
use Rattle.ls_events.specs.declared.action.Action.{Action}
use Rattle.ls_events.specs.declared.action.Answer.{Answer}
use Rattle.ls_checked.specs.CheckedTree.{File}
use Rattle.ls_meaning.specs.declared.sort.Sort.{Sort}
use Rattle.ls_meaning.specs.declared.step.Did.TheVariants as did
use Rattle.ls_meaning.specs.Store.{Store}
use Rattle.ls_meaning.specs.Effect.{Does, effect}
use Rattle.ls_meaning.specs.Threads.{Goes}
use Rattle.ls_meaning.specs.Still.{IsActing}
use Rattle.ls_search_laws.specs.AtOnce.{Choice, IsReading, ReadsSame}
use Rattle.ls_search_laws.specs.Configuration.{Configuration, Stride, stride}
use Rattle.ls_search_laws.specs.Search.{IsPrompt, LeadsTo}
use Rattle.ls_search_laws.proofs.Reading.{reading_store}
use Rattle.ls_search_laws.proofs.Strides.{Acts, acted, acts_after, acts_before, acts_of, reads_after, same_last}
use Rattle.ls_search_laws.proofs.Strides.{started, stride_by, told}

-- whether a thread is among these
abbrev pub Out : ℕ → List ℕ → Type 0
Out t [] = Unit {0}
Out t (u ∷ us) = (t ≢ u) × Out t us

abbrev pub In : ℕ → List ℕ → Type 0
In t [] = ⊥
In t (u ∷ us) = (u ≡ t) ⊎ ((t ≢ u) × In t us)

pub in_or_out : (t : ℕ) (us : List ℕ) → In t us ⊎ Out t us
in_or_out t [] = inr tt
in_or_out t (u ∷ us) = by_first (cases_eq u t) (in_or_out t us)
  where
    by_first : (u ≡ t) ⊎ (u ≢ t) → In t us ⊎ Out t us → In t (u ∷ us) ⊎ Out t (u ∷ us)
    by_first (inl same) rest = inl (inl same)
    by_first (inr other) (inl there) = inl (inr (λ e. other (sym e), there))
    by_first (inr other) (inr out) = inr (λ e. other (sym e), out)

module _ (quiet : Choice) (file : File) (setup : (a : Action Value) (x : Answer Value) → quiet 0 a x ≡ false)
    (reading : (t : ℕ) (a : Action Value) (x : Answer Value) → quiet t a x ≡ true → IsReading a) where
  -- a thread acts at once
  pub record Quick (s : Configuration) (t : ℕ) : Type 0 where
    pub starts : started s t ≡ true
    pub action : Action Value
    pub sort : Sort
    pub goes : s.continues t [] ≡ Goes action sort
    pub answer : Answer Value
    pub does : effect file.classes s.store t action ≡ Does s.store answer
    pub chosen : quiet t action answer ≡ true

  abbrev acts_at_once : (s : Configuration) (t : ℕ) → Quick s t → Acts file s t
  acts_at_once s t k = record {
    starts = k.starts;
    action = k.action;
    sort = k.sort;
    goes = k.goes;
    store = s.store;
    answer = k.answer;
    does = k.does;
  }

  pub quick_step : (s : Configuration) (t : ℕ) (k : Quick s t) →
      stride file s t ≡ acted s t k.action s.store k.answer
  quick_step s t k = stride_by file s t (acts_at_once s t k)

  quick_after : (s : Configuration) (t : ℕ) (k : Quick s t) →
      (stride file s t).after ≡ told s t s.store k.answer
  quick_after s t k = ap (λ (p : Stride). p.after) (quick_step s t k)

  not_setup : (s : Configuration) (t : ℕ) → Quick s t → t ≢ 0
  not_setup s t k z = not_both (sym (setup k.action k.answer) ∙ subst (λ n. quiet n k.action k.answer ≡ true) z
      k.chosen)
    where
      not_both : false ≡ true → ⊥
      not_both h = cc

  action_is : (a b : Action Value) (x y : Answer Value) → did.Acted a x ≡ did.Acted b y → a ≡ b
  action_is a b x y h = cc

  answer_is : (a b : Action Value) (x y : Answer Value) → did.Acted a x ≡ did.Acted b y → x ≡ y
  answer_is a b x y h = cc

  quick_of : (s : Configuration) (t : ℕ) → IsPrompt quiet file s t → Quick s t
  quick_of s t q =
      let e = acts_of file s t (subst IsActing (sym q.did) tt) in
      let parts : did.Acted e.action e.answer ≡ did.Acted q.action q.answer =
      sym (ap (λ (p : Stride). p.did) (stride_by file s t e)) ∙ q.did in
      let chosen : quiet t e.action e.answer ≡ true =
      subst (λ a. quiet t a e.answer ≡ true) (sym (action_is e.action q.action e.answer q.answer parts))
      (subst (λ x. quiet t q.action x ≡ true) (sym (answer_is e.action q.action e.answer q.answer parts)) q.chosen) in
      record {
        starts = e.starts;
        action = e.action;
        sort = e.sort;
        goes = e.goes;
        answer = e.answer;
        does =
            e.does ∙ ap (λ z. Does z e.answer)
            (reading_store file.classes s.store e.store t e.action e.answer (reading t e.action e.answer chosen)
            e.does);
        chosen = chosen;
      }

  quiet_of : (s : Configuration) (t : ℕ) → Quick s t → IsPrompt quiet file s t
  quiet_of s t k = record {
    action = k.action;
    answer = k.answer;
    did = ap (λ (p : Stride). p.did) (quick_step s t k);
    chosen = k.chosen;
  }

  -- each of these in turn acts at once, and the last state is this one
  abbrev pub Runs : Configuration → List ℕ → Configuration → Type 0
  Runs s [] last = s ≡ last
  Runs s (t ∷ ts) last = (k : Quick s t) × Runs (told s t s.store k.answer) ts last

  pub runs_of : (ts : List ℕ) (s last : Configuration) → LeadsTo quiet file s ts last → Runs s ts last
  runs_of [] s last a = a
  runs_of (t ∷ ts) s last a =
      let k = quick_of s t a.0 in
      (k, subst (λ z. Runs z ts last) (quick_after s t k) (runs_of ts (stride file s t).after last a.1))

  pub ahead_of : (ts : List ℕ) (s last : Configuration) → Runs s ts last → LeadsTo quiet file s ts last
  ahead_of [] s last r = r
  ahead_of (t ∷ ts) s last r = (
    quiet_of s t r.0,
    subst (λ z. LeadsTo quiet file z ts last) (sym (quick_after s t r.0))
        (ahead_of ts (told s t s.store r.0.answer) last r.1),
  )

  pub runs_on : (ts us : List ℕ) (s m last : Configuration) → Runs s ts m → Runs m us last → Runs s (ts ++ us) last
  runs_on [] us s m last r q = subst (λ z. Runs z us last) (sym r) q
  runs_on (t ∷ ts) us s m last r q = (r.0, runs_on ts us (told s t s.store r.0.answer) m last r.1 q)

  runs_store : (ts : List ℕ) (s last : Configuration) → Runs s ts last → last.store ≡ s.store
  runs_store [] s last r = ap (λ (z : Configuration). z.store) (sym r)
  runs_store (t ∷ ts) s last r = runs_store ts (told s t s.store r.0.answer) last r.1

  -- a thread that isn't among them does the same in the last state
  pub record DoesAlso (s q : Configuration) (t : ℕ) (e : Acts file s t) : Type 0 where
    pub acts : Acts file q t
    pub action : acts.action ≡ e.action
    pub store : acts.store ≡ e.store
    pub answer : acts.answer ≡ e.answer

  pub also : (ts : List ℕ) (s q : Configuration) (t : ℕ) →
      Runs s ts q →
      Out t ts →
      (e : Acts file s t) →
      DoesAlso s q t e
  also [] s q t r out e = subst (λ z. DoesAlso s z t e) r (record {
    acts = e;
    action = refl;
    store = refl;
    answer = refl;
  })
  also (u ∷ us) s q t r out e =
      let d = also us (told s u s.store r.0.answer) q t r.1 out.1
      (acts_after file s t u r.0.answer out.0 (not_setup s u r.0) e) in
      record { acts = d.acts; action = d.action; store = d.store; answer = d.answer }

  -- what they read is the same after the step of a thread
  abbrev pub AllSame : ℕ → Store → Store → Type 0
  AllSame t store store' = (u : ℕ) (a : Action Value) (x : Answer Value) → t ≢ u → quiet u a x ≡ true →
      ReadsSame file.classes u a x store store'

  -- so a step of such a thread comes before them
  pub forth : (ts : List ℕ) (s q : Configuration) (t : ℕ) →
      Runs s ts q →
      Out t ts →
      (e : Acts file s t) →
      AllSame t s.store e.store →
      Runs (told s t e.store e.answer) ts (told q t e.store e.answer)
  forth [] s q t r out e same = ap (λ z. told z t e.store e.answer) r
  forth (u ∷ us) s q t r out e same =
      let nz : u ≢ 0 = not_setup s u r.0 in
      let kept : effect file.classes e.store u r.0.action ≡ Does e.store r.0.answer =
      same u r.0.action r.0.answer out.0 r.0.chosen r.0.does in
      let f = reads_after file s t u e (acts_at_once s u r.0) out.0 nz kept in (
        record {
          starts = f.starts;
          action = r.0.action;
          sort = r.0.sort;
          goes = f.goes;
          answer = r.0.answer;
          does = kept;
          chosen = r.0.chosen;
        },
        subst (λ z. Runs z us (told q t e.store e.answer))
            (sym (same_last s t u e.store e.answer r.0.answer out.0))
            (forth us (told s u s.store r.0.answer) q t r.1 out.1
            (acts_after file s t u r.0.answer out.0 nz e) same),
      )

  -- a step of a thread that is among them is one of them
  pub record IsOneOf (s q : Configuration) (t : ℕ) : Type 0 where
    pub quick : Quick s t
    pub others : List ℕ
    pub runs : Runs (told s t s.store quick.answer) others q

  pub back : (ts : List ℕ) (s q : Configuration) (t : ℕ) → Runs s ts q → In t ts → IsOneOf s q t
  back [] s q t r there = absurd there
  back (u ∷ us) s q t r (inl same) =
      subst (IsOneOf s q) same (record { quick = r.0; others = us; runs = r.1 })
  back (u ∷ us) s q t r (inr (ne, there)) =
      let nz : u ≢ 0 = not_setup s u r.0 in
      let d = back us (told s u s.store r.0.answer) q t r.1 there in
      let e = acts_before file s t u r.0.answer ne nz
      (acts_at_once (told s u s.store r.0.answer) t d.quick) in
      let f = reads_after file s t u e (acts_at_once s u r.0) ne nz r.0.does in
      record {
        quick = record {
          starts = e.starts;
          action = d.quick.action;
          sort = d.quick.sort;
          goes = e.goes;
          answer = d.quick.answer;
          does = d.quick.does;
          chosen = d.quick.chosen;
        };
        others = u ∷ d.others;
        runs = (
          record {
            starts = f.starts;
            action = r.0.action;
            sort = r.0.sort;
            goes = f.goes;
            answer = r.0.answer;
            does = r.0.does;
            chosen = r.0.chosen;
          },
          subst (λ z. Runs z d.others q)
              (sym (same_last s t u s.store d.quick.answer r.0.answer ne)) d.runs,
        );
      }
