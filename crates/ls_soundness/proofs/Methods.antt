-- Calls of typed methods, at any depth, ask for actions of the right types, and answer what the methods answer.
use Rattle.std.proofs.Common.{◌≡◌, ℕ, zero, suc, List, ◌∷◌, take, drop, Option, Some, None, refl, sym, subst}
use Rattle.ls_events.specs.declared.kind.Kind.{Kind}
use Rattle.ls_events.specs.declared.kind.Kind.TheVariants.{StackOverflow}
use Rattle.ls_events.specs.declared.action.Action.{Action}
use Rattle.ls_events.specs.declared.action.Action.TheVariants.{Enter}
use Rattle.ls_events.specs.declared.value.Value.{Value}
use Rattle.ls_events.specs.declared.value.ValueType.{ValueType}
use Rattle.ls_events.specs.declared.value.ValueType.TheVariants as types
use Rattle.ls_checked.specs.CheckedTree.{File, Method}
use Rattle.ls_meaning.specs.declared.sort.Sort.{Sort}
use Rattle.ls_meaning.specs.declared.sort.Sort.TheVariants.{NoValue}
use Rattle.ls_meaning.specs.declared.completion.Completion.{Completion}
use Rattle.ls_meaning.specs.declared.completion.Completion.TheVariants.{Normal, Broke, Continued, Returned, Threw}
use Rattle.ls_meaning.specs.Course.{Answers}
use Rattle.ls_meaning.specs.Expressions.{Calls}
use Rattle.ls_meaning.specs.Statements.{Executed, AsksFor, Completes, execute}
use Rattle.ls_meaning.specs.Methods.{frame, answer_without, leave, run_body, invoke}
use Rattle.ls_types_judgement.specs.Sorts.{HasType, HasSort, HaveTypes}
use Rattle.ls_types_judgement.specs.Typing.{IsTypedMethod, IsTypedFile, answer_sort, parameters_of}
use Rattle.ls_meaning.proofs.Shorter.{CallsWithin, invoke_within}
use Rattle.ls_soundness.proofs.Values.{start_has}
use Rattle.ls_meaning.proofs.Followers.{ends, Follower, finish_by}
use Rattle.ls_soundness.proofs.Ways.{Way, Sure, sure_same, Good, throws_good, then_good, tell_fits}
use Rattle.ls_soundness.proofs.Locals.{Locals, Starts, starts_of, frame_locals}
use Rattle.ls_soundness.proofs.Expressions.{CallsGood}
use Rattle.ls_refs.proofs.Stmts.{CompletionHas}
use Rattle.ls_soundness.proofs.Statements.{good_by}

abbrev on_leave : {X : Type 0} → Option ValueType → (Value → Answers → X) → (Kind → Answers → X) → Follower X
on_leave r go h Normal ls q = go (answer_without r) q
on_leave r go h (Broke n) ls q = go (answer_without r) q
on_leave r go h (Continued n) ls q = go (answer_without r) q
on_leave r go h (Returned None) ls q = go (answer_without r) q
on_leave r go h (Returned (Some v)) ls q = go v q
on_leave r go h (Threw k) ls q = h k q

leave_by : {X : Type 0} (asks : Action Value → Sort → X) (r : Option ValueType) (x : Executed)
    (go : Value → Answers → X) (h : Kind → Answers → X) →
    ends asks (leave r x) go h ≡ finish_by asks x (on_leave r go h)
leave_by asks r (AsksFor a s) go h = refl
leave_by asks r (Completes Normal ls q) go h = refl
leave_by asks r (Completes (Broke n) ls q) go h = refl
leave_by asks r (Completes (Continued n) ls q) go h = refl
leave_by asks r (Completes (Returned None) ls q) go h = refl
leave_by asks r (Completes (Returned (Some v)) ls q) go h = refl
leave_by asks r (Completes (Threw k) ls q) go h = refl

module _ (P : ℕ → ValueType → Type 0) (null : (n : ℕ) (t : ValueType) → n ≡ 0 → P n t) (file : File) (w : Way P file)
  where
    without_has : (r : Option ValueType) → HasSort P (answer_sort r) (answer_without r)
    without_has None = refl
    without_has (Some t) = start_has P null t

    body_good : (calls : Calls) →
        CallsGood P file w calls →
        CallsWithin calls →
        (m : Method) (o : Value) (vs : List Value) →
        IsTypedMethod file m →
        HasType P o (types.Class m.class) →
        HaveTypes P (parameters_of m) vs →
        Good P file w (HasSort P (answer_sort m.result)) (λ q. run_body file calls (Some m) (o ∷ vs) q)
    body_good calls called within m o vs t ho hvs = record {
      good = λ go h kg kh.
          let cut : HaveTypes P (take m.parameters t.locals) vs = subst
          (λ (z : List ValueType). HaveTypes P (take m.parameters (drop 1 z)) vs) t.this hvs in
          let starts : Starts P (o ∷ vs) m.slots = subst (λ z. Starts P (o ∷ vs) z) (sym t.this)
          (ho, starts_of P vs m.parameters t.locals cut) in
          sure_same P file w _ _ (λ q. leave_by w.asks m.result
          (execute file.classes calls m.body (frame m.slots (o ∷ vs)) q) go h)
          ((good_by P null file w calls called within m.slots m.result m.body (frame m.slots (o ∷ vs)) t.body
          (frame_locals P null (o ∷ vs) m.slots starts)).good (on_leave m.result go h) (goes go h kg kh));
    }
      where
        goes : (go : Value → Answers → w.Left) (h : Kind → Answers → w.Left) →
            ((v : Value) → HasSort P (answer_sort m.result) v → Sure P file w (go v)) →
            ((k : Kind) → Sure P file w (h k)) →
            (c : Completion Value) (ls : List Value) → CompletionHas P m.result c → Locals P m.slots ls →
            Sure P file w (on_leave m.result go h c ls)
        goes go h kg kh Normal ls hc hh = kg (answer_without m.result) (without_has m.result)
        goes go h kg kh (Broke n) ls hc hh = kg (answer_without m.result) (without_has m.result)
        goes go h kg kh (Continued n) ls hc hh = kg (answer_without m.result) (without_has m.result)
        goes go h kg kh (Returned None) ls hc hh = kg (answer_without m.result) (without_has m.result)
        goes go h kg kh (Returned (Some v)) ls hc hh = kg v (subst (λ r. HasSort P (answer_sort r) v) (sym hc.1) hc.2)
        goes go h kg kh (Threw k) ls hc hh = kh k

    -- calls of the methods of a typed file, at any depth
    pub calls_good : IsTypedFile file → (d : ℕ) → CallsGood P file w (invoke file d)
    unfolding invoke
    calls_good t zero n m o vs e ho hvs = throws_good P file w (HasSort P (answer_sort m.result)) StackOverflow
    calls_good t (suc d) n m o vs e ho hvs =
        then_good P file w _ _ _ _ (tell_fits P file w (Enter n) (w.fits (Enter n) NoValue refl)) (λ v hv.
        subst (λ z. Good P file w (HasSort P (answer_sort m.result)) (λ q. run_body file (invoke file d) z (o ∷ vs) q))
        (sym e)
        (body_good (invoke file d) (calls_good t d) (invoke_within file d) m o vs (t n m e) ho hvs))
