-- The words of calls of typed methods ask what the calls ask, at any depth.
use Rattle.std.proofs.Common.{◌≡◌, ℕ, zero, suc, ◌+◌, ◌-◌, ◌<◌, ◌^◌, List, [], ◌∷◌, ◌++◌, length, map, take, drop}
use Rattle.std.proofs.Common.{replicate, Option, Some, None, refl, sym, ap, ◌∙◌, subst, arith}
use Rattle.std.specs.Prelude.{slice_get}
use Rattle.ls_events.specs.declared.kind.Kind.{Kind}
use Rattle.ls_events.specs.declared.kind.Kind.TheVariants.{StackOverflow}
use Rattle.ls_events.specs.declared.action.Action.TheVariants.{Enter}
use Rattle.ls_events.specs.declared.value.Value.{Value}
use Rattle.ls_events.specs.declared.value.ValueType.{ValueType}
use Rattle.ls_events.specs.declared.value.ValueType.TheVariants as types
use Rattle.ls_checked.specs.CheckedTree.{File, Method}
use Rattle.ls_meaning.specs.declared.sort.Sort.{Sort}
use Rattle.ls_meaning.specs.declared.completion.Completion.{Completion}
use Rattle.ls_meaning.specs.declared.completion.Completion.TheVariants.{Normal, Broke, Continued, Returned, Threw}
use Rattle.ls_meaning.specs.Course.{Answers, Evaluated, Asks, Results, Throws}
use Rattle.ls_meaning.specs.Expressions.{Calls}
use Rattle.ls_meaning.specs.Statements.{Executed, AsksFor, Completes, execute}
use Rattle.ls_meaning.specs.Methods.{frame, answer_without, leave, run_body, enter, invoke}
use Rattle.ls_lowered.specs.Course as low
use Rattle.ls_lowered.specs.Statements as does
use Rattle.ls_lowered.specs.Methods as courses
use Rattle.ls_lowered.specs.Methods.{invoke as word_invoke}
use Rattle.ls_refs.specs.ValueWords.{value_word, IsSmall}
use Rattle.ls_types_judgement.specs.Sorts.{HasType, HasSort, HaveTypes}
use Rattle.ls_types_judgement.specs.Typing.{IsTypedMethod, IsTypedFile, answer_sort, parameters_of}
use Rattle.ls_refs.specs.Temporaries.{statement_temporaries}
use Rattle.ls_refs.specs.Lowered.{lowered_statement, lowered_method, lowered_file}
use Rattle.ls_refs.specs.Laws.{AsksAsFile, answer_words, in_words, Suited}
use Rattle.ls_refs.proofs.Sim.{ends, word_ends, Sim, sim_eq, Agrees, throws_agrees, Kept, kept_refl}
use Rattle.ls_refs.proofs.Good.{Holds, CallsAgree}
use Rattle.ls_refs.proofs.Frames.{start_word, start_has, Starts, starts_of, as_long, frame_holds, frame_room}
use Rattle.ls_meaning.proofs.Shorter.{CallsWithin, invoke_within}
use Rattle.ls_refs.proofs.Stmts.{Go, GoWord, finish_by, completion_word, CompletionHas, agrees_by}

abbrev on_leave : Option ValueType → (Value → Answers → Evaluated Value) → (Kind → Answers → Evaluated Value) → Go
on_leave r go h Normal ls q = go (answer_without r) q
on_leave r go h (Broke n) ls q = go (answer_without r) q
on_leave r go h (Continued n) ls q = go (answer_without r) q
on_leave r go h (Returned None) ls q = go (answer_without r) q
on_leave r go h (Returned (Some v)) ls q = go v q
on_leave r go h (Threw k) ls q = h k q

leave_by : (r : Option ValueType) (x : Executed) (go : Value → Answers → Evaluated Value)
    (h : Kind → Answers → Evaluated Value) →
    ends (leave r x) go h ≡ finish_by x (on_leave r go h)
leave_by r (AsksFor a s) go h = refl
leave_by r (Completes Normal ls q) go h = refl
leave_by r (Completes (Broke n) ls q) go h = refl
leave_by r (Completes (Continued n) ls q) go h = refl
leave_by r (Completes (Returned None) ls q) go h = refl
leave_by r (Completes (Returned (Some v)) ls q) go h = refl
leave_by r (Completes (Threw k) ls q) go h = refl

abbrev on_given : List ℕ → (ℕ → List ℕ → low.Answers → low.Told) → (Kind → List ℕ → low.Answers → low.Told) → GoWord
on_given old go h c l q = word_ends (low.returned old (courses.given c q)) go h

given_by : (old : List ℕ) (x : low.Course does.Completion) (go : ℕ → List ℕ → low.Answers → low.Told)
    (h : Kind → List ℕ → low.Answers → low.Told) →
    word_ends (low.returned old (courses.told x (λ c l q. courses.given c q))) go h ≡ courses.told x (on_given old go h)
given_by old (low.Asks a) go h = refl
given_by old (low.Ends c l q) go h = refl
given_by old low.Stuck go h = refl

get_map : {A B : Type 0} (f : A → B) (xs : List A) (n : ℕ) (x : A) →
    slice_get xs n ≡ Some x →
    slice_get (map f xs) n ≡ Some (f x)
get_map f [] n x e = absurd (none e)
  where
    none : {A : Type 0} {x : A} → None ≡ Some x → ⊥
    none e = cc
get_map {A} {B} f (y ∷ xs) zero x e = ap (option f) e
  where
    option : (A → B) → Option A → Option B
    option f None = None
    option f (Some z) = Some (f z)
get_map f (y ∷ xs) (suc n) x e = get_map f xs n x e

module _ (P : ℕ → ValueType → Type 0) (null : (n : ℕ) (t : ValueType) → n ≡ 0 → P n t)
    (small : (n : ℕ) (t : ValueType) → P n t → n < 2 ^ 32) (file : File) where
  -- a body without a value gives its caller the word 0
  without_has : (r : Option ValueType) → HasSort P (answer_sort r) (answer_without r)
  without_has None = refl
  without_has (Some t) = start_has P null t

  without_word : (r : Option ValueType) → value_word (answer_without r) ≡ 0
  without_word None = refl
  without_word (Some t) = start_word t

  body_agrees : (calls : Calls) (calls' : low.Calls) →
      CallsAgree P file calls calls' →
      CallsWithin calls →
      (base : ℕ) (old : List ℕ) (m : Method) (o : Value) (vs : List Value) →
      IsTypedMethod file m →
      HasType P o (types.Class m.class) →
      HaveTypes P (parameters_of m) vs →
      Agrees P (HasSort P (answer_sort m.result)) value_word base old (λ q. run_body file calls (Some m) (o ∷ vs) q)
      (λ q. low.returned old (courses.run_body calls' (Some (lowered_method file.classes m))
      (map value_word (o ∷ vs)) q))
  body_agrees calls calls' called within base old m o vs t ho hvs = record {
    sim = λ go h go' h' kg kh.
        let classes = file.classes in
        let k = length m.slots + statement_temporaries m.body - (m.parameters + 1) in
        let start = map value_word (o ∷ vs) ++ replicate k 0 in
        let cut : HaveTypes P (take m.parameters t.locals) vs = subst
        (λ (z : List ValueType). HaveTypes P (take m.parameters (drop 1 z)) vs) t.this hvs in
        let fits : Starts P null (o ∷ vs) m.slots = subst (λ z. Starts P null (o ∷ vs) z) (sym t.this)
        (ho, starts_of P null vs m.parameters t.locals cut) in
        let long : length vs ≡ m.parameters = as_long P null vs m.parameters t.locals t.parameters cut in
        let wide : length m.slots ≡ suc (length t.locals) = ap length t.this in
        let room : length start ≡ length m.slots + statement_temporaries m.body = frame_room (o ∷ vs) k ∙
        omega (arith, long, wide, t.parameters) in
        sim_eq P _ _ _ _ (λ q. leave_by m.result (execute classes calls m.body (frame m.slots (o ∷ vs)) q) go h)
        (λ q. given_by old (does.execute calls' (lowered_statement classes (length m.slots) m.body) start q) go' h')
        ((agrees_by P null small file calls calls' called within m.slots m.result
        (length m.slots + statement_temporaries m.body) m.body (length m.slots) (frame m.slots (o ∷ vs)) start
        t.body (frame_holds P null (o ∷ vs) m.slots k fits) room (omega arith) (omega arith)).sim
        (on_leave m.result go h) (on_given old go' h') (goes go h go' h' kg kh));
  }
    where
      started : (go : Value → Answers → Evaluated Value) (go' : ℕ → List ℕ → low.Answers → low.Told) →
          ((v : Value) (ls : List ℕ) → HasSort P (answer_sort m.result) v → Kept base old ls →
          Sim P (go v) (go' (value_word v) ls)) →
          Sim P (go (answer_without m.result)) (go' 0 old)
      started go go' kg = subst (λ w. Sim P (go (answer_without m.result)) (go' w old)) (without_word m.result)
          (kg (answer_without m.result) old (without_has m.result) (kept_refl base old))

      goes : (go : Value → Answers → Evaluated Value) (h : Kind → Answers → Evaluated Value)
          (go' : ℕ → List ℕ → low.Answers → low.Told) (h' : Kind → List ℕ → low.Answers → low.Told) →
          ((v : Value) (ls : List ℕ) → HasSort P (answer_sort m.result) v → Kept base old ls →
          Sim P (go v) (go' (value_word v) ls)) →
          ((k : Kind) (ls : List ℕ) → Kept base old ls → Sim P (h k) (h' k ls)) →
          (c : Completion Value) (ls : List Value) (l : List ℕ) → CompletionHas P m.result c → Holds P m.slots ls l →
          length l ≡ length m.slots + statement_temporaries m.body →
          Sim P (on_leave m.result go h c ls) (on_given old go' h' (completion_word c) l)
      goes go h go' h' kg kh Normal ls l hc hh e = started go go' kg
      goes go h go' h' kg kh (Broke n) ls l hc hh e = started go go' kg
      goes go h go' h' kg kh (Continued n) ls l hc hh e = started go go' kg
      goes go h go' h' kg kh (Returned None) ls l hc hh e = started go go' kg
      goes go h go' h' kg kh (Returned (Some v)) ls l hc hh e = kg v old
          (subst (λ r. HasSort P (answer_sort r) v) (sym hc.1) hc.2) (kept_refl base old)
      goes go h go' h' kg kh (Threw k) ls l hc hh e = kh k old (kept_refl base old)

  -- entering is one action, which is always done
  enter_agrees : (base : ℕ) (old : List ℕ) (s : Sort) (calls : Calls) (n : ℕ) (vs : List Value)
      (k' : low.Answers → low.Told) →
      Agrees P (HasSort P s) value_word base old (λ q. run_body file calls (slice_get file.methods n) vs q)
      (λ q. low.returned old (k' q)) → Agrees P (HasSort P s) value_word base old (λ q. enter file calls n vs q)
      (λ q. low.returned old (courses.enter (Enter n) q k'))
  enter_agrees base old s calls n vs k' a = record { sim = λ go h go' h' kg kh. record { is = goes go h go' h' kg kh } }
    where
      goes : (go : Value → Answers → Evaluated Value) (h : Kind → Answers → Evaluated Value)
          (go' : ℕ → List ℕ → low.Answers → low.Told) (h' : Kind → List ℕ → low.Answers → low.Told) →
          ((v : Value) (ls : List ℕ) → HasSort P s v → Kept base old ls → Sim P (go v) (go' (value_word v) ls)) →
          ((k : Kind) (ls : List ℕ) → Kept base old ls → Sim P (h k) (h' k ls)) →
          (qs : Answers) → Suited P (λ q. ends (enter file calls n vs q) go h) qs →
          word_ends (low.returned old (courses.enter (Enter n) (answer_words qs) k')) go' h' ≡ in_words
          (ends (enter file calls n vs qs) go h)
      goes go h go' h' kg kh [] u = refl
      goes go h go' h' kg kh (x ∷ rest) u = (a.sim go h go' h' kg kh).is rest u.1

  -- calls of a typed file's methods, to each depth, ask and end as those of the lowered file
  pub calls_agree : IsTypedFile file → (d : ℕ) → CallsAgree P file (invoke file d) (word_invoke (lowered_file file) d)
  unfolding invoke word_invoke
  calls_agree t zero base old n m o vs e ho hvs = throws_agrees P (HasSort P (answer_sort m.result)) value_word base old
      StackOverflow
  calls_agree t (suc d) base old n m o vs e ho hvs =
      enter_agrees base old (answer_sort m.result) (invoke file d) n (o ∷ vs)
      (courses.run_body (word_invoke (lowered_file file) d) (slice_get (lowered_file file) n)
      (map value_word (o ∷ vs)))
      (subst (λ z. Agrees P (HasSort P (answer_sort m.result)) value_word base old
      (λ q. run_body file (invoke file d) z (o ∷ vs) q) (λ q.
      low.returned old (courses.run_body (word_invoke (lowered_file file) d) (slice_get (lowered_file file) n)
      (map value_word (o ∷ vs)) q))) (sym e)
      (subst (λ z. Agrees P (HasSort P (answer_sort m.result)) value_word base old
      (λ q. run_body file (invoke file d) (Some m) (o ∷ vs) q)
      (λ q. low.returned old (courses.run_body (word_invoke (lowered_file file) d) z (map value_word (o ∷ vs)) q)))
      (sym (get_map (lowered_method file.classes) file.methods n m e))
      (body_agrees (invoke file d) (word_invoke (lowered_file file) d) (calls_agree t d) (invoke_within file d) base old
      m o vs (t n m e) ho hvs)))

ends_is : (x : Evaluated Value) → x ≡ ends x (λ v r. Results v r) (λ k r. Throws k r)
ends_is (Asks a s) = refl
ends_is (Results v r) = refl
ends_is (Throws k r) = refl

word_ends_is : (x : low.Told) → x ≡ word_ends (low.returned [] x) (λ w l r. low.Gave w r) (λ k l r. low.Raised k r)
word_ends_is (low.Asked a) = refl
word_ends_is (low.Gave w r) = refl
word_ends_is (low.Raised k r) = refl
word_ends_is low.Lost = refl

null_small : (n : ℕ) (t : ValueType) → n ≡ 0 → IsSmall n t
null_small n t e = omega (arith, e)

-- the law: the lowered file asks and ends as the typed file
pub asks_as_file : (file : File) → IsTypedFile file → AsksAsFile file
asks_as_file file t = record {
  asks = λ depth n m o vs q e hvs u.
      (sim_eq IsSmall _ _ _ _ (λ q. ends_is (invoke file depth n (o ∷ vs) q))
      (λ q. word_ends_is (word_invoke (lowered_file file) depth n (map value_word (o ∷ vs)) q))
      ((calls_agree IsSmall null_small (λ n t h. h) file t depth 0 [] n m o vs e hvs.0 hvs.1).sim (λ v r. Results v r)
      (λ k r. Throws k r) (λ w l r. low.Gave w r) (λ k l r. low.Raised k r)
      (λ v l hv k. record { is = λ q s. refl }) (λ k l kp. record { is = λ q s. refl }))).is q u;
}
