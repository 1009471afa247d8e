-- The judgement is Legal exactly of legal orders.
use Rattle.std.proofs.Common.{◌≡◌, ◌∙◌, ◌&&◌, ℤ, Bool, true, false, cond, not, List, [], ◌∷◌, ◌++◌, refl, sym, ap}
use Rattle.std.proofs.Common.{append_assoc, append-nil, map, Option, Some, None, Result, Ok, Err}
use Rattle.std.specs.Prelude.{find, ok_or}
use Rattle.std.specs.List.{list_any}
use Rattle.std.proofs.lemmas.Bool.{cond-false, or_parts, or_from, true≢false}
use Rattle.ls_report.specs.Events.{Event, Text}
use Rattle.ls_orders.specs.Each.{each, ◌>>=◌}
use Rattle.ls_orders.specs.SetCalls.{call_named, first_foreign, set_calls}
use Rattle.ls_orders.specs.Rules.{Judgement, Legal, after_call, answer_of, calls_of, differs, ended_before}
use Rattle.ls_orders.specs.Rules.{first_repeated, first_where, has_wrong_reply, is_late, is_missing, is_present}
use Rattle.ls_orders.specs.Rules.{is_returned, is_same, judged, judgement_of, judgement_of_calls, named_by, or_rule}
use Rattle.ls_orders.specs.Rules.{unless_foreign}
use Rattle.ls_orders.specs.Legal.{IsLegal, IsRun, Set, after}
use Rattle.ls_orders.specs.declared.calls.SetCall.{SetCall}
use Rattle.ls_orders.specs.declared.verdict.OrderRule.{OrderRule}
use Rattle.ls_orders.proofs.RuleLemmas.{present_push}

-- ---- small steps

some_none : {X : Type 0} {x : X} → Some x ≡ None → ⊥
some_none k = cc

abbrev Calls : Type 0
Calls = Result (List SetCall) Text

abbrev ok_calls : List SetCall → Calls
ok_calls cs = Ok cs

abbrev no_name : Text → Calls
no_name n = Err n

err_ok : (n : Text) (cs : List SetCall) → no_name n ≡ ok_calls cs → ⊥
err_ok n cs k = cc

same_ok : (xs ys : List SetCall) → ok_calls xs ≡ ok_calls ys → ys ≡ xs
same_ok xs ys k = cc

-- ---- the names of calls

ok_tail : (r : Option SetCall) (n : Text) (s : Calls) (calls : List SetCall) →
    (ok_or r n >>= λ y. s >>= λ ys. Ok (y ∷ ys)) ≡ Ok calls
    → (c : SetCall) × (cs : List SetCall) × (r ≡ Some c) × (s ≡ Ok cs) × (calls ≡ c ∷ cs)
ok_tail None n s calls e = absurd (err_ok n calls e)
ok_tail (Some c) n (Err d) calls e = absurd (err_ok d calls e)
ok_tail (Some c) n (Ok cs) calls e = (c, cs, refl, refl, same_ok (c ∷ cs) calls e)

pub names_found : (look : Text → Option SetCall) (order : List Text) (calls : List SetCall) →
    each (λ n. ok_or (look n) n) order ≡ Ok calls →
    map look order ≡ map (λ c. Some c) calls
names_found look [] calls e = sym (ap (map (λ c. Some c)) (same_ok [] calls e))
names_found look (n ∷ ns) calls e =
    let p = ok_tail (look n) n (each (λ m. ok_or (look m) m) ns) calls e in
    let rest = names_found look ns p.1 p.3 in
    ap (λ o. o ∷ map look ns) p.2 ∙ ap (λ os. Some p.0 ∷ os) rest ∙ ap (map (λ c. Some c)) (sym p.4)

pub found_names : (look : Text → Option SetCall) (order : List Text) (calls : List SetCall) →
    map look order ≡ map (λ c. Some c) calls →
    each (λ n. ok_or (look n) n) order ≡ Ok calls
found_names look [] [] e = refl
found_names look [] (c ∷ cs) e = absurd cc
found_names look (n ∷ ns) [] e = absurd cc
found_names look (n ∷ ns) (c ∷ cs) e =
    let head : look n ≡ Some c = cc in
    let tail : map look ns ≡ map (λ d. Some d) cs = cc in
    ap (λ r. ok_or r n >>= λ y. each (λ m. ok_or (look m) m) ns >>= λ ys. Ok (y ∷ ys)) head
    ∙ ap (λ s. s >>= λ ys. Ok (c ∷ ys)) (found_names look ns cs tail)

-- ---- none passes: not one at any place, and back

cond_none : {X : Type 0} (b : Bool) (x : X) (o : Option X) → cond b (Some x) o ≡ None → (b ≡ false) × (o ≡ None)
cond_none true x o e = absurd (some_none e)
cond_none false x o e = (refl, e)

none_from : (p : List SetCall → SetCall → Bool) (seen front back : List SetCall) (x : SetCall) →
    first_where p seen (front ++ x ∷ back) ≡ None →
    p (seen ++ front) x ≡ false
none_from p seen [] back x e = ap (λ s. p s x) (append-nil seen) ∙
    (cond_none (p seen x) x (first_where p (seen ++ x ∷ []) back) e).0
none_from p seen (y ∷ front) back x e =
    let q = cond_none (p seen y) y (first_where p (seen ++ y ∷ []) (front ++ x ∷ back)) e in
    ap (λ s. p s x) (sym (append_assoc seen (y ∷ []) front)) ∙ none_from p (seen ++ y ∷ []) front back x q.1

from_none : (p : List SetCall → SetCall → Bool) (seen cs : List SetCall) →
    ((front back : List SetCall) (x : SetCall) → cs ≡ front ++ x ∷ back → p (seen ++ front) x ≡ false) →
    first_where p seen cs ≡ None
from_none p seen [] h = refl
from_none p seen (x ∷ xs) h =
    let no : p seen x ≡ false = ap (λ s. p s x) (sym (append-nil seen)) ∙ h [] xs x refl in
    cond-false (p seen x) (Some x) (first_where p (seen ++ x ∷ []) xs) no
    ∙ from_none p (seen ++ x ∷ []) xs (λ front back y e. ap (λ s. p s y) (append_assoc seen (x ∷ []) front) ∙
    h (x ∷ front) back y (ap (λ l. x ∷ l) e))

none_found : (p : SetCall → Bool) (front back : List SetCall) (c : SetCall) →
    find p (front ++ c ∷ back) ≡ None →
    p c ≡ false
none_found p [] back c e = (cond_none (p c) c (find p back) e).0
none_found p (d ∷ front) back c e = none_found p front back c (cond_none (p d) d (find p (front ++ c ∷ back)) e).1

found_none : (p : SetCall → Bool) (cs : List SetCall) →
    ((front back : List SetCall) (c : SetCall) → cs ≡ front ++ c ∷ back → p c ≡ false) →
    find p cs ≡ None
found_none p [] h = refl
found_none p (c ∷ cs) h =
    cond-false (p c) (Some c) (find p cs) (h [] cs c refl) ∙
    found_none p cs (λ front back d e. h (c ∷ front) back d (ap (λ l. c ∷ l) e))

none_again : (front back : List SetCall) (x : SetCall) →
    first_repeated (front ++ x ∷ back) ≡ None →
    list_any (is_same x) back ≡ false
none_again [] back x e = (cond_none (list_any (is_same x) back) x (first_repeated back) e).0
none_again (y ∷ front) back x e = none_again front back x (cond_none (list_any (is_same y) (front ++ x ∷ back)) y
    (first_repeated (front ++ x ∷ back)) e).1

again_none : (cs : List SetCall) →
    ((front back : List SetCall) (x : SetCall) → cs ≡ front ++ x ∷ back → list_any (is_same x) back ≡ false) →
    first_repeated cs ≡ None
again_none [] h = refl
again_none (x ∷ xs) h =
    cond-false (list_any (is_same x) xs) (Some x) (first_repeated xs) (h [] xs x refl) ∙
    again_none xs (λ front back y e. h (x ∷ front) back y (ap (λ l. x ∷ l) e))

any_not : (q : SetCall → Bool) (front back : List SetCall) (y : SetCall) →
    list_any q (front ++ y ∷ back) ≡ false →
    q y ≡ false
any_not q [] back y e = (or_parts (q y) (list_any q back) e).0
any_not q (x ∷ front) back y e = any_not q front back y (or_parts (q x) (list_any q (front ++ y ∷ back)) e).1

not_any : (q : SetCall → Bool) (cs : List SetCall) →
    ((front back : List SetCall) (y : SetCall) → cs ≡ front ++ y ∷ back → q y ≡ false) →
    list_any q cs ≡ false
not_any q [] h = refl
not_any q (x ∷ xs) h = or_from (q x) (list_any q xs) (h [] xs x refl)
    (not_any q xs (λ front back y e. h (x ∷ front) back y (ap (λ l. x ∷ l) e)))

-- ---- the run of a set

run_same : (s t : Set) (cs : List SetCall) → ((z : ℤ) → s z ≡ t z) → IsRun s cs → IsRun t cs
run_same s t [] h r = tt
run_same s t (c ∷ cs) h r = (
  ap (λ b. differs c.end (answer_of c.operation b)) (sym (h c.item)) ∙ r.0,
  run_same (after s c) (after t c) cs (λ z. ap (λ b. after_call z b c) (h z)) r.1,
)

abbrev set_after : List SetCall → Set
set_after front = λ z. is_present z front

right_run : (front cs : List SetCall) → first_where has_wrong_reply front cs ≡ None → IsRun (set_after front) cs
right_run front [] e = tt
right_run front (c ∷ cs) e =
    let q = cond_none (has_wrong_reply front c) c (first_where has_wrong_reply (front ++ c ∷ []) cs) e in (
      q.0,
      run_same (set_after (front ++ c ∷ [])) (after (set_after front) c) cs (λ z. present_push z false front c)
          (right_run (front ++ c ∷ []) cs q.1),
    )

run_right : (front cs : List SetCall) → IsRun (set_after front) cs → first_where has_wrong_reply front cs ≡ None
run_right front [] r = refl
run_right front (c ∷ cs) r =
    cond-false (has_wrong_reply front c) (Some c) (first_where has_wrong_reply (front ++ c ∷ []) cs) r.0
    ∙ run_right (front ++ c ∷ []) cs (run_same (after (set_after front) c) (set_after (front ++ c ∷ [])) cs
    (λ z. sym (present_push z false front c)) r.1)

-- ---- the rules, one after the other

legal_rule : (r : OrderRule) (name : SetCall → Text) (o : Option SetCall) (next : Judgement) →
    or_rule r name o next ≡ Legal →
    (o ≡ None) × (next ≡ Legal)
legal_rule r name None next e = (refl, e)
legal_rule r name (Some x) next e = absurd cc

rule_legal : (r : OrderRule) (name : SetCall → Text) (o : Option SetCall) (next : Judgement) →
    o ≡ None →
    next ≡ Legal →
    or_rule r name o next ≡ Legal
rule_legal r name o next n e = ap (λ x. or_rule r name x next) n ∙ e

legal_foreign : (o : Option Event) (next : Judgement) → unless_foreign o next ≡ Legal → (o ≡ None) × (next ≡ Legal)
legal_foreign None next e = (refl, e)
legal_foreign (Some x) next e = absurd cc

legal_judged : (h : List Event) (r : Calls) →
    judged h r ≡ Legal →
    (calls : List SetCall) × (r ≡ Ok calls) × (judgement_of_calls h calls ≡ Legal)
legal_judged h (Ok calls) e = (calls, refl, e)
legal_judged h (Err n) e = absurd cc

missing_not : (calls : List SetCall) (c : SetCall) →
    is_missing calls c ≡ false →
    is_returned c.end ≡ true →
    list_any (is_same c) calls ≡ true
missing_not calls c e k = go (list_any (is_same c) calls) (ap (λ b. b && not (list_any (is_same c) calls)) (sym k) ∙ e)
  where
    go : (b : Bool) → (true && not b) ≡ false → b ≡ true
    go true m = refl
    go false m = absurd (true≢false m)

not_missing : (calls : List SetCall) (c : SetCall) →
    (is_returned c.end ≡ true → list_any (is_same c) calls ≡ true) →
    is_missing calls c ≡ false
not_missing calls c h = go (is_returned c.end) (list_any (is_same c) calls) h
  where
    go : (r b : Bool) → (r ≡ true → b ≡ true) → (r && not b) ≡ false
    go true b k = ap not (k refl)
    go false b k = refl

-- ---- both ways

-- an order that is judged legal is legal
pub legal_is : (h : List Event) (order : List Text) → judgement_of h order ≡ Legal → IsLegal h order
legal_is h order e =
    let one = legal_foreign (first_foreign h) (judged h (calls_of h order)) e in
    let found = legal_judged h (calls_of h order) one.1 in
    let calls = found.0 in
    let a = legal_rule _ _ _ _ found.2 in
    let b = legal_rule _ _ _ _ a.1 in
    let c = legal_rule _ _ _ _ b.1 in
    let d = legal_rule _ _ _ _ c.1 in
    record {
      one_set = one.0;
      calls = calls;
      named = names_found (call_named h (set_calls h)) order calls found.1;
      once = λ front back x k. none_again front back x (ap first_repeated (sym k) ∙ a.0);
      complete = λ front back x k. missing_not calls x (none_found (is_missing calls) front back x
          (ap (find (is_missing calls)) (sym k) ∙ b.0));
      in_time = λ front middle back x y k.
          let split : calls ≡ (front ++ y ∷ middle) ++ x ∷ back = k ∙
          sym (append_assoc front (y ∷ middle) (x ∷ back)) in
          any_not (λ z. ended_before x.end z.called) front middle y
          (none_from is_late [] (front ++ y ∷ middle) back x (ap (first_where is_late []) (sym split) ∙ c.0));
      run = right_run [] calls d.0;
    }

-- a legal order is judged legal
pub is_legal : (h : List Event) (order : List Text) → IsLegal h order → judgement_of h order ≡ Legal
is_legal h order l =
    let calls = l.calls in
    let found : calls_of h order ≡ Ok calls = found_names (call_named h (set_calls h)) order calls l.named in
    let late : first_where is_late [] calls ≡ None = from_none is_late [] calls
    (λ front back x k. not_any (λ z. ended_before x.end z.called) front
    (λ f m y e. l.in_time f m back x y (k ∙ ap (λ xs. xs ++ x ∷ back) e ∙ append_assoc f (y ∷ m) (x ∷ back)))) in
    let all = rule_legal _ (named_by h) _ _ (again_none calls l.once)
    (rule_legal _ (named_by h) _ _ (found_none (is_missing calls) (set_calls h)
    (λ front back c k. not_missing calls c (l.complete front back c k)))
    (rule_legal _ (named_by h) _ _ late (rule_legal _ (named_by h) _ Legal (run_right [] calls l.run) refl))) in
    ap (λ o. unless_foreign o (judged h (calls_of h order))) l.one_set ∙ ap (judged h) found ∙ all
