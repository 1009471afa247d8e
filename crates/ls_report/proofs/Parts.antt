-- The pieces of an occurrence's text.
use Rattle.std.proofs.Common.{◌≡◌, ◌∙◌, ◌&&◌, ◌==◌, ◌+◌, ◌<◌, ◌^◌, ℕ, arith, Bool, true, false, List, [], ◌∷◌, ◌++◌}
use Rattle.std.proofs.Common.{refl, sym, ap, codes, append_assoc, eqb-true, cond, length}
use Rattle.std.specs.Prelude.{Some, None, is_none, not}
use Rattle.std.specs.List.{list_all}
use Rattle.std.specs.Str.{bytes_eq}
use Rattle.std.specs.Fmt.{decimal}
use Rattle.std.proofs.lemmas.Bool.{and_from, and_parts, or_right, false_from_ne_true, not_from_false, true≢false}
use Rattle.ls_lexer.specs.Characters.{is_digit, is_letter, is_part, run}
use Rattle.ls_lexer.specs.Words.{reserved_word}
use Rattle.ls_events.specs.declared.value.Value.{Value}
use Rattle.ls_events.specs.declared.kind.Kind.{Kind}
use Rattle.ls_report.specs.Events.{Called, Event, Made, Occurrence, Returned, Text, Trapped}
use Rattle.ls_report.specs.Discipline.{has_names, is_shown, is_well_formed}
use Rattle.ls_report.specs.Lines.{arguments_text, event_text, kind_text, occurrence_text, value_text}
use Rattle.ls_lexer.specs.Names.{is_identifier, is_name}
use Rattle.ls_report.specs.LineReading.{Calling, Giving, Making, Parts, Returning, Trapping, call_parts, head_parts}
use Rattle.ls_report.specs.LineReading.{parts_of}
use Rattle.ls_report.specs.Cut.{cut}
use Rattle.ls_report.proofs.CutLemmas.{cut_at, cut_none, lacks, lacks-append, lacks-decimal, without}
use Rattle.ls_report.proofs.CutLemmas.{two}
use Rattle.ls_report.proofs.Values.{is_close, lacks-arguments}

-- ---- names hold no sign

lacks_parts : (b : ℕ) (bs : Text) → is_part b ≡ false → list_all is_part bs ≡ true → lacks b bs ≡ true
lacks_parts b [] h k = refl
lacks_parts b (c ∷ cs) h k =
    let p = and_parts (is_part c) (list_all is_part cs) k in
    let apart : (c == b) ≡ false = false_from_ne_true (c == b)
    (λ e. true≢false (sym p.0 ∙ ap is_part (eqb-true c b e) ∙ h)) in
    and_from (not (c == b)) (lacks b cs) (not_from_false (c == b) apart) (lacks_parts b cs h p.1)

run_all : (test : ℕ → Bool) (bs : Text) → run test bs ≡ length bs → list_all test bs ≡ true
run_all test [] e = refl
run_all test (c ∷ cs) e = go (test c) refl (run_all test cs) e
  where
    go : (t : Bool) →
        test c ≡ t →
        (run test cs ≡ length cs → list_all test cs ≡ true) →
        cond t (run test cs + 1) 0 ≡ length (c ∷ cs) →
        list_all test (c ∷ cs) ≡ true
    go true is next k = and_from (test c) (list_all test cs) is (next (omega arith))
    go false is next k = absurd (omega arith)

identifier_parts : (bs : Text) → is_identifier bs ≡ true → list_all is_part bs ≡ true
identifier_parts [] k = absurd cc
identifier_parts (c ∷ cs) k =
    let p = and_parts (is_letter c) (run is_part cs == length cs) k in
    and_from (is_part c) (list_all is_part cs) (or_right (is_digit c) (is_letter c) p.0)
    (run_all is_part cs (eqb-true (run is_part cs) (length cs) p.1))

-- a name consists of letters and digits
pub name_parts : (bs : Text) → is_name bs ≡ true → list_all is_part bs ≡ true
unfolding is_name
name_parts bs k = identifier_parts bs (and_parts (is_identifier bs) (is_none (reserved_word bs)) k).0

-- a name has no sign in it
pub lacks-name : (b : ℕ) (bs : Text) → is_part b ≡ false → is_name bs ≡ true → lacks b bs ≡ true
lacks-name b bs h k = lacks_parts b bs h (name_parts bs k)

-- ---- what an occurrence's text is cut into

-- the parts of an occurrence
abbrev pub expected : Occurrence → Parts
expected (Made object class arguments) = Making object class (arguments_text arguments)
expected (Called object method arguments) = Calling object method (arguments_text arguments)
expected (Returned None) = Returning
expected (Returned (Some v)) = Giving (value_text v)
expected (Trapped k) = Trapping (kind_text k)

call_is : (head : Text) (vs : List Value) → lacks 40 head ≡ true → list_all is_shown vs ≡ true
    → call_parts (head ++ 40 ∷ (arguments_text vs ++ 41 ∷ [])) ≡ head_parts (arguments_text vs) head (cut 46 head)
call_is head vs h k =
    rw (
      cut_at 40 head (arguments_text vs ++ 41 ∷ []) (without 40 head h),
      cut_at 41 (arguments_text vs) [] (without 41 (arguments_text vs) (lacks-arguments 41 vs is_close refl k)),
    ) refl

called_is : (object method : Text) (vs : List Value) →
    is_name object ≡ true →
    is_name method ≡ true →
    list_all is_shown vs ≡ true
    → call_parts (object ++ (46 ∷ (method ++ (40 ∷ (arguments_text vs ++ 41 ∷ []))))) ≡ Some
    (Calling object method (arguments_text vs))
called_is object method vs o m k =
    let tail = arguments_text vs ++ 41 ∷ [] in
    let head = object ++ 46 ∷ method in
    let is : head ++ 40 ∷ tail ≡ object ++ (46 ∷ (method ++ 40 ∷ tail)) = append_assoc object (46 ∷ method) (40 ∷ tail)
    in
    let free : lacks 40 head ≡ true = lacks-append 40 object (46 ∷ method) (lacks-name 40 object refl o)
    (lacks-name 40 method refl m) in
    ap call_parts (sym is) ∙ call_is head vs free k
    ∙ ap (head_parts (arguments_text vs) head) (cut_at 46 object method
    (without 46 object (lacks-name 46 object refl o)))

made_is : (object class : Text) (vs : List Value) →
    is_name object ≡ true →
    is_name class ≡ true →
    list_all is_shown vs ≡ true
    → call_parts (object ++ (codes " = new " ++ (class ++ (40 ∷ (arguments_text vs ++ 41 ∷ []))))) ≡ Some
    (Making object class (arguments_text vs))
made_is object class vs o m k =
    let tail = arguments_text vs ++ 41 ∷ [] in
    let head = object ++ (codes " = new " ++ class) in
    let is : head ++ 40 ∷ tail ≡ object ++ (codes " = new " ++ (class ++ 40 ∷ tail)) =
    append_assoc object (codes " = new " ++ class) (40 ∷ tail) in
    let free : lacks 40 head ≡ true = lacks-append 40 object (codes " = new " ++ class) (lacks-name 40 object refl o)
    (lacks-name 40 class refl m) in
    let no_point : lacks 46 head ≡ true = lacks-append 46 object (codes " = new " ++ class)
    (lacks-name 46 object refl o) (lacks-name 46 class refl m) in
    ap call_parts (sym is) ∙ call_is head vs free k
    ∙ ap (head_parts (arguments_text vs) head) (cut_none 46 head (without 46 head no_point))
    ∙ rw (cut_at 32 object (codes "= new " ++ class) (without 32 object (lacks-name 32 object refl o))) refl

-- the text of an occurrence is taken apart into its parts
pub parts_is : (o : Occurrence) → has_names o ≡ true → parts_of (occurrence_text o) ≡ Some (expected o)
parts_is (Made object class vs) h =
    let p = and_parts (is_name object) (is_name class && list_all is_shown vs) h in
    let q = and_parts (is_name class) (list_all is_shown vs) p.1 in
    made_is object class vs p.0 q.0 q.1
parts_is (Called object method vs) h =
    let p = and_parts (is_name object) (is_name method && list_all is_shown vs) h in
    let q = and_parts (is_name method) (list_all is_shown vs) p.1 in
    called_is object method vs p.0 q.0 q.1
parts_is (Returned None) h = refl
parts_is (Returned (Some v)) h = refl
parts_is (Trapped k) h = refl

-- ---- and back

-- a making, from its parts
pub made_back : (object class arguments : Text) (o : Occurrence) →
    has_names o ≡ true →
    Some (Making object class arguments) ≡ Some (expected o)
    → (vs : List Value) × (Made object class vs ≡ o) × (arguments ≡ arguments_text vs) × (list_all is_shown vs ≡ true)
made_back object class arguments (Made a b vs) h e =
    let p = and_parts (is_name a) (is_name b && list_all is_shown vs) h in
    (vs, cc, cc, (and_parts (is_name b) (list_all is_shown vs) p.1).1)
made_back object class arguments (Called a b vs) h e = absurd cc
made_back object class arguments (Returned None) h e = absurd cc
made_back object class arguments (Returned (Some v)) h e = absurd cc
made_back object class arguments (Trapped k) h e = absurd cc

-- a call of a method, from its parts
pub called_back : (object method arguments : Text) (o : Occurrence) →
    has_names o ≡ true →
    Some (Calling object method arguments) ≡ Some (expected o)
    → (vs : List Value) × (Called object method vs ≡ o) × (arguments ≡ arguments_text vs) ×
    (list_all is_shown vs ≡ true)
called_back object method arguments (Called a b vs) h e =
    let p = and_parts (is_name a) (is_name b && list_all is_shown vs) h in
    (vs, cc, cc, (and_parts (is_name b) (list_all is_shown vs) p.1).1)
called_back object method arguments (Made a b vs) h e = absurd cc
called_back object method arguments (Returned None) h e = absurd cc
called_back object method arguments (Returned (Some v)) h e = absurd cc
called_back object method arguments (Trapped k) h e = absurd cc

-- a return without a value, from its parts
pub returning_back : (o : Occurrence) → Some Returning ≡ Some (expected o) → Returned None ≡ o
returning_back (Returned None) e = refl
returning_back (Returned (Some v)) e = absurd cc
returning_back (Made a b vs) e = absurd cc
returning_back (Called a b vs) e = absurd cc
returning_back (Trapped k) e = absurd cc

-- a return with a value, from its parts
pub giving_back : (value : Text) (o : Occurrence) → has_names o ≡ true → Some (Giving value) ≡ Some (expected o)
    → (v : Value) × (Returned (Some v) ≡ o) × (value ≡ value_text v) × (is_shown v ≡ true)
giving_back value (Returned (Some v)) h e = (v, refl, cc, h)
giving_back value (Returned None) h e = absurd cc
giving_back value (Made a b vs) h e = absurd cc
giving_back value (Called a b vs) h e = absurd cc
giving_back value (Trapped k) h e = absurd cc

-- a trap, from its parts
pub trapping_back : (kind : Text) (o : Occurrence) →
    Some (Trapping kind) ≡ Some (expected o) →
    (k : Kind) × (Trapped k ≡ o) × (kind ≡ kind_text k)
trapping_back kind (Trapped k) e = (k, refl, cc)
trapping_back kind (Returned None) e = absurd cc
trapping_back kind (Returned (Some v)) e = absurd cc
trapping_back kind (Made a b vs) e = absurd cc
trapping_back kind (Called a b vs) e = absurd cc

-- ---- an event's line

-- the thread's name is cut off a line
pub thread_cut : (e : Event) →
    is_well_formed e ≡ true →
    cut 46 (event_text e) ≡ two e.thread (decimal e.call ++ (32 ∷ occurrence_text e.occurrence))
thread_cut e h =
    let p = and_parts (is_name e.thread) (not (bytes_eq e.thread (codes "all")) && has_names e.occurrence) h in
    cut_at 46 e.thread (decimal e.call ++ (32 ∷ occurrence_text e.occurrence))
    (without 46 e.thread (lacks-name 46 e.thread refl p.0))

-- the call's number is cut off the rest
pub number_cut : (e : Event) →
    e.call < 2 ^ 64 →
    cut 32 (decimal e.call ++ (32 ∷ occurrence_text e.occurrence)) ≡ two (decimal e.call) (occurrence_text e.occurrence)
number_cut e h =
    cut_at 32 (decimal e.call) (occurrence_text e.occurrence)
    (without 32 (decimal e.call) (lacks-decimal 32 e.call (λ m small same. omega arith) h))

-- a well formed event has names
pub well_named : (e : Event) → is_well_formed e ≡ true → has_names e.occurrence ≡ true
well_named e h =
    let p = and_parts (is_name e.thread) (not (bytes_eq e.thread (codes "all")) && has_names e.occurrence) h in
    (and_parts (not (bytes_eq e.thread (codes "all"))) (has_names e.occurrence) p.1).1

-- an event with the same parts is the same
pub same_event : (t : Text) (n : ℕ) (o : Occurrence) (e : Event) → t ≡ e.thread → n ≡ e.call → o ≡ e.occurrence
    → record { thread = t; call = n; occurrence = o } ≡ e
same_event t n o e p q r = rw (p, q, r) refl
