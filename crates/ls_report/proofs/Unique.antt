-- A text is the lines of one history at most.
use Rattle.std.proofs.Common.{◌≡◌, ◌∙◌, ◌&&◌, ◌+◌, ◌*◌, ◌<◌, ◌≤◌, ◌^◌, ℕ, true, false, List, [], ◌∷◌, ◌++◌, length}
use Rattle.std.proofs.Common.{drop, refl, sym, ap, arith, codes, append_assoc, append-nil}
use Rattle.std.specs.Prelude.{Option, Some, None, if◌then◌else◌}
use Rattle.std.specs.List.{list_all}
use Rattle.std.specs.Str.{bytes_eq}
use Rattle.std.specs.Fmt.{decimal}
use Rattle.std.proofs.lemmas.Bool.{and_parts}
use Rattle.std.proofs.lemmas.Fmt.{decimal_injective, signed_decimal_injective}
use Rattle.std.proofs.lemmas.List.{length-append}
use Rattle.ls_events.specs.declared.kind.Kind.{Kind}
use Rattle.ls_events.specs.declared.kind.Kind.TheVariants as kinds
use Rattle.ls_events.specs.declared.value.Value.{Value}
use Rattle.ls_events.specs.declared.value.Value.TheVariants as values
use Rattle.ls_lexer.specs.Names.{is_name}
use Rattle.ls_report.specs.Cut.{cut}
use Rattle.ls_report.specs.Events.{Called, Event, Made, Occurrence, Returned, Text, Trapped}
use Rattle.ls_report.specs.Discipline.{continues, has_names, is_history, is_next, is_shown, is_well_formed}
use Rattle.ls_report.specs.LineReading.{parts_of}
use Rattle.ls_report.specs.Lines.{arguments_text, event_text, history_text, kind_text, line, occurrence_text}
use Rattle.ls_report.specs.Lines.{value_text}
use Rattle.ls_report.specs.Reading.{BreaksAt, Says}
use Rattle.ls_report.proofs.CutLemmas.{first_of_two, mag_small, none_is, second_of_two, some_is}
use Rattle.ls_report.proofs.Values.{fits_shown, no_values, one_value, reads_false, reads_true, two_values}
use Rattle.ls_report.proofs.Parts.{called_back, expected, giving_back, made_back, number_cut, parts_is, returning_back}
use Rattle.ls_report.proofs.Parts.{same_event, thread_cut, trapping_back, well_named}
use Rattle.ls_report.proofs.Histories.{bounded, bounded_push, line_cut, next_bound, next_is_well_formed}

-- ---- pieces

kind_of : Text → Option Kind
kind_of t = if bytes_eq t (codes "ArithmeticException") then Some kinds.Arithmetic
    else (if bytes_eq t (codes "NullPointerException") then Some kinds.NullPointer
    else (if bytes_eq t (codes "ArrayIndexOutOfBoundsException") then Some kinds.ArrayIndexOutOfBounds
    else (if bytes_eq t (codes "NegativeArraySizeException") then Some kinds.NegativeArraySize
    else (if bytes_eq t (codes "IllegalMonitorStateException") then Some kinds.IllegalMonitorState
    else (if bytes_eq t (codes "StackOverflowError") then Some kinds.StackOverflow
    else (if bytes_eq t (codes "Error") then Some kinds.Error else None))))))

kind_back : (k : Kind) → kind_of (kind_text k) ≡ Some k
unfolding kind_of
kind_back kinds.Arithmetic = refl
kind_back kinds.NullPointer = refl
kind_back kinds.ArrayIndexOutOfBounds = refl
kind_back kinds.NegativeArraySize = refl
kind_back kinds.IllegalMonitorState = refl
kind_back kinds.StackOverflow = refl
kind_back kinds.Error = refl

kind_same : (j k : Kind) → kind_text j ≡ kind_text k → j ≡ k
kind_same j k e = some_is (sym (kind_back j) ∙ ap kind_of e ∙ kind_back k)

value_same : (v w : Value) → is_shown v ≡ true → is_shown w ≡ true → value_text v ≡ value_text w → v ≡ w
value_same (values.Boolean true) w h k e = some_is (reads_true w k e)
value_same (values.Boolean false) w h k e = some_is (reads_false w k e)
value_same (values.Int z) (values.Boolean true) h k e = sym (some_is (reads_true (values.Int z) h (sym e)))
value_same (values.Int z) (values.Boolean false) h k e = sym (some_is (reads_false (values.Int z) h (sym e)))
value_same (values.Int z) (values.Int y) h k e = ap values.Int
    (signed_decimal_injective z y (mag_small z (fits_shown z h)) (mag_small y (fits_shown y k)) e)
value_same (values.Int z) (values.Reference n) h k e = absurd cc
value_same (values.Int z) (values.Pair n m) h k e = absurd cc
value_same (values.Reference n) w h k e = absurd cc
value_same (values.Pair n m) w h k e = absurd cc

arguments_same : (vs ws : List Value) →
    list_all is_shown vs ≡ true →
    list_all is_shown ws ≡ true →
    arguments_text vs ≡ arguments_text ws →
    vs ≡ ws
arguments_same [] ws h k e = sym (no_values ws k (ap length (sym e)))
arguments_same (v ∷ vs) [] h k e = no_values (v ∷ vs) h (ap length e)
arguments_same (v ∷ []) (w ∷ []) h k e =
    ap (λ x. x ∷ []) (value_same v w (and_parts (is_shown v) true h).0 (and_parts (is_shown w) true k).0
    (sym (append-nil (value_text v)) ∙ e ∙ append-nil (value_text w)))
arguments_same (v ∷ []) (w ∷ u ∷ ws) h k e =
    absurd (none_is (sym (one_value v (and_parts (is_shown v) true h).0) ∙ ap (cut 44) e ∙
    two_values w u ws (and_parts (is_shown w) (list_all is_shown (u ∷ ws)) k).0))
arguments_same (v ∷ u ∷ vs) (w ∷ []) h k e =
    absurd (none_is (sym (one_value w (and_parts (is_shown w) true k).0) ∙ ap (cut 44) (sym e) ∙
    two_values v u vs (and_parts (is_shown v) (list_all is_shown (u ∷ vs)) h).0))
arguments_same (v ∷ u ∷ vs) (w ∷ x ∷ ws) h k e =
    let p = and_parts (is_shown v) (list_all is_shown (u ∷ vs)) h in
    let q = and_parts (is_shown w) (list_all is_shown (x ∷ ws)) k in
    let both = sym (two_values v u vs p.0) ∙ ap (cut 44) e ∙ two_values w x ws q.0 in
    let first = value_same v w p.0 q.0 (first_of_two (value_text v) (32 ∷ arguments_text (u ∷ vs)) (value_text w)
    (32 ∷ arguments_text (x ∷ ws)) both) in
    let rest = arguments_same (u ∷ vs) (x ∷ ws) p.1 q.1 (ap (drop 1)
    (second_of_two (value_text v) (32 ∷ arguments_text (u ∷ vs)) (value_text w) (32 ∷ arguments_text (x ∷ ws))
    both)) in
    ap (λ y. y ∷ u ∷ vs) first ∙ ap (λ ys. w ∷ ys) rest

occurrence_same : (o p : Occurrence) →
    has_names o ≡ true →
    has_names p ≡ true →
    occurrence_text o ≡ occurrence_text p →
    o ≡ p
occurrence_same o p h k e = go o h (sym (parts_is o h) ∙ ap parts_of e ∙ parts_is p k)
  where
    go : (x : Occurrence) → has_names x ≡ true → Some (expected x) ≡ Some (expected p) → x ≡ p
    go (Made a b vs) m s =
        let back = made_back a b (arguments_text vs) p k s in
        let shown = (and_parts (is_name b) (list_all is_shown vs)
        (and_parts (is_name a) (is_name b && list_all is_shown vs) m).1).1 in
        ap (Made a b) (arguments_same vs back.0 shown back.3 back.2) ∙ back.1
    go (Called a b vs) m s =
        let back = called_back a b (arguments_text vs) p k s in
        let shown = (and_parts (is_name b) (list_all is_shown vs)
        (and_parts (is_name a) (is_name b && list_all is_shown vs) m).1).1 in
        ap (Called a b) (arguments_same vs back.0 shown back.3 back.2) ∙ back.1
    go (Returned None) m s = returning_back p s
    go (Returned (Some v)) m s =
        let back = giving_back (value_text v) p k s in
        ap (λ x. Returned (Some x)) (value_same v back.0 m back.3 back.2) ∙ back.1
    go (Trapped j) m s =
        let back = trapping_back (kind_text j) p s in
        ap Trapped (kind_same j back.0 back.2) ∙ back.1

event_same : (e f : Event) →
    is_well_formed e ≡ true →
    is_well_formed f ≡ true →
    e.call < 2 ^ 64 →
    f.call < 2 ^ 64 →
    event_text e ≡ event_text f →
    e ≡ f
event_same e f h k m n is =
    let threads = sym (thread_cut e h) ∙ ap (cut 46) is ∙ thread_cut f k in
    let rest = second_of_two _ _ _ _ threads in
    let numbers = sym (number_cut e m) ∙ ap (cut 32) rest ∙ number_cut f n in
    same_event e.thread e.call e.occurrence f (first_of_two _ _ _ _ threads)
    (decimal_injective e.call f.call m n (first_of_two _ _ _ _ numbers))
    (occurrence_same e.occurrence f.occurrence (well_named e h) (well_named f k) (second_of_two _ _ _ _ numbers))

-- ---- histories

line_long : (e : Event) → 2 ≤ length (line e)
line_long e =
    let one = length-append (event_text e) (10 ∷ []) in
    let two = length-append e.thread (46 ∷ (decimal e.call ++ (32 ∷ occurrence_text e.occurrence))) in
    omega arith

pub short : (es : List Event) → 2 * length es ≤ length (history_text es)
short [] = omega arith
short (e ∷ es) = let rest = short es in let one = line_long e in let sum = length-append (line e) (history_text es) in
    omega arith

-- if one history goes on after the end of another
record GoesOn (front es fs : List Event) (rest : Text) : Type 0 where
  more : List Event
  is : es ≡ fs ++ more
  lines : history_text more ≡ rest
  next : continues (front ++ fs) more ≡ true

agree : (front es fs : List Event) (rest : Text) →
    bounded (length front) front ≡ true →
    length front + length fs < 2 ^ 63 →
    continues front es ≡ true →
    continues front fs ≡ true
    → history_text es ≡ history_text fs ++ rest → GoesOn front es fs rest
agree front es [] rest b small h k e = record {
  more = es;
  is = refl;
  lines = e;
  next = ap (λ x. continues x es) (append-nil front) ∙ h;
}
agree front [] (f ∷ fs) rest b small h k e =
    let one = line_long f in
    let two = length-append (line f) (history_text fs) in
    let three = length-append (line f ++ history_text fs) rest in
    let len = ap length e in
    absurd (omega arith)
agree front (d ∷ es) (f ∷ fs) rest b small h k e =
    let p = and_parts (is_next front d) (continues (front ++ d ∷ []) es) h in
    let q = and_parts (is_next front f) (continues (front ++ f ∷ []) fs) k in
    let low = next_bound front d b p.0 in
    let low' = next_bound front f b q.0 in
    let fits : d.call < 2 ^ 64 = omega arith in
    let fits' : f.call < 2 ^ 64 = omega arith in
    let both = sym (line_cut d (history_text es) (next_is_well_formed front d p.0) fits) ∙
    ap (cut 10) (e ∙ append_assoc (line f) (history_text fs) rest)
    ∙ line_cut f (history_text fs ++ rest) (next_is_well_formed front f q.0) fits' in
    let same = event_same d f (next_is_well_formed front d p.0) (next_is_well_formed front f q.0) fits fits'
    (first_of_two (event_text d) (history_text es) (event_text f) (history_text fs ++ rest) both) in
    let tail = second_of_two (event_text d) (history_text es) (event_text f) (history_text fs ++ rest) both in
    let len = length-append front (f ∷ []) in
    let next = agree (front ++ f ∷ []) es fs rest (bounded_push front f b q.0) (omega arith)
    (ap (λ x. continues (front ++ x ∷ []) es) (sym same) ∙ p.1) q.1 tail in
    record {
      more = next.more;
      is = ap (λ x. x ∷ es) same ∙ ap (λ xs. f ∷ xs) next.is;
      lines = next.lines;
      next = ap (λ x. continues x next.more) (sym (append_assoc front (f ∷ []) fs)) ∙ next.next;
    }

small_enough : (text : Text) (fs : List Event) (rest : Text) →
    length text < 2 ^ 64 →
    text ≡ history_text fs ++ rest →
    length fs < 2 ^ 63
small_enough text fs rest fits e =
    let len = ap length e in
    let sum = length-append (history_text fs) rest in
    let low = short fs in
    omega arith

no_lines : (es : List Event) → history_text es ≡ [] → es ≡ []
no_lines [] e = refl
no_lines (d ∷ es) e =
    let one = line_long d in
    let sum = length-append (line d) (history_text es) in
    let len = ap length e in
    absurd (omega arith)

-- a text is the lines of at most one history
pub one_history : (text : Text) (es fs : List Event) →
    length text < 2 ^ 64 →
    is_history es ≡ true →
    text ≡ history_text es →
    Says text fs →
    fs ≡ es
one_history text es fs fits h e s =
    let small = small_enough text fs [] fits (s.lines ∙ sym (append-nil (history_text fs))) in
    let on = agree [] es fs [] refl (omega arith) h s.history (sym e ∙ s.lines ∙ sym (append-nil (history_text fs))) in
    sym (on.is ∙ ap (λ x. fs ++ x) (no_lines on.more on.lines) ∙ append-nil fs)

goes_nowhere : (fs more : List Event) (rest : Text) →
    history_text more ≡ rest →
    0 < length rest →
    continues fs more ≡ true
    → ((e : Event) (after : Text) → is_next fs e ≡ true → rest ≡ line e ++ after → ⊥) → ⊥
goes_nowhere fs [] rest e some k none = let len = ap length e in omega arith
goes_nowhere fs (d ∷ more) rest e some k none = none d (history_text more)
    (and_parts (is_next fs d) (continues (fs ++ d ∷ []) more) k).0 (sym e)

-- the lines of a history don't break
pub no_break : (text : Text) (at : ℕ) (es : List Event) →
    length text < 2 ^ 64 →
    is_history es ≡ true →
    text ≡ history_text es →
    BreaksAt text at →
    ⊥
no_break text at es fits h e b =
    let small = small_enough text b.events b.rest fits b.lines in
    let on = agree [] es b.events b.rest refl (omega arith) h b.history (sym e ∙ b.lines) in
    goes_nowhere b.events on.more b.rest on.lines b.goes_on on.next b.none
